-- Bytes that can stand in a field of a message as they are.
use Rattle.std.specs.Prelude.{ℕ, Bool, ◌&&◌, nat_le, List, IsTrue}
use Rattle.std.specs.List.{list_all}

-- a byte of visible ASCII (RFC 5234, appendix B.1, VCHAR)
abbrev pub is_visible : ℕ → Bool
is_visible b = nat_le 33 b && nat_le b 126

-- bytes of visible ASCII alone
abbrev pub AreVisible : List ℕ → Type 0
AreVisible bytes = IsTrue (list_all is_visible bytes)
