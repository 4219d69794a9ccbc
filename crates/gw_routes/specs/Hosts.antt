-- How hosts are told apart.
use Rattle.std.specs.Prelude.{◌≡◌, ℕ, Bool, List, map}
use Rattle.gw_wire.specs.declared.values.Addr.{Addr}

-- what tells an address from another
abbrev pub key_of : Addr → Bool × List ℕ × ℕ
key_of addr = (addr.local, addr.ip, addr.port)

-- the keys are those of the addresses, in their order
abbrev pub AreNumbersOf : List (Bool × List ℕ × ℕ) → List Addr → Type 0
AreNumbersOf keys addresses = keys ≡ map key_of addresses
