-- The parts of a text round one of its bytes.
use Rattle.std.specs.Prelude.{ℕ, Bool, List, ◌==◌}
use Rattle.std.specs.List.{list_any, count_by, before_first, after_first}

abbrev pub is_byte : ℕ → ℕ → Bool
is_byte c b = b == c

-- the byte stands in the text
abbrev pub has_byte : ℕ → List ℕ → Bool
has_byte c bytes = list_any (is_byte c) bytes

-- how often it does
abbrev pub count_of : ℕ → List ℕ → ℕ
count_of c bytes = count_by (is_byte c) bytes

-- what stands before the first such byte, or all where there is none
abbrev pub before : ℕ → List ℕ → List ℕ
before c bytes = before_first (is_byte c) bytes

-- what stands behind the first such byte, or nothing where there is none
abbrev pub after : ℕ → List ℕ → List ℕ
after c bytes = after_first (is_byte c) bytes
