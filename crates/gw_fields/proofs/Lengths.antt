-- How long lines are.
use Rattle.std.proofs.Common.{◌≡◌, ℕ, suc, ◌+◌, Bool, List, [], ◌∷◌, ◌++◌, codes, length, refl, ap, arith, length-append, true, ◌==◌}
use Rattle.gw_fields.specs.Order.{line_of, spelled, spelled_from}

length-spelled_from : (starts : Bool) (name : List ℕ) → length (spelled_from starts name) ≡ length name
length-spelled_from starts [] = refl
length-spelled_from starts (b ∷ name) = ap suc (length-spelled_from (b == 45) name)

pub length-line_of : (field : List ℕ × List ℕ) → length (line_of field) ≡ length field.0 + length field.1 + 4
length-line_of field =
    omega (
      arith,
      length-append ((spelled field.0 ++ codes ": ") ++ field.1) (codes "\r\n"),
      length-append (spelled field.0 ++ codes ": ") field.1,
      length-append (spelled field.0) (codes ": "),
      length-spelled_from true field.0,
    )
