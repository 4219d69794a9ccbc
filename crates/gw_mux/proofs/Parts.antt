-- The first part of a path behind its slash.
use Rattle.std.proofs.Common.{◌≡◌, ℕ, suc, zero, ◌+◌, ◌<◌, ◌≤◌, List, [], ◌∷◌, length, take, drop, Some, None, sym, refl, ap, ◌∙◌, arith, length-take, length-drop}
use Rattle.std.specs.List.{position}
use Rattle.gw_pattern.specs.Path.{is_slash, parts_of}
use Rattle.gw_pattern.proofs.Parts.{first_part, one_part, position_some}
use Rattle.gw_mux.specs.Request.{parts_in}
use Rattle.gw_mux.specs.Walk.{TakesPart}

last_of : (b : ℕ) (tail : List ℕ) → position is_slash tail ≡ None → TakesPart (b ∷ tail) tail []
last_of b tail h = (one_part tail h, omega arith)

pub last_part : (path : List ℕ) → 1 ≤ length path → position is_slash (drop 1 path) ≡ None → TakesPart path (drop 1 path) []
last_part [] some h = absurd (omega arith)
last_part (b ∷ tail) some h = last_of b tail h

parts_drop : (tail : List ℕ) (end : ℕ) → end < length tail → parts_in (drop end tail) ≡ parts_of (drop (suc end) tail)
parts_drop [] end within = absurd (omega arith)
parts_drop (b ∷ tail) zero within = refl
parts_drop (b ∷ tail) (suc end) within = parts_drop tail end (omega arith)

inner_of : (b : ℕ) (tail : List ℕ) (end : ℕ) → position is_slash tail ≡ Some end → TakesPart (b ∷ tail) (take end tail) (drop end tail)
inner_of b tail end h =
    let within = position_some is_slash tail end h in
    let next : end + 1 ≡ suc end = omega arith in
    ((first_part tail end h).1 ∙ ap (λ n. take end tail ∷ parts_of (drop n tail)) next ∙ ap (λ x. take end tail ∷ x) (sym (parts_drop tail end within.1)), omega (arith, within.1, length-take end tail, length-drop end tail))

pub inner_part : (path : List ℕ) (end : ℕ) → 1 ≤ length path → position is_slash (drop 1 path) ≡ Some end → TakesPart path (take end (drop 1 path)) (drop end (drop 1 path))
inner_part [] end some h = absurd (omega arith)
inner_part (b ∷ tail) end some h = inner_of b tail end h
