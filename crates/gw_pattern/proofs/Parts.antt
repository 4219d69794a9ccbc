-- The first part of a path, and what stands after its slash.
use Rattle.std.proofs.Common.{◌≡◌, ℕ, ◌+◌, ◌-◌, ◌<◌, ◌≤◌, Bool, List, [], ◌∷◌, ◌++◌, length, take, drop, Some, None, sym, ap, ◌∙◌, subst, arith, length-drop, length-append}
use Rattle.std.proofs.Math.Seq.{take-length}
use Rattle.std.specs.List.{position, position_or_len, before_first, after_first}
use Rattle.std.proofs.lemmas.Bool.{eqb-true}
use Rattle.std.proofs.lemmas.Bool.Decides.{nat_tests}
use Rattle.std.proofs.lemmas.List.Sums.{fails_before_first, passes_at_first, split_at_first}
use Rattle.std.proofs.lemmas.List.Splits.{slice_split_none, slice_split_first}
use Rattle.gw_pattern.specs.Path.{slash, is_slash, parts_of}

pub position_none : {X : Type 0} (p : X → Bool) (xs : List X) → position p xs ≡ None → length xs ≤ position_or_len p xs
position_none p xs h = grind (arith, nat_tests)

pub position_some : {X : Type 0} (p : X → Bool) (xs : List X) (i : ℕ) → position p xs ≡ Some i → (i ≡ position_or_len p xs) × (i < length xs)
position_some p xs i h = grind (arith, nat_tests)

pub one_part : (path : List ℕ) → position is_slash path ≡ None → parts_of path ≡ path ∷ []
one_part path h =
    let past = position_none is_slash path h in
    slice_split_none is_slash path (λ k d within. fails_before_first is_slash path k d (omega arith))

abbrev SplitsAt : List ℕ → ℕ → Type 0
SplitsAt path i = (path ≡ take i path ++ slash ∷ drop (i + 1) path) × (parts_of path ≡ take i path ∷ parts_of (drop (i + 1) path))

splits_at_first : (path : List ℕ) → position_or_len is_slash path < length path → SplitsAt path (position_or_len is_slash path)
splits_at_first path within =
    let at = eqb-true _ 47 (passes_at_first is_slash path 0 within) in
    (split_at_first is_slash path 0 within ∙ ap (λ b. before_first is_slash path ++ b ∷ after_first is_slash path) at, slice_split_first is_slash path 0 within)

pub first_part : (path : List ℕ) (i : ℕ) → position is_slash path ≡ Some i → SplitsAt path i
first_part path i h =
    let found = position_some is_slash path i h in
    let e : position_or_len is_slash path ≡ i = sym found.0 in
    subst (SplitsAt path) e (splits_at_first path (omega arith))

pub take_rest : (xs : List ℕ) (n : ℕ) → take (length xs - n) (drop n xs) ≡ drop n xs
take_rest xs n = rw (← length-drop n xs) (take-length (drop n xs))

pub split_length : (path part rest : List ℕ) → path ≡ part ++ slash ∷ rest → length part + 1 + length rest ≡ length path
split_length path part rest e = omega (arith, simp length-append at (ap length e))
