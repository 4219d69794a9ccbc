-- Lists of lines and of items, and the fields that they show.
use Rattle.std.proofs.Common.{◌≡◌, ℕ, ◌<◌, Bool, true, false, cond, List, [], ◌∷◌, length, filter, get_or, map, set, refl, sym, ap, ◌∙◌}
use Rattle.std.specs.List.{swap}
use Rattle.std.proofs.lemmas.List.{get_or-map, map-set}

kept_by : {X Y : Type 0} (b : Bool) (f : X → Y) (x : X) (xs : List X) → cond b (f x ∷ map f xs) (map f xs) ≡ map f (cond b (x ∷ xs) xs)
kept_by true f x xs = refl
kept_by false f x xs = refl

pub filter_mapped : {X Y : Type 0} (f : X → Y) (p : Y → Bool) (xs : List X) → filter p (map f xs) ≡ map f (filter (λ x. p (f x)) xs)
filter_mapped f p [] = refl
filter_mapped f p (x ∷ xs) =
    ap (λ l. cond (p (f x)) (f x ∷ l) l) (filter_mapped f p xs)
    ∙ kept_by (p (f x)) f x (filter (λ y. p (f y)) xs)

pub swap_mapped : {X Y : Type 0} (f : X → Y) (xs : List X) (i j : ℕ) → i < length xs → j < length xs
    → map f (swap xs i j) ≡ swap (map f xs) i j
swap_mapped f [] i j within inside = refl
swap_mapped f (x ∷ xs) i j within inside =
    map-set f (set (x ∷ xs) i (get_or (x ∷ xs) j x)) j (get_or (x ∷ xs) i x)
    ∙ ap (λ l. set l j (f (get_or (x ∷ xs) i x))) (map-set f (x ∷ xs) i (get_or (x ∷ xs) j x))
    ∙ (λ t. set (set (map f (x ∷ xs)) i (sym (get_or-map f (x ∷ xs) j x (f x) inside) t)) j (sym (get_or-map f (x ∷ xs) i x (f x) within) t))
