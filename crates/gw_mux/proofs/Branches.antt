-- The labels of a pattern's branches, by their depth.
use Rattle.std.proofs.Common.{◌≡◌, ℕ, zero, suc, ◌+◌, ◌<◌, ◌≤◌, List, [], ◌∷◌, length, get_or, drop, Option, sym, refl, ap, subst, ◌∙◌, arith, drop-cons}
use Rattle.std.proofs.lemmas.List.{drop_all}
use Rattle.gw_pattern.specs.declared.form.Seg.{Seg}
use Rattle.gw_mux.specs.Keys.{here_key, method_key, seg_key, tail_keys}

pub drop_tail : (segs : List Seg) (method : Option (List ℕ)) (at : ℕ) → at ≤ length segs → drop at (tail_keys segs method) ≡ tail_keys (drop at segs) method
drop_tail segs method zero h = refl
drop_tail [] method (suc at) h = absurd (omega (arith, h))
drop_tail (seg ∷ segs) method (suc at) h = drop_tail segs method at (omega (arith, h))

-- the branches behind a place in the list
more_behind : (keys more : List (List ℕ)) (key : List ℕ) (at : ℕ) → drop at keys ≡ key ∷ more → drop (suc at) keys ≡ more
more_behind [] more key zero e = absurd (cc)
more_behind [] more key (suc at) e = absurd (cc)
more_behind (k ∷ keys) more key zero e = cc
more_behind (k ∷ keys) more key (suc at) e = more_behind keys more key at e

pub seg_label : (segs : List Seg) (method : Option (List ℕ)) (at : ℕ) (seg : Seg) → at < length segs → seg ≡ get_or segs at seg → drop at (tail_keys segs method) ≡ seg_key seg ∷ drop (suc at) (tail_keys segs method)
seg_label segs method at seg within is =
    let e : drop at (tail_keys segs method) ≡ seg_key seg ∷ tail_keys (drop (suc at) segs) method =
    drop_tail segs method at (omega (arith, within)) ∙ ap (λ s. tail_keys s method) (drop-cons segs at seg within) ∙ ap (λ s. seg_key s ∷ tail_keys (drop (suc at) segs) method) (sym is) in
    e ∙ ap (λ keys. seg_key seg ∷ keys) (sym (more_behind (tail_keys segs method) (tail_keys (drop (suc at) segs) method) (seg_key seg) at e))

ended : (segs : List Seg) (method : Option (List ℕ)) → drop (length segs) (tail_keys segs method) ≡ here_key ∷ method_key method ∷ []
ended segs method = drop_tail segs method (length segs) (omega arith) ∙ ap (λ s. tail_keys s method) (drop_all (length segs) segs (omega arith))

pub here_label : (segs : List Seg) (method : Option (List ℕ)) (at : ℕ) → at ≡ length segs → drop at (tail_keys segs method) ≡ here_key ∷ drop (suc at) (tail_keys segs method)
here_label segs method at is =
    let e : drop at (tail_keys segs method) ≡ here_key ∷ method_key method ∷ [] = subst (λ n. drop n (tail_keys segs method) ≡ here_key ∷ method_key method ∷ []) (sym is) (ended segs method) in
    e ∙ ap (λ keys. here_key ∷ keys) (sym (more_behind (tail_keys segs method) (method_key method ∷ []) here_key at e))

last_behind : (segs : List Seg) (method : Option (List ℕ)) (at : ℕ) → at ≡ length segs + 1 → drop at (tail_keys segs method) ≡ method_key method ∷ []
last_behind segs method at is =
    let n : suc (length segs) ≡ at = omega (arith, is) in
    subst (λ n. drop n (tail_keys segs method) ≡ method_key method ∷ []) n (more_behind (tail_keys segs method) (method_key method ∷ []) here_key (length segs) (ended segs method))

pub method_label : (segs : List Seg) (method : Option (List ℕ)) (at : ℕ) → at ≡ length segs + 1 → drop at (tail_keys segs method) ≡ method_key method ∷ drop (suc at) (tail_keys segs method)
method_label segs method at is =
    let e = last_behind segs method at is in
    e ∙ ap (λ keys. method_key method ∷ keys) (sym (more_behind (tail_keys segs method) [] (method_key method) at e))

length_tail : (segs : List Seg) (method : Option (List ℕ)) → length (tail_keys segs method) ≡ length segs + 2
length_tail [] method = refl
length_tail (seg ∷ segs) method = let h = length_tail segs method in omega (arith, h)

pub no_label : (segs : List Seg) (method : Option (List ℕ)) (at : ℕ) → length segs + 2 ≤ at → drop at (tail_keys segs method) ≡ []
no_label segs method at past = let h = length_tail segs method in drop_all at (tail_keys segs method) (omega (arith, h, past))

-- ---- with the host before them

pub below_host : (keys : List (List ℕ)) (host key : List ℕ) (depth at : ℕ) → depth ≡ suc at → drop at keys ≡ key ∷ drop (suc at) keys → drop depth (host ∷ keys) ≡ key ∷ drop depth keys
below_host keys host key depth at is e = subst (λ n. drop n (host ∷ keys) ≡ key ∷ drop n keys) (sym is) e

pub none_below_host : (keys : List (List ℕ)) (host : List ℕ) (depth at : ℕ) → depth ≡ suc at → drop at keys ≡ [] → drop depth (host ∷ keys) ≡ []
none_below_host keys host depth at is e = subst (λ n. drop n (host ∷ keys) ≡ []) (sym is) e
