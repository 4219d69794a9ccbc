-- What is said of a text, step by step.
use Rattle.std.proofs.Common.{◌≡◌, ℕ, ◌+◌, Bool, true, false, not, ◌⊎◌, inl, inr, List, [], ◌∷◌, ◌++◌, length, drop, Option, Some, None, Ok, Err, is_some, is_none, bytes_eq, codes, Vec, Global, sym, refl, ap, ◌∙◌, ⊎_elim, arith}
use Rattle.std.specs.Borrow.{Bor}
use Rattle.std.specs.List.{list_all}
use Rattle.std.proofs.lemmas.Bool.{cases_Bool, ne_eqb, both_ways}
use Rattle.std.proofs.lemmas.List.Sums.{list_all-from_AllPass}
use Rattle.std.proofs.lemmas.Slice.Eq.{bytes_eq-Decides}
use Rattle.http.specs.Token.{is_token_byte, IsToken}
use Rattle.gw_pattern.specs.declared.form.Seg.{Seg}
use Rattle.gw_pattern.specs.declared.fault.PatternError.{PatternError}
use Rattle.gw_pattern.specs.declared.fault.PatternError.TheVariants.{Bad, NoMemory}
use Rattle.gw_pattern.specs.Path.{parts_of, cleaned}
use Rattle.gw_pattern.specs.Walk.{SplitsPart}
use Rattle.gw_pattern.specs.Text.{◌>>=◌, Gives, is_empty, method_said, path_said, seg_said, segs_said}
use Rattle.gw_pattern.proofs.Tidy.{some_parts}

-- ---- the method

token_from : (name : List ℕ) → is_empty name ≡ false → (IsToken name → ⊥) ⊎ (list_all is_token_byte name ≡ true)
token_from [] some = inl (λ t. omega (arith, t.0))
token_from (b ∷ bs) some =
    ⊎_elim
    (λ e. inr e)
    (λ e. inl (λ t. both_ways _ e (list_all-from_AllPass is_token_byte (b ∷ bs) t.1)))
    (cases_Bool (list_all is_token_byte (b ∷ bs)))

pub method_ok : (name : List ℕ) → is_empty name ≡ false → ((IsToken name → ⊥) → ⊥) → bytes_eq name (codes "CONNECT") ≡ false → method_said name ≡ Ok (Some name)
unfolding method_said
method_ok name some token other =
    let is : list_all is_token_byte name ≡ true = ⊎_elim (λ never. absurd (token never)) (λ e. e) (token_from name some) in
    rw (some, is, other) refl

-- ---- segments

pub none_from : {T : Type 0} (o : Option T) (r : Bool) → is_some o ≡ not r → r ≡ is_none o
none_from o true h = sym (ap not h)
none_from o false h = sym (ap not h)

not_empty : (path : List ℕ) → is_empty (parts_of path) ≡ false
not_empty path = ne_eqb _ _ (λ e. omega (arith, some_parts path))

abbrev pub items_of : Vec Seg Global → List Seg
items_of segs = segs.items

pub seg_err : (place : ℕ) (before : List Seg) (left part : List ℕ) (after : Option (Bor (List ℕ))) (e : PatternError) → SplitsPart left part after → Gives {X = Seg} (λ seg. seg) (Err e) (seg_said place before (is_none after) part) → Gives items_of (Err e) (segs_said place before (parts_of left))
unfolding segs_said
seg_err place before left part None (Bad code at) split h =
    rw split.1 (ap (λ x. x >>= (λ seg. segs_said (place + (length part + 1)) (before ++ seg ∷ []) [])) h)
seg_err place before left part (Some rest) (Bad code at) split h =
    rw (split.1, not_empty rest.now) (ap (λ x. x >>= (λ seg. segs_said (place + (length part + 1)) (before ++ seg ∷ []) (parts_of rest.now))) h)
seg_err place before left part after NoMemory split h = tt

pub seg_more : (place : ℕ) (before : List Seg) (left part rest : List ℕ) (seg : Seg) → parts_of left ≡ part ∷ parts_of rest → seg_said place before false part ≡ Ok seg → segs_said place before (parts_of left) ≡ segs_said (place + (length part + 1)) (before ++ seg ∷ []) (parts_of rest)
unfolding segs_said
seg_more place before left part rest seg split h =
    rw (split, not_empty rest) (ap (λ x. x >>= (λ s. segs_said (place + (length part + 1)) (before ++ s ∷ []) (parts_of rest))) h)

-- ---- the path

pub path_clean : (place : ℕ) (path : List ℕ) → cleaned path ≡ path → path_said place path ≡ segs_said (place + 1) [] (parts_of (drop 1 path))
unfolding path_said
path_clean place path clean = rw (ap (λ x. bytes_eq x path) clean ∙ (bytes_eq-Decides path path).1 refl) refl
