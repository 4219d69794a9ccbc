-- The parts of a cleaned path are tidy, and a path of tidy parts is clean.
use Rattle.std.proofs.Common.{◌≡◌, ℕ, ◌-◌, ◌<◌, Bool, true, false, cond, List, [], ◌∷◌, ◌++◌, length, get_or, drop, fold, bytes_eq, ◌==◌, if◌then◌else◌, sym, refl, ap, ◌∙◌, subst, ⊎_elim, ◌↔◌, append_assoc, append-nil, arith}
use Rattle.std.specs.List.{onto_first, join_with_byte}
use Rattle.std.proofs.lemmas.Bool.{cond-true, cond-false, cases_Bool, both_ways, or_parts, or_from, not_from_false, not-true, or_right, ne_eqb}
use Rattle.std.proofs.lemmas.List.Splits.{join_with_byte-slice_split, length-slice_split}
use Rattle.gw_pattern.specs.Path.{slash, is_slash, parts_of, is_idle, is_parent, without_last, with_part, remaining_parts, ends_in_slash, joined_path, cleaned}
use Rattle.gw_pattern.specs.Path.{is_special, are_tidy}

-- ---- parts without slashes

-- no byte is a slash
abbrev pub no_slash : List ℕ → Bool
no_slash [] = true
no_slash (b ∷ bs) = if is_slash b then false else no_slash bs

abbrev pub ArePlain : List (List ℕ) → Type 0
ArePlain [] = Unit {0}
ArePlain (part ∷ parts) = (no_slash part ≡ true) × ArePlain parts

abbrev pub AreProper : List (List ℕ) → Type 0
AreProper [] = Unit {0}
AreProper (part ∷ parts) = (is_special part ≡ false) × AreProper parts

plain_onto_first : (b : ℕ) (parts : List (List ℕ)) → is_slash b ≡ false → ArePlain parts → ArePlain (onto_first b parts)
plain_onto_first b [] other plain = (cond-false _ _ _ other, tt)
plain_onto_first b (part ∷ parts) other plain = (cond-false _ _ _ other ∙ plain.0, plain.1)

-- what is cut at slashes has none
pub plain_parts : (path : List ℕ) → ArePlain (parts_of path)
plain_parts [] = (refl, tt)
plain_parts (b ∷ bs) =
    ⊎_elim
    (λ e. rw (cond-true (is_slash b) ([] ∷ parts_of bs) (onto_first b (parts_of bs)) e) (refl, plain_parts bs))
    (λ e. rw (cond-false (is_slash b) ([] ∷ parts_of bs) (onto_first b (parts_of bs)) e) (plain_onto_first b (parts_of bs) e (plain_parts bs)))
    (cases_Bool (is_slash b))

pub tail_plain : (b : ℕ) (bs : List ℕ) → no_slash (b ∷ bs) ≡ true → (is_slash b ≡ false) × (no_slash bs ≡ true)
tail_plain b bs h =
    ⊎_elim
    (λ e. absurd (both_ways false refl (sym (cond-true (is_slash b) false (no_slash bs) e) ∙ h)))
    (λ e. (e, sym (cond-false (is_slash b) false (no_slash bs) e) ∙ h))
    (cases_Bool (is_slash b))

-- a part with no slash is the only one
parts_of_plain : (part : List ℕ) → no_slash part ≡ true → parts_of part ≡ part ∷ []
parts_of_plain [] h = refl
parts_of_plain (b ∷ bs) h =
    let t = tail_plain b bs h in
    cond-false (is_slash b) ([] ∷ parts_of bs) (onto_first b (parts_of bs)) t.0 ∙ ap (onto_first b) (parts_of_plain bs t.1)

-- a part with no slash is the first of a path that goes on after a slash
parts_of_front : (part rest : List ℕ) → no_slash part ≡ true → parts_of (part ++ slash ∷ rest) ≡ part ∷ parts_of rest
parts_of_front [] rest h = refl
parts_of_front (b ∷ bs) rest h =
    let t = tail_plain b bs h in
    cond-false (is_slash b) ([] ∷ parts_of (bs ++ slash ∷ rest)) (onto_first b (parts_of (bs ++ slash ∷ rest))) t.0 ∙ ap (onto_first b) (parts_of_front bs rest t.1)

-- parts without slashes, joined by slashes, are the parts of what they make
parts_of_joined : (part : List ℕ) (parts : List (List ℕ)) → ArePlain (part ∷ parts) → parts_of (join_with_byte slash (part ∷ parts)) ≡ part ∷ parts
parts_of_joined part [] plain = parts_of_plain part plain.0
parts_of_joined part (next ∷ parts) plain =
    parts_of_front part (join_with_byte slash (next ∷ parts)) plain.0 ∙ ap (λ x. part ∷ x) (parts_of_joined next parts plain.1)

-- ---- what remains of parts

plain_without_last : (parts : List (List ℕ)) → ArePlain parts → ArePlain (without_last parts)
plain_without_last [] plain = tt
plain_without_last (part ∷ []) plain = tt
plain_without_last (part ∷ next ∷ parts) plain = (plain.0, plain_without_last (next ∷ parts) plain.1)

proper_without_last : (parts : List (List ℕ)) → AreProper parts → AreProper (without_last parts)
proper_without_last [] proper = tt
proper_without_last (part ∷ []) proper = tt
proper_without_last (part ∷ next ∷ parts) proper = (proper.0, proper_without_last (next ∷ parts) proper.1)

plain_append : (parts more : List (List ℕ)) → ArePlain parts → ArePlain more → ArePlain (parts ++ more)
plain_append [] more plain plain' = plain'
plain_append (part ∷ parts) more plain plain' = (plain.0, plain_append parts more plain.1 plain')

proper_append : (parts more : List (List ℕ)) → AreProper parts → AreProper more → AreProper (parts ++ more)
proper_append [] more proper proper' = proper'
proper_append (part ∷ parts) more proper proper' = (proper.0, proper_append parts more proper.1 proper')

abbrev pub AreKept : List (List ℕ) → Type 0
AreKept parts = ArePlain parts × AreProper parts

pub kept_with_part : (kept : List (List ℕ)) (part : List ℕ) → AreKept kept → no_slash part ≡ true → AreKept (with_part kept part)
kept_with_part kept part h plain =
    ⊎_elim
    (λ e. rw (cond-true (is_idle part) kept (cond (is_parent part) (without_last kept) (kept ++ part ∷ [])) e) h)
    (λ e. rw (cond-false (is_idle part) kept (cond (is_parent part) (without_last kept) (kept ++ part ∷ [])) e) (
    ⊎_elim
    (λ e'. rw (cond-true (is_parent part) (without_last kept) (kept ++ part ∷ []) e') (plain_without_last kept h.0, proper_without_last kept h.1))
    (λ e'. rw (cond-false (is_parent part) (without_last kept) (kept ++ part ∷ []) e') (plain_append kept (part ∷ []) h.0 (plain, tt), proper_append kept (part ∷ []) h.1 (or_from _ _ e e', tt)))
    (cases_Bool (is_parent part))
    ))
    (cases_Bool (is_idle part))

pub kept_fold : (parts kept : List (List ℕ)) → AreKept kept → ArePlain parts → AreKept (fold with_part kept parts)
kept_fold [] kept h plain = h
kept_fold (part ∷ parts) kept h plain = kept_fold parts (with_part kept part) (kept_with_part kept part h plain.0) plain.1

-- ---- the parts of a cleaned path behind its first slash

abbrev pub pieces : List (List ℕ) → Bool → List (List ℕ)
pieces [] slashed = [] ∷ []
pieces (part ∷ parts) slashed = part ∷ parts ++ (if slashed then [] ∷ [] else [])

join_then_empty : (part : List ℕ) (parts : List (List ℕ)) → join_with_byte slash (part ∷ parts ++ [] ∷ []) ≡ join_with_byte slash (part ∷ parts) ++ slash ∷ []
join_then_empty part [] = refl
join_then_empty part (next ∷ parts) =
    ap (λ x. part ++ slash ∷ x) (join_then_empty next parts) ∙ sym (append_assoc part (slash ∷ join_with_byte slash (next ∷ parts)) (slash ∷ []))

joined_pieces : (parts : List (List ℕ)) (slashed : Bool) → joined_path parts slashed ≡ slash ∷ join_with_byte slash (pieces parts slashed)
joined_pieces [] slashed = refl
joined_pieces (part ∷ parts) true = ap (λ x. slash ∷ x) (sym (join_then_empty part parts))
joined_pieces (part ∷ parts) false =
    append-nil (slash ∷ join_with_byte slash (part ∷ parts)) ∙ ap (λ x. slash ∷ join_with_byte slash x) (sym (append-nil (part ∷ parts)))

tidy_proper : (parts : List (List ℕ)) → AreProper parts → are_tidy parts ≡ true
tidy_proper [] proper = refl
tidy_proper (part ∷ []) proper = or_right _ _ (not_from_false _ proper.0)
tidy_proper (part ∷ next ∷ parts) proper = cond-false _ _ _ proper.0 ∙ tidy_proper (next ∷ parts) proper.1

tidy_then_empty : (parts : List (List ℕ)) → AreProper parts → are_tidy (parts ++ [] ∷ []) ≡ true
tidy_then_empty [] proper = refl
tidy_then_empty (part ∷ []) proper = cond-false _ _ _ proper.0
tidy_then_empty (part ∷ next ∷ parts) proper = cond-false _ _ _ proper.0 ∙ tidy_then_empty (next ∷ parts) proper.1

tidy_pieces : (parts : List (List ℕ)) (slashed : Bool) → AreProper parts → are_tidy (pieces parts slashed) ≡ true
tidy_pieces [] slashed proper = refl
tidy_pieces (part ∷ parts) true proper = tidy_then_empty (part ∷ parts) proper
tidy_pieces (part ∷ parts) false proper = ap are_tidy (append-nil (part ∷ parts)) ∙ tidy_proper (part ∷ parts) proper

parts_of_pieces : (parts : List (List ℕ)) (slashed : Bool) → ArePlain parts → parts_of (join_with_byte slash (pieces parts slashed)) ≡ pieces parts slashed
parts_of_pieces [] slashed plain = refl
parts_of_pieces (part ∷ parts) true plain =
    parts_of_joined part (parts ++ [] ∷ []) (plain.0, plain_append parts ([] ∷ []) plain.1 (refl, tt))
parts_of_pieces (part ∷ parts) false plain = parts_of_joined part (parts ++ []) (plain.0, plain_append parts [] plain.1 tt)

-- ---- tidy parts

-- the parts but for an empty one at the end
abbrev pub front : List (List ℕ) → List (List ℕ)
front [] = []
front (part ∷ []) = if bytes_eq part [] then [] else part ∷ []
front (part ∷ next ∷ parts) = part ∷ front (next ∷ parts)

abbrev pub ends_empty : List (List ℕ) → Bool
ends_empty [] = false
ends_empty (part ∷ []) = bytes_eq part []
ends_empty (part ∷ next ∷ parts) = ends_empty (next ∷ parts)

with_proper : (kept : List (List ℕ)) (part : List ℕ) → is_special part ≡ false → with_part kept part ≡ kept ++ part ∷ []
with_proper kept part h =
    let parts = or_parts (is_idle part) (is_parent part) h in
    cond-false (is_idle part) kept (cond (is_parent part) (without_last kept) (kept ++ part ∷ [])) parts.0 ∙ cond-false (is_parent part) (without_last kept) (kept ++ part ∷ []) parts.1

fold_tidy : (parts kept : List (List ℕ)) → are_tidy parts ≡ true → fold with_part kept parts ≡ kept ++ front parts
fold_tidy [] kept tidy = sym (append-nil kept)
fold_tidy ([] ∷ []) kept tidy = sym (append-nil kept)
fold_tidy ((b ∷ bs) ∷ []) kept tidy = with_proper kept (b ∷ bs) (not-true _ tidy)
fold_tidy (part ∷ next ∷ parts) kept tidy =
    ⊎_elim
    (λ e. absurd (both_ways false refl (sym (cond-true _ _ _ e) ∙ tidy)))
    (λ e. ap (λ x. fold with_part x (next ∷ parts)) (with_proper kept part e) ∙ fold_tidy (next ∷ parts) (kept ++ part ∷ []) (sym (cond-false _ _ _ e) ∙ tidy) ∙ append_assoc kept (part ∷ []) (front (next ∷ parts)))
    (cases_Bool (is_special part))

front_pieces : (part : List ℕ) (parts : List (List ℕ)) → front (part ∷ parts) ++ (if ends_empty (part ∷ parts) then [] ∷ [] else []) ≡ part ∷ parts
front_pieces [] [] = refl
front_pieces (b ∷ bs) [] = refl
front_pieces part (next ∷ parts) = ap (λ x. part ∷ x) (front_pieces next parts)

pieces_front : (part : List ℕ) (parts : List (List ℕ)) → pieces (front (part ∷ parts)) (ends_empty (part ∷ parts)) ≡ part ∷ parts
pieces_front [] [] = refl
pieces_front (b ∷ bs) [] = refl
pieces_front part (next ∷ parts) = front_pieces part (next ∷ parts)

-- ---- a slash at the end

ends_cons : (b c : ℕ) (bs : List ℕ) → ends_in_slash (b ∷ c ∷ bs) ≡ ends_in_slash (c ∷ bs)
ends_cons b c bs =
    let e : length (b ∷ c ∷ bs) - 1 ≡ length (c ∷ bs) = omega arith in
    let e' : length bs ≡ length (c ∷ bs) - 1 = omega arith in
    ap (λ i. is_slash (get_or (b ∷ c ∷ bs) i 0)) e ∙ ap (λ i. is_slash (get_or (c ∷ bs) i 0)) e'

pub ends_append : (xs ys : List ℕ) (y : ℕ) → ends_in_slash (xs ++ y ∷ ys) ≡ ends_in_slash (y ∷ ys)
ends_append [] ys y = refl
ends_append (x ∷ []) ys y = ends_cons x y ys
ends_append (x ∷ x' ∷ xs) ys y = ends_cons x x' (xs ++ y ∷ ys) ∙ ends_append (x' ∷ xs) ys y

ends_plain : (b : ℕ) (bs : List ℕ) → no_slash (b ∷ bs) ≡ true → ends_in_slash (b ∷ bs) ≡ false
ends_plain b [] h = (tail_plain b [] h).0
ends_plain b (c ∷ bs) h = ends_cons b c bs ∙ ends_plain c bs (tail_plain b (c ∷ bs) h).1

pub ends_joined : (part : List ℕ) (parts : List (List ℕ)) → ArePlain (part ∷ parts) → ends_in_slash (slash ∷ join_with_byte slash (part ∷ parts)) ≡ ends_empty (part ∷ parts)
ends_joined [] [] plain = refl
ends_joined (b ∷ bs) [] plain = ends_cons slash b bs ∙ ends_plain b bs plain.0
ends_joined part (next ∷ parts) plain =
    ends_append (slash ∷ part) (join_with_byte slash (next ∷ parts)) slash ∙ ends_joined next parts plain.1

-- ---- what cleaning gives

clean_joined : (parts : List (List ℕ)) → 0 < length parts → ArePlain parts → are_tidy parts ≡ true → joined_path (fold with_part [] parts) (ends_in_slash (slash ∷ join_with_byte slash parts)) ≡ slash ∷ join_with_byte slash parts
clean_joined [] some plain tidy = absurd (omega arith)
clean_joined (part ∷ parts) some plain tidy =
    ap (λ x. joined_path x (ends_in_slash (slash ∷ join_with_byte slash (part ∷ parts)))) (fold_tidy (part ∷ parts) [] tidy)
    ∙ ap (joined_path (front (part ∷ parts))) (ends_joined part parts plain)
    ∙ joined_pieces (front (part ∷ parts)) (ends_empty (part ∷ parts))
    ∙ ap (λ x. slash ∷ join_with_byte slash x) (pieces_front part parts)

pub some_parts : (path : List ℕ) → 0 < length (parts_of path)
some_parts path = omega (arith, length-slice_split is_slash path)

-- a path of tidy parts is its cleaned path
pub clean_from_tidy : (tail : List ℕ) → are_tidy (parts_of tail) ≡ true → cleaned (slash ∷ tail) ≡ slash ∷ tail
unfolding cleaned
clean_from_tidy tail tidy =
    let P : List ℕ → Type 0 = λ t. joined_path (fold with_part [] (parts_of tail)) (ends_in_slash (slash ∷ t)) ≡ slash ∷ t in
    subst P (join_with_byte-slice_split slash tail) (clean_joined (parts_of tail) (some_parts tail) (plain_parts tail) tidy)

-- a cleaned path is a slash and tidy parts
pub record Cleaned (path : List ℕ) : Type 0 where
  pub tail : List ℕ
  pub is : cleaned path ≡ slash ∷ tail
  pub tidy : are_tidy (parts_of tail) ≡ true

pub cleaned_is : (path : List ℕ) → Cleaned path
unfolding cleaned
cleaned_is path =
    let kept = remaining_parts (parts_of path) in
    let slashed = ends_in_slash path in
    let h : AreKept kept = kept_fold (parts_of path) [] (tt, tt) (plain_parts path) in
    record {
      tail = join_with_byte slash (pieces kept slashed);
      is = joined_pieces kept slashed;
      tidy = ap are_tidy (parts_of_pieces kept slashed h.0) ∙ tidy_pieces kept slashed h.1;
    }

tidy_at : (path tail : List ℕ) → Cleaned path → cleaned path ≡ slash ∷ tail → are_tidy (parts_of tail) ≡ true
tidy_at path tail h e =
    let same : h.tail ≡ tail = cc in
    ap (λ t. are_tidy (parts_of t)) (sym same) ∙ h.tidy

-- a path that is its cleaned path has tidy parts behind its slash
pub tidy_from_clean : (tail : List ℕ) → cleaned (slash ∷ tail) ≡ slash ∷ tail → are_tidy (parts_of tail) ≡ true
tidy_from_clean tail clean = tidy_at (slash ∷ tail) tail (cleaned_is (slash ∷ tail)) clean

pub clean_cleaned : (path : List ℕ) → cleaned (cleaned path) ≡ cleaned path
clean_cleaned path =
    let h = cleaned_is path in
    rw h.is (clean_from_tidy h.tail h.tidy)

pub clean_at_slash : (path : List ℕ) (tidy : Bool) → 0 < length path → get_or path 0 0 ≡ slash → tidy ≡ are_tidy (parts_of (drop 1 path)) → (tidy ≡ true) ↔ (cleaned path ≡ path)
clean_at_slash [] tidy some at h = absurd (omega arith)
clean_at_slash (b ∷ bs) tidy some at h =
    rw at (λ e. clean_from_tidy bs (sym h ∙ e), λ e. h ∙ tidy_from_clean bs e)

pub unclean : (path : List ℕ) → (0 < length path → get_or path 0 0 ≡ slash → ⊥) → cleaned path ≡ path → ⊥
unclean [] other e = let h = cleaned_is [] in absurd (cc)
unclean (b ∷ bs) other e =
    let h = cleaned_is (b ∷ bs) in
    let at : b ≡ slash = cc (h.is, e) in
    other (omega arith) at

pub untidy : (part : List ℕ) (parts : List (List ℕ)) → 0 < length parts → is_special part ≡ true → are_tidy (part ∷ parts) ≡ false
untidy part [] some h = absurd (omega arith)
untidy part (next ∷ parts) some h = cond-true (is_special part) false (are_tidy (next ∷ parts)) h

unless_true : (b next : Bool) → cond b false next ≡ true → (b ≡ false) × (next ≡ true)
unless_true true next h = absurd (both_ways false refl h)
unless_true false next h = (refl, h)

-- where parts are tidy, one that isn't last changes nothing, and what follows is tidy
pub first_tidy : (part next : List ℕ) (parts : List (List ℕ)) → are_tidy (part ∷ next ∷ parts) ≡ true → (is_special part ≡ false) × (are_tidy (next ∷ parts) ≡ true)
first_tidy part next parts h = unless_true (is_special part) (are_tidy (next ∷ parts)) h

pub filled_part : (part : List ℕ) → is_special part ≡ false → (length part == 0) ≡ false
filled_part [] h = absurd (both_ways true h refl)
filled_part (b ∷ bs) h = ne_eqb (length (b ∷ bs)) 0 (λ e. omega arith)

pub tidy_of_clean : (path : List ℕ) → cleaned path ≡ path → (tail : List ℕ) × (path ≡ slash ∷ tail) × (are_tidy (parts_of tail) ≡ true)
tidy_of_clean path clean = let is = cleaned_is path in (is.tail, sym clean ∙ is.is, is.tidy)

pub clean_of_tidy : (path : List ℕ) → (tail : List ℕ) × (path ≡ slash ∷ tail) × (are_tidy (parts_of tail) ≡ true) → cleaned path ≡ path
clean_of_tidy path (tail, is, tidy) = rw is (clean_from_tidy tail tidy)
