-- The fields in the order of their names: they are the same, in order, and those of one name stand as they stood.
use Rattle.std.proofs.Common.{◌≡◌, ℕ, ◌<◌, Bool, true, false, cond, List, [], ◌∷◌, length, filter, get_or, refl, sym, ap, ◌∙◌, arith}
use Rattle.std.specs.Cmp.{IsStrictWeakOrder, nat_cmp_total}
use Rattle.std.specs.Cmp.Lexicographic.{lists_total}
use Rattle.std.specs.List.Sorted.{IsPermutation, IsSortedBy}
use Rattle.std.proofs.lemmas.Bool.{false≢true}
use Rattle.std.proofs.lemmas.Slice.Eq.{bytes_eq-Decides}
use Rattle.std.proofs.lemmas.List.Sorted.{IsPermutation-refl, IsPermutation-trans, IsPermutation-cons, IsPermutation-middle, ranks_by}
use Rattle.gw_fields.specs.Laws.{has_name}
use Rattle.gw_fields.specs.Order.{is_below, placed, sorted}
use Rattle.gw_fields.proofs.Sorting.{itself, IsSortedBy-tail, IsSortedBy-cons}

abbrev pub Field : Type 0
Field = List ℕ × List ℕ

abbrev pub comes_before : Field → Field → Bool
comes_before field other = is_below field.0 other.0

pub in_order : IsStrictWeakOrder comes_before
in_order = ranks_by (lists_total nat_cmp_total) (λ (field : Field). field.0)

-- the same fields

placed_same_by : (b : Bool) (field next : Field) (fields : List Field) → IsPermutation (field ∷ fields) (placed field fields)
    → IsPermutation (field ∷ next ∷ fields) (cond b (next ∷ placed field fields) (field ∷ next ∷ fields))
placed_same_by true field next fields h =
    IsPermutation-trans (field ∷ next ∷ fields) (next ∷ field ∷ fields) (next ∷ placed field fields)
    (IsPermutation-middle (field ∷ []) next fields)
    (IsPermutation-cons next (field ∷ fields) (placed field fields) h)
placed_same_by false field next fields h = IsPermutation-refl (field ∷ next ∷ fields)

placed_same : (field : Field) (fields : List Field) → IsPermutation (field ∷ fields) (placed field fields)
placed_same field [] = IsPermutation-refl (field ∷ [])
placed_same field (next ∷ fields) =
    placed_same_by (is_below next.0 field.0) field next fields (placed_same field fields)

pub sorted_same : (fields : List Field) → IsPermutation fields (sorted fields)
sorted_same [] = IsPermutation-refl []
sorted_same (field ∷ fields) =
    IsPermutation-trans (field ∷ fields) (field ∷ sorted fields) (placed field (sorted fields))
    (IsPermutation-cons field fields (sorted fields) (sorted_same fields)) (placed_same field (sorted fields))

-- in order

placed_first_by : (b : Bool) (P : Field → Type 0) (d field next : Field) (fields rest : List Field) → P field → P next
    → P (get_or (cond b (next ∷ rest) (field ∷ next ∷ fields)) 0 d)
placed_first_by true P d field next fields rest p q = q
placed_first_by false P d field next fields rest p q = p

placed_first : (P : Field → Type 0) (d field : Field) (fields : List Field) → P field
    → (0 < length fields → P (get_or fields 0 d)) → P (get_or (placed field fields) 0 d)
placed_first P d field [] p q = p
placed_first P d field (next ∷ fields) p q =
    placed_first_by (is_below next.0 field.0) P d field next fields (placed field fields) p (q (omega arith))

placed_ordered_by : (b : Bool) (field next : Field) (fields : List Field) → is_below next.0 field.0 ≡ b
    → IsSortedBy comes_before (next ∷ fields) → IsSortedBy comes_before (placed field fields)
    → IsSortedBy comes_before (cond b (next ∷ placed field fields) (field ∷ next ∷ fields))
placed_ordered_by true field next fields is up rest =
    IsSortedBy-cons comes_before in_order next (placed field fields)
    (λ d some. placed_first (λ first. comes_before first next ≡ false) d field fields (in_order.one_way next field is)
    (λ more. up 0 d (omega arith) (omega arith)))
    rest
placed_ordered_by false field next fields is up rest =
    IsSortedBy-cons comes_before in_order field (next ∷ fields) (λ d some. is) up

placed_ordered : (field : Field) (fields : List Field) → IsSortedBy comes_before fields
    → IsSortedBy comes_before (placed field fields)
placed_ordered field [] up = λ k d low high. absurd (omega arith)
placed_ordered field (next ∷ fields) up =
    placed_ordered_by (is_below next.0 field.0) field next fields refl up
    (placed_ordered field fields (IsSortedBy-tail comes_before in_order next fields up))

pub sorted_ordered : (fields : List Field) → IsSortedBy comes_before (sorted fields)
sorted_ordered [] = λ k d low high. absurd (omega arith)
sorted_ordered (field ∷ fields) = placed_ordered field (sorted fields) (sorted_ordered fields)

-- those that pass a test stand as they stood, where none of them comes before another

abbrev Ties : (Field → Bool) → Type 0
Ties p = (field other : Field) → p field ≡ true → p other ≡ true → comes_before field other ≡ false

crossed : (p : Field → Bool) → Ties p → (field next : Field) (fields : List Field) → comes_before next field ≡ true
    → (b c : Bool) → p field ≡ b → p next ≡ c
    → cond c (next ∷ cond b (field ∷ fields) fields) (cond b (field ∷ fields) fields)
    ≡ cond b (field ∷ cond c (next ∷ fields) fields) (cond c (next ∷ fields) fields)
crossed p level field next fields is true true h k = absurd (false≢true (sym (level next field k h) ∙ is))
crossed p level field next fields is true false h k = refl
crossed p level field next fields is false true h k = refl
crossed p level field next fields is false false h k = refl

placed_stable_by : (p : Field → Bool) → Ties p → (b : Bool) (field next : Field) (fields : List Field)
    → comes_before next field ≡ b → filter p (placed field fields) ≡ filter p (field ∷ fields)
    → filter p (cond b (next ∷ placed field fields) (field ∷ next ∷ fields)) ≡ filter p (field ∷ next ∷ fields)
placed_stable_by p level true field next fields is h =
    ap (λ l. cond (p next) (next ∷ l) l) h
    ∙ crossed p level field next (filter p fields) is (p field) (p next) refl refl
placed_stable_by p level false field next fields is h = refl

placed_stable : (p : Field → Bool) → Ties p → (field : Field) (fields : List Field)
    → filter p (placed field fields) ≡ filter p (field ∷ fields)
placed_stable p level field [] = refl
placed_stable p level field (next ∷ fields) =
    placed_stable_by p level (is_below next.0 field.0) field next fields refl (placed_stable p level field fields)

pub sorted_stable : (p : Field → Bool) → Ties p → (fields : List Field) → filter p (sorted fields) ≡ filter p fields
sorted_stable p level [] = refl
sorted_stable p level (field ∷ fields) =
    placed_stable p level field (sorted fields)
    ∙ ap (λ l. cond (p field) (field ∷ l) l) (sorted_stable p level fields)

one_name : (name : List ℕ) → Ties (has_name name)
one_name name field other h k =
    let first = (bytes_eq-Decides field.0 name).0 h in
    let second = (bytes_eq-Decides other.0 name).0 k in
    rw (first, second) (itself comes_before in_order (name, []))

pub sorted_stable_name : (fields : List Field) (name : List ℕ) → filter (has_name name) (sorted fields) ≡ filter (has_name name) fields
sorted_stable_name fields name = sorted_stable (has_name name) (one_name name) fields
