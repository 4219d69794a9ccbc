-- Putting fields into their order changes neither their values nor what they list.
use Rattle.std.proofs.Common.{◌≡◌, ℕ, suc, Bool, true, false, ◌||◌, cond, List, [], ◌∷◌, length, map, filter, refl, sym, ap, ◌∙◌}
use Rattle.std.specs.Prelude.{All, bytes_eq, if◌then◌else◌}
use Rattle.std.specs.List.{list_any}
use Rattle.std.specs.Str.{str_to_ascii_lowercase}
use Rattle.std.proofs.lemmas.List.Elements.{All-cons, All-head, All-tail}
use Rattle.gw_fields.specs.Laws.{has_name}
use Rattle.gw_fields.specs.Order.{is_below, placed, sorted}
use Rattle.gw_fields.proofs.Facts.{sorted_stable_name}
use Rattle.gw_head.specs.Fields.{values_named}
use Rattle.gw_head.specs.Head.{lowered_fields}
use Rattle.gw_head.specs.Written.{IsPlainField}

abbrev Pair : Type 0
Pair = List ℕ × List ℕ

placed_step : (P : Pair → Type 0) (field next : Pair) (fields rest : List Pair) (v : Bool) → P field → P next → All P fields
    → All P rest → All P (if v then next ∷ rest else field ∷ next ∷ fields)
placed_step P field next fields rest true here there all more = All-cons P next rest there more
placed_step P field next fields rest false here there all more =
    All-cons P field (next ∷ fields) here (All-cons P next fields there all)

all_placed : (P : Pair → Type 0) (field : Pair) (fields : List Pair) → P field → All P fields → All P (placed field fields)
all_placed P field [] here all = All-cons P field [] here all
all_placed P field (next ∷ fields) here all =
    let rest = All-tail P next fields all in
    placed_step P field next fields (placed field fields) (is_below next.0 field.0) here (All-head P next fields all) rest
    (all_placed P field fields here rest)

pub all_sorted : (P : Pair → Type 0) (fields : List Pair) → All P fields → All P (sorted fields)
all_sorted P [] all = all
all_sorted P (field ∷ fields) all =
    all_placed P field (sorted fields) (All-head P field fields all) (all_sorted P fields (All-tail P field fields all))

length_step : (field next : Pair) (fields rest : List Pair) (v : Bool) → length rest ≡ suc (length fields)
    → length (if v then next ∷ rest else field ∷ next ∷ fields) ≡ suc (suc (length fields))
length_step field next fields rest true same = ap suc same
length_step field next fields rest false same = refl

length_placed : (field : Pair) (fields : List Pair) → length (placed field fields) ≡ suc (length fields)
length_placed field [] = refl
length_placed field (next ∷ fields) =
    length_step field next fields (placed field fields) (is_below next.0 field.0) (length_placed field fields)

pub length_sorted : (fields : List Pair) → length (sorted fields) ≡ length fields
length_sorted [] = refl
length_sorted (field ∷ fields) = length_placed field (sorted fields) ∙ ap suc (length_sorted fields)

swap : (a b c : Bool) → (a || (b || c)) ≡ (b || (a || c))
swap true true c = refl
swap true false c = refl
swap false true c = refl
swap false false c = refl

any_step : (p : Pair → Bool) (field next : Pair) (fields rest : List Pair) (v : Bool)
    → list_any p rest ≡ (p field || list_any p fields)
    → list_any p (if v then next ∷ rest else field ∷ next ∷ fields) ≡ (p field || (p next || list_any p fields))
any_step p field next fields rest true same =
    ap (λ b. p next || b) same ∙ swap (p next) (p field) (list_any p fields)
any_step p field next fields rest false same = refl

any_placed : (p : Pair → Bool) (field : Pair) (fields : List Pair) → list_any p (placed field fields) ≡ (p field || list_any p fields)
any_placed p field [] = refl
any_placed p field (next ∷ fields) =
    any_step p field next fields (placed field fields) (is_below next.0 field.0) (any_placed p field fields)

pub any_sorted : (p : Pair → Bool) (fields : List Pair) → list_any p (sorted fields) ≡ list_any p fields
any_sorted p [] = refl
any_sorted p (field ∷ fields) = any_placed p field (sorted fields) ∙ ap (λ b. p field || b) (any_sorted p fields)

-- ---- values

abbrev value : Pair → List ℕ
value field = field.1

named_step : (v : Bool) (field : Pair) (values : List (List ℕ)) (fields : List Pair) → values ≡ map value fields
    → (if v then field.1 ∷ values else values) ≡ map value (cond v (field ∷ fields) fields)
named_step true field values fields same = ap (λ l. field.1 ∷ l) same
named_step false field values fields same = same

named : (name : List ℕ) (fields : List Pair) → All IsPlainField fields
    → values_named name fields ≡ map value (filter (has_name (str_to_ascii_lowercase name)) fields)
named name [] all = refl
named name (field ∷ fields) all =
    let lower = (All-head IsPlainField field fields all).name.1 in
    ap (λ l. if bytes_eq l (str_to_ascii_lowercase name) then field.1 ∷ values_named name fields else values_named name fields) lower
    ∙ named_step (bytes_eq field.0 (str_to_ascii_lowercase name)) field (values_named name fields)
    (filter (has_name (str_to_ascii_lowercase name)) fields) (named name fields (All-tail IsPlainField field fields all))

pub values_sorted : (name : List ℕ) (fields : List Pair) → All IsPlainField fields
    → values_named name (sorted fields) ≡ values_named name fields
values_sorted name fields all =
    named name (sorted fields) (all_sorted IsPlainField fields all)
    ∙ ap (map value) (sorted_stable_name fields (str_to_ascii_lowercase name))
    ∙ sym (named name fields all)

pub lowered_plain : (fields : List Pair) → All IsPlainField fields → lowered_fields fields ≡ fields
lowered_plain [] all = refl
lowered_plain (field ∷ fields) all =
    λ i. ((All-head IsPlainField field fields all).name.1 i, field.1) ∷ lowered_plain fields (All-tail IsPlainField field fields all) i
