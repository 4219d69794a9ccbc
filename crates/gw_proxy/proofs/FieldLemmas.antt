-- Fields of a reply that is sent: what can stand in a line, and which names are there.
use Rattle.std.proofs.Common.{◌≡◌, ℕ, ◌<◌, Bool, true, false, not, ◌||◌, ◌&&◌, List, [], ◌∷◌, ◌++◌, refl, sym, ap, ◌∙◌, append-nil}
use Rattle.std.specs.Prelude.{All, codes, slice_index_or, if◌then◌else◌}
use Rattle.std.specs.List.{list_any}
use Rattle.std.specs.Str.{str_eq_ignore_ascii_case}
use Rattle.std.proofs.lemmas.List.Elements.{All-nil, All-cons, All-head, All-tail, All-weaker, filter_passes}
use Rattle.http_header.specs.FieldName.{is_header_name}
use Rattle.http_header.proofs.TokenLemmas.{IsHeaderName-from_test}
use Rattle.gw_fields.specs.Fields.{names_token}
use Rattle.gw_fields.specs.Hops.{hop_names, is_hop, is_hop_name, without_hops}
use Rattle.gw_head.specs.Fields.{values_named}
use Rattle.gw_head.specs.Written.{IsPlainField}
use Rattle.gw_proxy.specs.OutReply.{close_fields}
use Rattle.gw_proxy.proofs.ValueLemmas.{IsFit, marks_fit, visible_marks}

abbrev pub Pair : Type 0
Pair = List ℕ × List ℕ

-- ---- names that no field has

-- the field has another name
pub record IsOther (name : List ℕ) (field : Pair) : Type 0 where
  pub other : str_eq_ignore_ascii_case field.0 name ≡ false

pub none_named : (name : List ℕ) (fields : List Pair) → All (IsOther name) fields → values_named name fields ≡ []
none_named name [] all = refl
none_named name (field ∷ fields) all =
    ap (λ (v : Bool). if v then field.1 ∷ values_named name fields else values_named name fields)
    (All-head (IsOther name) field fields all).other
    ∙ none_named name fields (All-tail (IsOther name) field fields all)

pub none_listed : (name token : List ℕ) (fields : List Pair) → All (IsOther name) fields → list_any (names_token name token) fields ≡ false
none_listed name token [] all = refl
none_listed name token (field ∷ fields) all =
    no_token (str_eq_ignore_ascii_case field.0 name) _ _ (All-head (IsOther name) field fields all).other
    (none_listed name token fields (All-tail (IsOther name) field fields all))
  where
    no_token : (a b c : Bool) → a ≡ false → c ≡ false → (a && b || c) ≡ false
    no_token false b false e f = refl
    no_token false b true e f = f
    no_token true b c e f = absurd (cc)

left_false : (a b : Bool) → (a || b) ≡ false → a ≡ false
left_false false b e = refl
left_false true b e = e

right_false : (a b : Bool) → (a || b) ≡ false → b ≡ false
right_false false b e = e
right_false true b e = absurd (cc)

pub not_any : (v : Bool) → not v ≡ true → v ≡ false
not_any false e = refl
not_any true e = absurd (cc)

-- none of the names that always belong to one connection
none_hop : (p : List ℕ → Bool) (names : List (List ℕ)) → list_any p names ≡ false → All (λ name. p name ≡ false) names
none_hop p [] none = All-nil (λ name. p name ≡ false)
none_hop p (name ∷ names) none =
    All-cons (λ name. p name ≡ false) name names (left_false _ _ none) (none_hop p names (right_false _ _ none))

stays_other : (i : ℕ) (fields : List Pair) (field : Pair) → i < 9 → not (is_hop fields field.0) ≡ true
    → IsOther (slice_index_or hop_names i []) field
stays_other i fields field small stays = record {
  other = none_hop (str_eq_ignore_ascii_case field.0) hop_names
      (left_false (is_hop_name field.0) _ (not_any _ stays)) i [] small;
}

pub no_hops : (i : ℕ) (fields : List Pair) → i < 9 → All (IsOther (slice_index_or hop_names i [])) (without_hops fields)
no_hops i fields small =
    All-weaker (λ f. not (is_hop fields f.0) ≡ true) (IsOther (slice_index_or hop_names i []))
    (λ f stays. stays_other i fields f small stays) (without_hops fields)
    (filter_passes (λ f. not (is_hop fields f.0)) fields)

-- ---- fields that are put together

pub values-append : (name : List ℕ) (fields more : List Pair) → values_named name (fields ++ more) ≡ values_named name fields ++ values_named name more
values-append name [] more = refl
values-append name (field ∷ fields) more = value_step (str_eq_ignore_ascii_case field.0 name) (values_named name (fields ++ more)) (values_named name fields)
    (values-append name fields more)
  where
    value_step : (v : Bool) (all front : List (List ℕ)) → all ≡ front ++ values_named name more
        → (if v then field.1 ∷ all else all) ≡ (if v then field.1 ∷ front else front) ++ values_named name more
    value_step true all front same = ap (λ l. field.1 ∷ l) same
    value_step false all front same = same

pub any-append : (p : Pair → Bool) (fields more : List Pair) → list_any p (fields ++ more) ≡ (list_any p fields || list_any p more)
any-append p [] more = refl
any-append p (field ∷ fields) more =
    ap (λ b. p field || b) (any-append p fields more) ∙ sym (or_assoc (p field) (list_any p fields) (list_any p more))
  where
    or_assoc : (a b c : Bool) → ((a || b) || c) ≡ (a || (b || c))
    or_assoc true b c = refl
    or_assoc false b c = refl

-- behind the fields stand none of that name
pub values_ahead : (name : List ℕ) (fields back : List Pair) → All (IsOther name) back
    → values_named name (fields ++ back) ≡ values_named name fields
values_ahead name fields back all =
    values-append name fields back ∙ ap (λ l. values_named name fields ++ l) (none_named name back all)
    ∙ append-nil (values_named name fields)

-- and before them none
pub values_behind : (name : List ℕ) (front fields : List Pair) → All (IsOther name) front
    → values_named name (front ++ fields) ≡ values_named name fields
values_behind name front fields all =
    values-append name front fields ∙ ap (λ l. l ++ values_named name fields) (none_named name front all)

pub listed_behind : (name token : List ℕ) (front fields : List Pair) → All (IsOther name) front
    → list_any (names_token name token) (front ++ fields) ≡ list_any (names_token name token) fields
listed_behind name token front fields all =
    any-append (names_token name token) front fields
    ∙ ap (λ b. b || list_any (names_token name token) fields) (none_listed name token front all)

-- ---- what can stand in a line

pub plain : (name value : List ℕ) → is_header_name name ≡ true → IsFit value → IsPlainField (name, value)
plain name value is fit = record { name = IsHeaderName-from_test name is; value = fit.good; bare = fit.bare }

pub closes_plain : (close : Bool) → All IsPlainField (close_fields close)
closes_plain true =
    All-cons IsPlainField (codes "connection", codes "close") []
    (plain (codes "connection") (codes "close") refl (marks_fit (codes "close") (visible_marks (codes "close") refl))) (All-nil IsPlainField)
closes_plain false = All-nil IsPlainField
