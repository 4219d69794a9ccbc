-- Fields that are stripped in place.
use Rattle.std.proofs.Common.{◌≡◌, ℕ, ◌+◌, ◌<◌, ◌≤◌, Bool, true, false, not, ◌||◌, List, [], length, get_or, take, map, refl, sym, ap, ◌∙◌, arith, ⊎_elim}
use Rattle.std.specs.List.{HoldsAt, swap, SwappedAt}
use Rattle.std.specs.List.Sorted.{IsPermutation}
use Rattle.std.proofs.lemmas.List.{get_or-drop, get_or-map, get_or-take, get_or_default, length-map, length-take, take-map}
use Rattle.std.proofs.lemmas.Bool.{cases_lt}
use Rattle.std.proofs.lemmas.List.Edits.{swap_is, swapped_from_swap}
use Rattle.std.proofs.lemmas.List.Filters.{FiltersInPlace, FiltersInPlace-all, FiltersInPlace-more_no, FiltersInPlace-more_swap}
use Rattle.std.proofs.lemmas.List.Sorted.{IsPermutation-refl, IsPermutation-swap, IsPermutation-trans, list_any-IsPermutation}
use Rattle.std.specs.Prelude.{codes}
use Rattle.http_header.specs.FieldValue.{FieldValue}
use Rattle.gw_fields.specs.Fields.{names_token, pair_of}
use Rattle.gw_fields.specs.Hops.{is_hop, is_hop_name, without_hops}
use Rattle.gw_fields.proofs.Mapping.{swap_mapped}

abbrev pub Field : Type 0
Field = List ℕ × List ℕ

abbrev pub Item : Type 0
Item = List ℕ × FieldValue

-- of the fields walked those that stay stand first, and all are still there
pub record Strips (xs ys : List Field) (kept i : ℕ) : Type 0 where
  pub filters : FiltersInPlace (λ field. not (is_hop xs field.0)) xs ys kept i
  pub same : IsPermutation xs ys

pub nothing_stripped : (xs : List Field) → Strips xs xs 0 0
nothing_stripped xs = record {
  filters = record { front = refl; rest = refl; behind = omega arith; within = omega arith; long = refl };
  same = IsPermutation-refl xs;
}

same_hop : (xs ys : List Field) (name : List ℕ) → IsPermutation xs ys → is_hop ys name ≡ is_hop xs name
same_hop xs ys name same =
    ap (λ b. is_hop_name name || b)
    (sym (list_any-IsPermutation (names_token (codes "connection") name) xs ys same))

read : (items : List Item) (i : ℕ) (item : Item) → i < length items → item ≡ get_or items i item
    → pair_of item ≡ get_or (map pair_of items) i (pair_of item)
read items i item within is = ap pair_of is ∙ sym (get_or-map pair_of items i item (pair_of item) within)

swapped_at : {X : Type 0} (xs ys : List X) (a b : ℕ) → a < length xs → b < length xs → ys ≡ swap xs a b → SwappedAt xs ys a b
swapped_at xs ys a b within inside is = (
  (λ d. (swapped_from_swap xs ys a b d within inside is).0),
  (λ d. (swapped_from_swap xs ys a b d within inside is).1),
  (λ k d off apart. (swapped_from_swap xs ys a b d within inside is).2 k off apart),
  (λ d. is ∙ sym (swap_is xs a b d within inside)),
)

pub one_stripped : (xs : List Field) (items : List Item) (kept i : ℕ) (item : Item) → Strips xs (map pair_of items) kept i
    → i < length items → item ≡ get_or items i item → is_hop (map pair_of items) item.0 ≡ true
    → Strips xs (map pair_of items) kept (i + 1)
one_stripped xs items kept i item so_far within is hop = record {
  filters = FiltersInPlace-more_no {x = pair_of item} so_far.filters (omega (arith, length-map items pair_of))
      (ap not (sym (same_hop xs (map pair_of items) item.0 so_far.same) ∙ hop)) (read items i item within is);
  same = so_far.same;
}

pub one_kept : (xs : List Field) (items after : List Item) (kept i : ℕ) (item : Item) → Strips xs (map pair_of items) kept i
    → i < length items → item ≡ get_or items i item → is_hop (map pair_of items) item.0 ≡ false → after ≡ swap items kept i
    → Strips xs (map pair_of after) (kept + 1) (i + 1)
one_kept xs items after kept i item so_far within is stays swapped =
    let behind : kept < length items = omega (arith, so_far.filters.behind) in
    let long : length (map pair_of items) ≡ length items = length-map items pair_of in
    let moved : map pair_of after ≡ swap (map pair_of items) kept i =
    ap (map pair_of) swapped ∙ swap_mapped pair_of items kept i behind within in
    record {
      filters = FiltersInPlace-more_swap {x = pair_of item} so_far.filters (omega arith)
          (ap not (sym (same_hop xs (map pair_of items) item.0 so_far.same) ∙ stays)) (read items i item within is)
          (swapped_at (map pair_of items) (map pair_of after) kept i (omega arith) (omega arith) moved);
      same = IsPermutation-trans xs (map pair_of items) (map pair_of after) so_far.same
          (IsPermutation-swap (map pair_of items) (map pair_of after) kept i (omega arith) (omega arith) moved);
    }

pub all_stripped : (xs : List Field) (items : List Item) (kept i : ℕ) → Strips xs (map pair_of items) kept i
    → length xs ≤ i → map pair_of (take kept items) ≡ without_hops xs
all_stripped xs items kept i so_far past = sym (take-map pair_of kept items) ∙ FiltersInPlace-all so_far.filters past

-- the place is one of the items
pub is_within : (xs ys : List Field) (items : List Item) (kept i end : ℕ) → Strips xs ys kept i → map pair_of items ≡ ys
    → end ≡ length xs → i < end → i < length items
is_within xs ys items kept i end so_far shows is less =
    omega (arith, so_far.filters.long, ap length shows, length-map items pair_of)

-- how many items there are
pub as_many : (items : List Item) (ys : List Field) (many : ℕ) → map pair_of items ≡ ys → many ≡ length items → many ≡ length ys
as_many items ys many shows is = omega (arith, ap length shows, length-map items pair_of)

-- ---- what is known of a field

-- the field at the place is the one that stood there
same_there : (xs ys : List Field) (kept i : ℕ) (d : Field) → Strips xs ys kept i → get_or xs i d ≡ get_or ys i d
same_there xs ys kept i d so_far =
    let same : i + 0 ≡ i = omega arith in
    ap (λ n. get_or xs n d) (sym same) ∙ sym (get_or-drop i xs 0 d) ∙ ap (λ l. get_or l 0 d) (sym so_far.filters.rest)
    ∙ get_or-drop i ys 0 d ∙ ap (λ n. get_or ys n d) same

-- what is known of the first fields
abbrev pub AreKnown : List Bool → List Field → Type 0
AreKnown hops xs = hops ≡ map (λ field. is_hop xs field.0) (take 128 xs)

table_says : (xs ys : List Field) (hops : List Bool) (kept i : ℕ) (d : Field) → Strips xs ys kept i → AreKnown hops xs → i < length hops
    → get_or hops i false ≡ is_hop xs (get_or ys i d).0
table_says xs ys hops kept i d so_far known within =
    let f : Field → Bool = λ field. is_hop xs field.0 in
    let long : length hops ≡ length (take 128 xs) = ap length known ∙ length-map (take 128 xs) f in
    let few : length (take 128 xs) ≤ 128 = omega (arith, length-take 128 xs) in
    ap (λ l. get_or l i false) known
    ∙ get_or-map f (take 128 xs) i d false (omega arith)
    ∙ ap f (get_or-take 128 xs i d (omega arith) ∙ same_there xs ys kept i d so_far)

answered : (xs ys : List Field) (hops : List Bool) (kept i : ℕ) (d : Field) (answer : Bool) → Strips xs ys kept i → AreKnown hops xs
    → (i < length hops → answer ≡ get_or hops i false) → (length hops ≤ i → HoldsAt (λ field. answer ≡ is_hop ys field.0) ys i)
    → is_hop ys (get_or ys i d).0 ≡ answer
answered xs ys hops kept i d answer so_far known table asked =
    ⊎_elim
    (λ within. same_hop xs ys (get_or ys i d).0 so_far.same ∙ sym (table within ∙ table_says xs ys hops kept i d so_far known within))
    (λ past. sym (asked past d))
    (cases_lt i (length hops))

nothing : Item
nothing = record { 0 = []; 1 = record { bytes = []; is_sensitive = false } }

pub walked_past : (xs : List Field) (items : List Item) (hops : List Bool) (kept i : ℕ) (answer : Bool) → Strips xs (map pair_of items) kept i
    → i < length items → AreKnown hops xs → (i < length hops → answer ≡ get_or hops i false)
    → (length hops ≤ i → HoldsAt (λ field. answer ≡ is_hop (map pair_of items) field.0) (map pair_of items) i) → answer ≡ true
    → Strips xs (map pair_of items) kept (i + 1)
walked_past xs items hops kept i answer so_far within known table asked is =
    let item : Item = get_or items i nothing in
    one_stripped xs items kept i item so_far within (get_or_default items i nothing item within)
    (ap (λ (field : Field). is_hop (map pair_of items) field.0) (sym (get_or-map pair_of items i nothing (pair_of nothing) within))
    ∙ answered xs (map pair_of items) hops kept i (pair_of nothing) answer so_far known table asked ∙ is)

pub walked_kept : (xs : List Field) (items after : List Item) (hops : List Bool) (kept i : ℕ) (answer : Bool) → Strips xs (map pair_of items) kept i
    → i < length items → AreKnown hops xs → (i < length hops → answer ≡ get_or hops i false)
    → (length hops ≤ i → HoldsAt (λ field. answer ≡ is_hop (map pair_of items) field.0) (map pair_of items) i) → answer ≡ false
    → after ≡ swap items kept i → Strips xs (map pair_of after) (kept + 1) (i + 1)
walked_kept xs items after hops kept i answer so_far within known table asked is swapped =
    let item : Item = get_or items i nothing in
    one_kept xs items after kept i item so_far within (get_or_default items i nothing item within)
    (ap (λ (field : Field). is_hop (map pair_of items) field.0) (sym (get_or-map pair_of items i nothing (pair_of nothing) within))
    ∙ answered xs (map pair_of items) hops kept i (pair_of nothing) answer so_far known table asked ∙ is)
    swapped
