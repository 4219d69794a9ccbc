-- Names in order without case, and the marks beside them.
use Rattle.std.proofs.Common.{◌≡◌, ℕ, ◌+◌, ◌<◌, ◌≤◌, Bool, true, false, ◌||◌, List, [], ◌∷◌, length, get_or, set, refl, sym, ap, ◌∙◌, arith, codes, drop, map, min, take, ◌++◌, ⊎_elim}
use Rattle.std.specs.Borrow.{Bor}
use Rattle.std.specs.Cmp.{IsStrictWeakOrder, nat_cmp_total}
use Rattle.std.specs.Cmp.Lexicographic.{lists_total}
use Rattle.std.specs.List.{list_any}
use Rattle.std.specs.List.Sorted.{IsPartitionPoint, IsPartitionedBy}
use Rattle.std.specs.Str.{str_eq_ignore_ascii_case, str_to_ascii_lowercase}
use Rattle.std.proofs.lemmas.Bool.{cases_eq, cases_lt, false≢true}
use Rattle.std.proofs.lemmas.List.{append-nil, drop_all, drop_more, get_or-replicate, get_or_default, length-replicate, take-map, take_min, get_or-set_other, get_or-set_same}
use Rattle.std.proofs.lemmas.List.Sorted.{ranks_by, sorted_far}
use Rattle.std.proofs.lemmas.Slice.Eq.{bytes_eq-Decides}
use Rattle.http_header.specs.FieldValue.{FieldValue}
use Rattle.gw_fields.specs.Fields.{has_token, names_token, pair_of}
use Rattle.gw_fields.specs.Lists.{elements_of, is_element, lists_token, trimmed}
use Rattle.gw_fields.specs.Names.{AreInOrder, IsFirst, IsUnlike, Marks, comes_before}
use Rattle.gw_fields.specs.Order.{is_below}
use Rattle.std.proofs.Math.ListN.{get_or-eq_default, replicate}
use Rattle.gw_fields.proofs.Sorting.{itself}

abbrev pub own_before : Bor (List ℕ) → Bor (List ℕ) → Bool
own_before own other = comes_before own.now other.now

pub in_order : IsStrictWeakOrder own_before
in_order = ranks_by (lists_total nat_cmp_total) (λ (own : Bor (List ℕ)). str_to_ascii_lowercase own.now)

name_order : IsStrictWeakOrder comes_before
name_order = ranks_by (lists_total nat_cmp_total) str_to_ascii_lowercase

not_both : (b : Bool) → (b ≡ false → ⊥) → b ≡ true
not_both true h = refl
not_both false h = absurd (h refl)

pub partitioned : (names : List (Bor (List ℕ))) (name : List ℕ) → AreInOrder names → IsPartitionedBy (λ own. comes_before own.now name) names
partitioned names name up i j d low high is =
    not_both (comes_before (get_or names i d).now name)
    (λ other.
    (let later = sorted_far own_before in_order names up i j d low high in
    let not = name_order.chain (get_or names j d).now (get_or names i d).now name later other in
    false≢true (sym not ∙ is)))

-- ---- names that are alike

alike : (name other : List ℕ) → str_eq_ignore_ascii_case name other ≡ true → str_to_ascii_lowercase name ≡ str_to_ascii_lowercase other
alike name other h = (bytes_eq-Decides (str_to_ascii_lowercase name) (str_to_ascii_lowercase other)).0 h

like : (name other : List ℕ) → str_to_ascii_lowercase name ≡ str_to_ascii_lowercase other → str_eq_ignore_ascii_case name other ≡ true
like name other h = (bytes_eq-Decides (str_to_ascii_lowercase name) (str_to_ascii_lowercase other)).1 h

-- a name that is alike comes neither before nor after
level : (own name : List ℕ) → str_eq_ignore_ascii_case own name ≡ true → comes_before own name ≡ false
level own name h = ap (λ low. is_below low (str_to_ascii_lowercase name)) (alike own name h) ∙ itself comes_before name_order name

-- ---- the first that is alike

alike_first : (names : List (Bor (List ℕ))) (name other : List ℕ) (at : ℕ) → str_to_ascii_lowercase name ≡ str_to_ascii_lowercase other
    → IsFirst names name at → IsFirst names other at
alike_first names name other at e h = record {
  within = h.within;
  same = λ d. like (get_or names at d).now other (alike (get_or names at d).now name (h.same d) ∙ e);
  before = λ k d low high.
      ap (is_below (str_to_ascii_lowercase (get_or names k d).now)) (sym e) ∙ h.before k d low high;
}

earlier : (names : List (Bor (List ℕ))) (name other : List ℕ) (at place : ℕ) → str_to_ascii_lowercase name ≡ str_to_ascii_lowercase other
    → IsFirst names name at → IsFirst names other place → at < place → ⊥
earlier names name other at place e h k less =
    let d : Bor (List ℕ) = record { ref_ptr = (0, 0); now = [] } in
    let not = level (get_or names at d).now other ((alike_first names name other at e h).same d) in
    false≢true (sym not ∙ k.before at d (omega arith) less)

only_first : (names : List (Bor (List ℕ))) (name other : List ℕ) (at place : ℕ) → str_to_ascii_lowercase name ≡ str_to_ascii_lowercase other
    → IsFirst names name at → IsFirst names other place → (at ≡ place → ⊥) → ⊥
only_first names name other at place e h k apart =
    ⊎_elim (λ less. earlier names name other at place e h k less)
    (λ more. earlier names other name place at (sym e) k h (omega (arith, apart)))
    (cases_lt at place)

pub is_first : (names : List (Bor (List ℕ))) (name : List ℕ) (at : ℕ) (d : Bor (List ℕ))
    → IsPartitionPoint (λ own. comes_before own.now name ≡ true) (λ own. comes_before own.now name ≡ false) names at
    → at < length names → str_to_ascii_lowercase (get_or names at d).now ≡ str_to_ascii_lowercase name → IsFirst names name at
is_first names name at d point within same = record {
  within = within;
  same = λ e. like (get_or names at e).now name
      (ap (λ (v : Bor (List ℕ)). str_to_ascii_lowercase v.now) (get_or_default names at e d within) ∙ same);
  before = point.0;
}

-- the name isn't alike that stands behind those that come before
pub no_first : (names : List (Bor (List ℕ))) (name : List ℕ) (place : ℕ) (d : Bor (List ℕ))
    → IsPartitionPoint (λ own. comes_before own.now name ≡ true) (λ own. comes_before own.now name ≡ false) names place
    → (place < length names → str_to_ascii_lowercase (get_or names place d).now ≡ str_to_ascii_lowercase name → ⊥)
    → IsUnlike names name
no_first names name place d point other at first =
    let within = first.within in
    ⊎_elim
    (λ less. false≢true (sym (level (get_or names at d).now name (first.same d)) ∙ point.0 at d (omega arith) less))
    (λ more. ⊎_elim
    (λ same. other (omega arith)
    (alike (get_or names place d).now name
    (ap (λ n. str_eq_ignore_ascii_case (get_or names n d).now name) same ∙ first.same d)))
    (λ apart. false≢true (sym (point.1 place d (omega arith) (omega (arith, apart))) ∙ first.before place d (omega arith) (omega (arith, apart))))
    (cases_eq place at))
    (cases_lt at place)

-- ---- marks

or_true : (b c : Bool) → c ≡ true → b || c ≡ true
or_true true c h = refl
or_true false c h = h

or_false : (b c : Bool) → c ≡ false → b ≡ b || c
or_false true c h = refl
or_false false c h = sym h

is_no : (b : Bool) → (b ≡ true → ⊥) → b ≡ false
is_no true h = absurd (h refl)
is_no false h = refl

-- the element is alike to the name at the place, which is marked
pub mark_one : (names : List (Bor (List ℕ))) (marks : List Bool) (element : List ℕ) (place : ℕ) → length names ≤ length marks
    → IsFirst names (trimmed element) place → Marks names marks (set marks place true) (λ name. is_element name element)
mark_one names marks element place room is name at first =
    let d : Bor (List ℕ) = record { ref_ptr = (0, 0); now = [] } in
    let within = is.within in
    ⊎_elim
    (λ same.
    (let own = (get_or names place d).now in
    let named : str_eq_ignore_ascii_case own name ≡ true = ap (λ n. str_eq_ignore_ascii_case (get_or names n d).now name) (sym same) ∙ first.same d in
    let element_is = like (trimmed element) name (sym (alike own (trimmed element) (is.same d)) ∙ alike own name named) in
    ap (λ n. get_or (set marks place true) n false) same ∙ get_or-set_same marks place true false (omega arith)
    ∙ sym (or_true (get_or marks at false) (is_element name element) element_is)))
    (λ apart.
    (let other : is_element name element ≡ false =
    is_no (is_element name element)
    (λ yes. only_first names name (trimmed element) at place (sym (alike (trimmed element) name yes)) first is apart) in
    get_or-set_other marks place at true false apart ∙ or_false (get_or marks at false) (is_element name element) other))
    (cases_eq at place)

-- no name is alike
pub mark_none : (names : List (Bor (List ℕ))) (marks : List Bool) (element : List ℕ) → IsUnlike names (trimmed element)
    → Marks names marks marks (λ name. is_element name element)
mark_none names marks element none name at first =
    let other : is_element name element ≡ false =
    is_no (is_element name element)
    (λ yes. none at (alike_first names name (trimmed element) at (sym (alike (trimmed element) name yes)) first)) in
    or_false (get_or marks at false) (is_element name element) other

or_assoc : (a b c : Bool) → (a || b) || c ≡ a || (b || c)
or_assoc true b c = refl
or_assoc false b c = refl

-- what was marked of the first element, and what is still listed behind it
pub mark_more : (names : List (Bor (List ℕ))) (first old new : List Bool) (value left element rest : List ℕ)
    → ((name : List ℕ) (at : ℕ) → IsFirst names name at → get_or old at false || lists_token name left ≡ get_or first at false || lists_token name value)
    → Marks names old new (λ name. is_element name element) → elements_of left ≡ element ∷ elements_of rest
    → (name : List ℕ) (at : ℕ) → IsFirst names name at → get_or new at false || lists_token name rest ≡ get_or first at false || lists_token name value
mark_more names first old new value left element rest so_far marked cut name at is =
    ap (λ b. b || lists_token name rest) (marked name at is)
    ∙ or_assoc (get_or old at false) (is_element name element) (lists_token name rest)
    ∙ ap (λ l. get_or old at false || list_any (is_element name) l) (sym cut)
    ∙ so_far name at is

pub mark_last : (names : List (Bor (List ℕ))) (first old new : List Bool) (value left element : List ℕ)
    → ((name : List ℕ) (at : ℕ) → IsFirst names name at → get_or old at false || lists_token name left ≡ get_or first at false || lists_token name value)
    → Marks names old new (λ name. is_element name element) → elements_of left ≡ element ∷ []
    → Marks names first new (λ name. lists_token name value)
mark_last names first old new value left element so_far marked cut name at is =
    marked name at is
    ∙ or_false (get_or old at false || is_element name element) false refl
    ∙ or_assoc (get_or old at false) (is_element name element) false
    ∙ ap (λ l. get_or old at false || list_any (is_element name) l) (sym cut)
    ∙ so_far name at is

-- what was marked of the first field, and what is still listed behind it
abbrev pub Item : Type 0
Item = List ℕ × FieldValue

pub list_more : (names : List (Bor (List ℕ))) (old new : List Bool) (items : List Item) (i : ℕ) (item : Item) → i < length items
    → item ≡ get_or items i item
    → ((name : List ℕ) (at : ℕ) → IsFirst names name at
    → get_or old at false || has_token (codes "connection") name (map pair_of (drop i items)) ≡ has_token (codes "connection") name (map pair_of items))
    → Marks names old new (λ name. names_token (codes "connection") name (pair_of item))
    → (name : List ℕ) (at : ℕ) → IsFirst names name at
    → get_or new at false || has_token (codes "connection") name (map pair_of (drop (i + 1) items)) ≡ has_token (codes "connection") name (map pair_of items)
list_more names old new items i item within is so_far marked name at first =
    let rest : List Item = drop (i + 1) items in
    let cut : drop i items ≡ item ∷ rest = drop_more items i item within ∙ ap (λ (v : Item). v ∷ rest) (sym is) in
    ap (λ b. b || has_token (codes "connection") name (map pair_of rest)) (marked name at first)
    ∙ or_assoc (get_or old at false) (names_token (codes "connection") name (pair_of item)) (has_token (codes "connection") name (map pair_of rest))
    ∙ ap (λ l. get_or old at false || has_token (codes "connection") name (map pair_of l)) (sym cut)
    ∙ so_far name at first

pub list_none : (b : Bool) (rest : Bool) → b ≡ false → b || rest ≡ rest
list_none b rest h = ap (λ v. v || rest) h

pub list_all : (items : List Item) (i : ℕ) (b : Bool) (name : List ℕ) → length items ≤ i
    → b || has_token (codes "connection") name (map pair_of (drop i items)) ≡ has_token (codes "connection") name (map pair_of items)
    → b ≡ has_token (codes "connection") name (map pair_of items)
list_all items i b name past h =
    or_false b false refl ∙ ap (λ l. b || has_token (codes "connection") name (map pair_of l)) (sym (drop_all i items past)) ∙ h

pub none_marked : (n at : ℕ) → get_or (replicate n false) at false ≡ false
none_marked n at =
    ⊎_elim (λ within. get_or-replicate n at false false within)
    (λ past. get_or-eq_default (replicate n false) false (omega (arith, length-replicate n false)))
    (cases_lt at n)

mapped : (f : List ℕ × List ℕ → Bool) (items : List Item) → map (λ item. f (pair_of item)) items ≡ map f (map pair_of items)
mapped f [] = refl
mapped f (item ∷ items) = ap (λ l. f (pair_of item) ∷ l) (mapped f items)

pub first_done : (f : List ℕ × List ℕ → Bool) (hops : List Bool) (items : List Item) (n i : ℕ)
    → hops ++ map (λ item. f (pair_of item)) (drop i (take n items)) ≡ map (λ item. f (pair_of item)) (take n items)
    → length (take n items) ≤ i → n ≡ min (length items) 128 → hops ≡ map f (take 128 (map pair_of items))
first_done f hops items n i so_far past size =
    let none : drop i (take n items) ≡ [] = drop_all i (take n items) past in
    let same : n ≡ min 128 (length items) = omega arith in
    sym (append-nil hops) ∙ ap (λ l. hops ++ map (λ item. f (pair_of item)) l) (sym none) ∙ so_far
    ∙ ap (map (λ item. f (pair_of item))) (ap (λ m. take m items) same ∙ take_min 128 items)
    ∙ mapped f (take 128 items) ∙ ap (map f) (sym (take-map pair_of 128 items))
