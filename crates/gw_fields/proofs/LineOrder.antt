-- Lines that a stable sort by name left are the fields in their order.
use Rattle.std.proofs.Common.{◌≡◌, ◌+◌, ◌<◌, Bool, true, false, not, ◌&&◌, List, length, map, refl, sym, ap, ◌∙◌, arith}
use Rattle.std.specs.List.Sorted.{IsSortedBy, IsStableBy, ties}
use Rattle.std.proofs.lemmas.Bool.{false≢true}
use Rattle.std.proofs.lemmas.List.{get_or-map, length-map}
use Rattle.gw_fields.specs.declared.lines.Line.{Line}
use Rattle.gw_fields.specs.Lines.{pair_of}
use Rattle.gw_fields.specs.Order.{is_below, sorted}
use Rattle.gw_fields.proofs.Mapping.{filter_mapped}
use Rattle.gw_fields.proofs.Placing.{Field, comes_before, in_order, sorted_ordered, sorted_stable}
use Rattle.gw_fields.proofs.Sorting.{only_sorted}

abbrev pub line_before : Line → Line → Bool
line_before line other = is_below line.name.now other.name.now

-- a line that shows the field
abbrev shown : Field → Line
shown field = record {
  name = record { ref_ptr = (0, 0); now = field.0 };
  value = record { ref_ptr = (0, 0); now = field.1 };
}

neither : (a b : Bool) → not a && not b ≡ true → (a ≡ false) × (b ≡ false)
neither true b h = absurd (false≢true h)
neither false true h = absurd (false≢true h)
neither false false h = (refl, refl)

level : (x field other : Field) → ties comes_before x field ≡ true → ties comes_before x other ≡ true
    → comes_before field other ≡ false
level x field other h k =
    let first = neither (comes_before x field) (comes_before field x) h in
    let second = neither (comes_before x other) (comes_before other x) k in
    in_order.chain field x other first.1 second.0

mapped_ordered : (ys : List Line) → IsSortedBy line_before ys → IsSortedBy comes_before (map pair_of ys)
mapped_ordered ys up k d low high =
    let within : k + 1 < length ys = omega (arith, length-map ys pair_of) in
    rw (get_or-map pair_of ys (k + 1) (shown d) d within, get_or-map pair_of ys k (shown d) d (omega arith))
    (up k (shown d) low within)

mapped_stable : (xs ys : List Line) → IsStableBy line_before xs ys → IsStableBy comes_before (sorted (map pair_of xs)) (map pair_of ys)
mapped_stable xs ys same x =
    filter_mapped pair_of (ties comes_before x) ys
    ∙ ap (map pair_of) (same (shown x))
    ∙ sym (filter_mapped pair_of (ties comes_before x) xs)
    ∙ sym (sorted_stable (ties comes_before x) (level x) (map pair_of xs))

pub lines_sorted : (xs ys : List Line) → IsSortedBy line_before ys → IsStableBy line_before xs ys
    → map pair_of ys ≡ sorted (map pair_of xs)
lines_sorted xs ys up same =
    only_sorted comes_before in_order (map pair_of ys) (sorted (map pair_of xs)) (mapped_ordered ys up)
    (sorted_ordered (map pair_of xs)) (mapped_stable xs ys same)
