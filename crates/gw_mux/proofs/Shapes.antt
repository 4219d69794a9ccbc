-- What the walk sees is a shape: bytes, and no empty segment.
use Rattle.std.proofs.Common.{◌≡◌, ℕ, ◌<◌, Bool, List, [], ◌∷◌, map, sym, subst, ⊎_elim, arith}
use Rattle.std.specs.List.{AllByRecursion, filter, onto_first}
use Rattle.std.proofs.lemmas.Bool.{cond-true, cond-false, cases_Bool}
use Rattle.std.proofs.lemmas.List.Elements.{All-from_recursion, recursion_from_All}
use Rattle.percent_encoding.specs.Percent.{percent_decode}
use Rattle.percent_encoding.proofs.PercentLemmas.{All-percent_decode, length-percent_decode}
use Rattle.gw_pattern.specs.Path.{is_slash, parts_of}
use Rattle.gw_sets.specs.Shape.{AreBytes, AreSegments, IsSegment, IsShape}
use Rattle.gw_mux.specs.Request.{asked_for, is_filled, parts_in, sent_segments}
use Rattle.gw_mux.specs.Walk.{asked_by}

abbrev Small : ℕ → Type 0
Small b = b < 256

abbrev AreSmall : List (List ℕ) → Type 0
AreSmall parts = AllByRecursion (λ part. AllByRecursion Small part) parts

onto_small : (b : ℕ) (parts : List (List ℕ)) → b < 256 → AreSmall parts → AreSmall (onto_first b parts)
onto_small b [] small h = ((small, tt), tt)
onto_small b (part ∷ parts) small h = ((small, h.0), h.1)

parts_small : (path : List ℕ) → AllByRecursion Small path → AreSmall (parts_of path)
parts_small [] h = (tt, tt)
parts_small (b ∷ bs) h =
    ⊎_elim
    (λ e. subst AreSmall (sym (cond-true (is_slash b) ([] ∷ parts_of bs) (onto_first b (parts_of bs)) e)) (tt, parts_small bs h.1))
    (λ e. subst AreSmall (sym (cond-false (is_slash b) ([] ∷ parts_of bs) (onto_first b (parts_of bs)) e)) (onto_small b (parts_of bs) h.0 (parts_small bs h.1)))
    (cases_Bool (is_slash b))

decoded_segment : (b : ℕ) (part : List ℕ) → AllByRecursion Small (b ∷ part) → IsSegment (percent_decode (b ∷ part))
decoded_segment b part h =
    (omega (arith, (length-percent_decode (b ∷ part)).1), All-percent_decode (b ∷ part) (All-from_recursion Small (b ∷ part) h))

filled_segments : (parts : List (List ℕ)) → AreSmall parts → AreSegments (map percent_decode (filter is_filled parts))
filled_segments [] h = tt
filled_segments ([] ∷ parts) h = filled_segments parts h.1
filled_segments ((b ∷ part) ∷ parts) h = (decoded_segment b part h.0, filled_segments parts h.1)

pub shape_seen : (method host path body : List ℕ) (slash : Bool) → AreBytes method → AreBytes host → AreBytes path → sent_segments path ≡ parts_in body → IsShape (asked_by method host body slash)
shape_seen method host path body slash m h p e =
    (m, h, subst (λ s. AreSegments (map percent_decode s)) e (filled_segments (parts_of path) (parts_small path (recursion_from_All Small path p))))

pub shape_asked : (method host path : List ℕ) → AreBytes method → AreBytes host → AreBytes path → IsShape (asked_for method host path)
unfolding asked_for
shape_asked method host path m h p = (m, h, filled_segments (parts_of path) (parts_small path (recursion_from_All Small path p)))
