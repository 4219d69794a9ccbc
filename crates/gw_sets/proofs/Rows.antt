-- Rows that the definitions compute.
use Rattle.std.proofs.Common.{◌≡◌, true, false, [], ◌∷◌, Some, codes, inr, refl}
use Rattle.gw_pattern.specs.declared.form.Seg.TheVariants.{Literal, One, Rest, End}
use Rattle.gw_sets.specs.declared.relation.Relation.TheVariants.{MoreSpecific, MoreGeneral, Overlap}
use Rattle.gw_sets.specs.Matches.{MethodMatches, SegsMatch}
use Rattle.gw_sets.specs.Comparison.{relation_of_segs}

-- ---- matching

get_matches_head : MethodMatches (Some (codes "GET")) (codes "HEAD")
get_matches_head = inr (refl, refl)

end_matches_the_slash : SegsMatch (End ∷ []) [] true
end_matches_the_slash = refl

end_matches_no_part : SegsMatch (End ∷ []) (codes "a" ∷ []) true → ⊥
end_matches_no_part h = h

rest_matches_all_behind : SegsMatch (Literal (codes "a") ∷ Rest [] ∷ []) (codes "a" ∷ codes "b" ∷ []) false
rest_matches_all_behind = (refl, tt)

rest_matches_the_slash : SegsMatch (Literal (codes "a") ∷ Rest [] ∷ []) (codes "a" ∷ []) true
rest_matches_the_slash = (refl, refl)

one_matches_a_part : SegsMatch (One (codes "x") ∷ Literal (codes "b") ∷ []) (codes "a" ∷ codes "b" ∷ []) false
one_matches_a_part = (refl, refl)

longer_path_is_not_matched : SegsMatch (Literal (codes "a") ∷ []) (codes "a" ∷ codes "b" ∷ []) false → ⊥
longer_path_is_not_matched h = h.1

-- ---- the relation: the pairs of Go's documentation

posts_overlap : relation_of_segs (Literal (codes "posts") ∷ One (codes "id") ∷ []) (One (codes "resource") ∷ Literal (codes "latest") ∷ []) ≡ Overlap
posts_overlap = refl

items_are_more_general : relation_of_segs (Literal (codes "items") ∷ One (codes "id") ∷ []) (Literal (codes "items") ∷ Literal (codes "latest") ∷ []) ≡ MoreGeneral
items_are_more_general = refl

end_is_more_specific : relation_of_segs (Literal (codes "b") ∷ End ∷ []) (Literal (codes "b") ∷ Rest [] ∷ []) ≡ MoreSpecific
end_is_more_specific = refl

rest_is_more_general : relation_of_segs (Rest (codes "rest") ∷ []) (Literal (codes "a") ∷ Literal (codes "b") ∷ []) ≡ MoreGeneral
rest_is_more_general = refl
