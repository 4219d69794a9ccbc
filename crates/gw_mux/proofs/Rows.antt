-- Rows that the definitions compute.
use Rattle.std.proofs.Common.{◌≡◌, true, false, [], ◌∷◌, None, Some, codes, refl}
use Rattle.gw_pattern.specs.declared.form.Seg.TheVariants.{Literal, One, Rest, End}
use Rattle.gw_mux.specs.Allow.{named_methods}
use Rattle.gw_mux.specs.Location.{is_plain, location_of}
use Rattle.gw_mux.specs.Request.{is_exact, sent_segments, spans_of}

-- ---- paths

segments_of_a_path : sent_segments (codes "/a/b/") ≡ codes "a" ∷ codes "b" ∷ []
segments_of_a_path = refl

no_segments : sent_segments (codes "/") ≡ []
no_segments = refl

-- ---- what wildcards take

one_takes_a_segment : spans_of (Literal (codes "items") ∷ One (codes "id") ∷ []) (codes "/items/7") ≡ (7, 8) ∷ []
one_takes_a_segment = refl

rest_takes_all_behind : spans_of (Literal (codes "f") ∷ Rest (codes "name") ∷ []) (codes "/f/a/b/") ≡ (3, 7) ∷ []
rest_takes_all_behind = refl

rest_takes_nothing : spans_of (Literal (codes "f") ∷ Rest (codes "name") ∷ []) (codes "/f/") ≡ (3, 3) ∷ []
rest_takes_nothing = refl

rest_without_name : spans_of (Literal (codes "b") ∷ Rest [] ∷ []) (codes "/b/c") ≡ []
rest_without_name = refl

-- ---- exact

rest_behind_its_slash : is_exact (Literal (codes "b") ∷ Rest [] ∷ []) (codes "b" ∷ []) ≡ true
rest_behind_its_slash = refl

rest_with_more : is_exact (Literal (codes "b") ∷ Rest [] ∷ []) (codes "b" ∷ codes "c" ∷ []) ≡ false
rest_with_more = refl

end_is_exact : is_exact (Literal (codes "b") ∷ End ∷ []) (codes "b" ∷ []) ≡ true
end_is_exact = refl

-- ---- methods and locations

head_beside_get : named_methods (Some (codes "GET")) ≡ codes "GET" ∷ codes "HEAD" ∷ []
head_beside_get = refl

post_alone : named_methods (Some (codes "POST")) ≡ codes "POST" ∷ []
post_alone = refl

query_is_kept : location_of (codes "/a/c") (Some (codes "x=1")) ≡ codes "/a/c?x=1"
query_is_kept = refl

percent_stays : location_of (codes "/a%2Fb") None ≡ codes "/a%2Fb"
percent_stays = refl

space_is_not_plain : is_plain 32 ≡ false
space_is_not_plain = refl
