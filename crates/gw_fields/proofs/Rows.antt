-- The definitions at worked examples.
use Rattle.std.proofs.Common.{◌≡◌, true, false, [], ◌∷◌, refl}
use Rattle.std.specs.Prelude.{codes}
use Rattle.gw_fields.specs.Lists.{trimmed, elements_of, lists_token}
use Rattle.gw_fields.specs.Fields.{has_token}
use Rattle.gw_fields.specs.Hops.{without_hops}
use Rattle.gw_fields.specs.Order.{lines_of, sorted}

blanks_go : trimmed (9 ∷ 32 ∷ 97 ∷ 32 ∷ 98 ∷ 32 ∷ []) ≡ 97 ∷ 32 ∷ 98 ∷ []
blanks_go = refl

commas_split : elements_of (codes "a,,b") ≡ codes "a" ∷ [] ∷ codes "b" ∷ []
commas_split = refl

case_is_ignored : lists_token (codes "close") (codes "keep-alive , CLOSE") ≡ true
case_is_ignored = refl

front_is_not_enough : lists_token (codes "close") (codes "closed") ≡ false
front_is_not_enough = refl

later_field_counts :
    has_token (codes "connection") (codes "close")
    ((codes "connection", codes "a") ∷ (codes "te", codes "b") ∷ (codes "connection", codes "close") ∷ []) ≡ true
later_field_counts = refl

other_names_do_not :
    has_token (codes "connection") (codes "close") ((codes "te", codes "close") ∷ []) ≡ false
other_names_do_not = refl

named_fields_go :
    without_hops (
    (codes "x-secret", codes "1") ∷ (codes "connection", codes "X-Secret, close") ∷ (codes "te", codes "trailers")
    ∷ (codes "x-other", codes "2") ∷ []
    ) ≡ (codes "x-other", codes "2") ∷ []
named_fields_go = refl

equal_names_stay :
    lines_of (sorted ((codes "x-b", codes "2") ∷ (codes "a", codes "1") ∷ (codes "x-b", codes "1") ∷ []))
    ≡ codes "A: 1\r\nX-B: 2\r\nX-B: 1\r\n"
equal_names_stay = refl
