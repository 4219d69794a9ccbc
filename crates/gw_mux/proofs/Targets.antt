-- The target of a redirect is visible ASCII.
use Rattle.std.proofs.Common.{◌≡◌, ℕ, Bool, true, false, ◌&&◌, List, [], ◌∷◌, ◌++◌, Option, Some, None, ⊎_elim, sym, refl, ap, subst, ◌∙◌, arith}
use Rattle.std.specs.List.{AllByRecursion, list_all}
use Rattle.std.proofs.lemmas.Bool.{cond-true, cond-false, cases_Bool}
use Rattle.std.proofs.lemmas.Bool.Decides.{nat_tests}
use Rattle.std.proofs.lemmas.List.Elements.{recursion_from_All}
use Rattle.std.proofs.lemmas.List.Folds.{list_all-append}
use Rattle.gw_pattern.specs.declared.form.Pattern.{Pattern}
use Rattle.gw_pattern.specs.Path.{cleaned}
use Rattle.gw_wire.specs.Visible.{AreVisible, is_visible}
use Rattle.percent_encoding.specs.Percent.{percent_encode_byte}
use Rattle.percent_encoding.proofs.PercentLemmas.{All-percent_encode_byte, IsEscapeByte}
use Rattle.gw_mux.specs.declared.answer.Decision.{Decision}
use Rattle.gw_mux.specs.declared.answer.Decision.TheVariants.{Route as Routed, Redirect, NotAllowed, NotFound}
use Rattle.gw_mux.specs.Answer.{Decides}
use Rattle.gw_mux.specs.Decision.{with_slash}
use Rattle.gw_mux.specs.Laws.{HasVisibleTarget}
use Rattle.gw_mux.specs.Location.{is_plain, location_of, written, written_byte}

both : (a b : Bool) → a ≡ true → b ≡ true → (a && b) ≡ true
both true b e f = f
both false b e f = e

visible_append : (xs ys : List ℕ) → list_all is_visible xs ≡ true → list_all is_visible ys ≡ true → list_all is_visible (xs ++ ys) ≡ true
visible_append xs ys h k = list_all-append is_visible xs ys ∙ both (list_all is_visible xs) (list_all is_visible ys) h k

plain_visible : (b : ℕ) → is_plain b ≡ true → is_visible b ≡ true
plain_visible b h = grind (arith, nat_tests)

escape_visible : (b : ℕ) → IsEscapeByte b → is_visible b ≡ true
escape_visible b h = grind (arith, nat_tests)

all_visible : (bytes : List ℕ) → AllByRecursion IsEscapeByte bytes → list_all is_visible bytes ≡ true
all_visible [] h = refl
all_visible (b ∷ bytes) h = both (is_visible b) (list_all is_visible bytes) (escape_visible b h.0) (all_visible bytes h.1)

byte_visible : (b : ℕ) → list_all is_visible (written_byte b) ≡ true
byte_visible b =
    ⊎_elim
    (λ e. ap (list_all is_visible) (cond-true (is_plain b) (b ∷ []) (percent_encode_byte b) e) ∙ both (is_visible b) true (plain_visible b e) refl)
    (λ e. ap (list_all is_visible) (cond-false (is_plain b) (b ∷ []) (percent_encode_byte b) e) ∙ all_visible (percent_encode_byte b) (recursion_from_All IsEscapeByte (percent_encode_byte b) (All-percent_encode_byte b)))
    (cases_Bool (is_plain b))

written_visible : (bytes : List ℕ) → list_all is_visible (written bytes) ≡ true
written_visible [] = refl
written_visible (b ∷ bytes) = visible_append (written_byte b) (written bytes) (byte_visible b) (written_visible bytes)

location_visible : (path : List ℕ) (query : Option (List ℕ)) → AreVisible (location_of path query)
location_visible path None = written_visible path
location_visible path (Some query) = visible_append (written path) (63 ∷ written query) (written_visible path) (written_visible query)

pub target_visible : (patterns : List Pattern) (method host path : List ℕ) (query : Option (List ℕ)) (decision : Decision) → Decides patterns method host path query decision → HasVisibleTarget decision
target_visible patterns method host path query (Routed hit) h = tt
target_visible patterns method host path query (Redirect location) h =
    ⊎_elim
    (λ a. subst AreVisible (sym a.1) (location_visible (with_slash (cleaned path)) query))
    (λ a. subst AreVisible (sym a.2) (location_visible (cleaned path) query))
    h
target_visible patterns method host path query (NotAllowed methods) h = tt
target_visible patterns method host path query NotFound h = tt
