-- Routes one after another, over plain variables.
use Rattle.std.proofs.Common.{◌≡◌, ℕ, zero, suc, ◌+◌, ◌<◌, ◌≤◌, true, false, List, [], ◌∷◌, length, drop, get_or, None, Ok, Err, refl, ap, sym, ◌∙◌, subst, arith}
use Rattle.std.specs.Prelude.{nat_lt, ◌==◌}
use Rattle.std.proofs.lemmas.Bool.{lt-ltb, le-leb, lt-leb, and_right}
use Rattle.std.proofs.lemmas.List.{drop_more, drop_all}
use Rattle.serde_json.specs.Data.{Data, Items, item}
use Rattle.serde_json.specs.View.{view, items_view}
use Rattle.serde_json.specs.declared.value.Value.{Value}
use Rattle.gw_routes.specs.declared.fault.GCode.TheVariants.{OutOfRange}
use Rattle.gw_routes.specs.declared.fault.RouteError.{RouteError}
use Rattle.gw_routes.specs.declared.fault.RouteError.TheVariants.{Bad, Conflict, NoMemory}
use Rattle.gw_routes.specs.Kinds.{Gives, ◌>>=◌}
use Rattle.gw_routes.specs.Routes.{RouteList, RouteText, route_list, route_text, route_said, routes_from, with_route, items_said, count_of, no_routes}

-- ---- one route more

items_at : (vs : List Value) (i : ℕ) (v : Value) → i < length vs → v ≡ get_or vs i v → items_view (drop i vs) ≡ item (view v) (items_view (drop (i + 1) vs))
items_at vs i v within is = ap items_view (drop_more vs i v within) ∙ ap (λ x. item (view x) (items_view (drop (i + 1) vs))) (sym is)

step_err : (i : ℕ) (before : RouteList) (d : Data) (ds : Items) (e : RouteError) → Gives route_text (Err e) (route_said i d) → Gives route_list (Err e) (routes_from i before (item d ds))
unfolding routes_from
step_err i before d ds (Bad code route pattern) h = ap (λ x. x >>= (λ r. routes_from (i + 1) (with_route before r) ds)) h
step_err i before d ds (Conflict first second) h = absurd h
step_err i before d ds NoMemory h = tt

pub route_err : (vs : List Value) (i : ℕ) (v : Value) (before : RouteList) (e : RouteError) → i < length vs → v ≡ get_or vs i v
    → routes_from i before (items_view (drop i vs)) ≡ routes_from 0 no_routes (items_view vs) → Gives route_text (Err e) (route_said i (view v)) → Gives route_list (Err e) (routes_from 0 no_routes (items_view vs))
route_err vs i v before e within is so_far h =
    let P : Items → Type 0 = λ ds. Gives route_list (Err e) (routes_from i before ds) in
    subst (Gives route_list (Err e)) so_far (subst P (sym (items_at vs i v within is)) (step_err i before (view v) (items_view (drop (i + 1) vs)) e h))

pub route_more : (vs : List Value) (i : ℕ) (v : Value) (before : RouteList) (r : RouteText) → i < length vs → v ≡ get_or vs i v → route_said i (view v) ≡ Ok r
    → routes_from i before (items_view (drop i vs)) ≡ routes_from (i + 1) (with_route before r) (items_view (drop (i + 1) vs))
unfolding routes_from
route_more vs i v before r within is h =
    ap (routes_from i before) (items_at vs i v within is) ∙ ap (λ x. x >>= (λ s. routes_from (i + 1) (with_route before s) (items_view (drop (i + 1) vs)))) h

above_none : (n : ℕ) → (n == 0) ≡ false → 0 < n
above_none zero e = cc
above_none (suc n) e = omega arith

pub routes_end : (vs : List Value) (i : ℕ) (before : RouteList) → length vs ≤ i → routes_from i before (items_view (drop i vs)) ≡ Ok before
unfolding routes_from
routes_end vs i before h = ap (λ l. routes_from i before (items_view l)) (drop_all i vs h)

-- ---- how many

count_is : (vs : List Value) → count_of (items_view vs) ≡ length vs
count_is [] = refl
count_is (v ∷ vs) = ap suc (count_is vs)

tell_many : (vs : List Value) → 1024 < length vs → items_said (items_view vs) ≡ Err (Bad OutOfRange None None)
unfolding items_said
tell_many vs h = rw (count_is vs, lt-leb (length vs) 1024 h, and_right (nat_lt 0 (length vs)) false refl) refl

pub not_too_many : (vs : List Value) (e : RouteError) → 1024 < length vs → e ≡ Bad OutOfRange None None → Gives route_list (Err e) (items_said (items_view vs))
not_too_many vs e h is = rw is (tell_many vs h)

pub within_range : (vs : List Value) → (length vs == 0) ≡ false → length vs ≤ 1024 → items_said (items_view vs) ≡ routes_from 0 no_routes (items_view vs)
unfolding items_said
within_range vs some few =
    let least : nat_lt 0 (length vs) ≡ true = lt-ltb 0 (length vs) (above_none (length vs) some) in
    rw (count_is vs, least, le-leb (length vs) 1024 few) refl
