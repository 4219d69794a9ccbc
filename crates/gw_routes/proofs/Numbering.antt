-- The numbers of routes and hosts, from the definition alone.
use Rattle.std.proofs.Common.{◌≡◌, ℕ, ◌+◌, ◌<◌, ◌≤◌, Bool, true, false, ◌&&◌, List, [], ◌∷◌, ◌++◌, length, position, codes, Option, None, Some, Result, Ok, Err, refl, ap, sym, ◌∙◌, subst, arith}
use Rattle.std.specs.Prelude.{nat_lt, nat_le, if◌then◌else◌, MatchResult, IfOk}
use Rattle.std.specs.List.{All}
use Rattle.std.proofs.lemmas.Bool.{and_parts, ltb-true, leb-true}
use Rattle.std.proofs.lemmas.List.{length-append, length-map}
use Rattle.std.proofs.lemmas.List.Elements.{All-nil, All-push, All-weaker}
use Rattle.std.proofs.lemmas.List.Quantifiers.{position-Some}
use Rattle.serde_json.specs.Data.{Data, Items, no_items, item}
use Rattle.serde_json.specs.Find.{get}
use Rattle.gw_wire.specs.declared.values.Addr.{Addr}
use Rattle.gw_pattern.specs.Pattern.{spelled_of}
use Rattle.gw_routes.specs.declared.fault.GCode.TheVariants.{OutOfRange, WrongKind}
use Rattle.gw_routes.specs.declared.fault.RouteError.{RouteError}
use Rattle.gw_routes.specs.declared.kinds.Bounds.{Bounds}
use Rattle.gw_routes.specs.declared.route.Target.{Target}
use Rattle.gw_routes.specs.declared.route.Target.TheVariants.{Address, Gate}
use Rattle.gw_routes.specs.declared.table.Action.{Action}
use Rattle.gw_routes.specs.declared.table.Action.TheVariants.{Backend, Stop}
use Rattle.gw_routes.specs.declared.table.Route.{Route}
use Rattle.gw_routes.specs.declared.table.Table.{Table}
use Rattle.gw_routes.specs.Kinds.{Said, ◌>>=◌, fault, or_fault, flag_said, json_said, list_said, text_said, whole_of, in_range, number_of, number_said}
use Rattle.gw_routes.specs.declared.names.ObjectKind.TheVariants.{File}
use Rattle.gw_routes.specs.Names.{names_said, route_kind}
use Rattle.gw_routes.specs.Routes.{RouteList, RouteText, WorkText, IsWithin, action_of, backend_said, backend_work, buffer_bounds, hosts_of, is_same, host_at, hosts_at, route_of, route_pattern, route_said, stop_work, timeout_bounds, work_by, work_said, with_route, routes_from, count_of, no_routes, items_said, routes_said}
use Rattle.gw_routes.specs.Files.{TopText, IsTableOf, AreNumbered, HasWorkers, listen_said, pool_said, workers_bounds, client_ms_bounds, grace_ms_bounds, journal_bounds, top_said, file_said}

-- what is said in two steps is said in the first, and then in the second
then_ok : {A B : Type 0} (s : Said A) (f : A → Said B) (y : B) → s >>= f ≡ Ok y → (x : A) × (s ≡ Ok x) × (f x ≡ Ok y)
then_ok (Ok x) f y e = (x, refl, e)
then_ok (Err e) f y h = cc

abbrev said_as : {A : Type 0} → A → Said A
said_as x = Ok x

ok_same : {A : Type 0} (x y : A) → said_as x ≡ said_as y → x ≡ y
ok_same x y e = cc

-- a number that is said is within its bounds
within_by : (bounds : Bounds) (route : Option ℕ) (n m : ℕ) (b : Bool) → (nat_le bounds.least n && nat_le n bounds.most) ≡ b
    → in_range bounds.least bounds.most route n ≡ Ok m → (bounds.least ≤ m) × (m ≤ bounds.most)
unfolding in_range
within_by bounds route n m true is e =
    let p = and_parts _ _ is in
    let Q : Bool → Type 0 = λ b. (if b then Ok n else fault OutOfRange route) ≡ Ok m in
    let same : n ≡ m = ok_same n m (subst Q is e) in
    (subst (λ k. bounds.least ≤ k) same (leb-true bounds.least n p.0), subst (λ k. k ≤ bounds.most) same (leb-true n bounds.most p.1))
within_by bounds route n m false is e =
    let Q : Bool → Type 0 = λ b. (if b then Ok n else fault OutOfRange route) ≡ Ok m in
    let wrong : fault OutOfRange route ≡ Ok m = subst Q is e in cc

number_within : (bounds : Bounds) (route : Option ℕ) (o : Option Data) (m : ℕ) → bounds.least ≤ bounds.default → bounds.default ≤ bounds.most
    → number_of bounds route o ≡ Ok m → (bounds.least ≤ m) × (m ≤ bounds.most)
unfolding number_of
number_within bounds route None m low high e =
    let same : bounds.default ≡ m = ok_same bounds.default m e in
    (subst (λ k. bounds.least ≤ k) same low, subst (λ k. k ≤ bounds.most) same high)
number_within bounds route (Some d) m low high e =
    let s = then_ok (or_fault WrongKind route (whole_of d)) (in_range bounds.least bounds.most route) m e in
    within_by bounds route s.0 m (nat_le bounds.least s.0 && nat_le s.0 bounds.most) refl s.2

said_within : (name : List ℕ) (bounds : Bounds) (route : Option ℕ) (d : Data) (m : ℕ) → bounds.least ≤ bounds.default → bounds.default ≤ bounds.most
    → number_said name bounds route d ≡ Ok m → (bounds.least ≤ m) × (m ≤ bounds.most)
unfolding number_said
said_within name bounds route d m low high e = number_within bounds route (get name d) m low high e

-- what a route says of its time
back_timed : (i : ℕ) (d : Data) (w : WorkText) → backend_work i d ≡ Ok w → w.timeout ≤ 3600000
unfolding backend_work
back_timed i d w e =
    let a = then_ok (text_said (codes "backend") (Some i) d) _ w e in
    let b = then_ok (backend_said i a.0) _ w a.2 in
    let c = then_ok (number_said (codes "timeout") timeout_bounds (Some i) d) _ w b.2 in
    let f = then_ok (number_said (codes "buffer") buffer_bounds (Some i) d) _ w c.2 in
    let same : record { target = Address b.0.0 b.0.1; timeout = c.0; buffer = f.0 } ≡ w = ok_same _ w f.2 in
    let within = said_within (codes "timeout") timeout_bounds (Some i) d c.0 (omega arith) (omega arith) c.1 in
    subst (λ x. x.timeout ≤ 3600000) same within.1

work_timed : (stop : Bool) (i : ℕ) (d : Data) (w : WorkText) → work_by stop i d ≡ Ok w → w.timeout ≤ 3600000
unfolding work_by
work_timed true i d w e =
    let same : stop_work ≡ w = ok_same _ w e in
    subst (λ x. x.timeout ≤ 3600000) same (omega arith)
work_timed false i d w e = back_timed i d w e

said_timed : (i : ℕ) (d : Data) (w : WorkText) → work_said i d ≡ Ok w → w.timeout ≤ 3600000
unfolding work_said
said_timed i d w e = let s = then_ok (flag_said (codes "stop") false (Some i) d) _ w e in work_timed s.0 i d w s.2

route_timed : (i : ℕ) (d : Data) (r : RouteText) → route_said i d ≡ Ok r → r.timeout ≤ 3600000
unfolding route_said
route_timed i d r e =
    let a = then_ok (names_said (route_kind d) (Some i) d) _ r e in
    let b = then_ok (text_said (codes "pattern") (Some i) d) _ r a.2 in
    let c = then_ok (route_pattern i b.0) _ r b.2 in
    let f = then_ok (work_said i d) _ r c.2 in
    let same : record { text = b.0; pattern = c.0; target = f.0.target; timeout = f.0.timeout; buffer = f.0.buffer } ≡ r = ok_same _ r f.2 in
    subst (λ x. x.timeout ≤ 3600000) same (said_timed i d f.0 f.1)

-- the routes so far: as many as patterns, their hosts are among those so far, and their times are in range
record AreListed (l : RouteList) : Type 0 where
  paired : length l.patterns ≡ length l.routes
  hosts : All (λ r. IsWithin (length l.hosts) r.action) l.routes
  timeouts : All (λ r. r.timeout ≤ 3600000) l.routes

within_more : (m n : ℕ) → m ≤ n → (a : Action) → IsWithin m a → IsWithin n a
within_more m n more (Backend host base) h = omega arith
within_more m n more Stop h = tt

all_more : (m n : ℕ) → m ≤ n → (routes : List Route) → All (λ r. IsWithin m r.action) routes → All (λ r. IsWithin n r.action) routes
all_more m n more routes h = All-weaker (λ r. IsWithin m r.action) (λ r. IsWithin n r.action) (λ r w. within_more m n more r.action w) routes h

added : (hosts : List Addr) (addr : Addr) → length (hosts ++ addr ∷ []) ≡ length hosts + 1
added hosts addr = length-append hosts (addr ∷ [])

more_at : (hosts : List Addr) (addr : Addr) (o : Option ℕ) → length hosts ≤ length (hosts_at hosts addr o)
more_at hosts addr None = omega (arith, added hosts addr)
more_at hosts addr (Some host) = omega arith

more_hosts : (hosts : List Addr) (target : Target) → length hosts ≤ length (hosts_of hosts target)
more_hosts hosts (Address addr base) = more_at hosts addr (position (is_same addr) hosts)
more_hosts hosts Gate = omega arith

host_within : (hosts : List Addr) (addr : Addr) (o : Option ℕ) → position (is_same addr) hosts ≡ o → host_at hosts o < length (hosts_at hosts addr o)
host_within hosts addr None e = omega (arith, added hosts addr)
host_within hosts addr (Some host) e = (position-Some (is_same addr) hosts host addr e).0

action_within : (hosts : List Addr) (target : Target) → IsWithin (length (hosts_of hosts target)) (action_of hosts target)
action_within hosts (Address addr base) = host_within hosts addr (position (is_same addr) hosts) refl
action_within hosts Gate = tt

listed_more : (l : RouteList) (r : RouteText) → r.timeout ≤ 3600000 → AreListed l → AreListed (with_route l r)
unfolding with_route
listed_more l r timed h = record {
  paired = length-append l.patterns (r.pattern ∷ []) ∙ ap (λ n. n + 1) h.paired ∙ sym (length-append l.routes (route_of l.hosts r ∷ []));
  hosts = All-push (λ x. IsWithin (length (hosts_of l.hosts r.target)) x.action) l.routes (route_of l.hosts r) (all_more (length l.hosts) _ (more_hosts l.hosts r.target) l.routes h.hosts) (action_within l.hosts r.target);
  timeouts = All-push (λ x. x.timeout ≤ 3600000) l.routes (route_of l.hosts r) h.timeouts timed;
}

longer_by : (l : RouteList) (r : RouteText) → length (with_route l r).routes ≡ length l.routes + 1
unfolding with_route
longer_by l r = length-append l.routes (route_of l.hosts r ∷ [])

listed_from : (i : ℕ) (before : RouteList) (ds : Items) (l : RouteList) → AreListed before → routes_from i before ds ≡ Ok l → AreListed l × (length l.routes ≡ length before.routes + count_of ds)
unfolding routes_from
listed_from i before no_items l h e =
    let same : before ≡ l = ok_same before l e in
    let P : RouteList → Type 0 = λ x. AreListed x × (length x.routes ≡ length before.routes + 0) in
    subst P same (h, omega arith)
listed_from i before (item d ds) l h e =
    let s = then_ok (route_said i d) (λ r. routes_from (i + 1) (with_route before r) ds) l e in
    let more = listed_from (i + 1) (with_route before s.0) ds l (listed_more before s.0 (route_timed i d s.0 s.1) h) s.2 in
    (more.0, omega (arith, more.1, longer_by before s.0))

record IsFull (l : RouteList) : Type 0 where
  listed : AreListed l
  some : 0 < length l.routes
  few : length l.routes ≤ 1024

full_by : (ds : Items) (b : Bool) (l : RouteList) → (nat_lt 0 (count_of ds) && nat_le (count_of ds) 1024) ≡ b → items_said ds ≡ Ok l → IsFull l
unfolding items_said
full_by ds true l is e =
    let p = and_parts _ _ is in
    let Q : Bool → Type 0 = λ b. (if b then routes_from 0 no_routes ds else fault OutOfRange None) ≡ Ok l in
    let s = listed_from 0 no_routes ds l (record { paired = refl; hosts = All-nil (λ r. IsWithin 0 r.action); timeouts = All-nil (λ r. r.timeout ≤ 3600000) }) (subst Q is e) in
    let least = ltb-true 0 (count_of ds) p.0 in
    let most = leb-true (count_of ds) 1024 p.1 in
    record { listed = s.0; some = omega (arith, s.1); few = omega (arith, s.1) }
full_by ds false l is e =
    let Q : Bool → Type 0 = λ b. (if b then routes_from 0 no_routes ds else fault OutOfRange None) ≡ Ok l in
    let wrong : fault OutOfRange None ≡ Ok l = subst Q is e in cc

full_routes : (d : Data) (l : RouteList) → routes_said d ≡ Ok l → IsFull l
unfolding routes_said
full_routes d l e =
    let s = then_ok (list_said (codes "routes") None d) items_said l e in
    full_by s.0 (nat_lt 0 (count_of s.0) && nat_le (count_of s.0) 1024) l refl s.2

-- what stands at the top has routes, and one worker
record IsGood (t : TopText) : Type 0 where
  routes : IsFull t.routes
  least : 1 ≤ t.workers
  most : t.workers ≤ 64

good_top : (d : Data) (t : TopText) → top_said d ≡ Ok t → IsGood t
unfolding top_said
good_top d t e =
    let a = then_ok (names_said File None d) _ t e in
    let b = then_ok (listen_said d) _ t a.2 in
    let c = then_ok (number_said (codes "workers") workers_bounds None d) _ t b.2 in
    let p = then_ok (pool_said d) _ t c.2 in
    let m = then_ok (number_said (codes "client_ms") client_ms_bounds None d) _ t p.2 in
    let n = then_ok (number_said (codes "grace_ms") grace_ms_bounds None d) _ t m.2 in
    let f = then_ok (number_said (codes "journal") journal_bounds None d) _ t n.2 in
    let g = then_ok (routes_said d) _ t f.2 in
    let same : record { listen = b.0; workers = c.0; pool = p.0; client_ms = m.0; grace_ms = n.0; journal = f.0; routes = g.0 } ≡ t = ok_same _ t g.2 in
    let within = said_within (codes "workers") workers_bounds None d c.0 (omega arith) (omega arith) c.1 in
    subst (λ x. IsGood x) same (record { routes = full_routes d g.0 g.1; least = within.0; most = within.1 })

good_file : (bytes : List ℕ) (t : TopText) → file_said bytes ≡ Ok t → IsGood t
unfolding file_said
good_file bytes t e = let s = then_ok (json_said bytes) top_said t e in good_top s.0 t s.2

numbered : (t : TopText) (table : Table) → IsGood t → IsTableOf t table → AreNumbered table
numbered t table good is =
    let same = is.routes in
    let full = good.routes in
    let R : List Route → Type 0 = λ routes. All (λ r. IsWithin (length table.hosts.items) r.action) routes in
    let H : List Addr → Type 0 = λ hosts. All (λ r. IsWithin (length hosts) r.action) t.routes.routes in
    record {
      some = rw is.routes full.some;
      few = rw is.routes full.few;
      paired = sym (length-map table.mux spelled_of) ∙ ap length is.patterns ∙ full.listed.paired ∙ ap length (sym is.routes);
      hosts = subst R (sym is.routes) (subst H (sym is.hosts) full.listed.hosts);
      timeouts = subst (λ routes. All (λ r. r.timeout ≤ 3600000) routes) (sym is.routes) full.listed.timeouts;
      one = ap (λ l. l.per_pass) is.limits;
      pooled = ap (λ l. l.hosts) is.limits ∙ ap length (sym is.hosts);
    }

pub numbers_of : (bytes : List ℕ) (t : TopText) (refused : RouteError → Type 0) (result : Result Table RouteError) → file_said bytes ≡ Ok t → MatchResult result (IsTableOf t) refused → IfOk result AreNumbered
numbers_of bytes t refused (Ok table) e is = numbered t table (good_file bytes t e) is
numbers_of bytes t refused (Err error) e is = tt

worked : (t : TopText) (table : Table) → IsGood t → IsTableOf t table → HasWorkers table
worked t table good is = record {
  least = rw is.workers good.least;
  most = rw is.workers good.most;
  passes = ap (λ l. l.passes) is.limits ∙ sym is.workers;
}

pub workers_of : (bytes : List ℕ) (t : TopText) (refused : RouteError → Type 0) (result : Result Table RouteError) → file_said bytes ≡ Ok t → MatchResult result (IsTableOf t) refused → IfOk result HasWorkers
workers_of bytes t refused (Ok table) e is = worked t table (good_file bytes t e) is
workers_of bytes t refused (Err error) e is = tt
