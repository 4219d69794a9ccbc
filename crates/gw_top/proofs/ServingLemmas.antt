-- The run that is left when worker 0 closed what was idle, over plain variables.
use Rattle.std.proofs.Common.{ℕ, suc, ◌≡◌, ◌+◌, ◌||◌, Bool, true, false, List, [], ◌∷◌, ◌++◌, length, map, All, Option, Some, None, refl, ap, sym, subst, ◌∙◌, arith, append-nil, inl, inr}
use Rattle.std.specs.List.{list_any}
use Rattle.std.proofs.lemmas.Bool.{lt-ltb, ltb-true}
use Rattle.std.proofs.lemmas.List.Elements.{All-cons, All-head, All-nil, All-tail}
use Rattle.gw_wire.specs.declared.values.Act.{Act}
use Rattle.gw_wire.specs.declared.values.Act.TheVariants.{Closed}
use Rattle.gw_wire.specs.declared.values.Addr.{Addr}
use Rattle.gw_wire.specs.Link.{LinkView}
use Rattle.gw_wire.specs.Stretch.{Told, Acts}
use Rattle.gw_wire.specs.Wire.{Later, WireView}
use Rattle.gw_wire.proofs.Facts.{later_same, later_then, rises_from, rises_to}
use Rattle.gw_pool.specs.declared.entry.Entry.{Entry}
use Rattle.gw_pool.specs.Idle.{idle_links}
use Rattle.gw_account.specs.Work.{Bill}
use Rattle.gw_routes.specs.declared.table.Table.{Table}
use Rattle.gw_session.proofs.Facts.{either_which}
use Rattle.gw_top.specs.declared.closing.Left.{Left}
use Rattle.gw_top.specs.declared.crew.Job.{Job}
use Rattle.gw_top.specs.declared.run.Served.{Served}
use Rattle.gw_top.specs.declared.worker.Worker.{Worker}
use Rattle.gw_top.specs.Closing.{IsLeft, no_tail}
use Rattle.gw_top.specs.Crew.{workers_of}
use Rattle.gw_top.specs.Run.{AllRun, IsPaid, LogIs, Part, RunsAs, StopsRightly, Works, closes_of, first_at, is_past, own_node}
use Rattle.gw_top.specs.Serving.{AreLater, ClosesIdle, IsServed}

map_map : {A B C : Type 0} (f : B → C) (g : A → B) (l : List A) → map (λ x. f (g x)) l ≡ map f (map g l)
map_map f g [] = refl
map_map f g (x ∷ xs) = ap (λ l. f (g x) ∷ l) (map_map f g xs)

-- ---- worker 0 closes

paid_on : (old new : WireView) (bill : Bill) → IsPaid old bill → Later old new → IsPaid new bill
paid_on old new bill p l = record {
  dials = (let x = p.dials in let y = l.dial_faults in omega arith);
  millis = (let x = p.millis in let y = l.moment in let z = l.first in omega arith);
  ticks = (let x = p.ticks in let y = l.ticks in omega arith);
  rests = (let x = p.rests in let y = l.rests in omega arith);
  said = rises_from new.first old.first new.moment bill.said (let z = l.first in omega arith) (rises_to old.first old.moment new.moment bill.said p.said l.moment);
}

log_on : (old new : Option (List Act)) (acts closes : List Act) → LogIs old (acts ++ []) → Told old new (Acts closes) → LogIs new (acts ++ closes)
log_on old None acts closes l t = tt
log_on None (Some new) acts closes l t = absurd t.1
log_on (Some old) (Some new) acts closes l t = t.1 ∙ ap (λ x. x ++ t.0) (l ∙ append-nil acts) ∙ ap (λ x. acts ++ x) t.2

first_runs : {W : Type 0} (wire : W → WireView) (table : Table) (journal : List Entry) (closes : List Act) (first : Worker W) (last : W) (part : Part)
    → RunsAs wire table journal [] 0 first part → Later (wire first.wire) (wire last) → Told (wire first.wire).log (wire last).log (Acts closes)
    → RunsAs wire table journal closes 0 (record first { wire = last }) part
first_runs wire table journal closes first last part r later told =
    let old = wire first.wire in
    let new = wire last in
    let w = r.worked in
    record {
      work = r.work;
      worked = record {
        does = subst (λ (g : Addr → List Addr). Works table (own_node 0) part (first_at table 0 g) r.work) (sym later.groups) w.does;
        log = log_on old.log new.log r.work.acts closes w.log told;
        paid = paid_on old new r.work.bill w.paid later;
        timed = rises_from new.first old.first new.moment _ (let z = later.first in omega arith) (rises_to old.first old.moment new.moment _ w.timed later.moment);
        number = w.number;
        counts = record { entered = w.counts.entered; unkept = w.counts.unkept; failed = w.counts.failed };
        ordered = w.ordered;
        rightly = λ e. (let x = w.rightly e in let y = later.accept_faults in omega arith);
      };
      begins = r.begins;
      own = r.own;
    }

-- others close nothing
others_run : {W : Type 0} (wire : W → WireView) (table : Table) (journal : List Entry) (n : ℕ) (workers : List (Worker W)) (parts : List Part)
    → AllRun wire table journal no_tail (suc n) workers parts → AllRun wire table journal (closes_of table.limits journal) (suc n) workers parts
others_run wire table journal n [] [] r = tt
others_run wire table journal n (w ∷ ws) [] r = absurd r
others_run wire table journal n [] (p ∷ ps) r = absurd r
others_run wire table journal n (w ∷ ws) (p ∷ ps) r = (r.0, others_run wire table journal (suc n) ws ps r.1)

past_on : {W : Type 0} (wire : W → WireView) (grace : ℕ) (first : Worker W) (last : W) → Later (wire first.wire) (wire last) → is_past wire grace first ≡ true → is_past wire grace (record first { wire = last }) ≡ true
past_on wire grace first last later e =
    let lt = ltb-true ((wire first.wire).first + grace) (wire first.wire).moment e in
    lt-ltb ((wire last).first + grace) (wire last).moment (let z = later.first in let m = later.moment in omega arith)

right_true : (a b : Bool) → b ≡ true → (a || b) ≡ true
right_true true b e = refl
right_true false b e = e

either_on : (a b c : Bool) → (a ≡ true → c ≡ true) → (a || b) ≡ true → (c || b) ≡ true
either_on a b c f e = elim (either_which a b e) [ inl l ↦ ap (λ x. x || b) (f l) | inr r ↦ right_true c b r ]

all_same : {W : Type 0} (wire : W → WireView) (workers : List (Worker W)) → AreLater wire workers workers
all_same wire [] = tt
all_same wire (w ∷ ws) = (later_same (wire w.wire), all_same wire ws)

all_then : {W : Type 0} (wire : W → WireView) (a b c : List (Worker W)) → AreLater wire a b → AreLater wire b c → AreLater wire a c
all_then wire [] [] c p q = q
all_then wire [] (y ∷ ys) c p q = absurd p
all_then wire (x ∷ xs) [] c p q = absurd p
all_then wire (x ∷ xs) (y ∷ ys) [] p q = absurd q
all_then wire (x ∷ xs) (y ∷ ys) (z ∷ zs) p q = (later_then (wire x.wire) (wire y.wire) (wire z.wire) p.0 q.0, all_then wire xs ys zs p.1 q.1)

-- the run behind the closes
closed_run : {C W : Type 0} (wire : W → WireView) (link : C → LinkView) (table : Table) (journal : List Entry) (before workers : List (Worker W)) (parts : List Part) (idle : List C) (new : List (Worker W))
    → AllRun wire table journal no_tail 0 workers parts → StopsRightly wire table.grace_ms workers parts → AreLater wire before workers
    → map (λ conn. (link conn).number) idle ≡ idle_links table.limits journal → ClosesIdle wire link workers idle new
    → AllRun wire table journal (closes_of table.limits journal) 0 new parts × StopsRightly wire table.grace_ms new parts × AreLater wire before new
closed_run wire link table journal before [] [] idle new r stops later links c =
    (subst (λ l. AllRun wire table journal (closes_of table.limits journal) 0 l []) (sym c) tt, subst (λ l. StopsRightly wire table.grace_ms l []) (sym c) stops, subst (λ l. AreLater wire before l) (sym c) later)
closed_run wire link table journal before [] (p ∷ ps) idle new r stops later links c = absurd r
closed_run wire link table journal before (w ∷ ws) [] idle new r stops later links c = absurd r
closed_run {C} {W} wire link table journal before (first ∷ others) (p ∷ ps) idle new r stops later links c =
    let last : W = c.0 in
    let closes : map (λ conn. Closed (link conn).number) idle ≡ map Closed (idle_links table.limits journal) = map_map Closed (λ conn. (link conn).number) idle ∙ ap (λ l. map Closed l) links in
    let told : Told (wire first.wire).log (wire last).log (Acts (map Closed (idle_links table.limits journal))) = subst (λ (l : List Act). Told (wire first.wire).log (wire last).log (Acts l)) closes c.3 in
    let mid : List (Worker W) = record first { wire = last } ∷ others in
    let one : AllRun wire table journal (closes_of table.limits journal) 0 mid (p ∷ ps) =
    (first_runs wire table journal (map Closed (idle_links table.limits journal)) first last p r.0 c.2 told, others_run wire table journal 0 others ps r.1) in
    let two : StopsRightly wire table.grace_ms mid (p ∷ ps) = record {
      stopped = stops.stopped;
      cancelled = λ e. ((stops.cancelled e).0, either_on (is_past wire table.grace_ms first) (list_any (is_past wire table.grace_ms) others) (is_past wire table.grace_ms (record first { wire = last })) (past_on wire table.grace_ms first last c.2) (stops.cancelled e).1);
    } in
    let three : AreLater wire before mid = all_then wire before (first ∷ others) mid later (c.2, all_same wire others) in
    (subst (λ (l : List (Worker W)). AllRun wire table journal (closes_of table.limits journal) 0 l (p ∷ ps)) (sym c.1) one, subst (λ (l : List (Worker W)). StopsRightly wire table.grace_ms l (p ∷ ps)) (sym c.1) two, subst (λ (l : List (Worker W)). AreLater wire before l) (sym c.1) three)

pub served_of : {C W : Type 0} (wire : W → WireView) (link : C → LinkView) (table : Table) (before : List (Worker W)) (jobs : List (Job W)) (left : Left W C) (idle : List C) (served : Served W)
    → IsLeft wire link table jobs left → AreLater wire before (workers_of jobs) → idle ≡ left.idle.items → served.journal ≡ left.journal → ClosesIdle wire link left.workers.items idle served.workers.items
    → IsServed wire table before served
served_of {C} {W} wire link table before jobs left idle served is later idle_is journal_is closes =
    let all : AreLater wire before left.workers.items = subst (λ (l : List (Worker W)). AreLater wire before l) (sym is.workers) later in
    let r = closed_run wire link table left.journal.items before left.workers.items is.parts idle served.workers.items is.each is.stops all (ap (λ l. map (λ conn. (link conn).number) l) idle_is ∙ is.idle) closes in
    record {
      parts = is.parts;
      legal = rw journal_is is.legal;
      callers = rw journal_is is.callers;
      each = rw journal_is r.0;
      stops = r.1;
      later = r.2;
    }

-- ---- what a later wire keeps

each_later : {W : Type 0} (wire : W → WireView) (P : Worker W → Type 0) → ((x y : Worker W) → Later (wire x.wire) (wire y.wire) → P x → P y) → (olds news : List (Worker W)) → AreLater wire olds news → All P olds → All P news
each_later wire P f [] [] l all = All-nil P
each_later wire P f [] (y ∷ ys) l all = absurd l
each_later wire P f (x ∷ xs) [] l all = absurd l
each_later wire P f (x ∷ xs) (y ∷ ys) l all = All-cons P y ys (f x y l.0 (All-head P x xs all)) (each_later wire P f xs ys l.1 (All-tail P x xs all))

pub later_groups : {W : Type 0} (wire : W → WireView) (groups : Addr → List Addr) (olds news : List (Worker W)) → AreLater wire olds news
    → All (λ (w : Worker W). (address : Addr) → (wire w.wire).groups address ≡ groups address) olds → All (λ (w : Worker W). (address : Addr) → (wire w.wire).groups address ≡ groups address) news
later_groups {W} wire groups olds news l all =
    let P : Worker W → Type 0 = λ w. (address : Addr) → (wire w.wire).groups address ≡ groups address in
    each_later wire P (λ x y e p address. ap (λ (g : Addr → List Addr). g address) e.groups ∙ p address) olds news l all

pub later_count : {W : Type 0} (wire : W → WireView) (olds news : List (Worker W)) → AreLater wire olds news → length news ≡ length olds
later_count wire [] [] l = refl
later_count wire [] (y ∷ ys) l = absurd l
later_count wire (x ∷ xs) [] l = absurd l
later_count wire (x ∷ xs) (y ∷ ys) l = let e = later_count wire xs ys l.1 in omega arith
