-- What a worker's thread leaves, over plain variables.
use Rattle.std.proofs.Common.{ℕ, suc, ◌≡◌, ◌<◌, ◌≤◌, ◌+◌, ◌==◌, Bool, true, false, List, [], ◌∷◌, ◌++◌, length, take, drop, All, Option, Some, None, refl, ap, sym, subst, ◌∙◌, arith, append-nil, inl, inr}
use Rattle.std.specs.Prelude.{if◌then◌else◌}
use Rattle.std.specs.List.{Contains, slice_index_or}
use Rattle.std.proofs.lemmas.Bool.{eqb-true, lt-ltb}
use Rattle.std.proofs.Math.Seq.{take-append_seam}
use Rattle.std.proofs.lemmas.List.Elements.{All-cons, All-head, All-nil, All-tail}
use Rattle.std.proofs.lemmas.List.Sums.{sum_by-cons}
use Rattle.gw_context.specs.declared.parts.Cause.{Cause}
use Rattle.gw_wire.specs.declared.values.Act.{Act}
use Rattle.gw_wire.specs.declared.values.Addr.{Addr}
use Rattle.gw_wire.specs.Acts.{Logs}
use Rattle.gw_wire.specs.Moments.{Rises}
use Rattle.gw_wire.specs.Wire.{HasNoActs, IsFresh, WireView}
use Rattle.gw_wire.specs.World.{IsGiven, WorldView}
use Rattle.gw_wire.proofs.Facts.{rises_from}
use Rattle.gw_pool.specs.declared.entry.Entry.{Entry}
use Rattle.gw_pool.specs.History.{mine}
use Rattle.gw_pool.specs.Moments.{entry_moments}
use Rattle.gw_account.specs.Did.{Wired}
use Rattle.gw_account.specs.Work.{At, Work, at_of}
use Rattle.gw_routes.specs.declared.table.Table.{Table}
use Rattle.gw_turn.specs.Pass.{PassState, fresh_pass}
use Rattle.gw_transport.specs.Watch.{times_found}
use Rattle.gw_session.specs.Seats.{CancelsOnlyBase, IsPast, Notes, Seats}
use Rattle.gw_top.specs.declared.crew.Job.{Job}
use Rattle.gw_top.specs.declared.house.House.{House}
use Rattle.gw_top.specs.declared.house.Place.{Place}
use Rattle.gw_top.specs.declared.worker.Worker.{Worker}
use Rattle.gw_top.specs.Crew.{AllHaveRun, AreJobs, IsDone, IsEnded, IsJob, HasRun, job_of, jobs_of, places_of, seats_at, workers_of}
use Rattle.gw_top.specs.House.{ArePlaces, ctx_rooms, gate_rooms}
use Rattle.gw_top.specs.Run.{IsPaid, LogIs, Part, Works, first_at, own_node}
use Rattle.gw_top.specs.Serving.{AreLater}

-- ---- what was found and cancelled

found_here : (node : ℕ) (f : ℕ × Cause) (l : List (ℕ × Cause)) (b : Bool) → (f.0 == node) ≡ b → 0 < (if b then 1 else 0) + times_found node l
    → (0 < times_found node l → (cause : Cause) × Contains l (node, cause)) → (cause : Cause) × Contains (f ∷ l) (node, cause)
found_here node f l true is some later = (f.1, (0, (omega arith), ap (λ n. (n, f.1)) (eqb-true f.0 node is)))
found_here node f l false is some later = (let k = later (omega (arith, some)) in (k.0, (suc k.1.0, (let lt = k.1.1 in omega arith), k.1.2)))

-- a node that was found is among those found
found_there : (node : ℕ) (l : List (ℕ × Cause)) → 0 < times_found node l → (cause : Cause) × Contains l (node, cause)
found_there node [] some = absurd (omega (arith, some))
found_there node (f ∷ l) some = found_here node f l (f.0 == node) refl some (found_there node l)

abbrev noted_at : Option ℕ → ℕ
noted_at None = 0
noted_at (Some at) = at

-- the time of grace is over only behind a gate that was seen shut since
past_seen : (old new : Seats) (grace since moment : ℕ) → old.shut_at ≡ None → Notes old new since moment → IsPast new grace moment → (new.gate.view.seen_shut ≡ true) × (since + grace < moment)
past_seen old new grace since moment none (inl same) past = absurd (let bad : None ≡ Some past.0 = sym none ∙ sym same ∙ past.1 in cc)
past_seen old new grace since moment none (inr n) past =
    let e : past.0 ≡ n.1.0 = ap noted_at (sym past.1 ∙ n.1.1) in (n.1.4, (let a = n.1.2 in let b = past.2 in omega arith))

nothing_in : (x : ℕ × Cause) → Contains [] x → ⊥
nothing_in x c = (let lt = c.1 in omega (arith, lt))

-- what was cancelled was the base, behind the time of grace
some_past : (old new : Seats) (grace moment : ℕ) (x : ℕ × Cause) → old.words.view.cancels ≡ [] → CancelsOnlyBase old new grace moment → Contains new.words.view.cancels x → IsPast new grace moment
some_past old new grace moment x none b has = elim b.past [
  | inl nil ↦ absurd (nothing_in x (subst (λ (l : List (ℕ × Cause)). Contains l x) (b.cancels ∙ ap (λ l. old.words.view.cancels ++ l) nil ∙ ap (λ l. l ++ []) none) has))
  | inr past ↦ past
]

-- ---- what a wire that was new then tells

-- a log that began without an act
logged : (first last : Option (List Act)) (acts : List Act) → HasNoActs first → Logs first last acts → LogIs last (acts ++ [])
logged first None acts n l = tt
logged None (Some log) acts n l = absurd l
logged (Some before) (Some log) acts n l = l ∙ ap (λ x. x ++ acts) n ∙ sym (append-nil acts)

-- a wire that began with nothing pays what was owed since
paid : (first last : WireView) (w : Work) → IsFresh first → Wired first last w → IsPaid last w.bill
paid first last w fresh wired = record {
  dials = (let x = wired.dials in let z = fresh.dial_faults in omega arith);
  millis = (let x = wired.millis in let z = fresh.moment in let u = wired.later.first in omega arith);
  ticks = (let x = wired.ticks in let z = fresh.ticks in omega arith);
  rests = (let x = wired.rests in let z = fresh.rests in omega arith);
  said = rises_from last.first first.moment last.moment w.bill.said (let z = fresh.moment in let u = wired.later.first in omega arith) wired.said;
}

-- ---- one worker

pub ran_of : {C W : Type 0} (wire : W → WireView) (house : House C) (table : Table) (n : ℕ) (old new : Job W) → old.worker.number ≡ n → IsJob wire house table old → IsDone wire table old new
    → (part : Part) × HasRun wire house table n new part
ran_of wire house table n old new num job done =
    let w = done.worked in
    let first = wire old.worker.wire in
    let last = wire new.worker.wire in
    let work : Work = w.done.work in
    let wired = w.done.doing.wired in
    let pooled = w.done.doing.pooled in
    let pass : old.place.pass ≡ fresh_pass house.pool table.limits old.worker.number = job.stands.pass in
    let limits : old.place.pass.lent.limits ≡ table.limits = ap (λ (p : PassState). p.lent.limits) pass in
    let number : old.place.pass.lent.number ≡ n = ap (λ (p : PassState). p.lent.number) pass ∙ num in
    let none : old.place.pass.lent.seen ≡ [] = ap (λ (p : PassState). p.lent.seen) pass in
    let mine_none : old.place.pass.lent.mine ≡ [] = ap (λ (p : PassState). p.lent.mine) pass in
    let at : at_of first old.place.pass.lent ≡ first_at table n first.groups = λ i. record { limits = limits i; caller = number i; groups = first.groups; history = none i } in
    let does : Works table (own_node n) w.part (first_at table n first.groups) work =
    subst (λ (k : ℕ). Works table (own_node k) w.part (first_at table n first.groups) work) num (subst (λ (a : At). Works table (own_node old.worker.number) w.part a work) at w.done.does) in
    let fresh = job.fresh in
    let unshut : old.place.gate_seat.view.shut ≡ false = ap (λ v. v.shut) job.stands.unshut in
    let unheld : old.place.gate_seat.view.held ≡ false = ap (λ v. v.held) job.stands.unshut in
    let uncancelled : old.place.ctx_seat.view.cancels ≡ [] = ap (λ v. v.cancels) job.stands.live in (
      w.part,
      record {
        work = work;
        worked = record {
          does = subst (λ (g : Addr → List Addr). Works table (own_node n) w.part (first_at table n g) work) (sym wired.later.groups) does;
          log = logged first.log last.log work.acts fresh.log wired.log;
          paid = paid first last work fresh wired;
          timed = subst (λ (k : ℕ). Rises last.first (entry_moments (mine work.made k)) last.moment) number
              (rises_from last.first first.moment last.moment _ (let z = fresh.moment in let u = wired.later.first in omega arith) w.done.doing.timed);
          number = done.number ∙ num;
          counts = w.counts;
          ordered = w.ordered;
          rightly = λ e. (let x = done.failed e in let z = fresh.accept_faults in omega arith);
        };
        limits = pooled.limits ∙ limits;
        number = pooled.number ∙ number;
        seen = pooled.seen ∙ ap (λ (l : List Entry). l ++ work.made) none;
        mine = pooled.mine ∙ ap (λ (l : List Entry). l ++ mine work.made old.place.pass.lent.number) mine_none ∙ ap (λ k. mine work.made k) number;
        out = w.rested.holds.out;
        pool = done.pool ∙ ap (λ (p : PassState). p.pool) pass;
        joined = done.joined ∙ ap (λ (p : PassState). p.joined) pass;
        past = done.past ∙ ap (λ (p : PassState). p.past) pass;
        gate = ap (λ x. x.gate) w.seats.name ∙ job.stands.gate;
        outside = w.held ∙ unheld;
        shut = λ e. elim (w.seats.shut e) [ inl before ↦ absurd (let bad : true ≡ false = sym before ∙ unshut in cc) | inr stop ↦ stop ];
        seen_shut = w.seen;
        words = w.seats.table ∙ job.stands.words;
        cancels = λ x has.
            let past = some_past (seats_at old.place None) (seats_at new.place done.shut_at) table.grace_ms last.moment x uncancelled w.seats.base has in
            let p = past_seen (seats_at old.place None) (seats_at new.place done.shut_at) table.grace_ms first.moment last.moment refl w.seats.noted past in
            (lt-ltb (last.first + table.grace_ms) last.moment (let l = p.1 in let z = fresh.moment in let u = wired.later.first in omega arith), p.0);
        cancelled = λ e.
            let found = found_there (own_node old.worker.number) new.place.ctx_seat.view.ended (let r = w.cancelled e in omega (arith, r)) in
            (found.0, subst (λ (k : ℕ). Contains new.place.ctx_seat.view.ended (own_node k, found.0)) num found.1);
      },
    )

-- ---- all workers

-- of two lists of the same length, what holds of those at each place holds of the others too
pub rest_done : {W : Type 0} (wire : W → WireView) (table : Table) (x y : Job W) (xs ys : List (Job W))
    → ((i : ℕ) (d : Job W) → i < length (x ∷ xs) → IsDone wire table (slice_index_or (x ∷ xs) i d) (slice_index_or (y ∷ ys) i d))
    → (i : ℕ) (d : Job W) → i < length xs → IsDone wire table (slice_index_or xs i d) (slice_index_or ys i d)
rest_done wire table x y xs ys each i d lt = each (suc i) d (omega arith)

pub all_ran : {C W : Type 0} (wire : W → WireView) (house : House C) (table : Table) (n : ℕ) (olds news : List (Job W)) → AreJobs wire house table n olds → length news ≡ length olds
    → ((i : ℕ) (d : Job W) → i < length olds → IsDone wire table (slice_index_or olds i d) (slice_index_or news i d)) → (parts : List Part) × AllHaveRun wire house table n news parts
all_ran wire house table n [] [] jobs count each = ([], tt)
all_ran wire house table n [] (y ∷ ys) jobs count each = absurd (omega (arith, count))
all_ran wire house table n (x ∷ xs) [] jobs count each = absurd (omega (arith, count))
all_ran wire house table n (x ∷ xs) (y ∷ ys) jobs count each =
    let one = ran_of wire house table n x y jobs.0 jobs.1 (each 0 x (omega arith)) in
    let rest = all_ran wire house table (suc n) xs ys jobs.2 (omega (arith, count)) (rest_done wire table x y xs ys each) in
    (one.0 ∷ rest.0, (one.1, rest.1))

-- each wire went on
pub all_later : {W : Type 0} (wire : W → WireView) (table : Table) (olds news : List (Job W)) → length news ≡ length olds
    → ((i : ℕ) (d : Job W) → i < length olds → IsDone wire table (slice_index_or olds i d) (slice_index_or news i d)) → AreLater wire (workers_of olds) (workers_of news)
all_later wire table [] [] count each = tt
all_later wire table [] (y ∷ ys) count each = absurd (omega (arith, count))
all_later wire table (x ∷ xs) [] count each = absurd (omega (arith, count))
all_later wire table (x ∷ xs) (y ∷ ys) count each =
    ((each 0 x (omega arith)).worked.done.doing.wired.later, all_later wire table xs ys (omega (arith, count)) (rest_done wire table x y xs ys each))

-- the seats go on standing for as many
pub gates_kept : {W : Type 0} (wire : W → WireView) (table : Table) (olds news : List (Job W)) → length news ≡ length olds
    → ((i : ℕ) (d : Job W) → i < length olds → IsDone wire table (slice_index_or olds i d) (slice_index_or news i d)) → gate_rooms (places_of news) ≡ gate_rooms (places_of olds)
gates_kept wire table [] [] count each = refl
gates_kept wire table [] (y ∷ ys) count each = absurd (omega (arith, count))
gates_kept wire table (x ∷ xs) [] count each = absurd (omega (arith, count))
gates_kept wire table (x ∷ xs) (y ∷ ys) count each =
    let one = (each 0 x (omega arith)).worked.seats.room in
    let rest = gates_kept wire table xs ys (omega (arith, count)) (rest_done wire table x y xs ys each) in
    sum_by-cons (λ (p : Place). p.gate_seat.view.room) y.place (places_of ys) ∙ (omega arith) ∙ sym (sum_by-cons (λ (p : Place). p.gate_seat.view.room) x.place (places_of xs))

pub words_kept : {W : Type 0} (wire : W → WireView) (table : Table) (olds news : List (Job W)) → length news ≡ length olds
    → ((i : ℕ) (d : Job W) → i < length olds → IsDone wire table (slice_index_or olds i d) (slice_index_or news i d)) → ctx_rooms (places_of news) ≡ ctx_rooms (places_of olds)
words_kept wire table [] [] count each = refl
words_kept wire table [] (y ∷ ys) count each = absurd (omega (arith, count))
words_kept wire table (x ∷ xs) [] count each = absurd (omega (arith, count))
words_kept wire table (x ∷ xs) (y ∷ ys) count each =
    let one = (each 0 x (omega arith)).worked.seats.places in
    let rest = words_kept wire table xs ys (omega (arith, count)) (rest_done wire table x y xs ys each) in
    sum_by-cons (λ (p : Place). p.ctx_seat.view.room) y.place (places_of ys) ∙ (omega arith) ∙ sym (sum_by-cons (λ (p : Place). p.ctx_seat.view.room) x.place (places_of xs))

-- ---- before they begin

pub are_jobs : {C W : Type 0} (wire : W → WireView) (house : House C) (table : Table) (n : ℕ) (places : List Place) (wires : List W) → ArePlaces house table.limits n places
    → length wires ≡ length places → n + length places ≤ 64 → All (λ w. IsFresh (wire w)) wires → AreJobs wire house table n (jobs_of n places wires)
are_jobs wire house table n [] wires all count few fresh = tt
are_jobs wire house table n (p ∷ ps) [] all count few fresh = absurd (omega (arith, count))
are_jobs {W = W} wire house table n (p ∷ ps) (w ∷ ws) all count few fresh = (
  refl,
  record { fresh = All-head (λ (v : W). IsFresh (wire v)) w ws fresh; entered = refl; unkept = refl; failed = refl; few = omega (arith, few); stands = all.0 },
  are_jobs wire house table (suc n) ps ws all.1 (omega (arith, count)) (omega (arith, few)) (All-tail (λ (v : W). IsFresh (wire v)) w ws fresh),
)

pub same_places : {W : Type 0} (n : ℕ) (places : List Place) (wires : List W) → length wires ≡ length places → places_of (jobs_of n places wires) ≡ places
same_places n [] wires count = refl
same_places n (p ∷ ps) [] count = absurd (omega (arith, count))
same_places n (p ∷ ps) (w ∷ ws) count = ap (λ l. p ∷ l) (same_places (suc n) ps ws (omega (arith, count)))

pub same_count : {W : Type 0} (n : ℕ) (places : List Place) (wires : List W) → length wires ≡ length places → length (jobs_of n places wires) ≡ length places
same_count n [] wires count = refl
same_count n (p ∷ ps) [] count = absurd (omega (arith, count))
same_count n (p ∷ ps) (w ∷ ws) count = let e = same_count (suc n) ps ws (omega (arith, count)) in omega arith

-- each worker has the wire beside its place
pub same_wires : {W : Type 0} (P : W → Type 0) (n : ℕ) (places : List Place) (wires : List W) → All P wires → All (λ (w : Worker W). P w.wire) (workers_of (jobs_of n places wires))
same_wires {W} P n [] wires all = All-nil (λ (w : Worker W). P w.wire)
same_wires {W} P n (p ∷ ps) [] all = All-nil (λ (w : Worker W). P w.wire)
same_wires {W} P n (p ∷ ps) (w ∷ ws) all =
    All-cons (λ (v : Worker W). P v.wire) (job_of n p w).worker (workers_of (jobs_of (suc n) ps ws)) (All-head P w ws all) (same_wires P (suc n) ps ws (All-tail P w ws all))

-- of the wires that a world gave
pub given_fresh : {W : Type 0} (world : WorldView) (wire : W → WireView) (wires : List W) → All (λ w. IsGiven world (wire w)) wires → All (λ w. IsFresh (wire w)) wires
given_fresh {W} world wire [] all = All-nil (λ (w : W). IsFresh (wire w))
given_fresh {W} world wire (w ∷ ws) all =
    All-cons (λ (v : W). IsFresh (wire v)) w ws (All-head (λ (v : W). IsGiven world (wire v)) w ws all).fresh (given_fresh world wire ws (All-tail (λ (v : W). IsGiven world (wire v)) w ws all))

pub given_groups : {W : Type 0} (world : WorldView) (wire : W → WireView) (wires : List W) → All (λ w. IsGiven world (wire w)) wires
    → All (λ w. (address : Addr) → (wire w).groups address ≡ world.groups address) wires
given_groups {W} world wire [] all = All-nil (λ (w : W). (address : Addr) → (wire w).groups address ≡ world.groups address)
given_groups {W} world wire (w ∷ ws) all =
    All-cons (λ (v : W). (address : Addr) → (wire v).groups address ≡ world.groups address) w ws (All-head (λ (v : W). IsGiven world (wire v)) w ws all).groups
    (given_groups world wire ws (All-tail (λ (v : W). IsGiven world (wire v)) w ws all))

-- each job is one
pub each_job : {C W : Type 0} (wire : W → WireView) (house : House C) (table : Table) (n : ℕ) (jobs : List (Job W)) → AreJobs wire house table n jobs → All (IsJob wire house table) jobs
each_job {C} {W} wire house table n [] all = All-nil (λ (j : Job W). IsJob wire house table j)
each_job {C} {W} wire house table n (j ∷ js) all = All-cons (λ (k : Job W). IsJob wire house table k) j js all.1 (each_job wire house table (suc n) js all.2)

-- what a vector has where a slice of all of it was written
pub written_back : {A : Type 0} (n : ℕ) (old new : List A) → n ≡ length new → take n (new ++ drop (length new) old) ≡ new
written_back n old new e = ap (λ k. take k (new ++ drop (length new) old)) e ∙ take-append_seam new (drop (length new) old)

-- all threads ended: `now` is what they had before, and `all` what they have behind it
pub ended : {C W : Type 0} (wire : W → WireView) (house : House C) (table : Table) (jobs now news all : List (Job W)) → now ≡ jobs → all ≡ news → AreJobs wire house table 0 jobs → length news ≡ length now
    → ((i : ℕ) (d : Job W) → i < length now → IsDone wire table (slice_index_or now i d) (slice_index_or news i d))
    → gate_rooms (places_of jobs) ≡ 64 → ctx_rooms (places_of jobs) ≡ 64 → (length jobs ≡ table.limits.passes) × (0 < length jobs) → IsEnded wire house table all
ended {W = W} wire house table jobs now news all same_jobs same_all are count each gates words passes =
    let counted : length news ≡ length jobs = count ∙ ap (λ (l : List (Job W)). length l) same_jobs in
    let done : (i : ℕ) (d : Job W) → i < length jobs → IsDone wire table (slice_index_or jobs i d) (slice_index_or news i d) =
    subst (λ (l : List (Job W)). (i : ℕ) (d : Job W) → i < length l → IsDone wire table (slice_index_or l i d) (slice_index_or news i d)) same_jobs each in
    let ran = all_ran wire house table 0 jobs news are counted done in
    subst (λ (l : List (Job W)). IsEnded wire house table l) (sym same_all) (record {
      parts = ran.0;
      each = ran.1;
      gates = gates_kept wire table jobs news counted done ∙ gates;
      words = words_kept wire table jobs news counted done ∙ words;
      some = (let k = passes.1 in omega (arith, counted));
      passes = sym passes.0 ∙ sym counted;
    })

pub laters : {W : Type 0} (wire : W → WireView) (table : Table) (jobs now news all : List (Job W)) → now ≡ jobs → all ≡ news → length news ≡ length now
    → ((i : ℕ) (d : Job W) → i < length now → IsDone wire table (slice_index_or now i d) (slice_index_or news i d)) → AreLater wire (workers_of jobs) (workers_of all)
laters {W} wire table jobs now news all same_jobs same_all count each =
    subst (λ (l : List (Job W)). AreLater wire (workers_of jobs) (workers_of l)) (sym same_all)
    (subst (λ (l : List (Job W)). AreLater wire (workers_of l) (workers_of news)) same_jobs (all_later wire table now news count each))

pub count_workers : {W : Type 0} (jobs : List (Job W)) → length (workers_of jobs) ≡ length jobs
count_workers [] = refl
count_workers (j ∷ js) = let e = count_workers js in omega arith

pub groups_of : {W : Type 0} (world : WorldView) (wire : W → WireView) (places : List Place) (wires : List W) (jobs : List (Job W)) → jobs ≡ jobs_of 0 places wires → All (λ w. IsGiven world (wire w)) wires
    → All (λ (w : Worker W). (address : Addr) → (wire w.wire).groups address ≡ world.groups address) (workers_of jobs)
groups_of {W} world wire places wires jobs same given =
    subst (λ (l : List (Job W)). All (λ (w : Worker W). (address : Addr) → (wire w.wire).groups address ≡ world.groups address) (workers_of l)) (sym same)
    (same_wires (λ (w : W). (address : Addr) → (wire w).groups address ≡ world.groups address) 0 places wires (given_groups world wire wires given))
