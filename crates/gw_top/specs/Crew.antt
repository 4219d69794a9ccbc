-- The workers of a run, each in a thread of its own.
use Rattle.std.specs.Prelude.{ℕ, suc, length, ◌≡◌, ◌<◌, true, false, List, [], ◌∷◌, Option, None, map}
use Rattle.std.specs.List.{Contains}
use Rattle.gw_context.specs.declared.parts.Cause.{Cause}
use Rattle.gw_ctxwords.specs.Rule.{most_seats as most_ctx_seats}
use Rattle.gw_gate.specs.Gate.{most_seats as most_gate_seats}
use Rattle.gw_wire.specs.Causes.{Rose}
use Rattle.gw_wire.specs.Wire.{WireView, IsFresh}
use Rattle.gw_pool.specs.History.{mine}
use Rattle.gw_account.specs.Did.{span}
use Rattle.gw_account.specs.Work.{Work}
use Rattle.gw_routes.specs.declared.table.Table.{Table}
use Rattle.gw_session.specs.Seats.{Seats, seats}
use Rattle.gw_top.specs.declared.crew.Job.{Job}
use Rattle.gw_top.specs.declared.house.House.{House}
use Rattle.gw_top.specs.declared.house.Place.{Place}
use Rattle.gw_top.specs.declared.worker.Worker.{Worker}
use Rattle.gw_top.specs.House.{IsPlace, ctx_rooms, gate_rooms}
use Rattle.gw_top.specs.Run.{Part, Worked, WorkedAs, has_cancelled, has_stop, is_past, needs_stop, own_node}

-- a worker that has done nothing, at its place
pub record IsAt {C W : Type 0} (wire : W → WireView) (house : House C) (table : Table) (worker : Worker W) (place : Place) : Type 0 where
  pub fresh : IsFresh (wire worker.wire)
  pub entered : worker.entered ≡ 0
  pub unkept : worker.unkept ≡ 0
  pub failed : worker.accept_failed ≡ false
  pub few : worker.number < 64
  pub stands : IsPlace house table.limits worker.number place

abbrev pub IsJob : {C W : Type 0} → (W → WireView) → House C → Table → Job W → Type 0
IsJob wire house table job = IsAt wire house table job.worker job.place

-- workers numbered from n on, that have done nothing
abbrev pub AreJobs : {C W : Type 0} → (W → WireView) → House C → Table → ℕ → List (Job W) → Type 0
AreJobs wire house table n [] = Unit {0}
AreJobs wire house table n (job ∷ jobs) = (job.worker.number ≡ n) × IsJob wire house table job × AreJobs wire house table (suc n) jobs

-- for each place, and the wire beside it, a worker that has done nothing; they are numbered from n on
abbrev pub job_of : {W : Type 0} → ℕ → Place → W → Job W
job_of n place wire = record { worker = record { number = n; wire = wire; entered = 0; unkept = 0; accept_failed = false }; place = place }

abbrev pub jobs_of : {W : Type 0} → ℕ → List Place → List W → List (Job W)
jobs_of n [] wires = []
jobs_of n (place ∷ places) [] = []
jobs_of n (place ∷ places) (wire ∷ wires) = job_of n place wire ∷ jobs_of (suc n) places wires

abbrev pub workers_of : {W : Type 0} → List (Job W) → List (Worker W)
workers_of jobs = map (λ job. job.worker) jobs

abbrev pub places_of : {W : Type 0} → List (Job W) → List Place
places_of jobs = map (λ job. job.place) jobs

-- the seats of a place, by which the gate was first seen shut at this moment
abbrev pub seats_at : Place → Option ℕ → Seats
seats_at place shut_at = seats place.gate_seat place.ctx_seat shut_at

-- a worker served clients until its end, and its pass and its seats are those that it had
pub record IsWorked {W : Type 0} (wire : W → WireView) (table : Table) (old new : Worker W) (before after : Place) : Type 0 where
  pub shut_at : Option ℕ
  pub worked : Worked (span (wire old.wire) (wire new.wire) before.pass.lent after.pass.lent) (seats_at before None) (seats_at after shut_at) table (own_node old.number) new
  pub number : new.number ≡ old.number
  pub failed : new.accept_failed ≡ true → Rose (wire old.wire).accept_faults (wire new.wire).accept_faults
  pub pool : after.pass.pool ≡ before.pass.pool
  pub joined : after.pass.joined ≡ before.pass.joined
  pub past : after.pass.past ≡ before.pass.past

abbrev pub IsDone : {W : Type 0} → (W → WireView) → Table → Job W → Job W → Type 0
IsDone wire table old new = IsWorked wire table old.worker new.worker old.place new.place

-- Worker n that ended, whose part is this: what it did, and what its pass and its seats know of it. It shut the gate only
-- for a stop, and cancelled only behind the time of grace after the gate was seen shut.
pub record HasRun {C W : Type 0} (wire : W → WireView) (house : House C) (table : Table) (n : ℕ) (job : Job W) (part : Part) : Type 0 where
  pub work : Work
  pub worked : WorkedAs wire table [] n job.worker part work
  pub limits : job.place.pass.lent.limits ≡ table.limits
  pub number : job.place.pass.lent.number ≡ n
  pub seen : job.place.pass.lent.seen ≡ work.made
  pub mine : job.place.pass.lent.mine ≡ mine work.made n
  pub out : job.place.pass.lent.out ≡ []
  pub pool : job.place.pass.pool ≡ house.pool
  pub joined : job.place.pass.joined ≡ []
  pub past : job.place.pass.past ≡ []
  pub gate : job.place.gate_seat.name.gate ≡ house.gate
  pub outside : job.place.gate_seat.view.held ≡ false
  pub shut : job.place.gate_seat.view.shut ≡ true → has_stop part ≡ true
  pub seen_shut : needs_stop part ≡ true → job.place.gate_seat.view.seen_shut ≡ true
  pub words : job.place.ctx_seat.table ≡ house.ctx.id
  pub cancels : (x : ℕ × Cause) → Contains job.place.ctx_seat.view.cancels x
      → (is_past wire table.grace_ms job.worker ≡ true) × (job.place.gate_seat.view.seen_shut ≡ true)
  pub cancelled : has_cancelled part ≡ true → (cause : Cause) × Contains job.place.ctx_seat.view.ended (own_node n, cause)

abbrev pub AllHaveRun : {C W : Type 0} → (W → WireView) → House C → Table → ℕ → List (Job W) → List Part → Type 0
AllHaveRun wire house table n [] [] = Unit {0}
AllHaveRun wire house table n (job ∷ jobs) [] = ⊥
AllHaveRun wire house table n [] (part ∷ parts) = ⊥
AllHaveRun wire house table n (job ∷ jobs) (part ∷ parts) = HasRun wire house table n job part × AllHaveRun wire house table (suc n) jobs parts

-- all workers of a house ended, which has all seats of the gate and of the contexts, and a pass for each worker
pub record IsEnded {C W : Type 0} (wire : W → WireView) (house : House C) (table : Table) (jobs : List (Job W)) : Type 0 where
  pub parts : List Part
  pub each : AllHaveRun wire house table 0 jobs parts
  pub gates : gate_rooms (places_of jobs) ≡ most_gate_seats
  pub words : ctx_rooms (places_of jobs) ≡ most_ctx_seats
  pub some : 0 < length jobs
  pub passes : table.limits.passes ≡ length jobs
