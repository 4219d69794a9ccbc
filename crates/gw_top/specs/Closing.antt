-- What is left of a house that was closed behind its workers.
use Rattle.std.specs.Prelude.{ℕ, ◌≡◌, false, List, [], map}
use Rattle.std.specs.List.{fold}
use Rattle.gw_wire.specs.Link.{LinkView}
use Rattle.gw_wire.specs.Wire.{WireView}
use Rattle.gw_ctxwords.specs.Calls as words
use Rattle.gw_ctxwords.specs.Steps as words_steps
use Rattle.gw_gate.specs.Seat as gate
use Rattle.gw_gate.specs.Steps as gate_steps
use Rattle.gw_pool.specs.History.{IsLegal, AreBelow}
use Rattle.gw_pool.specs.Idle.{idle_links}
use Rattle.gw_turn.specs.Pass.{PassState, with_pass}
use Rattle.gw_wire.specs.declared.values.Act.{Act}
use Rattle.gw_routes.specs.declared.table.Table.{Table}
use Rattle.gw_top.specs.declared.crew.Job.{Job}
use Rattle.gw_top.specs.declared.house.House.{House}
use Rattle.gw_top.specs.declared.closing.Left.{Left}
use Rattle.gw_top.specs.Crew.{workers_of}
use Rattle.gw_top.specs.Run.{AllRun, Part, StopsRightly}

-- ---- the joins

-- a worker's pass and seats are those of a house, and it isn't inside its gate
pub record IsBack {C W : Type 0} (house : House C) (job : Job W) : Type 0 where
  pub pool : job.place.pass.pool ≡ house.pool
  pub gate : job.place.gate_seat.name.gate ≡ house.gate
  pub outside : job.place.gate_seat.view.held ≡ false
  pub words : job.place.ctx_seat.table ≡ house.ctx.id

-- a pass, or a seat, into which that of a worker was joined
abbrev pub pass_with : {W : Type 0} → PassState → Job W → PassState
pass_with p job = with_pass p job.place.pass

abbrev pub gate_with : {W : Type 0} → gate.SeatState → Job W → gate.SeatState
gate_with seat job = gate.with_view seat (gate_steps.joined seat.view job.place.gate_seat.view)

abbrev pub ctx_with : {W : Type 0} → words.SeatState → Job W → words.SeatState
ctx_with seat job = words.with_view seat (words_steps.joined seat.view job.place.ctx_seat.view)

-- those of all these workers, one after another
abbrev pub passes_of : {W : Type 0} → PassState → List (Job W) → PassState
passes_of first jobs = fold pass_with first jobs

abbrev pub gates_of : {W : Type 0} → gate.SeatState → List (Job W) → gate.SeatState
gates_of first jobs = fold gate_with first jobs

abbrev pub ctxs_of : {W : Type 0} → words.SeatState → List (Job W) → words.SeatState
ctxs_of first jobs = fold ctx_with first jobs

-- ---- what is left

-- no worker closes anything any more
abbrev pub no_tail : ℕ → List Act
no_tail n = []

-- The pool was closed behind all workers: its journal is that of the run that they made, and its idle connections are
-- those of the journal's end.
pub record IsLeft {C W : Type 0} (wire : W → WireView) (link : C → LinkView) (table : Table) (jobs : List (Job W)) (left : Left W C) : Type 0 where
  pub parts : List Part
  pub workers : left.workers.items ≡ workers_of jobs
  pub legal : IsLegal table.limits left.journal.items
  pub callers : AreBelow table.limits.passes left.journal.items
  pub each : AllRun wire table left.journal.items no_tail 0 left.workers.items parts
  pub stops : StopsRightly wire table.grace_ms left.workers.items parts
  pub idle : map (λ conn. (link conn).number) left.idle.items ≡ idle_links table.limits left.journal.items
