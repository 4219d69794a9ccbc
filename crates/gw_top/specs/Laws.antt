-- Laws of runs and of what stands behind a shut gate.
use Rattle.std.specs.Prelude.{ℕ, ◌≡◌, List, [], ◌∷◌, map}
use Rattle.gw_wire.specs.declared.values.Act.TheVariants.{Closed}
use Rattle.gw_wire.specs.declared.values.Addr.{Addr}
use Rattle.gw_wire.specs.Wire.{WireView}
use Rattle.gw_pool.specs.declared.entry.Entry.{Entry}
use Rattle.gw_pool.specs.Idle.{idle_links}
use Rattle.gw_account.specs.Work.{At, Work}
use Rattle.gw_routes.specs.declared.table.Table.{Table}
use Rattle.gw_session.specs.declared.end.Ended.{Ended}
use Rattle.gw_session.specs.Session.{Session, begun_in}
use Rattle.gw_session.specs.Stand.{Spot}
use Rattle.gw_session.specs.Turn.{Turn}
use Rattle.gw_top.specs.declared.worker.Worker.{Worker}
use Rattle.gw_top.specs.Run.{Part, Run, WorkedAs}

-- there is one worker, and the journal is the entries of its work, in their order, and no others
pub record IsOneWorkers {W : Type 0} (wire : W → WireView) (table : Table) (journal : List Entry) (workers : List (Worker W)) : Type 0 where
  pub worker : Worker W
  pub part : Part
  pub work : Work
  pub only : workers ≡ worker ∷ []
  pub worked : WorkedAs wire table (map Closed (idle_links table.limits journal)) 0 worker part work
  pub all : journal ≡ work.made

abbrev pub OneWorkerMakesTheJournal : {W : Type 0} → (W → WireView) → Type 0
OneWorkerMakesTheJournal {W} wire =
    (groups : Addr → List Addr) (table : Table) (journal : List Entry) (workers : List (Worker W))
    → Run wire groups table journal workers → table.workers ≡ 1 → table.limits.passes ≡ 1 → IsOneWorkers wire table journal workers

-- a session in which no request began asked the pool for nothing
abbrev pub UnbegunTakeNothing : Type 0
UnbegunTakeNothing =
    (client : ℕ) (at : ℕ → Spot) (result : Ended) (turns : List Turn) (a : At) (w : Work)
    → Session client at result turns a w → begun_in turns ≡ 0 → w.made ≡ []
