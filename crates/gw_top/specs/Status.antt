-- What a run's status says, and what is printed with it.
use Rattle.std.specs.Prelude.{ℕ, ◌≡◌, ◌≤◌, ◌⊎◌, Bool, length, vec_capacity, if◌then◌else◌, List, [], Some, None, String}
use Rattle.std.specs.List.{list_any}
use Rattle.std.specs.declared.alloc.Global.{Global}
use Rattle.gw_ctxwords.specs.Rule.{most_seats as most_ctx_seats}
use Rattle.gw_gate.specs.Gate.{most_seats as most_gate_seats}
use Rattle.gw_wire.specs.Causes.{Rose}
use Rattle.gw_wire.specs.Wire.{WireView}
use Rattle.gw_wire.specs.World.{WorldView, WorldLater, ListensNow}
use Rattle.gw_routes.specs.declared.table.Table.{Table}
use Rattle.gw_routes.specs.Files.{AreNumbered, HasWorkers}
use Rattle.gw_top.specs.declared.run.Setup.{Setup}
use Rattle.gw_top.specs.declared.run.Report.{Report}
use Rattle.gw_top.specs.declared.run.Served.{Served}
use Rattle.gw_top.specs.declared.worker.Worker.{Worker}
use Rattle.gw_top.specs.House.{ArePlaces, ctx_rooms, gate_rooms}
use Rattle.gw_top.specs.Command.{IsServe, name_of}
use Rattle.gw_top.specs.Lines.{usage_line, unheard_line, memory_line, accept_line}
use Rattle.gw_top.specs.Load.{Prints, SaysTable, NoTable}
use Rattle.gw_top.specs.Run.{Run}

-- a report of a run that didn't serve
pub record IsEmpty {W : Type 0} (report : Report W) : Type 0 where
  pub table : report.table ≡ None
  pub journal : report.journal.items ≡ []
  pub workers : report.workers.items ≡ []

-- an accept of some worker failed
abbrev pub any_failed : {W : Type 0} → List (Worker W) → Bool
any_failed workers = list_any (λ worker. worker.accept_failed) workers

abbrev pub status_of : Bool → ℕ
status_of failed = if failed then 8 else 0

abbrev pub line_of : Bool → List ℕ
line_of failed = if failed then accept_line else []

-- a run that served: it listened for the table, and its report's journal and workers are a run over the table
pub record Serves {W : Type 0} (wire : W → WireView) (old new : WorldView) (table : Table) (report : Report W) : Type 0 where
  pub later : WorldLater old new
  pub table_is : report.table ≡ Some table
  pub listened : ListensNow new.listened table.listen table.workers
  pub status : report.status ≡ status_of (any_failed report.workers.items)
  pub printed : Prints old new (line_of (any_failed report.workers.items))
  pub run : Run wire old.groups table report.journal.items report.workers.items

-- a run that stops before it serves, with this status and this line
pub record Refuses {W : Type 0} (old new : WorldView) (status : ℕ) (line : List ℕ) (report : Report W) : Type 0 where
  pub later : WorldLater old new
  pub status_is : report.status ≡ status
  pub empty : IsEmpty report
  pub printed : Prints old new line

-- the same, or for want of memory
abbrev pub RefusesOr7 : {W : Type 0} → WorldView → WorldView → ℕ → List ℕ → Report W → Type 0
RefusesOr7 old new status line report = Refuses old new status line report ⊎ Refuses old new 7 memory_line report

-- what workers that served are reported as
pub record Finished {W : Type 0} (old new : WorldView) (table : Table) (served : Served W) (report : Report W) : Type 0 where
  pub later : WorldLater old new
  pub listened : new.listened ≡ old.listened
  pub table_is : report.table ≡ Some table
  pub journal : report.journal ≡ served.journal
  pub workers : report.workers ≡ served.workers
  pub status : report.status ≡ status_of (any_failed served.workers.items)
  pub printed : Prints old new (line_of (any_failed served.workers.items))

-- how a run over a table ends: it served, or it could not listen, or memory was wanting
abbrev pub Ends : {W : Type 0} → (W → WireView) → WorldView → WorldView → Table → Report W → Type 0
Ends wire old new table report =
    Serves wire old new table report
    ⊎ ((Refuses old new 6 (unheard_line table.listen) report × Rose old.listen_faults new.listen_faults) ⊎ Refuses old new 7 memory_line report)

-- a run whose file gave no table
pub record Stops {W : Type 0} (old new : WorldView) (name : List ℕ) (report : Report W) : Type 0 where
  pub cause : NoTable old new name report.status
  pub empty : IsEmpty report

-- How `serve` ends, exactly. The words are no command's form: status 2. The route file gives no table: 3, 4, 5 or 7. It
-- says this table: it could not be listened for it (6), or the run served it (0, or 8 where an accept failed). Want of
-- memory (7) is free.
abbrev pub Ran : {W : Type 0} → (W → WireView) → WorldView → WorldView → List (String Global) → Report W → Type 0
Ran wire old new words report =
    ((IsServe words → ⊥) × Refuses old new 2 usage_line report)
    ⊎ (IsServe words × (Stops old new (name_of words) report
    ⊎ ((table : Table) × SaysTable old (name_of words) table × Ends wire old new table report)))

-- what a run has made before it listens
pub record IsReady {C W : Type 0} (setup : Setup W C) : Type 0 where
  pub numbered : AreNumbered setup.table
  pub workers : HasWorkers setup.table
  pub places : ArePlaces setup.house setup.table.limits 0 setup.places.items
  pub count : length setup.places.items ≡ setup.table.workers
  pub gates : gate_rooms setup.places.items ≡ most_gate_seats
  pub words : ctx_rooms setup.places.items ≡ most_ctx_seats
  pub nobody : (setup.jobs.items ≡ []) × (setup.workers.items ≡ [])
  pub room : (setup.table.workers ≤ vec_capacity setup.jobs) × (setup.table.workers ≤ vec_capacity setup.workers)
