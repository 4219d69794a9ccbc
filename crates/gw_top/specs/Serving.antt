-- What workers that served leave.
use Rattle.std.specs.Prelude.{◌≡◌, List, [], ◌∷◌, map}
use Rattle.gw_wire.specs.declared.values.Act.TheVariants.{Closed}
use Rattle.gw_wire.specs.Link.{LinkView}
use Rattle.gw_wire.specs.Stretch.{Told, Acts}
use Rattle.gw_wire.specs.Wire.{WireView, Later}
use Rattle.gw_pool.specs.History.{IsLegal, AreBelow}
use Rattle.gw_routes.specs.declared.table.Table.{Table}
use Rattle.gw_top.specs.declared.run.Served.{Served}
use Rattle.gw_top.specs.declared.worker.Worker.{Worker}
use Rattle.gw_top.specs.Run.{AllRun, Part, StopsRightly, closes_of}

-- the first of these workers closed these connections, in their order
abbrev pub ClosesIdle : {C W : Type 0} → (W → WireView) → (C → LinkView) → List (Worker W) → List C → List (Worker W) → Type 0
ClosesIdle {W = W} wire link [] idle new = new ≡ []
ClosesIdle {W = W} wire link (first ∷ others) idle new =
    (last : W) × (new ≡ record first { wire = last } ∷ others) × Later (wire first.wire) (wire last)
    × Told (wire first.wire).log (wire last).log (Acts (map (λ conn. Closed (link conn).number) idle))

-- each of these wires is a later one of those beside it
abbrev pub AreLater : {W : Type 0} → (W → WireView) → List (Worker W) → List (Worker W) → Type 0
AreLater wire [] [] = Unit {0}
AreLater wire (old ∷ olds) [] = ⊥
AreLater wire [] (new ∷ news) = ⊥
AreLater wire (old ∷ olds) (new ∷ news) = Later (wire old.wire) (wire new.wire) × AreLater wire olds news

-- the workers of a table served clients until each of them ended, which these were before, and worker 0 closed what was idle
pub record IsServed {W : Type 0} (wire : W → WireView) (table : Table) (before : List (Worker W)) (served : Served W) : Type 0 where
  pub parts : List Part
  pub legal : IsLegal table.limits served.journal.items
  pub callers : AreBelow table.limits.passes served.journal.items
  pub each : AllRun wire table served.journal.items (closes_of table.limits served.journal.items) 0 served.workers.items parts
  pub stops : StopsRightly wire table.grace_ms served.workers.items parts
  pub later : AreLater wire before served.workers.items
