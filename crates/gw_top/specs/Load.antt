-- What comes of reading a route file: its table, or a status with its line.
use Rattle.std.specs.Prelude.{ℕ, ◌≡◌, ◌⊎◌, List, [], Option, Result, Ok, Err}
use Rattle.gw_wire.specs.Acts.{Logs}
use Rattle.gw_wire.specs.Causes.{Rose}
use Rattle.gw_wire.specs.World.{WorldView, WorldLater, Holds}
use Rattle.gw_pattern.specs.declared.fault.PCode.{PCode}
use Rattle.gw_routes.specs.declared.fault.GCode.{GCode}
use Rattle.gw_routes.specs.declared.fault.RouteError.{RouteError}
use Rattle.gw_routes.specs.declared.fault.RouteError.TheVariants.{Bad, Conflict}
use Rattle.gw_routes.specs.declared.table.Table.{Table}
use Rattle.gw_routes.specs.Files.{AreNumbered, HasWorkers, Reads, Refuses as RefusesFile}
use Rattle.gw_top.specs.Lines.{unreadable_line, memory_line, bad_line, conflict_line}

-- a line was printed and nothing else, unless a print failed
abbrev pub Prints : WorldView → WorldView → List ℕ → Type 0
Prints old new line = Rose old.print_faults new.print_faults ⊎ Logs old.printed new.printed line

-- the world went on, and this line was printed
pub record Says (old new : WorldView) (line : List ℕ) : Type 0 where
  pub later : WorldLater old new
  pub printed : Prints old new line

-- the file of that name is, where files are told, one that says this table
pub record SaysTable (old : WorldView) (name : List ℕ) (table : Table) : Type 0 where
  pub bytes : List ℕ
  pub holds : Holds old.files name bytes
  pub reads : Reads bytes table
  pub numbered : AreNumbered table
  pub workers : HasWorkers table

-- the file of that name is, where files are told, refused for this
pub record RefusesNamed (old : WorldView) (name : List ℕ) (error : RouteError) : Type 0 where
  pub bytes : List ℕ
  pub holds : Holds old.files name bytes
  pub refuses : RefusesFile bytes error

-- Why there is no table. 3: the file can't be read. 4: its first fault. 5: its first conflict. 7: want of memory.
abbrev pub NoTable : WorldView → WorldView → List ℕ → ℕ → Type 0
NoTable old new name status =
    ((status ≡ 3) × Rose old.file_faults new.file_faults × Says old new (unreadable_line name))
    ⊎ (((code : GCode) × (route : Option ℕ) × (fault : Option (PCode × ℕ))
    × (status ≡ 4) × RefusesNamed old name (Bad code route fault) × Says old new (bad_line code route fault))
    ⊎ (((first : ℕ) × (second : ℕ)
    × (status ≡ 5) × RefusesNamed old name (Conflict first second) × Says old new (conflict_line first second))
    ⊎ ((status ≡ 7) × Says old new memory_line)))

-- a line with its status, or want of memory with its own
abbrev pub SaysOr7 : WorldView → WorldView → ℕ → List ℕ → ℕ → Type 0
SaysOr7 old new status line result = ((result ≡ status) × Says old new line) ⊎ ((result ≡ 7) × Says old new memory_line)

-- what was loaded; nothing is printed with a table
abbrev pub Loads : WorldView → WorldView → List ℕ → Result Table ℕ → Type 0
Loads old new name (Ok table) = WorldLater old new × Logs old.printed new.printed [] × SaysTable old name table
Loads old new name (Err status) = NoTable old new name status
