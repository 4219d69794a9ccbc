-- The reading of a route file, over plain variables.
use Rattle.std.proofs.Common.{◌≡◌, ℕ, inl, inr, List, [], ◌++◌, Option, Ok, subst, arith}
use Rattle.gw_wire.specs.declared.traits.Loaded.TheVariants as loaded
use Rattle.gw_wire.specs.declared.traits.Printed.{Printed}
use Rattle.gw_wire.specs.Acts.{Logs}
use Rattle.gw_wire.specs.World.{WorldView, WorldLater, LoadStep, PrintStep, Holds}
use Rattle.gw_pattern.specs.declared.fault.PCode.{PCode}
use Rattle.gw_routes.specs.declared.fault.GCode.{GCode}
use Rattle.gw_routes.specs.declared.fault.RouteError.TheVariants.{Bad, Conflict}
use Rattle.gw_routes.specs.declared.table.Table.{Table}
use Rattle.gw_routes.specs.Files.{AreNumbered, HasWorkers, Reads, Refuses as RefusesFile}
use Rattle.gw_top.specs.Lines.{unreadable_line, memory_line, bad_line, conflict_line}
use Rattle.gw_top.specs.Load.{Says, SaysOr7, NoTable, Loads}
use Rattle.gw_top.proofs.TopLemmas.{world_then, prints_then, prints_quiet, printed_by}

-- a line behind a call that printed nothing, and behind another
pub says_behind : (old mid new : WorldView) (line : List ℕ) → WorldLater old mid → Logs old.printed mid.printed [] → Says mid new line → Says old new line
says_behind old mid new line l p s = record { later = world_then old mid new l s.later; printed = prints_quiet old mid new line l s.later p s.printed }

pub says_then : (old mid new : WorldView) (front line : List ℕ) → Says old mid front → Says mid new line → Says old new (front ++ line)
says_then old mid new front line a b = record {
  later = world_then old mid new a.later b.later;
  printed = prints_then old mid new front line a.later b.later a.printed b.printed;
}

pub said_by : (old new : WorldView) (bytes : List ℕ) (result : Printed) → PrintStep old new bytes result → Says old new bytes
said_by old new bytes result s = record { later = s.later; printed = printed_by old new bytes result s }

-- there is no table
pub unreadable_done : (old mid new : WorldView) (name : List ℕ) (status : ℕ) → LoadStep old mid name loaded.Failed → status ≡ 3
    → Says mid new (unreadable_line name) → NoTable old new name status
unreadable_done old mid new name status t is s =
    inl (is, (let a = t.cause in let b = s.later.file_faults in omega arith), says_behind old mid new (unreadable_line name) t.later t.printed s)

pub no_room_done : (old mid new : WorldView) (name : List ℕ) (status : ℕ) → WorldLater old mid → Logs old.printed mid.printed [] → status ≡ 7
    → Says mid new memory_line → NoTable old new name status
no_room_done old mid new name status l p is s = inr (inr (inr (is, says_behind old mid new memory_line l p s)))

pub faulty_done : (old mid new : WorldView) (name file text : List ℕ) (code : GCode) (route : Option ℕ) (fault : Option (PCode × ℕ)) (status : ℕ)
    → WorldLater old mid → Logs old.printed mid.printed [] → Holds old.files name file → text ≡ file → RefusesFile text (Bad code route fault)
    → SaysOr7 mid new 4 (bad_line code route fault) status → NoTable old new name status
faulty_done old mid new name file text code route fault status l p h same r (inl s) =
    let P : List ℕ → Type 0 = λ t. RefusesFile t (Bad code route fault) in
    inr (inl (code, route, fault, s.0, record { bytes = file; holds = h; refuses = subst P same r }, says_behind old mid new (bad_line code route fault) l p s.1))
faulty_done old mid new name file text code route fault status l p h same r (inr s) = no_room_done old mid new name status l p s.0 s.1

pub conflicting_done : (old mid new : WorldView) (name file text : List ℕ) (first second status : ℕ)
    → WorldLater old mid → Logs old.printed mid.printed [] → Holds old.files name file → text ≡ file → RefusesFile text (Conflict first second)
    → SaysOr7 mid new 5 (conflict_line first second) status → NoTable old new name status
conflicting_done old mid new name file text first second status l p h same r (inl s) =
    let P : List ℕ → Type 0 = λ t. RefusesFile t (Conflict first second) in
    inr (inr (inl (first, second, s.0, record { bytes = file; holds = h; refuses = subst P same r }, says_behind old mid new (conflict_line first second) l p s.1)))
conflicting_done old mid new name file text first second status l p h same r (inr s) = no_room_done old mid new name status l p s.0 s.1

-- there is one
pub table_done : (old mid : WorldView) (name file text : List ℕ) (table : Table) → WorldLater old mid → Logs old.printed mid.printed []
    → Holds old.files name file → text ≡ file → Reads text table → AreNumbered table → HasWorkers table → Loads old mid name (Ok table)
table_done old mid name file text table l p h same r n w =
    let P : List ℕ → Type 0 = λ t. Reads t table in
    (l, p, record { bytes = file; holds = h; reads = subst P same r; numbered = n; workers = w })
