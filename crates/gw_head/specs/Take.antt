-- What the reader has of a head once a piece has come, and once the head is judged.
use Rattle.std.specs.Prelude.{◌≡◌, ℕ, ◌≤◌, List, ◌++◌, take, length, Option, Some, None, Result, Ok, Err}
use Rattle.gw_head.specs.declared.error.HeadError.{HeadError}
use Rattle.gw_head.specs.declared.error.HeadError.TheVariants.{Malformed, TooLong as LongHead}
use Rattle.gw_head.specs.declared.error.Refusal.{Refusal}
use Rattle.gw_head.specs.declared.error.Refusal.TheVariants as refusal
use Rattle.gw_head.specs.declared.mark.Place.{Place}
use Rattle.gw_head.specs.declared.reader.Step.{Step}
use Rattle.gw_head.specs.declared.reader.Step.TheVariants as step
use Rattle.gw_head.specs.declared.reader.Taken.{Taken}
use Rattle.gw_head.specs.declared.reader.Taken.TheVariants.{Closed, More, Whole, TooLong}
use Rattle.gw_head.specs.Gather.{IsReading}
use Rattle.gw_head.specs.Mark.{IsWhole, head_limit}
use Rattle.gw_head.specs.Stage.{Stage, reads, closed, EndsIn, GoesOn, IsTooLong, IsClosedBy}

-- the stage that a reader's parts stand for
abbrev pub stage_of : Option HeadError → List ℕ → Stage
stage_of None kept = reads kept
stage_of (Some error) kept = closed error kept

-- while it reads, the place and the room of the buffer fit what is kept; the room stays for the next head
abbrev pub KeepsStage : Option HeadError → List ℕ → Place → ℕ → Type 0
KeepsStage None kept place capacity = IsReading kept place capacity
KeepsStage (Some error) kept place capacity = head_limit ≤ capacity

abbrev pub TakesOpen : List ℕ → List ℕ → Taken → Stage → Type 0
TakesOpen stream piece (Closed error) new = ⊥
TakesOpen stream piece More new = GoesOn stream piece (length piece) new
TakesOpen stream piece (Whole used) new =
    EndsIn stream piece used × IsWhole (stream ++ take used piece) × (new ≡ closed Malformed (stream ++ take used piece))
TakesOpen stream piece TooLong new = IsTooLong (stream ++ piece) × IsClosedBy LongHead new

abbrev pub Takes : Stage → List ℕ → Taken → Stage → Type 0
Takes (reads stream) piece taken new = TakesOpen stream piece taken new
Takes (closed error bytes) piece taken new = (taken ≡ Closed error) × (new ≡ closed error bytes)

-- a reader that holds a whole head was closed, and now answers what was judged of the head
abbrev pub Concludes : {H : Type 0} → Result H Refusal → List ℕ → Step H → Stage → Type 0
Concludes (Ok head) bytes said new = (said ≡ step.Head head) × (new ≡ closed Malformed bytes)
Concludes (Err (refusal.Bad error)) bytes said new = (said ≡ step.Bad error) × (new ≡ closed error bytes)
Concludes (Err refusal.NoMemory) bytes said new = (said ≡ step.NoMemory) × (new ≡ closed Malformed bytes)
