-- What the calls of a gate answer. A seat's `last` is the word before its last step, which each answer goes by.
use Rattle.std.specs.Prelude.{◌≡◌, ℕ, ◌≤◌}
use Rattle.gw_gate.specs.declared.gate.Enter.{Enter}
use Rattle.gw_gate.specs.declared.gate.Enter.TheVariants as enter
use Rattle.gw_gate.specs.declared.gate.ShutAnswer.{ShutAnswer}
use Rattle.gw_gate.specs.declared.gate.ShutAnswer.TheVariants as shut
use Rattle.gw_gate.specs.declared.gate.Look.{Look}
use Rattle.gw_gate.specs.declared.gate.Look.TheVariants as look
use Rattle.gw_gate.specs.declared.gate.Drained.{Drained}
use Rattle.gw_gate.specs.declared.gate.Drained.TheVariants as drained
use Rattle.gw_gate.specs.Gate.{IsOpen, IsShut, IsDrained, number_in, most_seats}
use Rattle.gw_gate.specs.Seat.{SeatState, with_view}
use Rattle.gw_gate.specs.Steps.{has_read, entered, left, has_shut}

-- granted exactly where the word before the step has no bit; a refused one leaves no trace in the word
abbrev pub Entered : SeatState → SeatState → Enter → Type 0
Entered before now (enter.Granted inside) = IsOpen now.view.last × (inside ≡ before.name) × (now ≡ with_view before (entered now.view.last before.view))
Entered before now enter.Shut = IsShut now.view.last × (now ≡ with_view before (has_read now.view.last before.view))

abbrev pub Left : SeatState → SeatState → Type 0
Left before now = now ≡ with_view before (left now.view.last before.view)

-- `First` exactly where the word before the step has no bit
abbrev pub ShutBy : SeatState → SeatState → ShutAnswer → Type 0
ShutBy before now shut.First = IsOpen now.view.last × (now ≡ with_view before (has_shut now.view.last before.view))
ShutBy before now shut.Already = IsShut now.view.last × (now ≡ with_view before (has_read now.view.last before.view))

-- the word was read
abbrev pub Reads : SeatState → SeatState → Type 0
Reads before now = now ≡ with_view before (has_read now.view.last before.view)

abbrev pub LookOf : ℕ → Look → Type 0
LookOf word look.Open = IsOpen word
LookOf word look.Shut = IsShut word

-- `Yes` exactly where the word is shut with 0 inside, and else the number inside
abbrev pub DrainedOf : ℕ → Drained → Type 0
DrainedOf word drained.Yes = IsDrained word
DrainedOf word (drained.No n) = ¬ (IsDrained word) × (n ≡ number_in word) × (n ≤ most_seats)
