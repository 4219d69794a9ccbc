-- What a connection's first byte leads to.
use Rattle.std.specs.Prelude.{◌≡◌, Option, Some, None}
use Rattle.gw_gate.specs.Seat.{SeatName}
use Rattle.gw_gate.specs.declared.gate.Enter.{Enter}
use Rattle.gw_gate.specs.declared.gate.Enter.TheVariants.{Granted, Shut}

-- the connection is closed exactly where the gate was shut, and else it is active with the `Inside` of its `enter`
abbrev pub FirstByte : Enter → Option SeatName → Type 0
FirstByte (Granted inside) active = active ≡ Some inside
FirstByte Shut active = active ≡ None
