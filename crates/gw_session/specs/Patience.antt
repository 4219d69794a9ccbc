-- What a wait for a client is guarded by.
use Rattle.std.specs.Prelude.{[]}
use Rattle.gw_ctxwords.specs.Calls as ctx
use Rattle.gw_ctxwords.specs.Rule as words
use Rattle.gw_gate.specs.Gate as gate
use Rattle.gw_gate.specs.Seat as seat

-- no seat: such a wait looks at no words, or at no gate
abbrev pub nobody : ctx.SeatState
nobody = record { table = record { words = 0; slots = 0; views_name = 0; atom = 0; block = 0; offset = 0; slot_names = [] }; view = words.first_view }

abbrev pub nowhere : seat.SeatState
nowhere = record { name = record { gate = record { words = 0; slots = 0; views_name = 0; atom = 0; block = 0; offset = 0; slot_names = [] }; number = 0 }; view = gate.first_view }
