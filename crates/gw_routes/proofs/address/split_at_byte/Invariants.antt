use Rattle.std.proofs.Common.{◌≢◌, All, take}
use Rattle.gw_routes.proofs.address.split_at_byte.Given as goal

abbrev pub invariant-loop-i : goal.invariant-loop-i
invariant-loop-i l = All (λ b. b ≢ l.byte) (take l.i l.text)
