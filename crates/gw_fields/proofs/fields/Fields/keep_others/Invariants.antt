use Rattle.std.proofs.Common.{◌≡◌, length}
use Rattle.gw_fields.proofs.Stripping.{Strips}
use Rattle.gw_fields.proofs.fields.Fields.keep_others.Given as goal

abbrev pub invariant-loop-i : goal.invariant-loop-i
invariant-loop-i l = Strips l.initial.self l.self l.kept l.i × (l.i-end ≡ length l.initial.self)
