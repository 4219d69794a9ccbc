use Rattle.std.proofs.Common.{map}
use Rattle.gw_wire.specs.declared.values.Act.TheVariants.{Closed}
use Rattle.gw_wire.specs.Stretch.{Told, Acts}
use Rattle.gw_wire.specs.Wire.{Later}
use Rattle.gw_top.proofs.run.close_all.Given as goal

abbrev pub invariant-loop-conn : goal.invariant-loop-conn
invariant-loop-conn g l =
    Later (g.W.Wire.wire l.initial.wire) (g.W.Wire.wire l.wire)
    × Told (g.W.Wire.wire l.initial.wire).log (g.W.Wire.wire l.wire).log (Acts (map (λ c. Closed (g.W.Conn.Link.link c).number) l.yielded))
