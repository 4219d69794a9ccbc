use Rattle.std.proofs.Common.{length, sym, ◌∙◌}
use Rattle.gw_wire.proofs.HonestLemmas.{never_failed, received_honest}
use Rattle.gw_wire.proofs.memory.honest_wire.HonestWireWire.read.Goals as goal

pub unreachable-requires : goal.unreachable-requires
unreachable-requires c = never_failed (length c.args.buf.now) c.c.inside.conn c.c.invariant (sym c.read.ensures.answer ∙ c.in-Failed.is)

pub invariant_of-c : goal.invariant_of-c
invariant_of-c c = rw c.read.ensures.link (received_honest (length c.args.buf.now) c.c.inside.conn c.c.invariant)
