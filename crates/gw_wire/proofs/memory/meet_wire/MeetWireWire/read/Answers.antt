use Rattle.gw_wire.specs.MemoryLink.{conn_view}
use Rattle.gw_wire.proofs.memory.meet_wire.MeetWireWire.read.Goals as goal

pub returns-then-not-is_met : goal.returns-then-not-is_met
returns-then-not-is_met c = rw (← c.self.view_is) (c.tick.ensures.step (conn_view c.args.c.now) c.args.buf.now)
