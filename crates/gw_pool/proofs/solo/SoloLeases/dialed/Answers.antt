-- A dial of the one caller gave a connection.
use Rattle.std.proofs.Common.{refl, []}
use Rattle.gw_pool.specs.declared.entry.Call.TheVariants as call
use Rattle.gw_pool.proofs.SoloCalls.{calls, has_dial_row, dialed_enters, holds_dialed}
use Rattle.gw_pool.proofs.solo.SoloLeases.dialed.Goals as goal

pub dialed-requires : goal.dialed-requires
dialed-requires g c = has_dial_row c.self.inside.core c.self.inside.out c.args.d.want c.self.invariant (rw (← c.self.view_is) at c.requires.token)

pub invariant_of-self : goal.invariant_of-self
invariant_of-self g c = holds_dialed g.C.Link.link c.self.inside.core c.dialed.new.self c.self.inside.out c.spend_dial.new.self c.args.d.want (g.C.Link.link c.args.conn).number c.args.now c.dialed.result.close c.self.invariant c.dialed.ensures (rw (← c.self.view_is) at c.requires.token) c.spend_dial.ensures.out c.spend_dial.ensures.room

pub returns : goal.returns
returns g c = rw (← c.self.view_is) (record {
  step = record {
    others = [];
    outcome = c.dialed.ensures.outcome;
    calls = calls c.self.inside.core c.dialed.new.self c.self.inside.out c.spend_dial.new.self c.self.inside.waits c.self.inside.waits (call.Dialed c.args.d.want (g.C.Link.link c.args.conn).number c.args.now) c.dialed.ensures.outcome (invariant_of-self g c) (dialed_enters g.C.Link.link c.self.inside.core c.dialed.new.self c.self.inside.out c.args.d.want (g.C.Link.link c.args.conn).number c.args.now c.dialed.result.close c.self.invariant c.dialed.ensures);
    close = c.dialed.ensures.closes;
    leaves = record { out = c.spend_dial.ensures.out; waits = refl; audit_failed = refl };
  };
  stays = refl;
})
