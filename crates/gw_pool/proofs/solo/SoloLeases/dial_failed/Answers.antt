-- A dial of the one caller failed.
use Rattle.std.proofs.Common.{refl, []}
use Rattle.gw_pool.specs.declared.entry.Call.TheVariants as call
use Rattle.gw_pool.proofs.SoloCalls.{calls, has_dial_row, failed_enters, holds_failed}
use Rattle.gw_pool.proofs.solo.SoloLeases.dial_failed.Goals as goal

pub dial_failed-requires : goal.dial_failed-requires
dial_failed-requires g c = has_dial_row c.self.inside.core c.self.inside.out c.args.d.want c.self.invariant (rw (← c.self.view_is) at c.requires.token)

pub invariant_of-self : goal.invariant_of-self
invariant_of-self g c = holds_failed c.self.inside.core c.dial_failed.new.self c.self.inside.out c.spend_dial.new.self c.args.d.want c.self.invariant c.dial_failed.ensures (rw (← c.self.view_is) at c.requires.token) c.spend_dial.ensures.out c.spend_dial.ensures.room

pub returns : goal.returns
returns g c = rw (← c.self.view_is) (record {
  step = record {
    others = [];
    outcome = c.dial_failed.ensures.outcome;
    calls = calls c.self.inside.core c.dial_failed.new.self c.self.inside.out c.spend_dial.new.self c.self.inside.waits c.self.inside.waits (call.DialFailed c.args.d.want) c.dial_failed.ensures.outcome (invariant_of-self g c) (failed_enters c.self.inside.core c.dial_failed.new.self c.self.inside.out c.args.d.want c.self.invariant c.dial_failed.ensures);
    leaves = record { out = c.spend_dial.ensures.out; waits = refl; audit_failed = refl };
  };
  stays = refl;
})
