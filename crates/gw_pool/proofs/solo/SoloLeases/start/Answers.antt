-- A dial of the one caller begins.
use Rattle.std.proofs.Common.{refl, ap, []}
use Rattle.std.proofs.lemmas.List.{append-nil}
use Rattle.gw_pool.specs.declared.entry.Call.TheVariants as call
use Rattle.gw_pool.proofs.SoloCalls.{calls, looks, holds_start, start_enters}
use Rattle.gw_pool.proofs.solo.SoloLeases.start.Goals as goal

pub invariant_of-self : goal.invariant_of-self
invariant_of-self g c = holds_start c.self.inside.core c.start.new.self c.self.inside.out c.hand_out_dial.new.self c.args.t.now.want c.self.invariant c.if-start.ensures (rw (← c.self.view_is) at c.requires.token) c.hand_out_dial.ensures.out c.hand_out_dial.ensures.room

pub returns-then-start : goal.returns-then-start
returns-then-start g c = rw (← c.self.view_is) (record {
  step = record {
    others = [];
    outcome = c.if-start.ensures.outcome;
    calls = calls c.self.inside.core c.start.new.self c.self.inside.out c.hand_out_dial.new.self c.self.inside.waits c.self.inside.waits (call.Start c.args.t.now.want) c.if-start.ensures.outcome (invariant_of-self g c) (start_enters c.self.inside.core c.start.new.self c.self.inside.out c.args.t.now.want c.self.invariant c.if-start.ensures);
    reply = c.if-start.ensures.is_go;
    want = refl;
    host = refl;
    leaves = record { out = c.hand_out_dial.ensures.out; waits = refl; audit_failed = refl };
  };
  stays = refl;
})

pub returns-else-start : goal.returns-else-start
returns-else-start g c = rw (← c.self.view_is) (record {
  step = record {
    others = [];
    looks = looks c.self.inside.core c.start.new.self c.self.inside.out c.self.inside.out c.self.inside.waits c.self.inside.waits (rw c.if-start.ensures.same c.self.invariant) (ap (λ x. x.limits) c.if-start.ensures.same) (ap (λ x. x.journal) c.if-start.ensures.same);
    stands = rw (append-nil c.self.inside.core.journal) (c.if-start.ensures.unfit 0);
    leaves = record { out = refl; waits = refl; audit_failed = refl };
  };
  stays = refl;
})
