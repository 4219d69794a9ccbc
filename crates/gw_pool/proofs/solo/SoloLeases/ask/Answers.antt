-- How a want of the one caller stands.
use Rattle.std.proofs.Common.{refl, ap, []}
use Rattle.std.proofs.lemmas.List.{append-nil}
use Rattle.gw_pool.proofs.SoloCalls.{looks, holds_taken, holds_none, ask_taken, leases}
use Rattle.gw_pool.proofs.solo.SoloLeases.ask.Goals as goal

pub invariant_of-self : goal.invariant_of-self
invariant_of-self g c = holds_taken g.C.Link.link c.self.inside.core c.ask.new.self c.self.inside.out c.lease.new.self c.args.t.want c.in-Taken.conn c.in-Taken.no c.in-Taken.reused c.in-Taken.host c.self.invariant c.in-Taken.ensures (rw (← c.self.view_is) at c.requires.token) c.lease.ensures.out c.lease.ensures.room

pub invariant_of-self-in-Failed : goal.invariant_of-self-in-Failed
invariant_of-self-in-Failed g c = holds_none c.self.inside.core c.ask.new.self c.self.inside.out c.spend_ticket.new.self c.args.t.want c.self.invariant c.in-Failed.ensures.1 c.in-Failed.ensures.0 (rw (← c.self.view_is) at c.requires.token) c.spend_ticket.ensures.out c.spend_ticket.ensures.room

pub returns-in-Taken : goal.returns-in-Taken
returns-in-Taken g c = rw (← c.self.view_is) (record {
  step = ask_taken g.C.Link.link c.self.inside.core c.ask.new.self c.self.inside.out c.lease.new.self c.self.inside.waits c.args.t c.in-Taken.conn c.in-Taken.no c.in-Taken.reused c.in-Taken.host c.number-link.result c.self.invariant (invariant_of-self g c) c.in-Taken.ensures c.number-link.ensures (rw (← c.self.view_is) at c.requires.token) c.lease.ensures.out
      (rw c.lease.ensures.out (leases c.self.inside.core c.self.inside.out c.args.t.want c.self.invariant (rw (← c.self.view_is) at c.requires.token)));
  rows = tt;
  stays = tt;
})

pub returns-in-Granted : goal.returns-in-Granted
returns-in-Granted g c = rw (← c.self.view_is) (record {
  step = record {
    others = [];
    looks = looks c.self.inside.core c.ask.new.self c.self.inside.out c.self.inside.out c.self.inside.waits c.self.inside.waits (rw c.in-Granted.ensures.1 c.self.invariant) (ap (λ x. x.limits) c.in-Granted.ensures.1) (ap (λ x. x.journal) c.in-Granted.ensures.1);
    stands = rw (append-nil c.self.inside.core.journal) c.in-Granted.ensures.0;
    same = refl;
    leaves = record { out = refl; waits = refl; audit_failed = refl };
  };
  rows = tt;
  stays = tt;
})

pub returns-in-NotYet : goal.returns-in-NotYet
returns-in-NotYet g c = rw (← c.self.view_is) (record {
  step = record {
    others = [];
    looks = looks c.self.inside.core c.ask.new.self c.self.inside.out c.self.inside.out c.self.inside.waits c.saturating_add-self-inside.result (rw c.in-NotYet.ensures.1 c.self.invariant) (ap (λ x. x.limits) c.in-NotYet.ensures.1) (ap (λ x. x.journal) c.in-NotYet.ensures.1);
    stands = λ fresh only. rw (append-nil c.self.inside.core.journal) c.in-NotYet.ensures.0;
    same = refl;
    leaves = record { out = refl; waits = c.saturating_add-self-inside.ensures; audit_failed = refl };
  };
  rows = rw c.in-NotYet.ensures.1 c.in-NotYet.ensures.0;
  stays = tt;
})

pub returns-in-Failed : goal.returns-in-Failed
returns-in-Failed g c = rw (← c.self.view_is) (record {
  step = record {
    others = [];
    looks = looks c.self.inside.core c.ask.new.self c.self.inside.out c.spend_ticket.new.self c.self.inside.waits c.self.inside.waits (invariant_of-self-in-Failed g c) (ap (λ x. x.limits) c.in-Failed.ensures.1) (ap (λ x. x.journal) c.in-Failed.ensures.1);
    stands = rw (append-nil c.self.inside.core.journal) c.in-Failed.ensures.0;
    leaves = record { out = c.spend_ticket.ensures.out; waits = refl; audit_failed = refl };
  };
  rows = tt;
  stays = tt;
})
