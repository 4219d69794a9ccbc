use Rattle.std.proofs.Common.{◌≡◌, ◌∙◌, refl, subst, arith}
use Rattle.gw_transport.proofs.WantLemmas.{Wanting, wanted_full, wanted_late, wanted_made, wanting_begins, wanting_more}
use Rattle.gw_transport.proofs.leasing.want.Goals as goal

pub loop-want-init : goal.loop-want-init
loop-want-init g c = (wanting_begins _ _ c.args.host c.requires.fresh c.requires.rested, refl)

pub returns-in-Ticket-clause-step : goal.returns-in-Ticket-clause-step
returns-in-Ticket-clause-step g c =
    wanted_made _ _ _ _ _ _ _ c.loop-want._want c.in-Ticket.ticket c.requires.read c.loop-want.invariant.0 (omega (arith, c.loop-want-test.true, c.loop-want.auto._want-end)) c.in-Ticket.ensures.step

pub returns-in-JournalFull-clause-step : goal.returns-in-JournalFull-clause-step
returns-in-JournalFull-clause-step g c =
    wanted_full _ _ _ _ _ _ c.loop-want._want c.loop-want.invariant.0 (omega (arith, c.loop-want-test.true, c.loop-want.auto._want-end)) c.in-JournalFull.ensures.step

pub loop-want-preserved : goal.loop-want-preserved
loop-want-preserved g c = (
  wanting_more g.W.Conn.Link.link _ _ _ _ _ _ _ _ _ c.in-Expired.conn c.requires.read c.loop-want.invariant.0 c.in-Expired.ensures.step c.close.ensures,
  c.in-Expired.ensures.stays ∙ c.loop-want.invariant.1,
)

pub returns-clause-step : goal.returns-clause-step
returns-clause-step g c =
    let done : c.loop-want._want ≡ 1000000 = omega (arith, c.loop-want-test.false, c.loop-want.auto._want-end) in
    wanted_late _ _ _ _ _ (subst (Wanting _ _ _ _ _) done c.loop-want.invariant.0)
