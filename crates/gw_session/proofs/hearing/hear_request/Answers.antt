use Rattle.std.proofs.Common.{◌++◌, [], refl, ◌∙◌}
use Rattle.gw_session.proofs.HearLemmas.{brought, hearing_bad, hearing_begins, hearing_ends, hearing_head, hearing_lost, hearing_memory, hearing_more, used_whole}
use Rattle.gw_session.proofs.hearing.hear_request.Goals as goal

pub loop-piece-init : goal.loop-piece-init
loop-piece-init g c = (refl, ([], c.restart.ensures, hearing_begins _ _ _ c.requires.fresh))

pub returns-in-Head-clause-step : goal.returns-in-Head-clause-step
returns-in-Head-clause-step g c =
    let i = c.loop-piece.invariant.1 in
    rw c.in-Head.head-is
    (hearing_head _ _ _ _ _ i.0 _ _ _ _ c.feed_request-fed.new.self _ c.in-Head.head i.2
    (brought _ _ _ i.0 _ _ i.1 c.in-Head.is (rw c.ahead.ensures at c.feed_request-fed.ensures)) c.skip.ensures)

pub returns-in-Bad-clause-step : goal.returns-in-Bad-clause-step
returns-in-Bad-clause-step g c =
    let i = c.loop-piece.invariant.1 in
    rw c.in-Bad.error-is
    (hearing_bad _ _ _ _ _ i.0 _ _ _ _ c.feed_request-fed.new.self _ _ i.2
    (brought _ _ _ i.0 _ _ i.1 c.in-Bad.is (rw c.ahead.ensures at c.feed_request-fed.ensures)))

pub returns-in-NoMemory-clause-step : goal.returns-in-NoMemory-clause-step
returns-in-NoMemory-clause-step g c = let i = c.loop-piece.invariant.1 in hearing_memory _ _ _ _ _ i.0 _ _ _ _ i.2

pub hear-requires-clause-fresh : goal.hear-requires-clause-fresh
hear-requires-clause-fresh g c κs within = c.loop-piece.invariant.1.2.waited.went.fresh

pub hear-requires-clause-looked : goal.hear-requires-clause-looked
hear-requires-clause-looked g c κs within = c.loop-piece.invariant.1.2.waited.watched.goes.seen

pub hear-requires-clause-used : goal.hear-requires-clause-used
hear-requires-clause-used g c κs within =
    let i = c.loop-piece.invariant.1 in
    c.skip.ensures ∙ used_whole _ i.0 _ _ (brought _ _ _ i.0 _ _ i.1 c.in-More.is (rw c.ahead.ensures at c.feed_request-fed.ensures))

pub returns-in-Lost-clause-step : goal.returns-in-Lost-clause-step
returns-in-Lost-clause-step g c =
    let i = c.loop-piece.invariant.1 in
    let u = brought _ _ _ i.0 _ _ i.1 c.in-More.is (rw c.ahead.ensures at c.feed_request-fed.ensures) in
    hearing_lost _ _ _ _ _ _ _ _ _ _ _ _ _ _ _ _ c.feed_request-fed.new.self _ c.in-Lost.why i.2 u c.in-Lost.ensures.step

pub loop-piece-preserved : goal.loop-piece-preserved
loop-piece-preserved g c =
    let i = c.loop-piece.invariant.1 in
    let u = brought _ _ _ i.0 _ _ i.1 c.in-More.is (rw c.ahead.ensures at c.feed_request-fed.ensures) in
    (c.loop-piece.invariant.0, (i.0 ++ c.loop-piece.buffers.client.inbox, u.stage, hearing_more _ _ _ _ _ _ _ _ _ _ _ _ _ _ i.2 u c.in-Got.ensures.step))

pub unreachable-requires : goal.unreachable-requires
unreachable-requires g c = hearing_ends _ _ _ _ _ _ _ _ c.loop-piece-test.false c.loop-piece.invariant.1.2
