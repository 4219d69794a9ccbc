use Rattle.std.proofs.Common.{◌++◌, [], refl, ◌∙◌, ap}
use Rattle.gw_head.specs.Stage.{bytes_of}
use Rattle.gw_transport.proofs.HeadLemmas.{brought, hearing_bad, hearing_begins, hearing_ends, hearing_head, hearing_lost, hearing_memory, hearing_more, used_whole}
use Rattle.gw_transport.proofs.replying.hear_head.Goals as goal

pub loop-piece-init : goal.loop-piece-init
loop-piece-init g c = (refl, ([], c.restart.ensures, hearing_begins _ _ _ c.args.inbox.now c.requires.fresh c.requires.looked))

pub returns-in-Head-clause-step : goal.returns-in-Head-clause-step
returns-in-Head-clause-step g c =
    let i = c.loop-piece.invariant.1 in
    rw c.in-Head.head-is
    (hearing_head _ _ _ _ _ i.0 _ _ _ _ c.feed_reply-fed.new.self c.in-Head.head i.2
    (brought _ _ _ i.0 _ _ i.1 c.in-Head.is (rw c.ahead.ensures at c.feed_reply-fed.ensures)) c.skip.ensures)

pub returns-in-Bad-clause-step : goal.returns-in-Bad-clause-step
returns-in-Bad-clause-step g c =
    let i = c.loop-piece.invariant.1 in
    hearing_bad _ _ _ _ _ i.0 _ _ _ _ c.feed_reply-fed.new.self _ i.2 (brought _ _ _ i.0 _ _ i.1 c.in-Bad.is (rw c.ahead.ensures at c.feed_reply-fed.ensures))

pub returns-in-NoMemory-clause-step : goal.returns-in-NoMemory-clause-step
returns-in-NoMemory-clause-step g c = let i = c.loop-piece.invariant.1 in hearing_memory _ _ _ _ _ i.0 _ _ _ i.2

pub hear-requires-clause-fresh : goal.hear-requires-clause-fresh
hear-requires-clause-fresh g c κs within = c.loop-piece.invariant.1.2.waited.went.fresh

pub hear-requires-clause-looked : goal.hear-requires-clause-looked
hear-requires-clause-looked g c κs within = c.loop-piece.invariant.1.2.waited.watched.goes.seen

pub hear-requires-clause-used : goal.hear-requires-clause-used
hear-requires-clause-used g c κs within =
    let i = c.loop-piece.invariant.1 in
    c.skip.ensures ∙ used_whole _ i.0 _ _ (brought _ _ _ i.0 _ _ i.1 c.in-More.is (rw c.ahead.ensures at c.feed_reply-fed.ensures))

pub returns-in-Lost-clause-step : goal.returns-in-Lost-clause-step
returns-in-Lost-clause-step g c =
    let i = c.loop-piece.invariant.1 in
    let u = brought _ _ _ i.0 _ _ i.1 c.in-More.is (rw c.ahead.ensures at c.feed_reply-fed.ensures) in
    hearing_lost _ _ _ _ _ _ _ _ _ c.hear.new.self c.bytes.result.now c.hear.new.self _ _ c.feed_reply-fed.new.self c.is_empty.result c.in-Lost.why i.2 u c.in-Lost.ensures.step
    (c.bytes.ensures ∙ ap bytes_of u.stage) c.is_empty.ensures

pub loop-piece-preserved : goal.loop-piece-preserved
loop-piece-preserved g c =
    let i = c.loop-piece.invariant.1 in
    let u = brought _ _ _ i.0 _ _ i.1 c.in-More.is (rw c.ahead.ensures at c.feed_reply-fed.ensures) in
    (c.hear.ensures.guard ∙ c.loop-piece.invariant.0, (i.0 ++ c.loop-piece.inbox, u.stage, hearing_more _ _ _ _ _ _ _ _ _ _ _ _ _ _ i.2 u c.in-Got.ensures.step))

pub unreachable-requires : goal.unreachable-requires
unreachable-requires g c = hearing_ends _ _ _ _ _ _ _ _ c.loop-piece-test.false c.loop-piece.invariant.1.2
