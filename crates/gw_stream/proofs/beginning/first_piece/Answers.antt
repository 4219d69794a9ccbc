use Rattle.std.proofs.Common.{◌∙◌, refl}
use Rattle.gw_wire.proofs.Facts.{link_same}
use Rattle.gw_stream.specs.Waits.{side}
use Rattle.gw_stream.proofs.ComesLemmas.{goes_on}
use Rattle.gw_stream.proofs.FirstLemmas.{filling_begins, filling_more, first_bad, first_cause, first_done, first_lost, first_spent, first_whole_piece}
use Rattle.gw_stream.proofs.beginning.first_piece.Goals as goal

pub loop-pull-init : goal.loop-pull-init
loop-pull-init g c = (filling_begins _ _ _ _ _ _ c.requires.fresh c.requires.looked, c.requires.room, link_same _, refl)

pub returns-then-is_whole-clause-step : goal.returns-then-is_whole-clause-step
returns-then-is_whole-clause-step g c = first_whole_piece _ _ _ _ _ _ _ _ (c.is_whole.ensures.whole.0 c.if-is_whole.true) c.loop-pull.invariant.0

pub returns-in-Done-clause-step : goal.returns-in-Done-clause-step
returns-in-Done-clause-step g c =
    first_done _ _ _ _ _ _ _ _ _ _ _ _ _ c.loop-pull.invariant.2 (c.is_whole.ensures.more.0 c.if-is_whole.false) c.loop-pull.invariant.0 c.in-Done.ensures.step

pub returns-in-Bad-clause-step : goal.returns-in-Bad-clause-step
returns-in-Bad-clause-step g c =
    first_bad _ _ _ _ _ _ _ _ _ _ _ _ _ c.in-Bad.error c.loop-pull.invariant.2 (c.is_whole.ensures.more.0 c.if-is_whole.false) c.loop-pull.invariant.0 c.in-Bad.ensures.step

pub returns-in-Lost-clause-step : goal.returns-in-Lost-clause-step
returns-in-Lost-clause-step g c =
    first_lost _ _ _ _ _ _ _ _ _ _ _ _ _ c.in-Lost.why c.loop-pull.invariant.2 (c.is_whole.ensures.more.0 c.if-is_whole.false) c.loop-pull.invariant.0 c.in-Lost.ensures.step

pub returns-in-Lost-clause-cause : goal.returns-in-Lost-clause-cause
returns-in-Lost-clause-cause g c =
    first_cause _ _ (side (g.W.Wire.wire c.fill.new.wire) (g.G.Guard.guard c.fill.new.guard)) _ _ (g.W.Conn.Link.link c.fill.new.conn) _ _ _ c.in-Lost.why c.loop-pull.invariant.2 c.loop-pull.invariant.0 c.in-Lost.ensures.cause

pub loop-pull-preserved : goal.loop-pull-preserved
loop-pull-preserved g c =
    let t = filling_more _ _ _ _ _ _ _ _ _ _ _ _ _ _ _ c.loop-pull.invariant.2 c.fill.ensures.link (goes_on _ c.in-Data.is) c.loop-pull.invariant.1 c.loop-pull.invariant.0
    c.fill.ensures.step in
    (t.0, t.1, t.2, c.fill.ensures.guard ∙ c.loop-pull.invariant.3)

pub returns-clause-step : goal.returns-clause-step
returns-clause-step g c = first_spent _ _ _ _ _ _ _ _ c.loop-pull.invariant.0
