use Rattle.std.proofs.Common.{[]}
use Rattle.gw_stream.proofs.DrawLemmas.{empty_of, none_left, pulled_bad, pulled_data, pulled_done, pulled_lost, pulled_more, pulled_read}
use Rattle.gw_stream.proofs.drawing.pull_piece.Goals as goal

pub returns-then-not-idle-clause-waited : goal.returns-then-not-idle-clause-waited
returns-then-not-idle-clause-waited g c = pulled_more _ _ _ _ _ _ _ [] c.requires.fresh c.requires.looked c.in-More.ensures.step

pub returns-in-Data-clause-waited : goal.returns-in-Data-clause-waited
returns-in-Data-clause-waited g c = pulled_data _ _ _ _ _ _ _ _ _ c.requires.fresh c.requires.looked c.in-Data.ensures.step

pub returns-in-Done-clause-waited : goal.returns-in-Done-clause-waited
returns-in-Done-clause-waited g c = pulled_done _ _ _ _ _ _ _ [] c.requires.fresh c.requires.looked c.in-Done.ensures.step

pub returns-in-Bad-clause-waited : goal.returns-in-Bad-clause-waited
returns-in-Bad-clause-waited g c = pulled_bad _ _ _ _ c.draw.new.body _ c.draw.new.inbox [] c.in-Bad.error c.requires.fresh c.requires.looked c.in-Bad.ensures.step

pub returns-in-Got-clause-waited : goal.returns-in-Got-clause-waited
returns-in-Got-clause-waited g c =
    let none = c.is_empty-idle.ensures.0 c.if-not-idle.false in
    pulled_read _ _ _ _ _ _ _ _ [] _ none (empty_of _ _ _ _ none c.in-More.ensures.step) c.in-Got.ensures.step

pub returns-in-Lost-clause-waited : goal.returns-in-Lost-clause-waited
returns-in-Lost-clause-waited g c =
    let none = c.is_empty-idle.ensures.0 c.if-not-idle.false in
    pulled_lost _ _ _ _ _ _ _ _ _ _ _ _ _ none c.in-Lost.ensures.step.cause.1 (empty_of _ _ _ _ none c.in-More.ensures.step)
    c.in-Lost.ensures.step c.leave.ensures

pub hear-requires-clause-used : goal.hear-requires-clause-used
hear-requires-clause-used g c κs within = none_left _ _ _ _ (c.is_empty-idle.ensures.0 c.if-not-idle.false) c.in-More.ensures.step
