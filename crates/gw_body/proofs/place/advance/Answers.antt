use Rattle.gw_body.proofs.Taking.{counted_steps, to_end_steps, chunked_done, chunked_on, chunked_open, empty_by}
use Rattle.gw_body.proofs.place.advance.Goals.{else-left-eq0-2-via-then-left-eq0-2+else-not-is_empty, else-left-eq0-2-via-else-left-eq0-2}
use Rattle.gw_body.proofs.place.advance.Goals as goal

pub returns-else-left-eq0-clause-step : goal.returns-else-left-eq0-clause-step
returns-else-left-eq0-clause-step c =
    let taken = c.take_front.ensures in
    counted_steps _ _ _ _ _ c.in-Counted.is c.if-left-eq0.false taken.used taken.left taken.step

pub returns-in-Done-clause-step : goal.returns-in-Done-clause-step
returns-in-Done-clause-step c = chunked_done _ _ _ _ _ c.in-Chunked.is c.feed-fed.ensures.step c.in-Done.is

pub returns-in-Data-clause-step : goal.returns-in-Data-clause-step
returns-in-Data-clause-step c = chunked_on _ _ _ _ _ c.in-Chunked.is c.feed-fed.ensures.step c.in-Data.is

pub returns-in-Data-clause-open : goal.returns-in-Data-clause-open
returns-in-Data-clause-open c = chunked_open _ _ _ _ c.feed-fed.ensures.step c.in-Data.is

pub returns-else-left-eq0-2-clause-step : goal.returns-else-left-eq0-2-clause-step
returns-else-left-eq0-2-clause-step c =
    let taken = c.take_front-in-ToEnd.ensures in
    to_end_steps _ _ _ _ _ c.in-ToEnd.is
    (elim c.else-left-eq0-2.branch [
      | else-left-eq0-2-via-then-left-eq0-2+else-not-is_empty w ↦ λ gone. empty_by _ _ w.is_empty.ensures w.if-not-is_empty.false
      | else-left-eq0-2-via-else-left-eq0-2 w ↦ λ gone. absurd (w.if-left-eq0-2.false gone)
    ])
    taken.used taken.left taken.step
