use Rattle.std.proofs.Common.{refl}
use Rattle.gw_session.proofs.DoorLemmas.{arrived_ahead, arrived_none, arrived_read, some_ahead}
use Rattle.gw_session.proofs.hearing.await_request.Goals as goal

pub returns-then-not-is_empty-clause-step : goal.returns-then-not-is_empty-clause-step
returns-then-not-is_empty-clause-step g c = arrived_ahead _ _ _ _ _ _ c.requires.fresh refl (some_ahead _ _ c.is_empty.ensures c.if-not-is_empty.true)

pub returns-in-Got-clause-step : goal.returns-in-Got-clause-step
returns-in-Got-clause-step g c = arrived_read _ _ _ _ _ _ _ _ _ _ _ _ _ _ _ _ c.now-now.ensures refl (c.is_empty.ensures.0 c.if-not-is_empty.false) c.in-Got.ensures.step

pub returns-in-Lost-clause-step : goal.returns-in-Lost-clause-step
returns-in-Lost-clause-step g c = arrived_none _ _ _ _ _ _ _ _ _ _ _ _ _ _ _ _ _ _ c.now-now.ensures refl (c.is_empty.ensures.0 c.if-not-is_empty.false) c.hear-heard.new.guard.told c.in-Lost.ensures.step
