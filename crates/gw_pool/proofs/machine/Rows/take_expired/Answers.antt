-- The least recently idle connection isn't expired, or none is idle.
use Rattle.std.proofs.Common.{sym, ◌∙◌, ap}
use Rattle.gw_pool.specs.Rows.{state_of}
use Rattle.gw_pool.specs.State.{take_oldest, is_expired}
use Rattle.gw_pool.proofs.Expiring.{not_expired, none_expired}
use Rattle.gw_pool.proofs.machine.Rows.take_expired.Goals as goal

pub returns-else-is_expired-clause-none : goal.returns-else-is_expired-clause-none
returns-else-is_expired-clause-none g c =
    not_expired c.args.self.now.limits c.args.now (take_oldest (state_of c.args.self.now)) c.in-Some.oldest (sym c.oldest_row.ensures ∙ c.in-Some.is)
    (ap (λ n. is_expired c.args.self.now.limits n c.args.now) (sym c.since.ensures) ∙ sym c.is_expired.ensures ∙ c.if-is_expired.false)

pub returns-in-None-clause-none : goal.returns-in-None-clause-none
returns-in-None-clause-none g c = none_expired c.args.self.now.limits c.args.now (take_oldest (state_of c.args.self.now)) (sym c.oldest_row.ensures ∙ c.in-None.is)
