use Rattle.std.proofs.Common.{inl, ◌∙◌}
use Rattle.gw_top.proofs.load.conflicting.Goals as goal

pub returns-in-Ok : goal.returns-in-Ok
returns-in-Ok g c = inl (c.say.ensures.status, rw (c.as_bytes.ensures.value ∙ c.in-Ok.ensures.ok) at c.say.ensures.says)
