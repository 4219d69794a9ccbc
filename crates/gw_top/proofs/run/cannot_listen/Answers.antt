use Rattle.std.proofs.Common.{inl, ◌∙◌}
use Rattle.gw_top.proofs.run.cannot_listen.Goals as goal

pub returns-in-Ok : goal.returns-in-Ok
returns-in-Ok g c = inl (rw (c.as_bytes.ensures.value ∙ c.in-Ok.ensures.ok) at c.refuse.ensures)
