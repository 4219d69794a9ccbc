use Rattle.std.proofs.Common.{ap, sym, ◌∙◌, ◌∷◌, Some}
use Rattle.atomic_table.specs.Table.{rest}
use Rattle.gw_turn.proofs.steps.state_out.Goals as goal

pub exchange-requires : goal.exchange-requires
exchange-requires g c = let slot = c.requires.slot in (c.requires.seat.pool_is, (Some slot.0, slot.1 ∙ ap (λ l. (0, Some slot.0) ∷ rest l) (sym slot.1)))
