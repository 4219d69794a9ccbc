-- The want's row changes at the place where it stands.
use Rattle.std.proofs.Common.{sym, ◌∙◌, ap}
use Rattle.std.specs.List.{position}
use Rattle.gw_pool.specs.Tokens.{names, with_dial}
use Rattle.gw_pool.proofs.TokenEdits.{changed_at, unchanged}
use Rattle.gw_pool.proofs.holding.Tokens.hand_out_dial.Goals as goal

pub returns-in-Some-clause-out : goal.returns-in-Some-clause-out
returns-in-Some-clause-out c =
    rw (← c.self.view_is)
    (c.become_at.ensures.items
    ∙ sym (rw (sym c.index-h.ensures) at (changed_at c.args.want with_dial c.self.inside.held.items c.in-Some.at c.index-h.result.now
    (c.in-Some.ensures ∙ ap (λ l. position (names c.args.want) l) c.as_slice.ensures.value))))

pub returns-in-None-clause-out : goal.returns-in-None-clause-out
returns-in-None-clause-out c =
    rw (← c.self.view_is)
    (sym (unchanged c.args.want with_dial c.self.inside.held.items (c.in-None.ensures ∙ ap (λ l. position (names c.args.want) l) c.as_slice.ensures.value)))
