use Rattle.std.proofs.Common.{◌∙◌, sym, ap, subst}
use Rattle.std.specs.List.{Contains}
use Rattle.gw_context.specs.declared.parts.Cause.{Cause}
use Rattle.gw_ctxwords.specs.declared.answers.Cancelled.TheVariants.{Already}
use Rattle.gw_ctxwords.specs.Calls.{SeatState}
use Rattle.gw_ctxwords.proofs.Codes.{cause_in, not_live}
use Rattle.gw_ctxwords.proofs.table.CtxTable.cancel.Goals.{then-found-eq-LIVE, else-found-eq-LIVE}
use Rattle.gw_ctxwords.proofs.table.CtxTable.cancel.Goals as goal

pub returns-clause-known : goal.returns-clause-known
returns-clause-known c first has =
    let known = c.cancel-found.ensures.view.finds.known first (subst (λ (x : SeatState). Contains x.view.ended (c.args.node, first)) (sym c.s.view_is) has) in
    elim c.if-found-eq-LIVE.branch [
      | then-found-eq-LIVE w ↦ absurd (not_live _ first known w.if-found-eq-LIVE.true)
      | else-found-eq-LIVE w ↦ w.result-is ∙ ap (λ (d : Cause). Already d) (w.cause_of.ensures ∙ cause_in _ first known)
    ]
