use Rattle.std.proofs.Common.{suc, drop, sym, ap, ◌∙◌}
use Rattle.gw_pattern.specs.declared.form.Seg.TheVariants.{Rest}
use Rattle.gw_mux.specs.Request.{is_exact}
use Rattle.gw_mux.specs.Walk.{segments_in}
use Rattle.gw_mux.proofs.Steps.{at_seg, exact_rest}
use Rattle.gw_mux.proofs.walk.is_exact.Goals as goal

pub returns-in-Rest : goal.returns-in-Rest
returns-in-Rest c =
    let segs = c.args.segs.now in
    let e = at_seg segs c.loop-seg.seg-index c.seg-item.result (Rest c.in-Rest.field-0) c.loop-seg-test.true c.seg-item.is c.in-Rest.is in
    c.is_empty.ensures ∙ exact_rest c.in-Rest.field-0 (drop (suc c.loop-seg.seg-index) segs) c.loop-seg.left.now
    ∙ sym (ap (λ s. is_exact s (segments_in c.loop-seg.left.now)) e) ∙ c.loop-seg.invariant
