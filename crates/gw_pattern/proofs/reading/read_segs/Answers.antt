use Rattle.std.proofs.Common.{sym, ◌∙◌, arith}
use Rattle.std.proofs.lemmas.Result.{err_from_is_err_and}
use Rattle.gw_pattern.proofs.Parts.{split_length}
use Rattle.gw_pattern.proofs.Said.{none_from, seg_err, seg_more}
use Rattle.gw_pattern.proofs.reading.read_segs.Goals as goal

pub returns-in_err-seg : goal.returns-in_err-seg
returns-in_err-seg c =
    let p = err_from_is_err_and c.from_residual.result c.from_residual.ensures.1 in
    let h = rw (c.as_slice.ensures.value, none_from c.split_part.result.1 c.is_none.result c.is_none.ensures) at c.in_err-seg.ensures in
    rw (p.1, p.2, ← c.loop-segs.invariant.0)
    (seg_err c.loop-segs.at c.loop-segs.segs.items c.loop-segs.left.now c.split_part.result.0.now c.split_part.result.1 c.in_err-seg.field-0.0 c.split_part.ensures h)

pub loop-segs-preserved : goal.loop-segs-preserved
loop-segs-preserved c =
    let split = rw c.in-Some.is at c.split_part.ensures in
    let h = rw (c.as_slice.ensures.value, none_from c.split_part.result.1 c.is_none.result c.is_none.ensures, c.in-Some.is) at c.in_ok-seg.ensures in
    (rw c.in_ok-push.ensures.items (sym (seg_more c.loop-segs.at c.loop-segs.segs.items c.loop-segs.left.now c.split_part.result.0.now c.in-Some.rest.now c.in_ok-seg.seg split.1 h) ∙ c.loop-segs.invariant.0), omega (arith, split_length c.loop-segs.left.now c.split_part.result.0.now c.in-Some.rest.now split.0, c.loop-segs.invariant.1))
