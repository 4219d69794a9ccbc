use Rattle.std.proofs.Common.{refl, sym, ◌∙◌, arith}
use Rattle.gw_chunk.proofs.Advancing.{goes_on, ends_at, refuses_at, reached_more, wants_more, gives_data}
use Rattle.gw_chunk.proofs.decoder.walk.Goals as goal

pub returns-then-left-gt0 : goal.returns-then-left-gt0
returns-then-left-gt0 c =
    gives_data _ c.loop-i.at _ _ _ _ c.left-left.result c.loop-i.invariant (omega arith)
    (sym c.left-left.ensures) c.if-left-gt0.true c.data_end-to.ensures c.skip.ensures

pub returns-in-Ended : goal.returns-in-Ended
returns-in-Ended c =
    ends_at _ c.loop-i.at _ _ c.loop-i.i _ c.loop-i.invariant (omega arith) refl
    (sym c.left-left.ensures ∙ omega arith) (sym c.after-at.ensures) c.in-Ended.is

pub returns-in-Refused : goal.returns-in-Refused
returns-in-Refused c =
    refuses_at _ c.loop-i.at _ _ c.loop-i.i _ c.in-Refused.error c.loop-i.invariant (omega arith) refl
    (sym c.left-left.ensures ∙ omega arith) (sym c.after-at.ensures ∙ c.in-Refused.is) refl

pub loop-i-preserved : goal.loop-i-preserved
loop-i-preserved c =
    reached_more _ c.loop-i.at _ _ c.loop-i.i _ c.loop-i.invariant (omega arith) refl
    (sym c.left-left.ensures ∙ omega arith) (sym c.after-at.ensures) (goes_on _ c.in_default.not-Ended c.in_default.not-Refused)

pub returns : goal.returns
returns c = wants_more _ _ _ c.loop-i.i c.loop-i.invariant (omega arith)
