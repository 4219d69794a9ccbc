use Rattle.std.proofs.Common.{[], refl, ◌∙◌}
use Rattle.gw_session.proofs.GatherLemmas.{gathered, gathering_bad, gathering_begins, gathering_data, gathering_lost, gathering_memory, gathering_more}
use Rattle.gw_session.proofs.gathering.gather.Goals.{in-Data+else-is_err, in-More}
use Rattle.gw_session.proofs.gathering.gather.Goals as goal

pub loop-pull-init : goal.loop-pull-init
loop-pull-init g c = (refl, rw c.new-body.ensures.items (gathering_begins _ _ _ _ c.requires.fresh))

pub returns-then-is_err : goal.returns-then-is_err
returns-then-is_err g c = record {
  step = gathering_memory _ _ _ _ _ _ _ _ _ _
      (gathering_data _ _ _ _ _ _ _ _ _ _ _ _ _ _ c.in-Data.count c.loop-pull.invariant.1 c.in-Data.ensures.waited c.in-Data.ensures.link);
}

pub returns-in-Done : goal.returns-in-Done
returns-in-Done g c = record {
  step = rw c.new.ensures (gathered _ _ _ _ _ _ _ _ _ _ _ [] _ c.loop-pull.invariant.1 c.in-Done.ensures.waited c.in-Done.ensures.link);
}

pub unreachable-requires : goal.unreachable-requires
unreachable-requires g c =
    gathering_bad _ _ _ _ _ _ _ _ _ _ [] _ [] c.in-Bad.field-0 _ c.requires.counted c.loop-pull.invariant.1 c.in-Bad.ensures.waited

pub returns-in-Lost : goal.returns-in-Lost
returns-in-Lost g c = record {
  step = gathering_lost _ _ _ _ _ _ _ _ _ _ _ _ _ _ [] _ c.in-Lost.why c.loop-pull.invariant.1 c.in-Lost.ensures.waited c.in-Lost.ensures.link c.in-Lost.ensures.cause;
}

pub loop-pull-preserved : goal.loop-pull-preserved
loop-pull-preserved g c = (
  c.pull_piece.ensures.kept ∙ c.loop-pull.invariant.0,
  elim c.match-pull_piece.branch [
    | in-Data+else-is_err w ↦
        rw (w.body-is, rw w.if-is_err.ensures.negation at w.extend_from_slice.ensures.items)
        (gathering_data _ _ _ _ _ _ _ _ _ _ _ _ _ _ w.in-Data.count c.loop-pull.invariant.1 w.in-Data.ensures.waited w.in-Data.ensures.link)
    | in-More w ↦
        rw w.body-is
        (gathering_more _ _ _ _ _ _ _ _ _ _ _ _ _ [] c.loop-pull.invariant.1 w.in-More.ensures.waited w.in-More.ensures.link)
  ],
)

pub returns : goal.returns
returns g c = record { step = gathering_memory _ _ _ _ _ _ _ _ _ _ c.loop-pull.invariant.1 }
