use Rattle.std.proofs.Common.{◌≡◌, ◌-◌, ◌≤◌, [], vec_capacity}
use Rattle.gw_turn.specs.Pass.{fresh_passes}
use Rattle.gw_turn.specs.Steps.{IsAt}
use Rattle.gw_turn.proofs.Opening.{rest_of}
use Rattle.gw_turn.proofs.pool.hand_out.Given as goal

abbrev pub invariant-loop-number : goal.invariant-loop-number
invariant-loop-number g l =
    (1 ≤ l.number) × (l.number ≤ l.limits.passes) × (l.number-end ≡ l.limits.passes) × (l.place.table_id ≡ l.fn.place.table_id) × IsAt l.words.table_id l.place
    × (l.place.me ≡ (rest_of l.limits l.number, [])) × (l.passes.items ≡ fresh_passes l.fn.place.table_id l.limits 0 (l.number - 1)) × (l.limits.passes ≤ vec_capacity l.passes)
