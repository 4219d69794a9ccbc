use Rattle.std.proofs.Common.{◌≡◌, ◌≤◌, ◌+◌, ◌++◌, length}
use Rattle.std.specs.Prelude.{vec_capacity}
use Rattle.gw_top.specs.Crew.{jobs_of}
use Rattle.gw_top.proofs.setup.make_jobs.Given as goal

abbrev pub invariant-loop-number : goal.invariant-loop-number
invariant-loop-number g l =
    (l.jobs.items ++ jobs_of l.number l.places.items l.wires.items ≡ jobs_of 0 l.initial.places.items l.initial.wires.items)
    × (length l.places.items + l.number ≡ l.count) × (length l.wires.items ≡ length l.places.items)
    × (length l.jobs.items ≡ l.number) × (l.count ≤ vec_capacity l.jobs)
