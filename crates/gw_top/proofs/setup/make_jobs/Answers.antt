use Rattle.std.proofs.Common.{arith}
use Rattle.gw_top.specs.Crew.{jobs_of}
use Rattle.gw_top.proofs.SetupLemmas.{jobs_all, jobs_push}
use Rattle.gw_top.proofs.setup.make_jobs.Goals as goal

pub loop-number-preserved : goal.loop-number-preserved
loop-number-preserved g c =
    let place = c.remove-in-loop-number in
    let wire = c.remove in
    let all = jobs_of 0 c.args.places.items c.args.wires.items in
    let so = jobs_push c.loop-number.number c.loop-number.places.items c.loop-number.wires.items c.loop-number.jobs.items all place.result wire.result place.new.self.items wire.new.self.items c.push_reserved.new.self.items
    c.loop-number.invariant.0 (omega arith) (omega arith) place.ensures.value place.ensures.items wire.ensures.value wire.ensures.items c.push_reserved.ensures.items in
    (so, omega arith, omega arith, omega arith, omega arith)

pub returns : goal.returns
returns g c =
    let i = c.loop-number.invariant in
    jobs_all c.loop-number.number c.loop-number.places.items c.loop-number.wires.items c.loop-number.jobs.items (jobs_of 0 c.args.places.items c.args.wires.items) i.0 (omega arith)
