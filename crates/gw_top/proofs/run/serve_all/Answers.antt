use Rattle.std.proofs.Common.{refl, sym, ◌∙◌}
use Rattle.gw_top.proofs.CrewLemmas.{each_job, ended, laters, written_back}
use Rattle.gw_top.proofs.ServingLemmas.{served_of}
use Rattle.gw_top.proofs.run.serve_all.Goals as goal

pub run_all-requires-clause-jobs : goal.run_all-requires-clause-jobs
run_all-requires-clause-jobs g c κs within =
    rw c.as_mut_slice.ensures.value (each_job g.W.Wire.wire c.args.house c.args.table.now 0 c.args.jobs.items c.requires.jobs)

pub close_house-requires-clause-ended : goal.close_house-requires-clause-ended
close_house-requires-clause-ended g c κs within =
    let all = written_back c.args.jobs.len c.args.jobs.items c.run_all.new.jobs (sym (c.run_all.ensures.count ∙ c.as_mut_slice.ensures.len)) in
    ended g.W.Wire.wire c.args.house c.args.table.now c.args.jobs.items _ c.run_all.new.jobs _ c.as_mut_slice.ensures.value all c.requires.jobs c.run_all.ensures.count c.run_all.ensures.each
    c.requires.gates c.requires.words c.requires.count

pub returns : goal.returns
returns g c =
    let all = written_back c.args.jobs.len c.args.jobs.items c.run_all.new.jobs (sym (c.run_all.ensures.count ∙ c.as_mut_slice.ensures.len)) in
    served_of g.W.Wire.wire g.W.Conn.Link.link c.args.table.now _ _ c.in_ok-journal.field-0 c.in_ok-journal.field-0.idle.items _ c.in_ok-journal.ensures
    (laters g.W.Wire.wire c.args.table.now c.args.jobs.items _ c.run_all.new.jobs _ c.as_mut_slice.ensures.value all c.run_all.ensures.count c.run_all.ensures.each) refl refl c.close_idle.ensures
