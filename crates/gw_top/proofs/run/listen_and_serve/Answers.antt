use Rattle.std.proofs.Common.{length, inl, inr, ap, arith, sym, ◌∙◌}
use Rattle.gw_top.proofs.CrewLemmas.{are_jobs, count_workers, given_fresh, groups_of, same_count, same_places}
use Rattle.gw_top.proofs.TopLemmas.{served, unheard_ends, refuses_behind}
use Rattle.gw_top.specs.Lines.{memory_line}
use Rattle.gw_top.proofs.run.listen_and_serve.Goals as goal

pub returns-in-Failed : goal.returns-in-Failed
returns-in-Failed g c =
    unheard_ends g.H.Wire.Wire.wire _ _ _ c.args.setup.table c.cannot_listen.result c.in-Failed.ensures.later c.in-Failed.ensures.printed c.in-Failed.ensures.cause.0 c.cannot_listen.ensures

pub returns-in-NoMemory : goal.returns-in-NoMemory
returns-in-NoMemory g c = inr (inr (refuses_behind _ _ _ 7 memory_line c.refuse.result c.in-NoMemory.ensures.later c.in-NoMemory.ensures.printed c.refuse.ensures))

pub serve_all-requires-clause-jobs : goal.serve_all-requires-clause-jobs
serve_all-requires-clause-jobs g c κs within =
    let count = c.in-Wires.ensures.cause.0 ∙ sym c.requires.count in
    rw c.make_jobs-jobs.ensures
    (are_jobs g.H.Wire.Wire.wire c.args.setup.house c.args.setup.table 0 c.args.setup.places.items c.in-Wires.wires.items c.requires.places count
    (let most = c.requires.workers.most in let all = c.requires.count in omega arith) (given_fresh _ g.H.Wire.Wire.wire c.in-Wires.wires.items c.in-Wires.ensures.cause.1))

pub serve_all-requires-clause-count : goal.serve_all-requires-clause-count
serve_all-requires-clause-count g c κs within =
    let count = c.in-Wires.ensures.cause.0 ∙ sym c.requires.count in
    let jobs = ap (λ l. length l) c.make_jobs-jobs.ensures ∙ same_count 0 c.args.setup.places.items c.in-Wires.wires.items count in
    (jobs ∙ c.requires.count ∙ sym c.requires.workers.passes, (let least = c.requires.workers.least in let all = c.requires.count in omega arith))

pub serve_all-requires-clause-gates : goal.serve_all-requires-clause-gates
serve_all-requires-clause-gates g c κs within =
    let count = c.in-Wires.ensures.cause.0 ∙ sym c.requires.count in
    rw (c.make_jobs-jobs.ensures, same_places 0 c.args.setup.places.items c.in-Wires.wires.items count) c.requires.gates

pub serve_all-requires-clause-words : goal.serve_all-requires-clause-words
serve_all-requires-clause-words g c κs within =
    let count = c.in-Wires.ensures.cause.0 ∙ sym c.requires.count in
    rw (c.make_jobs-jobs.ensures, same_places 0 c.args.setup.places.items c.in-Wires.wires.items count) c.requires.words

pub serve_all-requires-clause-room : goal.serve_all-requires-clause-room
serve_all-requires-clause-room g c κs within =
    let count = c.in-Wires.ensures.cause.0 ∙ sym c.requires.count in
    let jobs = ap (λ l. length l) c.make_jobs-jobs.ensures ∙ same_count 0 c.args.setup.places.items c.in-Wires.wires.items count in
    (let all = c.requires.count in let room = c.requires.room.1 in omega arith)

pub returns-in-Ok : goal.returns-in-Ok
returns-in-Ok g c =
    let count = c.in-Wires.ensures.cause.0 ∙ sym c.requires.count in
    let jobs = ap (λ l. length l) c.make_jobs-jobs.ensures ∙ same_count 0 c.args.setup.places.items c.in-Wires.wires.items count in
    inl (served g.H.Wire.Wire.wire _ _ _ c.args.setup.table _ c.in-Ok.served c.finish.result c.in-Wires.ensures.later c.in-Wires.ensures.printed c.in-Wires.ensures.cause.2
    (count_workers c.make_jobs-jobs.result.items ∙ jobs ∙ c.requires.count)
    (groups_of _ g.H.Wire.Wire.wire c.args.setup.places.items c.in-Wires.wires.items c.make_jobs-jobs.result.items c.make_jobs-jobs.ensures c.in-Wires.ensures.cause.1)
    c.in-Ok.ensures c.finish.ensures)

pub returns-in-Err : goal.returns-in-Err
returns-in-Err g c = inr (inr (refuses_behind _ _ _ 7 memory_line c.refuse-in-Err.result c.in-Wires.ensures.later c.in-Wires.ensures.printed c.refuse-in-Err.ensures))
