use Rattle.std.proofs.Common.{refl}
use Rattle.gw_top.proofs.TopLemmas.{ran_stopped, ran_on, ran_out}
use Rattle.gw_top.proofs.run.run_gateway.Goals as goal

pub returns-in-Err : goal.returns-in-Err
returns-in-Err g c =
    ran_stopped g.H.Wire.Wire.wire _ _ c.args.words.now c.in-Some.name.now c.in-Err.status c.stopped.result (c.in-Some.ensures.form.0 refl) c.in-Some.ensures.name
    c.in-Err.ensures c.stopped.ensures.status (record { table = c.stopped.ensures.table; journal = c.stopped.ensures.journal; workers = c.stopped.ensures.workers })

pub returns-in-Ok-prepare : goal.returns-in-Ok-prepare
returns-in-Ok-prepare g c =
    ran_on g.H.Wire.Wire.wire _ _ _ c.args.words.now c.in-Some.name.now c.in-Ok.table c.in-Ok-prepare.setup.table c.listen_and_serve.result (c.in-Some.ensures.form.0 refl) c.in-Some.ensures.name
    c.in-Ok.ensures c.in-Ok-prepare.ensures.serves c.listen_and_serve.ensures

pub returns-in-Err-prepare : goal.returns-in-Err-prepare
returns-in-Err-prepare g c =
    ran_out g.H.Wire.Wire.wire _ _ _ c.args.words.now c.in-Some.name.now c.in-Ok.table c.refuse-in-Err-prepare.result (c.in-Some.ensures.form.0 refl) c.in-Some.ensures.name
    c.in-Ok.ensures c.refuse-in-Err-prepare.ensures
