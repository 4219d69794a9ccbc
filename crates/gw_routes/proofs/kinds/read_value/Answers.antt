use Rattle.gw_routes.proofs.JsonLemmas.{json_found, json_none}
use Rattle.gw_routes.proofs.kinds.read_value.Goals as goal

pub returns-in-Ok : goal.returns-in-Ok
returns-in-Ok c = json_found c.args.bytes.now _ c.in-Ok.ensures.ok.0 c.in-Ok.ensures.ok.1

pub returns-in_default : goal.returns-in_default
returns-in_default c =
    rw c.bad.ensures (json_none c.args.bytes.now (c.in-Err.ensures.err (λ m. c.in_default.not-Memory (c.classify.ensures.memory.1 m))))
