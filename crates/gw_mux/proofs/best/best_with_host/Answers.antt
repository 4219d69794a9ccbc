use Rattle.gw_mux.specs.Walk.{asked_by}
use Rattle.gw_mux.proofs.Leading.{first_chosen, host_node}
use Rattle.gw_mux.proofs.best.best_with_host.Goals as goal

pub first_of-requires-clause-node : goal.first_of-requires-clause-node
first_of-requires-clause-node c =
    host_node c.args.patterns.now (asked_by c.args.method.now c.args.host.now c.args.path.body.now c.args.path.slash) c.args.order.now c.run_of-node.result.now c.requires.order c.run_of-node.ensures

pub returns : goal.returns
returns c =
    first_chosen c.args.patterns.now (asked_by c.args.method.now c.args.host.now c.args.path.body.now c.args.path.slash) c.args.order.now c.run_of-node.result.now c.requires.order c.run_of-node.ensures c.first_of.result c.requires.table c.requires.shape c.first_of.ensures
