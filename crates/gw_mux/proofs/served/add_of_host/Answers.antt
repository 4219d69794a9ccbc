use Rattle.std.proofs.Common.{sym, subst}
use Rattle.gw_mux.specs.Found.{IsAdded, Remains}
use Rattle.gw_mux.specs.Served.{Serves}
use Rattle.gw_mux.specs.Walk.{asked_by, segments_in}
use Rattle.gw_mux.proofs.HostServing.{host_both, host_slashed}
use Rattle.gw_mux.proofs.Leading.{host_node}
use Rattle.gw_mux.proofs.served.add_of_host.Goals as goal

pub add_below-requires-clause-node : goal.add_below-requires-clause-node
add_below-requires-clause-node c =
    host_node c.args.patterns.now (asked_by c.args.host.now c.args.host.now c.args.path.body.now c.args.path.slash) c.args.order.now c.run_of-node.result.now c.requires.order c.run_of-node.ensures

pub add_below-requires-2-clause-node : goal.add_below-requires-2-clause-node
add_below-requires-2-clause-node c =
    host_node c.args.patterns.now (asked_by c.args.host.now c.args.host.now c.args.path.body.now c.args.path.slash) c.args.order.now c.run_of-node.result.now c.requires.order c.run_of-node.ensures

pub returns-then-path : goal.returns-then-path
returns-then-path c =
    let ps = c.args.patterns.now in
    let host = c.args.host.now in
    let parts = segments_in c.args.path.body.now in
    let node = c.run_of-node.result.now in
    let old = c.args.found.now.items in
    let new = c.add_below.new.found.items in
    subst (λ s. IsAdded (Serves ps host parts s) old new) (sym c.if-path.true)
    (host_slashed ps host c.args.order.now node parts c.requires.order c.run_of-node.ensures old new
    (subst (λ s. IsAdded (Remains ps node 0 parts s) old new) c.if-path.true c.in_ok-add_below.ensures))

pub returns : goal.returns
returns c =
    let ps = c.args.patterns.now in
    let host = c.args.host.now in
    let parts = segments_in c.args.path.body.now in
    let node = c.run_of-node.result.now in
    let old = c.args.found.now.items in
    let mid = c.add_below.new.found.items in
    let new = c.add_below-2.new.found.items in
    subst (λ s. IsAdded (Serves ps host parts s) old new) (sym c.if-path.false)
    (host_both ps host c.args.order.now node parts c.requires.order c.run_of-node.ensures old mid new
    (subst (λ s. IsAdded (Remains ps node 0 parts s) old mid) c.if-path.false c.in_ok-add_below.ensures)
    c.in_ok-add_below-2.ensures)
