use Rattle.std.proofs.Common.{[]}
use Rattle.gw_mux.proofs.HostServing.{all_served, own_served}
use Rattle.gw_mux.proofs.Chosen.{no_bytes}
use Rattle.gw_mux.proofs.Paths.{seen}
use Rattle.gw_mux.proofs.served.served.Goals as goal

pub returns : goal.returns
returns c =
    let body = c.cut_slash-slash.result.0.now in
    let slash = c.cut_slash-slash.result.1 in
    all_served c.args.patterns.now c.args.host.now c.args.path.now body slash (seen [] c.args.host.now c.args.path.now body slash c.requires.clean c.cut_slash-slash.ensures)
    c.new-found.result.items c.add_of_host.new.found.items c.add_of_host-2.new.found.items c.new-found.ensures.items c.in_ok-add_of_host.ensures c.in_ok-add_of_host-2.ensures

pub returns-then-is_empty : goal.returns-then-is_empty
returns-then-is_empty c =
    let body = c.cut_slash-slash.result.0.now in
    let slash = c.cut_slash-slash.result.1 in
    own_served c.args.patterns.now c.args.host.now c.args.path.now body slash (seen [] c.args.host.now c.args.path.now body slash c.requires.clean c.cut_slash-slash.ensures)
    c.new-found.result.items c.add_of_host.new.found.items c.new-found.ensures.items (no_bytes c.args.host.now _ c.is_empty.ensures c.if-is_empty.true) c.in_ok-add_of_host.ensures
