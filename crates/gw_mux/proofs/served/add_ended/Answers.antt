use Rattle.std.proofs.Common.{[], sym, subst}
use Rattle.gw_mux.specs.Found.{IsAdded, Remains}
use Rattle.gw_mux.proofs.Adding.{added_ended, added_stopped}
use Rattle.gw_mux.proofs.served.add_ended.Goals as goal

pub returns-then-not-slash : goal.returns-then-not-slash
returns-then-not-slash c =
    let ps = c.args.patterns.now in
    let at = c.args.at in
    let ns = c.args.numbers.now in
    let old = c.args.found.now.items in
    let new = c.extend_from_slice.new.self.items in
    subst (λ s. IsAdded (Remains ps ns at [] s) old new) (sym c.if-not-slash.true)
    (added_stopped ps at ns c.requires.node c.run_of.result.now old new c.run_of.ensures c.in_ok-extend_from_slice.ensures.items)

pub returns : goal.returns
returns c =
    let ps = c.args.patterns.now in
    let at = c.args.at in
    let ns = c.args.numbers.now in
    let old = c.args.found.now.items in
    let mid = c.extend_from_slice-2.new.self.items in
    let new = c.extend_from_slice-3.new.self.items in
    subst (λ s. IsAdded (Remains ps ns at [] s) old new) (sym c.if-not-slash.false)
    (added_ended ps at ns c.requires.node c.run_of-2.result.now c.run_of-3.result.now old mid new c.run_of-2.ensures c.run_of-3.ensures c.in_ok-extend_from_slice-2.ensures.items c.in_ok-extend_from_slice-3.ensures.items)
