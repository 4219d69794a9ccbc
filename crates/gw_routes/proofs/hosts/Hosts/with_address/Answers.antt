use Rattle.std.proofs.Common.{ap, ◌∙◌}
use Rattle.gw_routes.specs.Routes.{host_of, hosts_with}
use Rattle.gw_routes.proofs.HostLemmas.{grown, numbered_by, same, same_key, tells_apart}
use Rattle.gw_routes.proofs.hosts.Hosts.with_address.Goals.{then-is_new+in_ok-push, else-is_new}
use Rattle.gw_routes.proofs.hosts.Hosts.with_address.Goals as goal

pub returns-clause-hosts : goal.returns-clause-hosts
returns-clause-hosts c =
    let hosts = c.self.inside.addresses.items in
    elim c.if-is_new.branch [
      | then-is_new+in_ok-push w ↦ ap (λ v. v.items) w.addresses-is ∙ grown same_key tells_apart c.self.inside.numbers.keys hosts _ c.args.addr c.in_ok-number.is_new c.self.invariant c.in_ok-number.ensures.added w.if-is_new.true w.in_ok-push.ensures.items ∙ ap (λ h. hosts_with h c.args.addr) c.self.view_is
      | else-is_new w ↦ ap (λ v. v.items) w.addresses-is ∙ same same_key tells_apart c.self.inside.numbers.keys hosts c.args.addr c.in_ok-number.is_new c.self.invariant c.in_ok-number.ensures.added w.if-is_new.false ∙ ap (λ h. hosts_with h c.args.addr) c.self.view_is
    ]

pub returns-clause-number : goal.returns-clause-number
returns-clause-number c =
    numbered_by same_key tells_apart c.self.inside.numbers.keys c.self.inside.addresses.items c.args.addr c.in_ok-number.number c.self.invariant c.in_ok-number.ensures.index ∙ ap (λ h. host_of h c.args.addr) c.self.view_is
