use Rattle.std.proofs.Common.{◌≡◌, true, false, sym, ◌∙◌}
use Rattle.gw_sets.proofs.Requests.{conflict_when_same}
use Rattle.gw_sets.proofs.conflicts.conflict.Goals as goal

pub returns-then-has_same_host : goal.returns-then-has_same_host
returns-then-has_same_host c =
    conflict_when_same c.args.p.now.method c.args.q.now.method c.args.p.now.host c.args.q.now.host c.args.p.now.segs.items c.args.q.now.segs.items c.relate.result c.is_ambiguous.result c.is_ambiguous.ensures (c.has_same_host.ensures.0 c.if-has_same_host.true)
    (record { relation = c.relate.ensures.relation; first = c.relate.ensures.some_of_first; second = c.relate.ensures.some_of_second })

pub returns-else-has_same_host : goal.returns-else-has_same_host
returns-else-has_same_host c = (
  λ h. let differ : false ≡ true = sym c.if-has_same_host.false ∙ h in cc differ,
  λ h. c.has_same_host.ensures.1 h.0,
)
