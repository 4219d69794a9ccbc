use Rattle.std.proofs.Common.{◌≡◌, ◌<◌, subst, refl, rules, arith}
use Rattle.std.proofs.lemmas.List.Elements.{All-from_get_or}
use Rattle.gw_sets.specs.Shape.{AreBytes}
use Rattle.gw_sets.proofs.Segments.{has_segments}
use Rattle.gw_sets.proofs.Requests.{whole_relation, requests_answered}
use Rattle.gw_sets.proofs.comparison.relate.Goals as goal

pub returns : goal.returns
returns c =
    let g : AreBytes c.args.p.now.host = subst AreBytes c.as_slice-p_host.ensures (All-from_get_or (λ b. b < 256) c.as_slice-p_host.result.now 0 (λ i within. first_of (grind arith, search rules))) in
    let h : AreBytes c.args.q.now.host = subst AreBytes c.as_slice-q_host.ensures (All-from_get_or (λ b. b < 256) c.as_slice-q_host.result.now 0 (λ i within. first_of (grind arith, search rules))) in
    let e : c.and-2.result ≡ whole_relation c.args.p.now.method c.args.q.now.method c.args.p.now.host c.args.q.now.host c.args.p.now.segs.items c.args.q.now.segs.items =
    rw (c.and-2.ensures, c.and.ensures, c.relate_methods-methods.ensures, c.relate_hosts.ensures, c.relate_segs.ensures, c.method_bytes.ensures.value, c.method_bytes-2.ensures.value, c.as_slice-p_host.ensures, c.as_slice-q_host.ensures, c.deref.ensures.value, c.deref-2.ensures.value) refl in
    let known = requests_answered c.args.p.now.method c.args.q.now.method c.args.p.now.host c.args.q.now.host c.args.p.now.segs.items c.args.q.now.segs.items c.and-2.result e c.method_bytes.ensures.bytes c.method_bytes-2.ensures.bytes g h (has_segments c.args.p.now.segs.items c.requires.first) (has_segments c.args.q.now.segs.items c.requires.second) in
    record { relation = known.relation; some_of_first = known.first; some_of_second = known.second }
