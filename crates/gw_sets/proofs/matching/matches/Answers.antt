use Rattle.std.proofs.Common.{◌≡◌, true}
use Rattle.gw_sets.specs.Comparison.{matches_method, matches_host, matches_segs}
use Rattle.gw_sets.specs.Matches.{MethodMatches, HostMatches, SegsMatch}
use Rattle.gw_sets.proofs.Deciding.{method_decides, host_decides, segs_decide, last_decides}
use Rattle.gw_sets.proofs.matching.matches.Goals as goal

pub returns : goal.returns
returns c =
    let m : matches_method c.args.p.now.method c.args.s.now.method ≡ true = rw (← c.as_slice.ensures, ← c.matches_method.ensures) c.if-not-matches_method.false in
    let h : matches_host c.args.p.now.host c.args.s.now.host ≡ true = rw (← c.as_slice-2.ensures, ← c.as_slice-3.ensures, ← c.matches_host.ensures) c.if-not-matches_host.false in
    let e : c.matches_segs.result ≡ matches_segs c.args.p.now.segs.items c.args.s.now.segs.items c.args.s.now.slash = rw (← c.deref.ensures.value, ← c.deref-2.ensures.value) c.matches_segs.ensures in
    rw e
    (last_decides (matches_segs c.args.p.now.segs.items c.args.s.now.segs.items c.args.s.now.slash) (MethodMatches c.args.p.now.method c.args.s.now.method) (HostMatches c.args.p.now.host c.args.s.now.host) (SegsMatch c.args.p.now.segs.items c.args.s.now.segs.items c.args.s.now.slash)
    ((method_decides c.args.p.now.method c.args.s.now.method).0 m) ((host_decides c.args.p.now.host c.args.s.now.host).0 h)
    (segs_decide c.args.p.now.segs.items c.args.s.now.segs.items c.args.s.now.slash))
