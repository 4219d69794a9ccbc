use Rattle.std.proofs.Common.{◌≡◌, ◌+◌, ◌≤◌, List, length, arith, ap, map, sym, subst, ◌∙◌}
use Rattle.std.specs.List.{HoldsAt}
use Rattle.gw_fields.specs.Fields.{pair_of}
use Rattle.gw_fields.specs.Hops.{is_hop}
use Rattle.gw_fields.proofs.Stripping.{Field, Strips, nothing_stripped, walked_past, walked_kept, all_stripped, as_many, is_within}
use Rattle.gw_fields.proofs.fields.Fields.keep_others.Goals as goal
use Rattle.gw_fields.proofs.fields.Fields.keep_others.Goals.{then-not-is_hop_at, else-not-is_hop_at}

pub loop-i-init : goal.loop-i-init
loop-i-init c =
    let items = c.self.inside.items in
    let many = as_many items.items c.args.self.now _ c.self.view_is (omega (arith, c.len-i-end.ensures, items.ok.0)) in
    (nothing_stripped c.args.self.now, many)

pub loop-i-preserved : goal.loop-i-preserved
loop-i-preserved c =
    let items = c.self-in-loop-i.inside.items in
    let within = is_within _ _ items.items _ c.loop-i.i _ c.loop-i.invariant.0 c.self-in-loop-i.view_is c.loop-i.invariant.1 c.loop-i-test.true in
    let back = sym c.self-in-loop-i.view_is in
    let so_far = subst (λ ys. Strips c.args.self.now ys c.loop-i.kept c.loop-i.i) back c.loop-i.invariant.0 in
    let A : List Field → Type 0 =
    λ ys. length c.args.hops.now ≤ c.loop-i.i → HoldsAt (λ field. c.is_hop_at.result ≡ is_hop ys field.0) ys c.loop-i.i in
    let asked = subst A back c.is_hop_at.ensures.asked in
    elim c.if-not-is_hop_at.branch [
      | then-not-is_hop_at w ↦ rw (w.self-is, w.kept-is) (
        walked_kept c.args.self.now items.items _ c.args.hops.now c.loop-i.kept c.loop-i.i c.is_hop_at.result so_far within c.requires
            c.is_hop_at.ensures.known asked w.if-not-is_hop_at.true w.swap.ensures.items,
        c.loop-i.invariant.1,
      )
      | else-not-is_hop_at w ↦ rw (w.self-is, w.kept-is) (
        subst (λ ys. Strips c.args.self.now ys c.loop-i.kept (c.loop-i.i + 1)) c.self-in-loop-i.view_is
            (walked_past c.args.self.now items.items c.args.hops.now c.loop-i.kept c.loop-i.i c.is_hop_at.result so_far within c.requires
            c.is_hop_at.ensures.known asked w.if-not-is_hop_at.false),
        c.loop-i.invariant.1,
      )
    ]

pub returns : goal.returns
returns c =
    let items = c.self-2.inside.items in
    let so_far = subst (λ ys. Strips c.args.self.now ys c.loop-i.kept c.loop-i.i) (sym c.self-2.view_is) c.loop-i.invariant.0 in
    ap (λ items. map pair_of items) c.truncate.ensures.items ∙ all_stripped _ items.items _ _ so_far (omega (arith, c.loop-i.invariant.1, c.loop-i-test.false))
