use Rattle.std.proofs.Common.{◌∷◌, drop, ◌-◌, sym, ap, ◌∙◌, arith}
use Rattle.gw_mux.specs.Keys.{here_key, host_key, method_key, seg_key, tail_keys}
use Rattle.gw_mux.proofs.Branches.{seg_label, here_label, method_label, no_label, below_host, none_below_host}
use Rattle.gw_mux.proofs.keys.label_at.Goals as goal

pub returns-then-at-len : goal.returns-then-at-len
returns-then-at-len c =
    let p = c.args.pattern.now in
    below_host (tail_keys p.segs.items p.method) (host_key p.host) (seg_key c.index.result.now) c.args.depth (c.args.depth - 1) (omega (arith, c.if-depth-eq0.false))
    (seg_label p.segs.items p.method (c.args.depth - 1) c.index.result.now (omega (arith, c.if-at-len.true, c.len.ensures)) c.index.ensures)
    ∙ ap (λ key. key ∷ drop c.args.depth (tail_keys p.segs.items p.method)) (sym c.label_of.ensures)

pub returns-in-0 : goal.returns-in-0
returns-in-0 c =
    let p = c.args.pattern.now in
    below_host (tail_keys p.segs.items p.method) (host_key p.host) here_key c.args.depth (c.args.depth - 1) (omega (arith, c.if-depth-eq0.false))
    (here_label p.segs.items p.method (c.args.depth - 1) (omega (arith, c.in-0.is, c.if-at-len.false, c.len.ensures, c.len-2.ensures)))

pub returns-in-1 : goal.returns-in-1
returns-in-1 c =
    let p = c.args.pattern.now in
    below_host (tail_keys p.segs.items p.method) (host_key p.host) (method_key p.method) c.args.depth (c.args.depth - 1) (omega (arith, c.if-depth-eq0.false))
    (method_label p.segs.items p.method (c.args.depth - 1) (omega (arith, c.in-1.is, c.if-at-len.false, c.len.ensures, c.len-2.ensures)))
    ∙ ap (λ key. key ∷ drop c.args.depth (tail_keys p.segs.items p.method)) (sym c.label_of_method.ensures)

pub returns-in_default : goal.returns-in_default
returns-in_default c =
    let p = c.args.pattern.now in
    none_below_host (tail_keys p.segs.items p.method) (host_key p.host) c.args.depth (c.args.depth - 1) (omega (arith, c.if-depth-eq0.false))
    (no_label p.segs.items p.method (c.args.depth - 1) (omega (arith, c.if-at-len.false, c.len.ensures, c.len-2.ensures)))
