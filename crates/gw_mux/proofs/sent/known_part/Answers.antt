use Rattle.std.proofs.Common.{◌≡◌, take, drop, sym, refl, subst, ap, ◌∙◌}
use Rattle.std.proofs.lemmas.List.{take_rest}
use Rattle.gw_mux.specs.Sent.{AreLengths}
use Rattle.gw_mux.specs.Walk.{TakesPart}
use Rattle.gw_mux.proofs.Lengths.{known}
use Rattle.gw_mux.proofs.sent.known_part.Goals as goal

pub split_at-requires : goal.split_at-requires
split_at-requires c = rw (take_rest c.args.path.body.now 1) ((known c.args.path.body.now c.args.length c.args.lengths.now c.requires).1)

pub returns : goal.returns
returns c =
    let body = c.args.path.body.now in
    let n = c.args.length in
    let k = known body n c.args.lengths.now c.requires in
    let rest = take_rest body 1 in
    let front : c.split_at.result.0.now ≡ take n (drop 1 body) = c.split_at.ensures.front ∙ ap (take n) rest in
    let back : c.split_at.result.1.now ≡ drop n (drop 1 body) = c.split_at.ensures.back ∙ ap (drop n) rest in
    record {
      takes = subst (λ x. TakesPart body x c.split_at.result.1.now) (sym front) (subst (λ x. TakesPart body (take n (drop 1 body)) x) (sym back) k.2);
      lengths = subst (AreLengths c.args.lengths.now) (sym back) k.3;
      slash = refl;
    }
