use Rattle.std.proofs.Common.{◌≡◌, ℕ, List, [], fold, IfOk, ap, ◌∙◌, subst}
use Rattle.gw_pattern.specs.Path.{parts_of}
use Rattle.gw_pattern.specs.Walk.{with_part_bytes, closed_bytes}
use Rattle.gw_pattern.proofs.Walked.{closed_walk}
use Rattle.gw_pattern.proofs.cleaning.clean.Goals as goal

pub returns : goal.returns
returns c =
    let path = c.args.path.now in
    let walked = rw c.in_default.is at c.loop-left.invariant in
    let e = ap (λ x. closed_bytes x c.ends_in_slash.result) walked ∙ ap (closed_bytes (fold with_part_bytes [] (parts_of path))) c.ends_in_slash.ensures ∙ closed_walk path in
    subst (λ (x : List ℕ). IfOk c.close.result (λ v. v.items ≡ x)) e c.close.ensures
