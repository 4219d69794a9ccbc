use Rattle.std.proofs.Common.{sym, ap, ◌∙◌}
use Rattle.gw_pattern.specs.Path.{parts_of}
use Rattle.gw_pattern.specs.Path.{are_tidy}
use Rattle.gw_pattern.proofs.Tidy.{untidy, some_parts}
use Rattle.gw_pattern.proofs.cleaning.has_tidy_parts.Goals as goal

pub returns-then-is_special : goal.returns-then-is_special
returns-then-is_special c =
    let split = rw c.in-Some.is at c.split_part.ensures in
    let special = sym c.is_special-in-loop-rest.ensures ∙ c.if-is_special.true in
    sym (untidy c.split_part.result.0.now (parts_of c.in-Some.rest.now) (some_parts c.in-Some.rest.now) special) ∙ ap are_tidy (sym split.1) ∙ c.loop-rest.invariant
