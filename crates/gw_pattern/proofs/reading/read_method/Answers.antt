use Rattle.std.proofs.Common.{Ok, Some, sym, ap, ◌∙◌}
use Rattle.gw_pattern.proofs.Said.{method_ok}
use Rattle.gw_pattern.proofs.reading.read_method.Goals as goal

pub returns : goal.returns
returns c =
    method_ok c.args.name.now (sym c.is_empty.ensures ∙ c.if-is_empty.false) (λ never. cc (c.in-Ok.ensures.invalid.1 never)) (rw c.as_slice.ensures at (sym c.if-eq.ensures)) ∙ ap (λ x. Ok (Some x)) (sym c.in-Ok.ensures.ok)
