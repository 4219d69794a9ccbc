use Rattle.std.proofs.Common.{◌<◌, Some, sym, ap, subst, ◌∙◌, arith, rules}
use Rattle.std.proofs.lemmas.List.Elements.{All-from_get_or}
use Rattle.gw_sets.specs.Comparison.{AreMethodBytes}
use Rattle.gw_sets.specs.Shape.{AreBytes}
use Rattle.gw_sets.proofs.comparison.method_bytes.Goals as goal

pub returns-in-Some-clause-bytes : goal.returns-in-Some-clause-bytes
returns-in-Some-clause-bytes c =
    let h : AreBytes c.as_bytes-bytes.result.now = All-from_get_or (λ b. b < 256) c.as_bytes-bytes.result.now 0 (λ i within. first_of (grind arith, search rules)) in
    subst AreMethodBytes (ap (λ x. Some x) (c.as_bytes-bytes.ensures.value ∙ c.as_str.ensures.value) ∙ sym c.in-Some.is) h
