use Rattle.std.proofs.Common.{refl, sym, ◌∙◌}
use Rattle.gw_pattern.proofs.Parts.{one_part, first_part, take_rest}
use Rattle.gw_pattern.proofs.cleaning.split_part.Goals as goal

pub returns-in-None : goal.returns-in-None
returns-in-None c = (refl, one_part c.args.path.now (sym c.place_of.ensures.place ∙ c.in-None.is))

pub returns-in-Some : goal.returns-in-Some
returns-in-Some c =
    rw take_rest (first_part c.args.path.now c.in-Some.end (sym c.place_of.ensures.place ∙ c.in-Some.is))
