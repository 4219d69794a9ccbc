use Rattle.std.proofs.Common.{sym, ◌∙◌}
use Rattle.gw_head.specs.Target.{is_authority_end}
use Rattle.gw_head.proofs.PieceLemmas.{place_of_some, place_of_none}
use Rattle.gw_head.proofs.target.authority_length.Goals as goal

pub returns-in-Some : goal.returns-in-Some
returns-in-Some c =
    place_of_some is_authority_end c.args.text.now c.in-Some.at (sym c.place_of_authority_end.ensures ∙ c.in-Some.is)

pub returns-in-None : goal.returns-in-None
returns-in-None c = place_of_none is_authority_end c.args.text.now (sym c.place_of_authority_end.ensures ∙ c.in-None.is)
