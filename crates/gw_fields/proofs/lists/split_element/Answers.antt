use Rattle.std.proofs.Common.{◌+◌, sym, ◌∙◌, arith, length-drop}
use Rattle.gw_fields.proofs.Elements.{one_element, first_element, take_rest}
use Rattle.gw_fields.proofs.lists.split_element.Goals as goal

pub returns-in-None : goal.returns-in-None
returns-in-None c = one_element c.args.value.now (sym c.place_of_comma.ensures.place ∙ c.in-None.is)

pub returns-in-Some : goal.returns-in-Some
returns-in-Some c =
    rw take_rest (
      first_element c.args.value.now c.in-Some.end (sym c.place_of_comma.ensures.place ∙ c.in-Some.is),
      omega (arith, length-drop (c.in-Some.end + 1) c.args.value.now, c.in-Some.ensures.within),
    )
