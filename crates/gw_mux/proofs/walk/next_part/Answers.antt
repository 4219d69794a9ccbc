use Rattle.std.proofs.Common.{◌≡◌, drop, Some, None, sym, ◌∙◌}
use Rattle.std.specs.List.{position}
use Rattle.gw_pattern.specs.Path.{is_slash}
use Rattle.gw_pattern.proofs.Parts.{take_rest}
use Rattle.gw_mux.proofs.Parts.{inner_part, last_part}
use Rattle.gw_mux.proofs.walk.next_part.Goals as goal

pub returns-in-None : goal.returns-in-None
returns-in-None c =
    let h : position is_slash (drop 1 c.args.path.now) ≡ None = rw (← take_rest c.args.path.now 1) (sym c.slash_in.ensures.place ∙ c.in-None.is) in
    rw (take_rest c.args.path.now 1) (last_part c.args.path.now c.in-len1-up.len_at_least h)

pub returns-in-Some : goal.returns-in-Some
returns-in-Some c =
    let h : position is_slash (drop 1 c.args.path.now) ≡ Some c.in-Some.end = rw (← take_rest c.args.path.now 1) (sym c.slash_in.ensures.place ∙ c.in-Some.is) in
    rw (take_rest c.args.path.now 1, take_rest (drop 1 c.args.path.now) c.in-Some.end) (inner_part c.args.path.now c.in-Some.end c.in-len1-up.len_at_least h)
