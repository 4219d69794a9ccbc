use Rattle.gw_top.proofs.load.bad_line.Goals as goal

pub returns-in-Some-pattern : goal.returns-in-Some-pattern
returns-in-Some-pattern c = rw (c.in-Some.is, c.in-Some-pattern.is) c.format-in-Some-pattern.ensures.ok
