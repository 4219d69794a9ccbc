use Rattle.std.proofs.Common.{◌≡◌, inl, ap, ◌∙◌, length, arith}
use Rattle.gw_top.specs.Printed.{ok_line}
use Rattle.gw_top.proofs.inspect.check.Goals as goal

pub returns-in-Ok : goal.returns-in-Ok
returns-in-Ok g c =
    let count : c.len-count.result ≡ length c.args.table.now.routes.items = omega (arith, c.len-count.ensures) in
    inl (c.as_bytes.result.now, c.as_bytes.ensures.value ∙ c.in-Ok.ensures.ok ∙ ap ok_line count, c.print.ensures)
