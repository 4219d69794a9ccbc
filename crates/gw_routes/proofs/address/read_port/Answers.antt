use Rattle.std.proofs.Common.{sym, arith}
use Rattle.gw_routes.proofs.AddressLemmas.{port_of, first_of_port, port_not_empty, port_is_utf8, port_parses}
use Rattle.gw_routes.proofs.address.read_port.Goals as goal

pub returns-then-is_empty : goal.returns-then-is_empty
returns-then-is_empty g = λ port p. port_not_empty port g.args.text.now p (sym g.if-is_empty.ensures)

pub returns-then-text-le48 : goal.returns-then-text-le48
returns-then-text-le48 g = λ port p. omega (arith, first_of_port port g.args.text.now p, g.if-text-le48.true)

pub returns-in_default : goal.returns-in_default
returns-in_default g = λ port p. g.in_default.ensures.cases.0 (port_is_utf8 port g.args.text.now p)

pub returns-in-Err : goal.returns-in-Err
returns-in-Err g = λ port p. port_parses port g.args.text.now g.parse.result g.in-Err.field-0 p (rw g.in-Ok.ensures.cases.0 at g.parse.ensures.value.0) g.in-Err.is

pub returns-in-Ok-parse : goal.returns-in-Ok-parse
returns-in-Ok-parse g = port_of g.args.text.now g.in-Ok-parse.port g.parse.result g.in-Ok-parse.is g.if-text-le48.false (rw g.in-Ok.ensures.cases.0 at g.parse.ensures.value.0)
