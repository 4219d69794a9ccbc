use Rattle.std.proofs.Common.{arith}
use Rattle.gw_fields.specs.Lines.{pair_of}
use Rattle.gw_fields.proofs.Lengths.{length-line_of}
use Rattle.gw_fields.proofs.lines.line_len.Goals as goal

pub returns : goal.returns
returns c = omega (arith, length-line_of (pair_of c.args.line.now))
