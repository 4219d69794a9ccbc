use Rattle.std.proofs.Common.{◌+◌, ◌-◌, ◌∙◌, ap, arith, length}
use Rattle.std.proofs.lemmas.Slice.{drop-put_mid}
use Rattle.gw_stream.proofs.framing.put_behind.Goals as goal

pub returns-clause-rest : goal.returns-clause-rest
returns-clause-rest c =
    drop-put_mid c.args.done (c.args.done + length c.args.bytes.now - c.args.done) c.args.buf.now c.copy_from_slice.new.self (c.args.done + length c.args.bytes.now)
    (omega arith) (omega (arith, c.requires.room)) (ap length c.copy_from_slice.ensures.after ∙ omega arith)
