use Rattle.gw_wire.proofs.ScriptLemmas.{bytes_are_kept}
use Rattle.gw_wire.proofs.laws.script_bytes_are_kept.Goals as goal

pub returns : goal.returns
returns c = bytes_are_kept
