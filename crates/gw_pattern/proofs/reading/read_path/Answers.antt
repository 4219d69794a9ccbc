use Rattle.gw_pattern.proofs.Parts.{take_rest}
use Rattle.gw_pattern.proofs.Said.{path_clean}
use Rattle.gw_pattern.proofs.reading.read_path.Goals as goal

pub returns : goal.returns
returns c =
    rw (path_clean c.args.at c.args.path.now (c.is_clean.ensures.0 c.if-not-is_clean.false)) (rw take_rest at c.read_segs.ensures)
