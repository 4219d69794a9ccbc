use Rattle.gw_chunk.proofs.Advancing.{goes_on, refuses_before}
use Rattle.gw_chunk.proofs.decoder.advance.Goals as goal

pub returns-in-Refused : goal.returns-in-Refused
returns-in-Refused c = refuses_before _ _ _ c.in-Refused.is

pub walk-requires : goal.walk-requires
walk-requires c = goes_on _ c.in_default.not-Ended c.in_default.not-Refused
