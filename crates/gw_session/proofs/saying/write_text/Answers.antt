use Rattle.std.proofs.Common.{refl}
use Rattle.gw_session.proofs.SayLemmas.{written}
use Rattle.gw_session.proofs.saying.write_text.Goals as goal

pub returns : goal.returns
returns g c = written _ _ _ _ _ _ _ _ _ refl refl refl c.write_all.ensures.step
