use Rattle.std.proofs.Common.{subst}
use Rattle.gw_mux.specs.Table.{IsFirstConflict}
use Rattle.gw_mux.proofs.routing.Mux.build.Goals as goal

pub returns-in-Some : goal.returns-in-Some
returns-in-Some c =
    subst (λ ps. IsFirstConflict ps c.in-Some.first c.in-Some.second) c.deref.ensures.value c.in-Some.ensures.first
