use Rattle.std.proofs.Common.{subst, ◌∙◌}
use Rattle.gw_mux.specs.Answer.{Finds}
use Rattle.gw_mux.proofs.routing.Mux.find.Goals as goal

pub returns : goal.returns
returns c =
    subst (λ ps. Finds ps c.args.method.now c.args.host.now c.args.path.now c.found_in.result) (c.deref.ensures.value ∙ c.self.view_is) c.found_in.ensures
