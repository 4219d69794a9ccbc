use Rattle.std.proofs.Common.{subst, IfOk, ◌∙◌}
use Rattle.gw_sets.specs.Comparison.{bytes_of}
use Rattle.gw_mux.specs.Answer.{Decides}
use Rattle.gw_mux.proofs.routing.Mux.decide.Goals as goal

pub returns-then-is_clean : goal.returns-then-is_clean
returns-then-is_clean c =
    subst (λ ps. IfOk c.decide_clean.result (Decides ps c.args.method.now c.args.host.now c.args.path.now (bytes_of c.args.query))) (c.deref.ensures.value ∙ c.self.view_is) c.decide_clean.ensures

pub returns-else-is_clean : goal.returns-else-is_clean
returns-else-is_clean c =
    subst (λ ps. IfOk c.redirect.result (Decides ps c.args.method.now c.args.host.now c.args.path.now (bytes_of c.args.query))) (c.deref-else-is_clean.ensures.value ∙ c.self.view_is) c.redirect.ensures
