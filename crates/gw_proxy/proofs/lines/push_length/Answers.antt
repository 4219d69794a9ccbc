use Rattle.std.proofs.Common.{◌++◌, ◌∷◌, [], codes, ap, ◌∙◌}
use Rattle.std.proofs.lemmas.Result.{on_ok_weaker}
use Rattle.gw_proxy.proofs.lines.push_length.Goals as goal

pub returns-in-Some : goal.returns-in-Some
returns-in-Some c =
    let same = ap (λ text. c.args.lines.now ++ (codes "content-length", text) ∷ []) c.as_bytes.ensures.value in
    rw c.in-Some.is (on_ok_weaker c.push.result (λ e. e ∙ same) c.push.ensures.ok)
