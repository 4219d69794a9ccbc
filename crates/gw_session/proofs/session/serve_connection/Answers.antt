use Rattle.std.proofs.Common.{ap, arith}
use Rattle.gw_context.specs.Tree.{TreeView}
use Rattle.gw_session.proofs.SessionLemmas.{session_done, session_unkept}
use Rattle.gw_session.proofs.TreeLemmas.{bare_advanced}
use Rattle.gw_session.proofs.session.serve_connection.Goals as goal

pub returns-in_default-clause-step : goal.returns-in_default-clause-step
returns-in_default-clause-step g c = session_unkept _ _ _ _ _ _ _ _ _ _ c.requires.rested c.now-now.ensures c.close.ensures

pub serve_turns-ended-requires-clause-bare : goal.serve_turns-ended-requires-clause-bare
serve_turns-ended-requires-clause-bare g c κs within =
    bare_advanced _ _ _ _ (ap (λ (t : TreeView). t.nodes) c.in-Ok.ensures) (let new = ap (λ (t : TreeView). t.last) c.in-Ok.ensures in omega arith)
    (let given = c.now-now.ensures.given in omega arith) c.advance.ensures

pub returns-clause-step : goal.returns-clause-step
returns-clause-step g c = session_done g.W.Conn.Link.link _ _ _ _ _ _ _ _ _ _ _ _ _ c.now-now.ensures c.serve_turns-ended.ensures.step c.close-2.ensures
