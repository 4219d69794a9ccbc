use Rattle.std.proofs.Common.{◌≡◌, ◌+◌, length, arith}
use Rattle.std.proofs.lemmas.Grind.{common_steps}
use Rattle.std.proofs.lemmas.List.Elements.{All-push}
use Rattle.gw_wire.specs.World.{IsAlone}
use Rattle.gw_tcp.specs.TcpView.{tcp_view}
use Rattle.gw_tcp.proofs.tcp_world.make_wires.Goals as goal

pub loop-worker-preserved : goal.loop-worker-preserved
loop-worker-preserved g c =
    let one_more : length c.push.new.self.items ≡ c.loop-worker.worker + 1 = grind (arith, common_steps) in
    (one_more, rw (c.in_ok-push.ensures.items) (All-push (λ wire. IsAlone (tcp_view wire)) c.loop-worker.wires.items c.new.result c.loop-worker.invariant.1 c.new.ensures))
