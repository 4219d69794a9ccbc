use Rattle.std.proofs.Common.{◌≡◌, length}
use Rattle.std.specs.List.{All}
use Rattle.gw_wire.specs.World.{IsAlone}
use Rattle.gw_tcp.specs.TcpView.{tcp_view}
use Rattle.gw_tcp.proofs.tcp_world.make_wires.Given as goal

abbrev pub invariant-loop-worker : goal.invariant-loop-worker
invariant-loop-worker g l = (length l.wires.items ≡ l.worker) × All (λ wire. IsAlone (tcp_view wire)) l.wires.items
