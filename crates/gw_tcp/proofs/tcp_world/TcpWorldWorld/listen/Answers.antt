use Rattle.std.proofs.Common.{◌≡◌, rules, refl, [], List}
use Rattle.std.specs.List.{All}
use Rattle.std.proofs.lemmas.List.Elements.{All-weaker}
use Rattle.gw_wire.specs.World.{IsAlone, IsGiven, WorldView}
use Rattle.gw_tcp.specs.TcpView.{tcp_view}
use Rattle.gw_tcp.specs.declared.tcp_wire.TcpWire.{TcpWire}
use Rattle.gw_tcp.proofs.tcp_world.TcpWorldWorld.listen.Goals as goal

given_alone : {R : Type 0} (world : WorldView) (wires : List (TcpWire R)) → ((a : _) → world.groups a ≡ [])
    → All (λ wire. IsAlone (tcp_view wire)) wires → All (λ wire. IsGiven world (tcp_view wire)) wires
given_alone {R} world wires none alone =
    All-weaker (λ wire. IsAlone (tcp_view {R = R} wire)) (λ wire. IsGiven world (tcp_view {R = R} wire))
    (λ wire is. record { fresh = is.fresh; groups = λ a. rw (none a) (is.groups a) }) wires alone

pub returns-in-Ok : goal.returns-in-Ok
returns-in-Ok g c = record {
  later = search rules;
  cause = (c.in-Ok.ensures.count, given_alone _ c.in-Ok.wires.items (λ a. refl) c.in-Ok.ensures.fresh, tt);
  printed = tt;
}
