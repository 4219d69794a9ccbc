-- What contracts see of a wire and of a world of the system: counts and a clock, no log, no files and no output.
use Rattle.std.specs.Prelude.{◌≡◌, false, [], None}
use Rattle.gw_wire.specs.Wire.{WireView}
use Rattle.gw_wire.specs.World.{WorldView}
use Rattle.gw_tcp.specs.declared.tcp_wire.TcpWire.{TcpWire}
use Rattle.gw_tcp.specs.declared.tcp_world.TcpWorld.{TcpWorld}

abbrev pub tcp_view : {R : Type 0} → TcpWire R → WireView
tcp_view w = record {
  accept_faults = w.accept_faults;
  dial_faults = w.dial_faults;
  ticks = w.ticks;
  rests = w.rests;
  moment = w.moment;
  first = w.first;
  asked = w.asked;
  aged = w.aged;
  ended = false;
  groups = λ _. [];
  log = None;
}

abbrev pub tcp_world_view : {R : Type 0} → TcpWorld R → WorldView
tcp_world_view w = record {
  file_faults = w.file_faults;
  listen_faults = w.listen_faults;
  print_faults = w.print_faults;
  groups = λ _. [];
  printed = None;
  files = None;
  listened = None;
}

-- a world on which nothing has failed yet
pub record IsUnused (world : WorldView) : Type 0 where
  pub file_faults : world.file_faults ≡ 0
  pub listen_faults : world.listen_faults ≡ 0
  pub print_faults : world.print_faults ≡ 0
