-- How an address is written.
use Rattle.std.specs.Prelude.{ℕ, List, ◌++◌, codes, decimal, if◌then◌else◌}
use Rattle.std.specs.Net.Text.{ipv4_text}
use Rattle.gw_wire.specs.declared.values.Addr.{Addr}

-- `localhost`, or four numbers joined by points; then a colon and the port
abbrev pub address_text : Addr → List ℕ
address_text a = if a.local then codes "localhost:" ++ decimal a.port else ipv4_text a.ip ++ codes ":" ++ decimal a.port
