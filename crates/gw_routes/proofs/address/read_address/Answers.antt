use Rattle.gw_routes.proofs.AddressLemmas.{no_colon, wrong_host, wrong_port, right_address}
use Rattle.gw_routes.proofs.address.read_address.Goals as goal

pub returns : goal.returns
returns g = right_address _ _ _ g.in-Some-read_host.host.0 g.in-Some-read_host.host.1 g.in-Some-read_port.port g.in-Some.ensures g.in-Some-read_host.ensures g.in-Some-read_port.ensures

pub returns-in_default : goal.returns-in_default
returns-in_default g = no_colon _ g.in_default.ensures

pub returns-in_default-read_host : goal.returns-in_default-read_host
returns-in_default-read_host g = wrong_host _ _ _ g.in-Some.ensures g.in_default-read_host.ensures

pub returns-in_default-read_port : goal.returns-in_default-read_port
returns-in_default-read_port g = wrong_port _ _ _ g.in-Some.ensures g.in_default-read_port.ensures
