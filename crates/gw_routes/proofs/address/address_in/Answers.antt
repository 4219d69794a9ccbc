use Rattle.gw_routes.proofs.AddressTexts.{address_read}
use Rattle.gw_routes.proofs.address.address_in.Goals as goal

pub returns : goal.returns
returns c = address_read c.args.text.now c.read_address.result c.read_address.ensures
