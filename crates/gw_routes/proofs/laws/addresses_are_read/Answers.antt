use Rattle.gw_routes.proofs.AddressTexts.{address_is, address_given}
use Rattle.gw_routes.proofs.laws.addresses_are_read.Goals as goal

pub returns : goal.returns
returns c = λ text a. (address_given text a, λ h. address_is text a h.0 h.1)
