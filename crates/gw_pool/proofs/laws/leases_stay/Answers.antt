-- A connection that is out stays so until its caller takes it back.
use Rattle.gw_pool.proofs.Staying.{leases_stay}
use Rattle.gw_pool.proofs.laws.leases_stay.Goals as goal

pub returns : goal.returns
returns c = leases_stay
