use Rattle.gw_routes.proofs.AddressLemmas.{no_host}
use Rattle.gw_routes.proofs.address.read_host.Goals as goal

pub returns-in-Err : goal.returns-in-Err
returns-in-Err g = λ local ip h. no_host g.args.text.now local ip (λ e. let other = rw e at (rw g.as_slice.ensures at g.if-eq.ensures) in cc) g.in-Err.ensures h
