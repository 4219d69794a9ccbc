use Rattle.gw_transport.proofs.ClosingLemmas.{closes_add_up, ends_close, looks_close}
use Rattle.gw_transport.proofs.TripClosingLemmas.{trips_close, uploads_close}
use Rattle.gw_transport.proofs.laws.connections_are_closed_once.Goals as goal

pub returns-clause-trips : goal.returns-clause-trips
returns-clause-trips g c = trips_close g.C.Link.link

pub returns-clause-uploads : goal.returns-clause-uploads
returns-clause-uploads g c = uploads_close g.C.Link.link

pub returns-clause-looks : goal.returns-clause-looks
returns-clause-looks g c = looks_close

pub returns-clause-ends : goal.returns-clause-ends
returns-clause-ends g c = ends_close

pub returns-clause-sums : goal.returns-clause-sums
returns-clause-sums g c = closes_add_up
