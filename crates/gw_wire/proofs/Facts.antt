-- What crates above may cite of this crate's proofs.
pub use Rattle.gw_wire.proofs.LaterLemmas.{later_same, later_then, link_same, link_then, rises_from, rises_to, rises_then}
pub use Rattle.gw_wire.proofs.ShuffleLemmas.{first_side, second_side, shuffle_turned, other_links}
pub use Rattle.gw_wire.proofs.StretchLemmas.{Logs-none, Logs-then, Logs-quiet, Told-map, Told-acts, Told-then, Told-after_quiet, Told-before_quiet}
