-- What crates above may cite of this crate's proofs.
pub use Rattle.gw_stream.proofs.GuardLemmas.{guard_later, guard_same, guard_then}
pub use Rattle.gw_stream.proofs.WatchedLemmas.{watched_look, watched_now, watched_same, watched_then}
pub use Rattle.gw_stream.proofs.LinkLemmas.{rose_from, waited_map, waited_same, waited_then}
pub use Rattle.gw_stream.proofs.SendLemmas.{stop_cause, waited_behind, writes_none}
pub use Rattle.gw_stream.proofs.ComesLemmas.{draws_none, draws_then, hears_then, says_then, writes_then}
pub use Rattle.gw_stream.proofs.RelayCauses.{Goes, goes_same, goes_waited, loss_within, stop_within}
pub use Rattle.gw_stream.proofs.RelayLemmas.{one_more, other_more}
pub use Rattle.gw_stream.proofs.RelayLawLemmas.{heard_bytes}
