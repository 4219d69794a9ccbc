-- What crates above may cite of this crate's proofs.
pub use Rattle.gw_transport.proofs.ClosingLemmas.{closes_add_up, ends_close, looks_close, only_closing}
pub use Rattle.gw_transport.proofs.QuietLemmas.{SkipsReads, SkipsWrites, comes_quiet, loss_quiet, quiet_then, reads_quiet, says_quiet, writes_quiet}
pub use Rattle.gw_transport.proofs.TripClosingLemmas.{kept_trips_close, reads_close, shuffle_quiet, trips_close, upload_trips_close, uploads_close, writes_close}
