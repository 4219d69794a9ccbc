-- What crates above may cite of this crate's proofs.
pub use Rattle.gw_session.proofs.DoneLemmas.{after_idle, done_after, done_map, done_then, done_went, rose_before, rose_behind, then_idle}
pub use Rattle.gw_session.proofs.SayLemmas.{clock_idle}
pub use Rattle.gw_session.proofs.SeatLemmas.{either_left, either_right, either_which, or_assoc, or_false, seats_looked, seats_same, seats_since, seats_then}
