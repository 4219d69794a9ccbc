-- What the crates above may cite of this crate's proofs.
pub use Rattle.gw_body.proofs.Taking.{takes_none, takes_then}
