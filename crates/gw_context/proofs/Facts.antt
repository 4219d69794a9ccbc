-- What crates above may cite of this crate's proofs.
pub use Rattle.gw_context.proofs.Moments.{advanced_twice}
