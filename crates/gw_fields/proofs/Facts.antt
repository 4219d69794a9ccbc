-- What the crates above may cite of this crate's proofs.
pub use Rattle.gw_fields.proofs.Searches.{first_place, first_within}
pub use Rattle.gw_fields.proofs.Placing.{sorted_stable_name}
