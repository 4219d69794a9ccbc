-- What crates above may cite of this crate's proofs.
pub use Rattle.gw_pool.proofs.GoingOn.{wants_go_on, served_stays, dials_stay, over_stays}
pub use Rattle.gw_pool.proofs.Judged.{served_standing, wanted_standing, not_started}
pub use Rattle.gw_pool.proofs.Left.{gone_then, gone_foreign, moments_then, want_leaves, drop_leaves, expire_says}
pub use Rattle.gw_pool.proofs.Mades.{mine_append, mine_push, mine_one}
pub use Rattle.gw_pool.proofs.OwnEntries.{made_stands, started_stands, dialed_stands, failed_stands}
pub use Rattle.gw_pool.proofs.Staying.{leases_stay, out_stays}
pub use Rattle.gw_pool.proofs.Owns.{found_among}
