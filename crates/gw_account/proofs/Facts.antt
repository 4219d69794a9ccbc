-- What crates above may cite of this crate's proofs.
pub use Rattle.gw_account.proofs.WorkLemmas.{both_both, free_both, both_free, and_and, nothing_and, and_nothing, sum_push, behind_behind, behind_nothing, behind_silent, only_is}
pub use Rattle.gw_account.proofs.DidLemmas.{mine_then, moments_then, at_then, wired_call, wired_then, pooled_same, pooled_then, doing_then, doing_nothing, doing_went, did_then, did_map, did_by, did_nothing, did_went, went_nothing, went_call, went_then, went_map, went_told, runs_by, pays_by, doing_billed}
pub use Rattle.gw_account.proofs.PoolLemmas.{own_last, called, called_untimed, looked}
pub use Rattle.gw_account.proofs.BesideLemmas.{one_alone, shuffle_one, shuffle_other, beside_one, beside_other, beside_map, beside_went, beside_did, did_one, did_other}
