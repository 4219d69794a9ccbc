-- What the crates above may cite of this crate's proofs.
pub use Rattle.gw_head.proofs.CheckLemmas.{IsLength, length_yes}
pub use Rattle.gw_head.proofs.OriginLemmas.{IsOrigin, origin}
pub use Rattle.gw_head.proofs.Plain.{made, head_by, failing, fault_by}
pub use Rattle.gw_head.proofs.ReadPlain.{shorter, writable_reply}
pub use Rattle.gw_head.proofs.ReadRequest.{writable_request}
pub use Rattle.gw_head.proofs.WrittenReply.{digits_pass, reply_written}
pub use Rattle.gw_head.proofs.WrittenRequest.{made as asked, head_by as asked_by, failing as asked_failing, fault_by as asked_fault, request_written}
