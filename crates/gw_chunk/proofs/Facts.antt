-- What the crates above may cite of this crate's proofs.
pub use Rattle.gw_chunk.proofs.Walks.{after-append, after-ended, content_step, ended_alone, given-append, given-refused, inside_back, leads_back, leads_data}
pub use Rattle.gw_chunk.proofs.TextLaws.{text_has, has_text, bad_fails, fails_bad, fronts, no_text_begins_another, no_fault_in_text, undecided_from, undecided_end, undecided_fault}
pub use Rattle.gw_chunk.proofs.Parts.{part_undecided, undecided_part}
pub use Rattle.gw_chunk.proofs.CodedLaws.{coded_front, coded_is_chunked, cuts_are_coded}
