use Rattle.gw_chunk.proofs.CodedLaws.{pieces_are_chunked, coded_is_chunked, coded_alone}
use Rattle.gw_chunk.proofs.laws.coded_is_read_as_its_data.Goals as goal

pub returns : goal.returns
returns c = record {
  pieces = λ pieces h small. pieces_are_chunked pieces h small;
  text = λ d small. coded_is_chunked d small;
  alone = λ d rest text more e small same is_text. coded_alone d rest text more e small same is_text;
}
