use Rattle.gw_body.proofs.Writing.{pieces_make_text, written_is_read, text_is_read}
use Rattle.gw_body.proofs.laws.written_is_read.Goals as goal

pub returns : goal.returns
returns c = record {
  text = λ framing pieces h. pieces_make_text framing pieces h;
  read = λ framing pieces rest h small alone. written_is_read framing pieces rest h small alone;
  alone = λ framing d rest size alone. text_is_read framing d rest size alone;
}
