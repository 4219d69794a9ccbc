use Rattle.gw_body.proofs.Writing.{begins_text, begins_written, ends_written, goes_on_text, goes_on_written}
use Rattle.gw_body.proofs.laws.written_piece_by_piece.Goals as goal

pub returns : goal.returns
returns c = record {
  begins = λ framing. begins_written framing;
  goes_on = λ framing d text piece plan h some most accepted. goes_on_written framing d text piece plan h some most accepted;
  ends = λ framing d text plan h may. ends_written framing d text plan h may;
  begins_text = λ framing. begins_text framing;
  goes_on_text = λ framing d text piece plan h some most accepted. goes_on_text framing d text piece plan h some most accepted;
}
