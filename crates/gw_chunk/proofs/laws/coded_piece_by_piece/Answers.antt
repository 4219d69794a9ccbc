use Rattle.gw_chunk.proofs.CodedLaws.{coded_front, cuts_are_coded}
use Rattle.gw_chunk.proofs.laws.coded_piece_by_piece.Goals as goal

pub returns-clause-cut : goal.returns-clause-cut
returns-clause-cut c = λ pieces h. cuts_are_coded pieces h

pub returns-clause-goes_on : goal.returns-clause-goes_on
returns-clause-goes_on c = λ d some. coded_front d some
