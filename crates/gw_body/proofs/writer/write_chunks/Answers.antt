use Rattle.std.proofs.Common.{◌++◌, ◌∙◌, ap}
use Rattle.std.proofs.lemmas.List.{append_assoc}
use Rattle.gw_chunk.specs.Chunked.{coded_piece}
use Rattle.gw_body.proofs.Writing.{chunk_more}
use Rattle.gw_body.proofs.writer.write_chunks.Goals as goal

pub loop-rest-preserved : goal.loop-rest-preserved
loop-rest-preserved c = (
  chunk_more c.args.out.now.items c.loop-rest.out.items c.encode_piece.new.out.items c.args.content.now c.loop-rest.rest.now
      c.split_at.result.0.now c.split_at.result.1.now c.min.result c.loop-rest.invariant.0 c.loop-rest-test.ensures c.min.ensures c.split_at.ensures.front
      c.split_at.ensures.back c.in_ok-encode_piece.ensures.ok,
  (
    c.loop-rest.invariant.1.0 ++ coded_piece c.split_at.result.0.now,
    c.in_ok-encode_piece.ensures.ok ∙ ap (λ l. l ++ coded_piece c.split_at.result.0.now) c.loop-rest.invariant.1.1
        ∙ append_assoc c.args.out.now.items c.loop-rest.invariant.1.0 (coded_piece c.split_at.result.0.now),
  ),
)
