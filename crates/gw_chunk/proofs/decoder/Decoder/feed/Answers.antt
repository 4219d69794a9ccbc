use Rattle.std.proofs.Common.{subst}
use Rattle.gw_chunk.specs.declared.position.Position.{Position}
use Rattle.gw_chunk.specs.Fed.{Feeds}
use Rattle.gw_chunk.proofs.Advancing.{stays, used_within, wanted}
use Rattle.gw_chunk.proofs.decoder.Decoder.feed.Goals as goal

pub returns : goal.returns
returns c =
    let F : Position → Type 0 = λ q. Feeds q c.args.piece.now c.advance.result c.advance.new.position in
    let step = subst F c.self.view_is c.advance.ensures in
    record {
      step = step;
      within = used_within _ _ _ _ _ step;
      more = wanted _ _ _ _ step;
      stays = stays _ _ _ _ step;
    }
