use Rattle.gw_head.proofs.FeedLemmas.{fed_whole}
use Rattle.gw_head.proofs.reader.HeadReader.feed.Goals as goal

pub returns-in-Whole : goal.returns-in-Whole
returns-in-Whole g c =
    fed_whole g.H.Judged.is_head g.H.Judged.is_bad _ _ _ _ _ _ _ _ _ c.in-Whole.is c.take_in.ensures c.bytes.ensures
    c.judge-judged.ensures c.conclude.ensures
