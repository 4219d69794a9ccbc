use Rattle.std.proofs.Common.{length, []}
use Rattle.gw_body.specs.Taken.{DecidesNothing, Feeds}
use Rattle.gw_stream.proofs.DrawLemmas.{drew_bad, drew_more, of_front}
use Rattle.gw_stream.proofs.drawing.draw.Goals as goal

pub returns-in-More-clause-step : goal.returns-in-More-clause-step
returns-in-More-clause-step c =
    drew_more _ _ _ _ [] (length c.args.buf.now) c.take-fed.result
    (of_front (λ l. Feeds c.args.body.now l c.take-fed.result c.take-fed.new.self) _ _ _ _ c.ahead.ensures c.front-piece.ensures c.take-fed.ensures.step) c.in-More.is
    (of_front (λ l. DecidesNothing c.args.body.now l) _ _ _ _ c.ahead.ensures c.front-piece.ensures (c.take-fed.ensures.more.0 c.in-More.is)) c.skip-in-More.ensures

pub returns-in-Bad-clause-step : goal.returns-in-Bad-clause-step
returns-in-Bad-clause-step c =
    drew_bad _ c.take-fed.new.self _ [] [] (length c.args.buf.now) c.take-fed.result c.in-Bad.error
    (of_front (λ l. Feeds c.args.body.now l c.take-fed.result c.take-fed.new.self) _ _ _ _ c.ahead.ensures c.front-piece.ensures c.take-fed.ensures.step) c.in-Bad.is
