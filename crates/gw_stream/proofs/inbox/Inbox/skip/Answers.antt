use Rattle.std.proofs.Common.{◌∙◌, ap, drop}
use Rattle.gw_stream.proofs.InboxLemmas.{skipped}
use Rattle.gw_stream.proofs.inbox.Inbox.skip.Goals as goal

pub returns : goal.returns
returns c =
    skipped c.self.inside.buf.items c.self.inside.start c.self.inside.to c.args.count c.self.invariant (rw c.self.view_is c.requires)
    ∙ ap (λ l. drop c.args.count l) c.self.view_is
