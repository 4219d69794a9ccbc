-- The connections that a session closes: those that its entries take out of the pool, and its client's.
use Rattle.std.specs.Prelude.{ℕ, ◌≡◌, List, [], ◌∷◌, ◌++◌}
use Rattle.gw_pool.specs.Gone.{gone_links}
use Rattle.gw_account.specs.Work.{Work, At}
use Rattle.gw_transport.specs.Closing.{closed_links}
use Rattle.gw_session.specs.declared.end.Ended.{Ended}
use Rattle.gw_session.specs.Session.{Session}
use Rattle.gw_session.specs.Stand.{Spot}
use Rattle.gw_session.specs.Turn.{Turn}

-- each link that the caller's own entries took out of the pool at their places was closed once, in their order, then the
-- client's, and no other
abbrev pub SessionsCloseWhatLeaves : Type 0
SessionsCloseWhatLeaves =
    (client : ℕ) (at : ℕ → Spot) (result : Ended) (turns : List Turn) (a : At) (w : Work)
    → Session client at result turns a w → closed_links w.acts ≡ gone_links a.limits a.history a.caller w.made ++ (client ∷ [])
