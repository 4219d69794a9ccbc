-- The connections that a stretch of work closes, and those that its entries hand out of the pool to be closed.
use Rattle.std.specs.Prelude.{ℕ, ◌≡◌, Bool, List, [], ◌∷◌, flat_map}
use Rattle.gw_wire.specs.declared.values.Act.{Act}
use Rattle.gw_wire.specs.declared.values.Act.TheVariants.{Closed}
use Rattle.gw_wire.specs.Link.{LinkView}
use Rattle.gw_pool.specs.Gone.{gone_links}
use Rattle.gw_account.specs.Work.{Work, At, and, behind}
use Rattle.gw_transport.specs.declared.attempts.Attempted.{Attempted}
use Rattle.gw_transport.specs.declared.replying.Begun.{Begun}
use Rattle.gw_transport.specs.declared.replying.End.{End}
use Rattle.gw_transport.specs.Attempts.{AttemptedBy, ErrandView}
use Rattle.gw_transport.specs.Leasing.{Lateness}
use Rattle.gw_transport.specs.Parts.{Ends, Expires}
use Rattle.gw_transport.specs.Sending.{ExchangesKept, KeptView}
use Rattle.gw_transport.specs.Uploading.{ExchangesUpload, UploadView}

-- the link that an act closed
abbrev pub closed_by : Act → List ℕ
closed_by (Closed link) = link ∷ []
closed_by _ = []

-- the links that these acts closed, in their order
abbrev pub closed_links : List Act → List ℕ
closed_links acts = flat_map closed_by acts

-- each link that the caller's own entries took out of the pool at their places was closed once, in their order, and no other
abbrev pub ClosesWhatLeaves : At → Work → Type 0
ClosesWhatLeaves a w = closed_links w.acts ≡ gone_links a.limits a.history a.caller w.made

abbrev pub TripsCloseWhatLeaves : {C : Type 0} → (C → LinkView) → Type 0
TripsCloseWhatLeaves {C} link =
    (errand : ErrandView) (from to : KeptView) (result : Attempted C Begun End) (late : Lateness) (a : At) (w : Work)
    → AttemptedBy ExchangesKept errand from to result late a w → ClosesWhatLeaves a w

abbrev pub UploadTripsCloseWhatLeaves : {C : Type 0} → (C → LinkView) → Type 0
UploadTripsCloseWhatLeaves {C} link =
    (errand : ErrandView) (from to : UploadView) (result : Attempted C Begun End) (late : Lateness) (a : At) (w : Work)
    → AttemptedBy ExchangesUpload errand from to result late a w → ClosesWhatLeaves a w

-- a trip's first look, and a lease's end
abbrev pub LooksCloseWhatLeaves : Type 0
LooksCloseWhatLeaves = (at : ℕ) (a : At) (w : Work) → Expires at a w → ClosesWhatLeaves a w

abbrev pub EndsCloseWhatLeaves : Type 0
EndsCloseWhatLeaves = (reusable : Bool) (conn : ℕ) (a : At) (w : Work) → Ends reusable conn a w → ClosesWhatLeaves a w

-- so do two stretches one behind the other
abbrev pub ClosesAddUp : Type 0
ClosesAddUp = (a : At) (u v : Work) → ClosesWhatLeaves a u → ClosesWhatLeaves (behind a u) v → ClosesWhatLeaves a (and u v)
