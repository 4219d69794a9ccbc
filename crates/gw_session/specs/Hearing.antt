-- What is heard of a client's request.
use Rattle.std.specs.Prelude.{ℕ, ◌≡◌, ◌<◌, ◌⊎◌, List, [], ◌∷◌, ◌++◌, length, Some}
use Rattle.gw_wire.specs.declared.values.Act.{Act}
use Rattle.gw_wire.specs.declared.values.Act.TheVariants.{Read}
use Rattle.gw_wire.specs.Stretch.{Acts, Then}
use Rattle.gw_head.specs.declared.error.HeadError.{HeadError}
use Rattle.gw_head.specs.declared.error.HeadError.TheVariants.{TooLong}
use Rattle.gw_head.specs.declared.request.RequestHead.{RequestHead}
use Rattle.gw_head.specs.Head.{RequestHeadOf, BadRequestHead}
use Rattle.gw_head.specs.Stage.{IsTooLong, IsUndecided}
use Rattle.gw_account.specs.Work.{Work, At, Only, free}
use Rattle.gw_stream.specs.declared.waits.Loss.{Loss}
use Rattle.gw_stream.specs.declared.waits.Loss.TheVariants as loss
use Rattle.gw_stream.specs.declared.waits.Stop.TheVariants as stops
use Rattle.gw_stream.specs.Drawing.{HearsWhile}
use Rattle.gw_stream.specs.Waits.{loss_acts, loss_bill}
use Rattle.gw_session.specs.Replies.{IsLossOfClient}
use Rattle.gw_session.specs.Stand.{Line}

-- ---- before a request

-- a wait for a request ends by the client, by its silence, or since the gate was seen shut
abbrev pub IsLossOfIdle : Loss → Type 0
IsLossOfIdle loss.End = Unit {0}
IsLossOfIdle loss.Failed = Unit {0}
IsLossOfIdle (loss.Stopped stops.Cancelled) = Unit {0}
IsLossOfIdle (loss.Stopped stops.Deadline) = ⊥
IsLossOfIdle (loss.Stopped stops.Silent) = Unit {0}
IsLossOfIdle (loss.Stopped stops.Ticks) = Unit {0}

-- a byte of a request is there: it was ahead, or a piece came of the client
abbrev pub Arrives : ℕ → List ℕ → List ℕ → List Act → Type 0
Arrives client kept ahead acts =
    (0 < length ahead) × (((ahead ≡ kept) × (acts ≡ [])) ⊎ ((kept ≡ []) × (acts ≡ Read client ahead ∷ [])))

-- none came
abbrev pub Misses : Line → List ℕ → Loss → At → Work → Type 0
Misses l kept why a w = (kept ≡ []) × IsLossOfIdle why × Only (loss_bill (Some l.silence) why) (Acts (loss_acts l.client why)) a w

-- ---- its head

-- reads while a head isn't whole
abbrev pub HearsHead : ℕ → List ℕ → List ℕ → List Act → Type 0
HearsHead = HearsWhile IsUndecided

-- bytes that begin with a head that fails this check first, or with more than a head may have
abbrev pub IsRefused : HeadError → List ℕ → Type 0
IsRefused error bytes =
    ((front : List ℕ) × (behind : List ℕ) × (bytes ≡ front ++ behind) × BadRequestHead front error)
    ⊎ (IsTooLong bytes × (error ≡ TooLong))

-- what comes of a head whose first bytes are ahead: it is whole, and then so much is ahead; or it is refused; or nothing
-- more comes; or there is no memory for it
abbrev pub HearsWhole : ℕ → List ℕ → List ℕ → RequestHead → List ℕ → At → Work → Type 0
HearsWhole client kept text head left a w =
    RequestHeadOf text head × Only free (HearsHead client kept (text ++ left)) a w

abbrev pub HearsRefused : ℕ → List ℕ → HeadError → At → Work → Type 0
HearsRefused client kept error a w = (bytes : List ℕ) × IsRefused error bytes × Only free (HearsHead client kept bytes) a w

abbrev pub HearsPart : Line → List ℕ → Loss → At → Work → Type 0
HearsPart l kept why a w =
    (bytes : List ℕ) × IsUndecided bytes × IsLossOfClient why
    × Only (loss_bill (Some l.silence) why) (Then (HearsHead l.client kept bytes) (Acts (loss_acts l.client why))) a w

abbrev pub HearsUnkept : ℕ → List ℕ → At → Work → Type 0
HearsUnkept client kept a w = (bytes : List ℕ) × Only free (HearsHead client kept bytes) a w
