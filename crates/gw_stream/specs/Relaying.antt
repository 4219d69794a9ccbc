-- A body that is relayed: read of one link, and written to another as it comes.
use Rattle.std.specs.Prelude.{ℕ, ◌≡◌, Bool, true, false, List, ◌++◌, length, All, Option}
use Rattle.std.specs.List.{concat, flat_map}
use Rattle.gw_wire.specs.declared.values.Act.{Act}
use Rattle.gw_wire.specs.Causes.{Rose}
use Rattle.gw_wire.specs.Link.{LinkView}
use Rattle.gw_wire.specs.Shuffle.{Shuffle}
use Rattle.gw_chunk.specs.Chunked.{coded, piece_limit}
use Rattle.gw_chunk.specs.declared.error.ChunkError.{ChunkError}
use Rattle.gw_body.specs.declared.place.Place.{Place}
use Rattle.gw_account.specs.Work.{Bill, both, free}
use Rattle.gw_stream.specs.declared.relaying.Incoming.{Incoming}
use Rattle.gw_stream.specs.declared.relaying.Relayed.{Relayed}
use Rattle.gw_stream.specs.declared.relaying.Relayed.TheVariants as relayed
use Rattle.gw_stream.specs.declared.relaying.Silences.{Silences}
use Rattle.gw_stream.specs.declared.waits.Loss.{Loss}
use Rattle.gw_stream.specs.declared.waits.Sent.{Sent}
use Rattle.gw_stream.specs.declared.waits.Sent.TheVariants as sent
use Rattle.gw_stream.specs.Drawing.{Completes, Draws, Faults, Loses}
use Rattle.gw_stream.specs.Filling.{Passing}
use Rattle.gw_stream.specs.Outbox.{piece_of}
use Rattle.gw_stream.specs.Waits.{Side, LossCause, Says, StopCause, Waited, loss_bill, sent_bill}

-- ---- what came of the source

-- it stands inside the body, or the body is whole, or it has a fault, or nothing more came inside it
pub data Came : Type 0 where
  Inside : Came
  Done : Came
  Bad : ChunkError → Came
  Lost : Loss → Came

-- from a place on this data came of a link, beside the bytes ahead, up to another place, and then so
abbrev pub Comes : ℕ → Place → List ℕ → List ℕ → Place → List ℕ → Came → List Act → Type 0
Comes link old ahead d new left Came.Inside acts = Draws link old ahead d new left acts
Comes link old ahead d new left Came.Done acts = Completes link old ahead d new left acts
Comes link old ahead d new left (Came.Bad error) acts = Faults link old ahead d new error acts
Comes link old ahead d new left (Came.Lost why) acts = Loses link old ahead d new why acts

-- what that costs
abbrev pub came_bill : Option ℕ → Came → Bill
came_bill silence (Came.Lost why) = loss_bill silence why
came_bill silence _ = free

-- ---- what the target is written

-- the text of a body's data: in chunks (RFC 9112, section 7.1), or the data itself
abbrev pub text_of : Bool → List ℕ → List ℕ
text_of true d = coded d
text_of false d = d

-- behind a head, the text of whole pieces of the data: what is written of a body that stops in its middle
pub record IsFront (head : List ℕ) (chunks : Bool) (d text : List ℕ) : Type 0 where
  pub pieces : List (List ℕ)
  pub rest : List ℕ
  pub data_is : d ≡ concat pieces ++ rest
  pub whole : All (λ piece. length piece ≡ piece_limit) pieces
  pub text_is : text ≡ head ++ flat_map (piece_of chunks) pieces

-- behind a head, the text of a body's data where the body is whole, and else that of whole pieces
abbrev pub TextFor : List ℕ → Bool → List ℕ → Came → List ℕ → Type 0
TextFor head chunks d Came.Done text = text ≡ head ++ text_of chunks d
TextFor head chunks d _ text = IsFront head chunks d text

-- ---- both

-- what stretches of two kinds logged, each in its order
abbrev pub Interleaved : (List Act → Type 0) → (List Act → Type 0) → List Act → Type 0
Interleaved P Q acts = (one : List Act) × (other : List Act) × Shuffle one other acts × P one × Q other

-- how a relay ends: where the target took the whole text, by what came of the source
abbrev pub relayed_of : Came → Relayed
relayed_of Came.Inside = relayed.Spent
relayed_of Came.Done = relayed.Whole
relayed_of (Came.Bad error) = relayed.Bad error
relayed_of (Came.Lost why) = relayed.Lost why

abbrev pub relayed_by : Came → Sent → Relayed
relayed_by came sent.All = relayed_of came
relayed_by came (sent.Failed some) = relayed.WriteFailed some
relayed_by came (sent.Stopped why) = relayed.WriteStopped why

abbrev pub incoming : Place → List ℕ → Incoming
incoming place ahead = record { body = place; inbox = ahead }

-- This data came of the source, and the target was written the text for it behind what was on its way. Meanwhile
-- nothing else was done.
pub record RelayStep (old new : Side) (source target : ℕ) (silences : Silences) (before : Passing) (after : Incoming) (result : Relayed) : Type 0 where
  pub given : List ℕ
  pub came : Came
  pub text : List ℕ
  pub said : Sent
  pub text_is : TextFor before.out.text before.out.in_chunks (before.out.begun ++ given) came text
  pub result_is : result ≡ relayed_by came said
  pub waited : Waited old new (both (came_bill silences.source came) (sent_bill silences.target said))
      (Interleaved (Says target text said) (Comes source before.place before.ahead given after.body after.inbox came))

-- when each answer of a relay may come, beside what its stretch says
abbrev pub RelayCause : Side → Side → LinkView → LinkView → LinkView → LinkView → Silences → Relayed → Type 0
RelayCause old new source source_now target target_now silences (relayed.Lost why) = LossCause old new source source_now silences.source why
RelayCause old new source source_now target target_now silences (relayed.WriteFailed some) = Rose target.faults target_now.faults
RelayCause old new source source_now target target_now silences (relayed.WriteStopped why) =
    StopCause old.guard new.guard new.wire.moment silences.target why
RelayCause old new source source_now target target_now silences _ = Unit {0}
