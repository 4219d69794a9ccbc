-- The steps of a relay on its target's side.
use Rattle.std.specs.Prelude.{ℕ, ◌≡◌, ◌<◌, ◌⊎◌, Bool, ◌||◌, List, [], ◌++◌, length, nat_lt, Option, Some, None}
use Rattle.gw_wire.specs.Link.{LinkView}
use Rattle.gw_chunk.specs.Chunked.{piece_limit}
use Rattle.gw_stream.specs.declared.drawing.Pull.{Pull}
use Rattle.gw_stream.specs.declared.drawing.Pull.TheVariants as pulled
use Rattle.gw_stream.specs.declared.relaying.Relayed.{Relayed}
use Rattle.gw_stream.specs.declared.relaying.Relayed.TheVariants as relayed
use Rattle.gw_stream.specs.declared.waits.Sent.{Sent}
use Rattle.gw_stream.specs.declared.waits.Sent.TheVariants as sent
use Rattle.gw_stream.specs.Outbox.{OutView, HasRoom, end_of, rest_of}
use Rattle.gw_stream.specs.Waits.{Side, SentStep}

-- a piece that had the most data that one has is a part of the text now
abbrev pub ClosedWhole : OutView → OutView → Type 0
ClosedWhole before after =
    ((length before.begun < piece_limit) × (after ≡ before))
    ⊎ ((length before.begun ≡ piece_limit) × (after ≡ record before { text = before.text ++ rest_of before.in_chunks before.begun; begun = [] }))

-- what is on its way, and whether the target took a byte before
pub record Loaded : Type 0 where
  pub out : OutView
  pub some : Bool

abbrev pub loaded : OutView → Bool → Loaded
loaded out some = record { out = out; some = some }

-- what a write leaves: room for a piece, or no text where it failed
abbrev pub Clears : Loaded → Loaded → List ℕ → Sent → Type 0
Clears before after text sent.All = HasRoom after.out × (after.some ≡ (before.some || nat_lt 0 (length text)))
Clears before after text _ = (after.out.text ≡ []) × (after.some ≡ before.some)

-- a front of the text was written, which may be empty
pub record RoomStep (old new : Side) (from to : LinkView) (before after : Loaded) (silence : Option ℕ) (result : Sent) : Type 0 where
  pub text : List ℕ
  pub text_is : before.out.text ≡ text ++ after.out.text
  pub rest : after.out ≡ record before.out { text = after.out.text }
  pub clears : Clears before after text result
  pub sends : SentStep old new from to text silence result

-- a relay goes on behind a pull, or stops so, its body closed where it is whole
abbrev pub StopsSo : Pull → OutView → OutView → Option Relayed → Type 0
StopsSo (pulled.Data n) before after result = (result ≡ None) × (after ≡ before)
StopsSo pulled.More before after result = (result ≡ None) × (after ≡ before)
StopsSo pulled.Done before after result =
    (result ≡ Some relayed.Whole)
    × (after ≡ record before { text = before.text ++ rest_of before.in_chunks before.begun ++ end_of before.in_chunks; begun = [] })
StopsSo (pulled.Bad error) before after result = (result ≡ Some (relayed.Bad error)) × (after ≡ before)
StopsSo (pulled.Lost why) before after result = (result ≡ Some (relayed.Lost why)) × (after ≡ before)

-- how a relay ends that stops so, by its last write
abbrev pub ended_by : Bool → Relayed → Sent → Relayed
ended_by some stop sent.All = stop
ended_by some stop (sent.Failed part) = relayed.WriteFailed (some || part)
ended_by some stop (sent.Stopped why) = relayed.WriteStopped why

-- the last write of a relay
pub record LastStep (old new : Side) (from to : LinkView) (before : Loaded) (silence : Option ℕ) (stop result : Relayed) : Type 0 where
  pub said : Sent
  pub sends : SentStep old new from to before.out.text silence said
  pub result_is : result ≡ ended_by before.some stop said
