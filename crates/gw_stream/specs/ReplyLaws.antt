-- A body is passed on behind its first piece and a head.
use Rattle.std.specs.Prelude.{ℕ, ◌≡◌, List, ◌++◌, Option}
use Rattle.gw_wire.specs.Link.{LinkView}
use Rattle.gw_stream.specs.declared.beginning.Began.TheVariants as began
use Rattle.gw_stream.specs.declared.relaying.Incoming.{Incoming}
use Rattle.gw_stream.specs.declared.relaying.Relayed.{Relayed}
use Rattle.gw_stream.specs.declared.relaying.Silences.{Silences}
use Rattle.gw_stream.specs.declared.waits.Sent.{Sent}
use Rattle.gw_stream.specs.Beginning.{FirstStep}
use Rattle.gw_stream.specs.Filling.{Passing}
use Rattle.gw_stream.specs.Outbox.{OutView, end_of, rest_of}
use Rattle.gw_stream.specs.Relaying.{Came, RelayStep, incoming, relayed_by}
use Rattle.gw_stream.specs.Waits.{Side, SentStep}

-- with a head behind the text
abbrev pub with_head : Passing → List ℕ → Passing
with_head p head = record p { out = record p.out { text = p.out.text ++ head } }

-- what is on its way, with what ends its body
abbrev pub whole_out : OutView → List ℕ
whole_out out = out.text ++ rest_of out.in_chunks out.begun ++ end_of out.in_chunks

-- a body that was whole was written to its end
pub record WholeStep (old new : Side) (from to : LinkView) (out : OutView) (silence : Option ℕ) (result : Relayed) : Type 0 where
  pub said : Sent
  pub sends : SentStep old new from to (whole_out out) silence said
  pub result_is : result ≡ relayed_by Came.Done said

-- a relay behind the body's first piece and a head is one from the body's beginning, with the head before its text
abbrev pub RelayFollows : Type 0
RelayFollows =
    (a b c : Side) (source target : ℕ) (silences : Silences) (before mid : Passing) (head : List ℕ) (after : Incoming) (result : Relayed)
    → FirstStep a b source before mid silences.source began.Piece → RelayStep b c source target silences (with_head mid head) after result
    → RelayStep a c source target silences (with_head before head) after result

-- and so is the writing of a body that was whole before it had so much
abbrev pub WholeFollows : Type 0
WholeFollows =
    (a b c : Side) (source target : ℕ) (from to : LinkView) (silences : Silences) (before mid : Passing) (head : List ℕ) (result : Relayed)
    → from.number ≡ target → FirstStep a b source before mid silences.source began.Whole
    → WholeStep b c from to (with_head mid head).out silences.target result
    → RelayStep a c source target silences (with_head before head) (incoming mid.place mid.ahead) result
