-- How a relay ends, over plain variables.
use Rattle.std.proofs.Common.{ℕ, ◌≡◌, ◌<◌, ◌≤◌, ◌||◌, nat_lt, Bool, true, false, List, [], ◌++◌, length, Option, refl, ap, sym, subst, ◌∙◌, arith, append-nil, append_assoc}
use Rattle.std.proofs.lemmas.List.{nil_from_length}
use Rattle.std.specs.List.{concat, flat_map}
use Rattle.gw_wire.specs.declared.values.Act.{Act}
use Rattle.gw_wire.specs.Link.{LinkView, LinkLater}
use Rattle.gw_wire.proofs.Facts.{link_then}
use Rattle.gw_chunk.specs.Chunked.{piece_limit}
use Rattle.gw_body.specs.declared.place.Place.{Place}
use Rattle.gw_account.specs.Work.{Bill, both}
use Rattle.gw_account.proofs.Facts.{free_both}
use Rattle.gw_stream.specs.declared.drawing.Pull.{Pull}
use Rattle.gw_stream.specs.declared.drawing.Pull.TheVariants as pulled
use Rattle.gw_stream.specs.declared.relaying.Relayed.{Relayed}
use Rattle.gw_stream.specs.declared.relaying.Relayed.TheVariants as relayed
use Rattle.gw_stream.specs.declared.relaying.Silences.{Silences}
use Rattle.gw_stream.specs.declared.waits.Loss.{Loss}
use Rattle.gw_stream.specs.declared.waits.Sent.{Sent}
use Rattle.gw_stream.specs.declared.waits.Sent.TheVariants as sent
use Rattle.gw_stream.specs.declared.waits.Stop.{Stop}
use Rattle.gw_stream.specs.Drawing.{Draws, Pulled}
use Rattle.gw_stream.specs.Filling.{FillStep, Passing, passing}
use Rattle.gw_stream.specs.Outbox.{OutView, HasRoom, end_of, piece_of, rest_of}
use Rattle.gw_stream.specs.Relaying.{Came, Comes, Interleaved, IsFront, RelayStep, TextFor, came_bill, relayed_by, relayed_of, text_of, incoming}
use Rattle.gw_stream.specs.declared.relaying.Incoming.{Incoming}
use Rattle.gw_stream.specs.RelaySteps.{ClosedWhole, LastStep, RoomStep, ended_by, loaded}
use Rattle.gw_stream.specs.ReplyLaws.{WholeStep, whole_out}
use Rattle.gw_stream.specs.Waits.{Side, Says, SentStep, Waited, Writes, sent_bill, said_behind}
use Rattle.gw_stream.proofs.ComesLemmas.{GoesOn, bill_of, came_of, comes_of, comes_then, says_then}
use Rattle.gw_stream.proofs.LinkLemmas.{waited_map, waited_then}
use Rattle.gw_stream.proofs.RelayLemmas.{Relaying, one_more, other_more, relaying_closed, relaying_filled, relaying_wrote}
use Rattle.gw_stream.proofs.TextLemmas.{whole_text}

-- the source has stopped so; what is left of the text for it is to be written
pub record Stopping (old new : Side) (source target : ℕ) (silence : Option ℕ) (before : Passing) (stands : Incoming) (out : OutView) (came : Came) (some : Bool) : Type 0 where
  pub given : List ℕ
  pub wrote : List ℕ
  pub text_is : TextFor before.out.text before.out.in_chunks (before.out.begun ++ given) came (wrote ++ out.text)
  pub some_is : some ≡ nat_lt 0 (length wrote)
  pub size : out.size ≡ before.out.size
  pub waited : Waited old new (came_bill silence came) (Interleaved (Writes target wrote) (Comes source before.place before.ahead given stands.body stands.inbox came))

-- what was written and is ready is the text of the whole pieces
front_so : (a b : Side) (s t : ℕ) (before : Passing) (at : Place) (ahead : List ℕ) (out : OutView) (some : Bool) → (r : Relaying a b s t before (passing at ahead out) some)
    → IsFront before.out.text before.out.in_chunks (before.out.begun ++ r.given) (r.wrote ++ out.text)
front_so a b s t before at ahead out some r = record { pieces = r.pieces; rest = out.begun; data_is = r.data_is; whole = r.whole; text_is = sym r.text_is }

pub stopping_spent : (a b : Side) (s t : ℕ) (silence : Option ℕ) (before : Passing) (at : Place) (ahead : List ℕ) (out : OutView) (some : Bool)
    → Relaying a b s t before (passing at ahead out) some → Stopping a b s t silence before (incoming at ahead) out Came.Inside some
stopping_spent a b s t silence before at ahead out some r = record {
  given = r.given;
  wrote = r.wrote;
  text_is = front_so a b s t before at ahead out some r;
  some_is = r.some_is;
  size = r.size;
  waited = r.waited;
}

-- what came last, whatever it was
came_last : (a b c : Side) (s t link : ℕ) (silence : Option ℕ) (before : Passing) (at next : Place) (ahead left : List ℕ) (out after : OutView) (some : Bool) (p : Pull)
    → link ≡ s → (r : Relaying a b s t before (passing at ahead out) some) → (f : FillStep b c link (passing at ahead out) (passing next left after) silence p)
    → Waited a c (came_bill silence (came_of p)) (Interleaved (Writes t r.wrote) (Comes s before.place before.ahead (r.given ++ f.given) next left (came_of p)))
came_last a b c s t link silence before at next ahead left out after some p same r f =
    let W = Writes t r.wrote in
    let C = Comes s before.place before.ahead (r.given ++ f.given) next left (came_of p) in
    let F : Waited b c (came_bill silence (came_of p)) (Pulled s at ahead next left f.given p) =
    subst (λ (n : ℕ). Waited b c (came_bill silence (came_of p)) (Pulled n at ahead next left f.given p)) same
    (subst (λ (u : Bill). Waited b c u (Pulled link at ahead next left f.given p)) (bill_of silence p) f.waited)
    in
    let more = waited_map (waited_then r.waited F) (other_more W (Draws s before.place before.ahead r.given at ahead) (Pulled s at ahead next left f.given p) C
    (λ x y d q. comes_then s before.place at next before.ahead ahead left r.given f.given (came_of p) x y d (comes_of s at next ahead left f.given p y f.count q))) in
    subst (λ (u : Bill). Waited a c u (Interleaved W C)) (free_both (came_bill silence (came_of p))) more

-- in the body's middle
data_last : (begun given more pieces rest : List ℕ) → begun ++ given ≡ pieces ++ rest → begun ++ (given ++ more) ≡ pieces ++ (rest ++ more)
data_last begun given more pieces rest is = sym (append_assoc begun given more) ∙ ap (λ l. l ++ more) is ∙ append_assoc pieces rest more

front_last : (a b c : Side) (s t link : ℕ) (silence : Option ℕ) (before : Passing) (at next : Place) (ahead left : List ℕ) (out after : OutView) (some : Bool) (p : Pull)
    → (r : Relaying a b s t before (passing at ahead out) some) → (f : FillStep b c link (passing at ahead out) (passing next left after) silence p)
    → IsFront before.out.text before.out.in_chunks (before.out.begun ++ (r.given ++ f.given)) (r.wrote ++ after.text)
front_last a b c s t link silence before at next ahead left out after some p r f = record {
  pieces = r.pieces;
  rest = out.begun ++ f.given;
  data_is = data_last before.out.begun r.given f.given (concat r.pieces) out.begun r.data_is;
  whole = r.whole;
  text_is = ap (λ (o : OutView). r.wrote ++ o.text) f.out ∙ sym r.text_is;
}

pub stopping_bad : (a b c : Side) (s t link : ℕ) (silence : Option ℕ) (before : Passing) (at next : Place) (ahead left : List ℕ) (out after : OutView) (some : Bool) (error : _)
    → link ≡ s → Relaying a b s t before (passing at ahead out) some → FillStep b c link (passing at ahead out) (passing next left after) silence (pulled.Bad error)
    → Stopping a c s t silence before (incoming next left) after (Came.Bad error) some
stopping_bad a b c s t link silence before at next ahead left out after some error same r f = record {
  given = r.given ++ f.given;
  wrote = r.wrote;
  text_is = front_last a b c s t link silence before at next ahead left out after some (pulled.Bad error) r f;
  some_is = r.some_is;
  size = ap (λ (o : OutView). o.size) f.out ∙ r.size;
  waited = came_last a b c s t link silence before at next ahead left out after some (pulled.Bad error) same r f;
}

pub stopping_lost : (a b c : Side) (s t link : ℕ) (silence : Option ℕ) (before : Passing) (at next : Place) (ahead left : List ℕ) (out after : OutView) (some : Bool) (why : Loss)
    → link ≡ s → Relaying a b s t before (passing at ahead out) some → FillStep b c link (passing at ahead out) (passing next left after) silence (pulled.Lost why)
    → Stopping a c s t silence before (incoming next left) after (Came.Lost why) some
stopping_lost a b c s t link silence before at next ahead left out after some why same r f = record {
  given = r.given ++ f.given;
  wrote = r.wrote;
  text_is = front_last a b c s t link silence before at next ahead left out after some (pulled.Lost why) r f;
  some_is = r.some_is;
  size = ap (λ (o : OutView). o.size) f.out ∙ r.size;
  waited = came_last a b c s t link silence before at next ahead left out after some (pulled.Lost why) same r f;
}

-- at the body's end
whole_last : (head fm wrote text last end : List ℕ) → head ++ fm ≡ wrote ++ text → wrote ++ ((text ++ last) ++ end) ≡ head ++ (fm ++ (last ++ end))
whole_last head fm wrote text last end is =
    ap (λ l. wrote ++ l) (append_assoc text last end) ∙ sym (append_assoc wrote text (last ++ end)) ∙ ap (λ l. l ++ (last ++ end)) (sym is)
    ∙ append_assoc head fm (last ++ end)

pub stopping_done : (a b c : Side) (s t link : ℕ) (silence : Option ℕ) (before : Passing) (at next : Place) (ahead left : List ℕ) (out after closed : OutView) (some : Bool)
    → link ≡ s → length out.begun ≤ 8192 → Relaying a b s t before (passing at ahead out) some
    → FillStep b c link (passing at ahead out) (passing next left after) silence pulled.Done
    → closed ≡ record after { text = (after.text ++ rest_of after.in_chunks after.begun) ++ end_of after.in_chunks; begun = [] }
    → Stopping a c s t silence before (incoming next left) closed Came.Done some
stopping_done a b c s t link silence before at next ahead left out after closed some same most r f shut =
    let ch = before.out.in_chunks in
    let fm = flat_map (piece_of ch) r.pieces in
    let none : f.given ≡ [] = nil_from_length f.given f.count in
    let begun_is : after.begun ≡ out.begun = ap (λ (o : OutView). o.begun) f.out ∙ ap (λ l. out.begun ++ l) none ∙ append-nil out.begun in
    let text_is : after.text ≡ out.text = ap (λ (o : OutView). o.text) f.out in
    let chunks_is : after.in_chunks ≡ ch = ap (λ (o : OutView). o.in_chunks) f.out ∙ r.chunks in
    let data_is : before.out.begun ++ (r.given ++ f.given) ≡ concat r.pieces ++ out.begun =
    ap (λ l. before.out.begun ++ (r.given ++ l)) none ∙ ap (λ l. before.out.begun ++ l) (append-nil r.given) ∙ r.data_is
    in
    let out_is : closed.text ≡ (out.text ++ rest_of ch out.begun) ++ end_of ch =
    ap (λ (o : OutView). o.text) shut ∙ ap (λ l. (l ++ rest_of after.in_chunks after.begun) ++ end_of after.in_chunks) text_is
    ∙ ap (λ l. (out.text ++ rest_of after.in_chunks l) ++ end_of after.in_chunks) begun_is
    ∙ ap (λ (k : Bool). (out.text ++ rest_of k out.begun) ++ end_of k) chunks_is
    in
    record {
      given = r.given ++ f.given;
      wrote = r.wrote;
      text_is = ap (λ l. r.wrote ++ l) out_is ∙ whole_last before.out.text fm r.wrote out.text (rest_of ch out.begun) (end_of ch) r.text_is
          ∙ ap (λ l. before.out.text ++ l) (sym (whole_text ch r.pieces out.begun r.whole most) ∙ ap (text_of ch) (sym data_is));
      some_is = r.some_is;
      size = ap (λ (o : OutView). o.size) shut ∙ ap (λ (o : OutView). o.size) f.out ∙ r.size;
      waited = came_last a b c s t link silence before at next ahead left out after some pulled.Done same r f;
    }

-- ---- the last write

says_at : (k j : ℕ) (bytes : List ℕ) (said : Sent) (acts : List Act) → j ≡ k → Says j bytes said acts → Says k bytes said acts
says_at k j bytes said acts same w = subst (λ (n : ℕ). Says n bytes said acts) same w

bill_behind : (silence : Option ℕ) (some : Bool) (said : Sent) → sent_bill silence said ≡ sent_bill silence (said_behind some said)
bill_behind silence some sent.All = refl
bill_behind silence some (sent.Failed part) = refl
bill_behind silence some (sent.Stopped why) = refl

ended_so : (came : Came) (some : Bool) (said : Sent) → ended_by some (relayed_of came) said ≡ relayed_by came (said_behind some said)
ended_so came some sent.All = refl
ended_so came some (sent.Failed part) = refl
ended_so came some (sent.Stopped why) = refl

pub relay_ended : (a b c : Side) (s t : ℕ) (from to : LinkView) (silences : Silences) (before : Passing) (stands : Incoming) (out : OutView) (came : Came) (some : Bool) (result : Relayed)
    → from.number ≡ t → Stopping a b s t silences.source before stands out came some
    → LastStep b c from to (loaded out some) silences.target (relayed_of came) result → RelayStep a c s t silences before stands result
relay_ended a b c s t from to silences before stands out came some result same p m =
    let C = Comes s before.place before.ahead p.given stands.body stands.inbox came in
    let said = said_behind some m.said in
    let S = Says t (p.wrote ++ out.text) said in
    let more = waited_map (waited_then p.waited m.sends.waited) (one_more (Writes t p.wrote) C (Says from.number out.text m.said) S
    (λ x y w q. says_then t p.wrote out.text m.said some x y p.some_is w (says_at t from.number out.text m.said y same q))) in
    record {
      given = p.given;
      came = came;
      text = p.wrote ++ out.text;
      said = said;
      text_is = p.text_is;
      result_is = m.result_is ∙ ended_so came some m.said;
      waited = subst (λ (u : Bill). Waited a c (both (came_bill silences.source came) u) (Interleaved S C)) (bill_behind silences.target some m.said) more;
    }

-- a write in the body's middle that didn't go
unsent : (a b c : Side) (s t : ℕ) (from to : LinkView) (silences : Silences) (before : Passing) (at : Place) (ahead : List ℕ) (out after : OutView) (some now : Bool) (said : Sent)
    → from.number ≡ t → Relaying a b s t before (passing at ahead out) some
    → (m : RoomStep b c from to (loaded out some) (loaded after now) silences.target said) → after.text ≡ [] → now ≡ some
    → RelayStep a c s t silences before (incoming at ahead) (ended_by now (relayed_of Came.Inside) said)
unsent a b c s t from to silences before at ahead out after some now said same r m gone kept =
    let none : out.text ≡ m.text = m.text_is ∙ ap (λ l. m.text ++ l) gone ∙ append-nil m.text in
    let sends = subst (λ (l : List ℕ). SentStep b c from to l silences.target said) (sym none) m.sends in
    relay_ended a b c s t from to silences before (incoming at ahead) out Came.Inside some (ended_by now (relayed_of Came.Inside) said) same
    (stopping_spent a b s t silences.source before at ahead out some r)
    (record { said = said; sends = sends; result_is = ap (λ (k : Bool). ended_by k (relayed_of Came.Inside) said) kept })

closed_so : (a b : Side) (s t : ℕ) (before : Passing) (at : Place) (ahead : List ℕ) (out closed : OutView) (some : Bool)
    → Relaying a b s t before (passing at ahead out) some → ClosedWhole out closed → Relaying a b s t before (passing at ahead closed) some
closed_so a b s t before at ahead out closed some r c = (relaying_closed a b s t before at ahead out closed some c r).0

pub unsent_failed : (a b c : Side) (s : ℕ) (target from to : LinkView) (silences : Silences) (before : Passing) (at : Place) (ahead : List ℕ) (out closed after : OutView) (some now part : Bool) (result : Relayed)
    → LinkLater target from → Relaying a b s target.number before (passing at ahead out) some → ClosedWhole out closed
    → RoomStep b c from to (loaded closed some) (loaded after now) silences.target (sent.Failed part) → ended_by now (relayed_of Came.Inside) (sent.Failed part) ≡ result
    → RelayStep a c s target.number silences before (incoming at ahead) result
unsent_failed a b c s target from to silences before at ahead out closed after some now part result later r shut m is =
    subst (λ (x : Relayed). RelayStep a c s target.number silences before (incoming at ahead) x) is
    (unsent a b c s target.number from to silences before at ahead closed after some now (sent.Failed part) later.number
    (closed_so a b s target.number before at ahead out closed some r shut) m m.clears.0 m.clears.1)

pub unsent_stopped : (a b c : Side) (s : ℕ) (target from to : LinkView) (silences : Silences) (before : Passing) (at : Place) (ahead : List ℕ) (out closed after : OutView) (some now : Bool) (why : Stop)
    → LinkLater target from → Relaying a b s target.number before (passing at ahead out) some → ClosedWhole out closed
    → RoomStep b c from to (loaded closed some) (loaded after now) silences.target (sent.Stopped why)
    → RelayStep a c s target.number silences before (incoming at ahead) (relayed.WriteStopped why)
unsent_stopped a b c s target from to silences before at ahead out closed after some now why later r shut m =
    unsent a b c s target.number from to silences before at ahead closed after some now (sent.Stopped why) later.number
    (closed_so a b s target.number before at ahead out closed some r shut) m m.clears.0 m.clears.1

-- the source may be asked for more
pub record Ready (old new : Side) (source : ℕ) (target now : LinkView) (before : Passing) (at : Place) (ahead : List ℕ) (out : OutView) (some : Bool) : Type 0 where
  pub relaying : Relaying old new source target.number before (passing at ahead out) some
  pub room : HasRoom out
  pub less : length out.begun < piece_limit
  pub later : LinkLater target now

pub turn_ready : (a b c : Side) (s : ℕ) (target from to : LinkView) (silence : Option ℕ) (before : Passing) (at : Place) (ahead : List ℕ) (out closed after : OutView) (some now : Bool)
    → LinkLater target from → Relaying a b s target.number before (passing at ahead out) some → ClosedWhole out closed
    → RoomStep b c from to (loaded closed some) (loaded after now) silence sent.All → Ready a c s target to before at ahead after now
turn_ready a b c s target from to silence before at ahead out closed after some now later r shut m =
    let k = relaying_closed a b s target.number before at ahead out closed some shut r in
    let w = relaying_wrote a b c s target.number from to before at ahead closed after some now silence later.number k.0 m in
    record {
      relaying = w.0;
      room = w.1;
      less = (let e = ap length w.2 in let l = k.1 in omega arith);
      later = link_then target from to later m.sends.link;
    }

or_true : (now part : Bool) → now ≡ true → (now || part) ≡ now
or_true true part is = refl
or_true false part is = absurd (let e : false ≡ true = is in cc)

or_false : (now part : Bool) → now ≡ false → (now || part) ≡ part
or_false true part is = absurd (let e : true ≡ false = is in cc)
or_false false part is = refl

pub failed_some : (now part : Bool) → now ≡ true → ended_by now (relayed_of Came.Inside) (sent.Failed part) ≡ relayed.WriteFailed now
failed_some now part is = ap relayed.WriteFailed (or_true now part is)

pub failed_part : (now part : Bool) → now ≡ false → ended_by now (relayed_of Came.Inside) (sent.Failed part) ≡ relayed.WriteFailed part
failed_part now part is = ap relayed.WriteFailed (or_false now part is)

-- what a relay keeps from one turn to the next
pub turn_on : (a b c : Side) (source at_source next_source target now : LinkView) (before : Passing) (at next : Place) (ahead left : List ℕ) (out after : OutView) (some : Bool) (silence : Option ℕ) (r : Pull)
    → LinkLater source at_source → LinkLater at_source next_source → GoesOn r → Ready a b source.number target now before at ahead out some
    → FillStep b c at_source.number (passing at ahead out) (passing next left after) silence r
    → Relaying a c source.number target.number before (passing next left after) some × HasRoom after × LinkLater source next_source × LinkLater target now
turn_on a b c source at_source next_source target now before at next ahead left out after some silence r later on_link on k f =
    let w = relaying_filled a b c source.number target.number at_source.number before at next ahead left out after some silence r later.number on k.relaying f in
    let long = ap length w.1 in
    let same = w.2 in
    let had = k.room in
    let room : HasRoom after = omega arith in
    (w.0, room, link_then source at_source next_source later on_link, k.later)

-- ---- a body that is whole

whole_so : (said : Sent) → ended_by false relayed.Whole said ≡ relayed_by Came.Done said
whole_so sent.All = refl
whole_so (sent.Failed part) = refl
whole_so (sent.Stopped why) = refl

pub whole_step : (a b : Side) (from to : LinkView) (out closed : OutView) (silence : Option ℕ) (result : Relayed)
    → closed ≡ record out { text = whole_out out; begun = [] } → LastStep a b from to (loaded closed false) silence relayed.Whole result
    → WholeStep a b from to out silence result
whole_step a b from to out closed silence result shut m = record {
  said = m.said;
  sends = subst (λ (o : OutView). SentStep a b from to o.text silence m.said) shut m.sends;
  result_is = m.result_is ∙ whole_so m.said;
}
