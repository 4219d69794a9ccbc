-- The laws of exchanges.
use Rattle.std.proofs.Common.{ℕ, ◌≡◌, true, false, List, [], ◌∷◌, ◌++◌, All, refl, ap, sym, ◌∙◌, append-nil, inl, inr, ne_eqb}
use Rattle.std.proofs.lemmas.Grind.{flat_map-append}
use Rattle.std.proofs.lemmas.List.Elements.{All-head, All-tail}
use Rattle.gw_wire.specs.declared.values.Act.{Act}
use Rattle.gw_wire.specs.declared.values.Act.TheVariants.{Wrote}
use Rattle.gw_wire.specs.Acts.{bytes_read, bytes_written, read_of, written_of}
use Rattle.gw_wire.specs.Link.{LinkView}
use Rattle.gw_wire.specs.Shuffle.{HasSide, OtherLinksDiffer, Ours, SecondSidesAreFound, SidesAreFound}
use Rattle.gw_retry.specs.declared.Failure.TheVariants as failure
use Rattle.gw_stream.specs.declared.waits.Sent.{Sent}
use Rattle.gw_stream.specs.declared.waits.Sent.TheVariants as sent
use Rattle.gw_stream.specs.declared.waits.Stop.TheVariants as stops
use Rattle.gw_stream.specs.RelayLaws.{ComesOfLink, SaysToLink}
use Rattle.gw_stream.specs.Waits.{IsWriteOf, Says, Writes}
use Rattle.gw_stream.proofs.Facts.{heard_bytes}
use Rattle.gw_transport.specs.declared.attempts.Tried.{Tried}
use Rattle.gw_transport.specs.declared.attempts.Tried.TheVariants as tried
use Rattle.gw_transport.specs.declared.replying.Begun.{Begun}
use Rattle.gw_transport.specs.declared.replying.End.{End}
use Rattle.gw_transport.specs.ExchangeLaws.{ExchangesAreWhole, IsFrontOfRequest, RepliesAreRead, RequestsAreWritten, UploadsAreApart}
use Rattle.gw_transport.specs.Replying.{IsOpenReply}
use Rattle.gw_transport.specs.Sending.{Unsent}
use Rattle.gw_transport.specs.Uploading.{continue_of}
use Rattle.gw_transport.proofs.QuietLemmas.{IsQuiet, SkipsReads, SkipsWrites, comes_quiet, replies_quiet, says_quiet, writes_quiet}
use Rattle.gw_transport.proofs.StretchLemmas.{stretch_part, stretch_then, stretch_waited}

-- writes read nothing, and reads write nothing
unread : (k j : ℕ) → SkipsWrites (read_of k) j
unread k j = record { wrote = λ piece. refl; failed = refl }

unwritten : (k j : ℕ) → SkipsReads (written_of k) j
unwritten k j = record { read = λ piece. refl; end = refl; failed = refl }

-- both of rows one behind the other
read_both : (k : ℕ) (x y l : List Act) → l ≡ x ++ y → bytes_read k l ≡ bytes_read k x ++ bytes_read k y
read_both k x y l is = ap (bytes_read k) is ∙ flat_map-append (read_of k) x y

written_both : (k : ℕ) (x y l : List Act) → l ≡ x ++ y → bytes_written k l ≡ bytes_written k x ++ bytes_written k y
written_both k x y l is = ap (bytes_written k) is ∙ flat_map-append (written_of k) x y

-- ---- what is written of a request

written_whole : (k : ℕ) (text : List ℕ) (x y l : List Act) → l ≡ x ++ y → Writes k text x → IsQuiet (written_of k) y → bytes_written k l ≡ text
written_whole k text x y l is w quiet =
    written_both k x y l is ∙ ap (λ b. b ++ bytes_written k y) w.all ∙ ap (λ b. text ++ b) quiet ∙ append-nil text

says_front : (k : ℕ) (text : List ℕ) (said : Sent) (acts : List Act) → Says k text said acts → IsFrontOfRequest k text acts
says_front k text sent.All acts s = record { rest = []; front = append-nil (bytes_written k acts) ∙ s.all; all = inl refl }
says_front k text (sent.Failed some) acts s =
    let t = s.4 in
    record {
      rest = s.1;
      front = ap (λ b. b ++ s.1) (written_whole k s.0 t.0 t.1 acts t.2 t.3 (ap (bytes_written k) t.4)) ∙ sym s.2;
      all = inr (read_both k t.0 t.1 acts t.2 ∙ ap (λ b. b ++ bytes_read k t.1) (writes_quiet (read_of k) k (unread k k) t.0 t.3.only) ∙ ap (bytes_read k) t.4);
    }
says_front k text (sent.Stopped why) acts s = record { rest = s.1; front = ap (λ b. b ++ s.1) s.3.all ∙ sym s.2; all = inr (writes_quiet (read_of k) k (unread k k) acts s.3.only) }

unsent_front : (k : ℕ) (text : List ℕ) (result : Tried Begun End) (acts : List Act) → Unsent k text result acts → IsFrontOfRequest k text acts
unsent_front k text (tried.Reply r) acts s = absurd s
unsent_front k text (tried.Failed failure.NothingWritten) acts s = says_front k text (sent.Failed false) acts s
unsent_front k text (tried.Failed failure.FirstByte) acts s = absurd s
unsent_front k text (tried.Failed failure.ServerClosed) acts s = absurd s
unsent_front k text (tried.Failed failure.Broken) acts s = says_front k text (sent.Failed true) acts s
unsent_front k text (tried.Failed failure.BadResponse) acts s = absurd s
unsent_front k text (tried.Failed failure.Deadline) acts s = says_front k text (sent.Stopped stops.Deadline) acts s
unsent_front k text (tried.Failed failure.Cancelled) acts s = says_front k text (sent.Stopped stops.Cancelled) acts s
unsent_front k text (tried.Over e) acts s = absurd s

pub requests_written : RequestsAreWritten
requests_written link text method left place result acts (inl t) =
    let whole = written_whole link text t.0 t.1 acts t.2 t.3 (replies_quiet (written_of link) link (unwritten link link) method left place result t.1 t.4) in
    record { rest = []; front = append-nil (bytes_written link acts) ∙ whole; all = inl refl }
requests_written link text method left place result acts (inr s) = unsent_front link text result acts s

-- ---- what is read of a reply

pub replies_read : RepliesAreRead
replies_read link text method left place r acts (inl t) =
    let b = t.4.2 in
    record {
      count = b.count;
      front = b.front;
      text = b.text;
      few = b.few;
      informs = b.informs;
      head = b.head_of;
      read = read_both link t.0 t.1 acts t.2 ∙ ap (λ x. x ++ bytes_read link t.1) (writes_quiet (read_of link) link (unread link link) t.0 t.3.only)
          ∙ heard_bytes IsOpenReply link [] (b.front ++ (b.text ++ left)) t.1 b.hears;
    }
replies_read link text method left place r acts (inr s) = absurd s

-- ---- one stretch

pub exchanges_whole : {C : Type 0} (link : C → LinkView) → ExchangesAreWhole link
exchanges_whole link x y z w a b c f g h errand from to l r u d left new came reusable trip wait e = (
  trip.at,
  trip.step.late,
  stretch_then trip.step.did (stretch_then (stretch_waited b wait) (stretch_part h wait.watched.goes.seen e.did)),
)

-- ---- both links of an upload

-- writes to one link give another one nothing
elsewhere : (k j : ℕ) (piece : List ℕ) (acts : List Act) → (j ≡ k → ⊥) → bytes_written k (Wrote j piece ∷ acts) ≡ bytes_written k acts
elsewhere k j piece acts apart = rw (ne_eqb j k apart) refl

writes_elsewhere : (k j : ℕ) (acts : List Act) → (j ≡ k → ⊥) → All (IsWriteOf j) acts → bytes_written k acts ≡ []
writes_elsewhere k j [] apart w = refl
writes_elsewhere k j (act ∷ acts) apart w =
    let first = All-head (IsWriteOf j) act acts w in
    ap (λ a. bytes_written k (a ∷ acts)) first.1 ∙ elsewhere k j first.0 acts apart
    ∙ writes_elsewhere k j acts apart (All-tail (IsWriteOf j) act acts w)

pub uploads_apart : SidesAreFound → SecondSidesAreFound → OtherLinksDiffer → ComesOfLink → SaysToLink → UploadsAreApart
uploads_apart found second differ comes says from to link came said acts apart u =
    let t = u.does in
    let i = t.4 in
    let client : ℕ = from.client in
    let ours : Ours link i.0 = says link u.text said i.0 i.3 in
    let theirs : Ours client i.1 = comes client from.body to.body from.ahead u.given to.ahead came i.1 i.4 in
    let on_link : HasSide link i.0 t.1 = found link i.0 i.1 t.1 ours (differ link client i.1 (λ e. apart (sym e)) theirs) i.2 in
    let on_client : HasSide client i.1 t.1 = second client i.0 i.1 t.1 (differ client link i.0 apart ours) theirs i.2 in
    let front = says_front link u.text said i.0 i.3 in
    record {
      told = written_both client t.0 t.1 acts t.2 ∙ ap (λ b. b ++ bytes_written client t.1) t.3.all
          ∙ ap (λ b. continue_of from.expect ++ b) (on_client.written ∙ comes_quiet (written_of client) client (unwritten client client) from.body to.body from.ahead u.given to.ahead came i.1 i.4)
          ∙ append-nil (continue_of from.expect);
      unread = read_both link t.0 t.1 acts t.2 ∙ ap (λ b. b ++ bytes_read link t.1) (writes_quiet (read_of link) client (unread link client) t.0 t.3.only)
          ∙ on_link.read ∙ says_quiet (read_of link) link (unread link link) u.text said i.0 i.3;
      rest = front.rest;
      front = ap (λ b. b ++ front.rest) (written_both link t.0 t.1 acts t.2 ∙ ap (λ b. b ++ bytes_written link t.1) (writes_elsewhere link client t.0 apart t.3.only)
          ∙ on_link.written) ∙ front.front;
    }
