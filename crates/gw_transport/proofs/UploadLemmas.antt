-- Steps of an attempt whose body is read of a client's link, over plain variables.
use Rattle.std.proofs.Common.{ℕ, nat_lt, ◌&&◌, ◌≡◌, ◌≤◌, Bool, true, false, List, [], ◌++◌, take, Some, None, refl, ap, sym, subst, ◌∙◌, inl, inr, arith}
use Rattle.std.proofs.Math.Seq.{take-length}
use Rattle.gw_wire.specs.declared.values.Act.{Act}
use Rattle.gw_wire.specs.Link.{LinkView, LinkLater}
use Rattle.gw_wire.specs.Stretch.{Then}
use Rattle.gw_wire.specs.Wire.{WireView}
use Rattle.gw_proxy.specs.declared.request.OutHead.{OutHead}
use Rattle.gw_retry.specs.declared.BodyKind.TheVariants as kind
use Rattle.gw_retry.specs.declared.Failure.{Failure}
use Rattle.gw_retry.specs.Retry.{may_retry_of}
use Rattle.gw_account.specs.Work.{At, Bill, Only, Work, both, free}
use Rattle.gw_account.proofs.Facts.{free_both, went_map, went_nothing}
use Rattle.gw_stream.specs.declared.relaying.Incoming.{Incoming}
use Rattle.gw_stream.specs.declared.relaying.Relayed.{Relayed}
use Rattle.gw_stream.specs.declared.relaying.Relayed.TheVariants as relayed
use Rattle.gw_stream.specs.declared.relaying.Silences.{Silences}
use Rattle.gw_stream.specs.declared.waits.Loss.TheVariants as loss
use Rattle.gw_stream.specs.declared.waits.Sent.{Sent}
use Rattle.gw_stream.specs.declared.waits.Sent.TheVariants as sent
use Rattle.gw_stream.specs.declared.waits.Stop.{Stop}
use Rattle.gw_stream.specs.declared.waits.Stop.TheVariants as stops
use Rattle.gw_stream.specs.Filling.{passing}
use Rattle.gw_stream.specs.Guard.{GuardView}
use Rattle.gw_stream.specs.Outbox.{OutView}
use Rattle.gw_stream.specs.Relaying.{Came, Comes, Interleaved, RelayCause, RelayStep, TextFor, came_bill, relayed_by}
use Rattle.gw_stream.specs.Waits.{CountedStep, SentCause, Says, SaysFront, Side, Waited, Writes, sent_bill}
use Rattle.gw_stream.proofs.Facts.{waited_map, waited_then, watched_same}
use Rattle.gw_transport.specs.declared.attempts.Tried.{Tried}
use Rattle.gw_transport.specs.declared.attempts.Tried.TheVariants as tried
use Rattle.gw_transport.specs.declared.replying.Begun.{Begun}
use Rattle.gw_transport.specs.declared.replying.End.{End}
use Rattle.gw_transport.specs.declared.replying.End.TheVariants as end
use Rattle.gw_transport.specs.declared.uploading.Upload.{Upload}
use Rattle.gw_transport.specs.Attempts.{AttemptStep, TriedCause}
use Rattle.gw_transport.specs.Leasing.{Lateness}
use Rattle.gw_transport.specs.Replying.{Replies, ReplyStep, tried_bill}
use Rattle.gw_transport.specs.Uploading.{BreaksBy, ClientCause, ExchangesUpload, IsSameUpload, IsUnread, SilentBy, UploadView, Uploads, break_lateness, client_stopped, continue_of, is_chunked, upload_view}
use Rattle.gw_transport.proofs.SendingLemmas.{failed_cause, stopped_cause, tried_from}

-- what an attempt's waits were is what it did
upload_of : (a c : Side) (from to : UploadView) (k : ℕ) (result : Tried Begun End) (late : Lateness) (u : Bill) (P : List Act → Type 0) → Waited a c u P
    → ((x : At) (w : Work) → Only u P x w → ExchangesUpload from to k result late x w) → TriedCause a.guard c.guard c.wire.moment late result
    → AttemptStep a.wire c.wire a.guard c.guard (ExchangesUpload from to k result) result
upload_of a c from to k result late u P p f cause = record { late = late; went = went_map p.went f; watched = p.watched; cause = cause }

pub same_upload : (out : OutHead) (k j : ℕ) (up now : Upload) (asked asked_now answer answer_now : Incoming) → j ≡ k → now ≡ record up { continued = now.continued }
    → IsSameUpload (upload_view out k up asked answer) (upload_view out j now asked_now answer_now)
same_upload out k j up now asked asked_now answer answer_now same is = record {
  out = refl;
  client = same;
  expect = ap (λ (x : Upload). x.expect) is;
  silence = ap (λ (x : Upload). x.client_ms) is;
}

-- ---- before the body

pub no_room : (wire : WireView) (g : GuardView) (from to : UploadView) (k : ℕ) → wire.aged ≡ false → g.last ≤ wire.moment → IsSameUpload from to → IsUnread from to
    → to.continued ≡ from.continued → AttemptStep {R = Begun} wire wire g g (ExchangesUpload from to k (tried.Over end.NoMemory)) (tried.Over end.NoMemory)
no_room wire g from to k fresh le same unread continued = record {
  late = Lateness.ByDeadline;
  went = went_map (went_nothing wire fresh) (λ x w idle. record { same = same; does = inr (inr (record { is = refl; unread = unread; continued = continued; idle = idle })) });
  watched = watched_same wire g le;
  cause = tt;
}

silent_cause : (a b : Side) (cl mid : LinkView) (ms : ℕ) (said : Sent) (result : Tried Begun End) → SilentBy said result → SentCause a b cl mid (Some ms) said
    → TriedCause a.guard b.guard b.wire.moment Lateness.ByDeadline result
silent_cause a b cl mid ms sent.All result s cause = absurd s
silent_cause a b cl mid ms (sent.Failed some) result s cause =
    subst (λ (r : Tried Begun End). TriedCause a.guard b.guard b.wire.moment Lateness.ByDeadline r) (sym s) tt
silent_cause a b cl mid ms (sent.Stopped stops.Cancelled) result s cause =
    subst (λ (r : Tried Begun End). TriedCause a.guard b.guard b.wire.moment Lateness.ByDeadline r) (sym s) cause
silent_cause a b cl mid ms (sent.Stopped stops.Deadline) result s cause =
    subst (λ (r : Tried Begun End). TriedCause a.guard b.guard b.wire.moment Lateness.ByDeadline r) (sym s) cause
silent_cause a b cl mid ms (sent.Stopped stops.Silent) result s cause =
    subst (λ (r : Tried Begun End). TriedCause a.guard b.guard b.wire.moment Lateness.ByDeadline r) (sym s) tt
silent_cause a b cl mid ms (sent.Stopped stops.Ticks) result s cause =
    subst (λ (r : Tried Begun End). TriedCause a.guard b.guard b.wire.moment Lateness.ByDeadline r) (sym s) tt

pub not_told : (a b : Side) (cl mid : LinkView) (k : ℕ) (out : OutHead) (up now : Upload) (asked answer : Incoming) (said : Sent) (result : Tried Begun End) → SilentBy said result
    → now ≡ record up { continued = now.continued } → CountedStep a b cl mid (continue_of up.expect) now.continued (Some up.client_ms) said
    → AttemptStep a.wire b.wire a.guard b.guard
    (ExchangesUpload (upload_view out cl.number up asked answer) (upload_view out mid.number now asked answer) k result) result
not_told a b cl mid k out up now asked answer said result s is t =
    let from : UploadView = upload_view out cl.number up asked answer in
    let to : UploadView = upload_view out mid.number now asked answer in
    upload_of a b from to k result Lateness.ByDeadline (sent_bill (Some up.client_ms) said) (SaysFront cl.number (take now.continued (continue_of up.expect)) said) t.waited
    (λ x w o. record {
      same = same_upload out cl.number mid.number up now asked asked answer answer t.link.number is;
      does = inr (inl (record { said = said; breaks = s; unread = record { body = refl; ahead = refl }; late_by = refl; only = o }));
    })
    (silent_cause a b cl mid up.client_ms said result s t.cause)

-- ---- the body

abbrev pub silences : ℕ → Silences
silences ms = record { source = Some ms; target = None }

part_cause : (b c : Side) (s s2 t t2 : LinkView) (ms : ℕ) (r : Relayed) (result : Tried Begun End) → BreaksBy r result → RelayCause b c s s2 t t2 (silences ms) r
    → TriedCause b.guard c.guard c.wire.moment (break_lateness r) result
part_cause b c s s2 t t2 ms relayed.Whole result is cause = absurd is
part_cause b c s s2 t t2 ms (relayed.Bad error) result is cause =
    subst (λ (r : Tried Begun End). TriedCause b.guard c.guard c.wire.moment Lateness.ByDeadline r) (sym is) tt
part_cause b c s s2 t t2 ms (relayed.Lost loss.End) result is cause =
    subst (λ (r : Tried Begun End). TriedCause b.guard c.guard c.wire.moment Lateness.ByDeadline r) (sym is) tt
part_cause b c s s2 t t2 ms (relayed.Lost loss.Failed) result is cause =
    subst (λ (r : Tried Begun End). TriedCause b.guard c.guard c.wire.moment Lateness.ByDeadline r) (sym is) tt
part_cause b c s s2 t t2 ms (relayed.Lost (loss.Stopped stops.Cancelled)) result is cause =
    subst (λ (r : Tried Begun End). TriedCause b.guard c.guard c.wire.moment Lateness.ByDeadline r) (sym is) cause
part_cause b c s s2 t t2 ms (relayed.Lost (loss.Stopped stops.Deadline)) result is cause =
    subst (λ (r : Tried Begun End). TriedCause b.guard c.guard c.wire.moment Lateness.ByDeadline r) (sym is) cause
part_cause b c s s2 t t2 ms (relayed.Lost (loss.Stopped stops.Silent)) result is cause =
    subst (λ (r : Tried Begun End). TriedCause b.guard c.guard c.wire.moment Lateness.ByDeadline r) (sym is) tt
part_cause b c s s2 t t2 ms (relayed.Lost (loss.Stopped stops.Ticks)) result is cause =
    subst (λ (r : Tried Begun End). TriedCause b.guard c.guard c.wire.moment Lateness.ByDeadline r) (sym is) tt
part_cause b c s s2 t t2 ms (relayed.WriteFailed some) result is cause =
    subst (λ (r : Tried Begun End). TriedCause b.guard c.guard c.wire.moment Lateness.ByDeadline r) (sym is) (failed_cause b.guard c.guard c.wire.moment some)
part_cause b c s s2 t t2 ms (relayed.WriteStopped why) result is cause =
    subst (λ (r : Tried Begun End). TriedCause b.guard c.guard c.wire.moment (break_lateness (relayed.WriteStopped why)) r) (sym is)
    (stopped_cause b.guard c.guard c.wire.moment why cause)
part_cause b c s s2 t t2 ms relayed.Spent result is cause =
    subst (λ (r : Tried Begun End). TriedCause b.guard c.guard c.wire.moment Lateness.ByDeadline r) (sym is) tt

-- a client was told to go on whole
told_whole : (a b : Side) (cl mid : LinkView) (bytes : List ℕ) (count ms : ℕ) → CountedStep a b cl mid bytes count (Some ms) sent.All → Waited a b free (Writes cl.number bytes)
told_whole a b cl mid bytes count ms t =
    subst (λ (d : List ℕ). Waited a b free (Writes cl.number d)) (ap (λ n. take n bytes) t.counted ∙ take-length bytes) t.waited

-- what a relay of the client's body did, behind that
uploads : (a b c : Side) (cl mid : LinkView) (k : ℕ) (out : OutHead) (up now : Upload) (asked answer came_in answer_now : Incoming) (to_client : ℕ) (loaded : OutView) (ms : ℕ) (r : Relayed)
    → ms ≡ up.client_ms → (before : OutView) → loaded ≡ record before { text = out.bytes; begun = []; in_chunks = is_chunked out.framing }
    → CountedStep a b cl mid (continue_of up.expect) now.continued (Some up.client_ms) sent.All
    → (m : RelayStep b c mid.number k (silences ms) (passing asked.body asked.inbox loaded) came_in r)
    → Waited a c (both (came_bill (Some up.client_ms) m.came) (sent_bill None m.said))
    (Uploads (upload_view out cl.number up asked answer) (upload_view out to_client now came_in answer_now) k m.came m.said)
uploads a b c cl mid k out up now asked answer came_in answer_now to_client loaded ms r silent before is t m =
    let u : Bill = both (came_bill (Some up.client_ms) m.came) (sent_bill None m.said) in
    let from : UploadView = upload_view out cl.number up asked answer in
    let to : UploadView = upload_view out to_client now came_in answer_now in
    let text_is : TextFor out.bytes (is_chunked out.framing) m.given m.came m.text =
    subst (λ (o : OutView). TextFor o.text o.in_chunks (o.begun ++ m.given) m.came m.text) is m.text_is in
    let both_waits = waited_then (told_whole a b cl mid (continue_of up.expect) now.continued up.client_ms t) m.waited in
    subst (λ (v : Bill). Waited a c v (Uploads from to k m.came m.said))
    (free_both (both (came_bill (Some ms) m.came) (sent_bill None m.said)) ∙ ap (λ n. both (came_bill (Some n) m.came) (sent_bill None m.said)) silent)
    (waited_map both_waits (λ l p. record {
      given = m.given;
      text = m.text;
      text_is = text_is;
      does = (p.0, p.1, p.2, p.3, subst (λ (n : ℕ). Interleaved (Says k m.text m.said) (Comes n asked.body asked.inbox m.given came_in.body came_in.inbox m.came) p.1) t.link.number p.4);
    }))

pub upload_part : (a b c : Side) (cl mid last t t2 : LinkView) (k : ℕ) (out : OutHead) (up now : Upload) (asked answer came_in : Incoming) (loaded before : OutView) (ms : ℕ) (r : Relayed)
    → (result : Tried Begun End) → BreaksBy r result → ms ≡ up.client_ms → loaded ≡ record before { text = out.bytes; begun = []; in_chunks = is_chunked out.framing }
    → now ≡ record up { continued = now.continued } → CountedStep a b cl mid (continue_of up.expect) now.continued (Some up.client_ms) sent.All
    → RelayStep b c mid.number k (silences ms) (passing asked.body asked.inbox loaded) came_in r → RelayCause b c mid last t t2 (silences ms) r → LinkLater mid last
    → AttemptStep a.wire c.wire a.guard c.guard
    (ExchangesUpload (upload_view out cl.number up asked answer) (upload_view out last.number now came_in answer) k result) result
upload_part a b c cl mid last t t2 k out up now asked answer came_in loaded before ms r result breaks silent is same told m cause later =
    let from : UploadView = upload_view out cl.number up asked answer in
    let to : UploadView = upload_view out last.number now came_in answer in
    let w = uploads a b c cl mid k out up now asked answer came_in answer last.number loaded ms r silent before is told m in
    upload_of a c from to k result (break_lateness r) (both (came_bill (Some up.client_ms) m.came) (sent_bill None m.said)) (Uploads from to k m.came m.said) w
    (λ x v o. record {
      same = same_upload out cl.number last.number up now asked came_in answer answer (later.number ∙ told.link.number) same;
      does = inl (inr (record {
        came = m.came;
        said = m.said;
        breaks = subst (λ (q : Relayed). BreaksBy q result) m.result_is breaks;
        late_by = ap break_lateness m.result_is;
        continued = told.counted;
        only = o;
      }));
    })
    (tried_from a.guard b.guard c.guard c.wire.moment (break_lateness r) result told.waited.watched.goes.cancels told.waited.watched.goes.deadline
    (part_cause b c mid last t t2 ms r result breaks cause))

-- a relay that goes whole
whole_by : (came : Came) (said : Sent) → relayed.Whole ≡ relayed_by came said → (came ≡ Came.Done) × (said ≡ sent.All)
whole_by Came.Done sent.All e = (refl, refl)
whole_by Came.Inside sent.All e = absurd (let bad : relayed.Whole ≡ relayed.Spent = e in cc)
whole_by (Came.Bad error) sent.All e = absurd (let bad : relayed.Whole ≡ relayed.Bad error = e in cc)
whole_by (Came.Lost why) sent.All e = absurd (let bad : relayed.Whole ≡ relayed.Lost why = e in cc)
whole_by came (sent.Failed some) e = absurd (let bad : relayed.Whole ≡ relayed.WriteFailed some = e in cc)
whole_by came (sent.Stopped why) e = absurd (let bad : relayed.Whole ≡ relayed.WriteStopped why = e in cc)

pub upload_whole : (a b c d : Side) (cl mid last at back : LinkView) (k : ℕ) (out : OutHead) (up now : Upload) (asked answer came_in answer_now : Incoming) (loaded before : OutView) (ms : ℕ)
    → (result : Tried Begun End) → ms ≡ up.client_ms → loaded ≡ record before { text = out.bytes; begun = []; in_chunks = is_chunked out.framing }
    → now ≡ record up { continued = now.continued } → CountedStep a b cl mid (continue_of up.expect) now.continued (Some up.client_ms) sent.All
    → RelayStep b c mid.number k (silences ms) (passing asked.body asked.inbox loaded) came_in relayed.Whole → LinkLater mid last → at.number ≡ k
    → ReplyStep c d at back out.method answer_now.body answer_now.inbox result
    → AttemptStep a.wire d.wire a.guard d.guard
    (ExchangesUpload (upload_view out cl.number up asked answer) (upload_view out last.number now came_in answer_now) k result) result
upload_whole a b c d cl mid last at back k out up now asked answer came_in answer_now loaded before ms result silent is same told m later here r =
    let from : UploadView = upload_view out cl.number up asked answer in
    let to : UploadView = upload_view out last.number now came_in answer_now in
    let ends = whole_by m.came m.said m.result_is in
    let w = uploads a b c cl mid k out up now asked answer came_in answer_now last.number loaded ms relayed.Whole silent before is told m in
    let T : Came → Sent → Type 0 = λ came said. Waited a c (both (came_bill (Some up.client_ms) came) (sent_bill None said)) (Uploads from to k came said) in
    let whole : Waited a c free (Uploads from to k Came.Done sent.All) =
    subst (λ (v : Bill). Waited a c v (Uploads from to k Came.Done sent.All)) (free_both free) (subst (T Came.Done) ends.1 (subst (λ x. T x m.said) ends.0 w)) in
    let R : List Act → Type 0 = Replies k out.method answer_now.body answer_now.inbox result in
    let all = waited_then whole (waited_map r.waited (λ l p. subst (λ (n : ℕ). Replies n out.method answer_now.body answer_now.inbox result l) here p)) in
    let Q : List Act → Type 0 = Then (Uploads from to k Came.Done sent.All) R in
    upload_of a d from to k result r.late (tried_bill r.late result) Q (subst (λ (v : Bill). Waited a d v Q) (free_both (tried_bill r.late result)) all)
    (λ x v o. record {
      same = same_upload out cl.number last.number up now asked came_in answer answer_now (later.number ∙ told.link.number) same;
      does = inl (inl (record { of_wait = r.of_wait; continued = told.counted; only = o }));
    })
    (tried_from a.guard c.guard d.guard d.wire.moment r.late result
    (let x = told.waited.watched.goes.cancels in let y = m.waited.watched.goes.cancels in omega arith)
    (m.waited.watched.goes.deadline ∙ told.waited.watched.goes.deadline) r.cause)

-- a backend's reply says nothing of the client's link
anywhere : At
anywhere = record {
  limits = record { idle_total = 0; idle_per_host = 0; conns_per_host = 0; idle_ms = 0; journal = 0; passes = 0; per_pass = 0; hosts = 0 };
  caller = 0;
  groups = λ backend. [];
  history = [];
}

pub reply_cause : (c d : Side) (at back from to : LinkView) (method : List ℕ) (answer : Incoming) (result : Tried Begun End)
    → ReplyStep c d at back method answer.body answer.inbox result → ClientCause from to result
reply_cause c d at back from to method answer (tried.Reply r) m = tt
reply_cause c d at back from to method answer (tried.Failed why) m = tt
reply_cause c d at back from to method answer (tried.Over end.NoMemory) m = tt
reply_cause c d at back from to method answer (tried.Over end.ClientTimeout) m = tt
reply_cause c d at back from to method answer (tried.Over (end.Body error)) m = tt
reply_cause c d at back from to method answer (tried.Over end.ClientEnd) m = absurd (m.waited.went.does anywhere).2
reply_cause c d at back from to method answer (tried.Over end.ClientFailed) m = absurd (m.waited.went.does anywhere).2

-- the client's link is at fault where it is said to be
pub silent_client : (a b : Side) (cl mid : LinkView) (ms : ℕ) (why : Stop) → ClientCause cl mid (client_stopped why)
silent_client a b cl mid ms stops.Cancelled = tt
silent_client a b cl mid ms stops.Deadline = tt
silent_client a b cl mid ms stops.Silent = tt
silent_client a b cl mid ms stops.Ticks = tt

-- a body that is read of the client isn't sent again
pub once_is_final : (why : Failure) (reused : Bool) (method : List ℕ) (key : Bool) (n : ℕ) → may_retry_of why reused method key kind.Once n ≡ false
once_is_final why true method key n = and_false (nat_lt n 8)
  where
    and_false : (x : Bool) → (x && false) ≡ false
    and_false true = refl
    and_false false = refl
once_is_final why false method key n = refl
