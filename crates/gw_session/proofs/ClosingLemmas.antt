-- Each connection that leaves the pool in a session is closed in it once: reads and writes close none.
use Rattle.std.proofs.Common.{ℕ, ◌≡◌, ◌+◌, Bool, true, false, List, [], ◌∷◌, ◌++◌, All, append-nil, codes, Option, Some, None, ap, sym, subst, refl, ◌∙◌, inl, inr}
use Rattle.std.proofs.lemmas.Grind.{flat_map-append}
use Rattle.gw_wire.specs.declared.values.Act.{Act}
use Rattle.gw_head.specs.declared.request.RequestHead.{RequestHead}
use Rattle.gw_head.specs.Stage.{IsUndecided}
use Rattle.gw_body.specs.declared.place.Place.{Place}
use Rattle.gw_body.specs.Places.{begins}
use Rattle.gw_pool.specs.declared.entry.Entry.{Entry}
use Rattle.gw_pool.specs.Gone.{gone_links}
use Rattle.gw_proxy.specs.OutReply.{OwnReply}
use Rattle.gw_proxy.specs.declared.own.Own.{Own}
use Rattle.gw_proxy.specs.declared.own.Own.TheVariants.{Plain, Stopped as OwnStop}
use Rattle.gw_retry.specs.declared.BodyKind.TheVariants as kind
use Rattle.gw_retry.specs.declared.Failure.{Failure}
use Rattle.gw_account.specs.Work.{Work, At, Idle, Only, Seq, and, behind, free}
use Rattle.gw_stream.specs.declared.beginning.Began.{Began}
use Rattle.gw_stream.specs.declared.beginning.Began.TheVariants as began
use Rattle.gw_stream.specs.declared.waits.Sent.{Sent}
use Rattle.gw_stream.specs.Beginning.{Begins}
use Rattle.gw_stream.specs.Relaying.{Came, incoming}
use Rattle.gw_stream.specs.Waits.{IsWriteOf}
use Rattle.gw_transport.specs.declared.attempts.Attempted.TheVariants as attempted
use Rattle.gw_transport.specs.declared.replying.End.{End}
use Rattle.gw_transport.specs.declared.replying.End.TheVariants as end
use Rattle.gw_transport.specs.Attempts.{ErrandView, kind_of}
use Rattle.gw_transport.specs.Closing.{ClosesWhatLeaves, closed_by, closed_links}
use Rattle.gw_transport.specs.Ending.{is_reusable}
use Rattle.gw_transport.specs.Uploading.{continue_of}
use Rattle.gw_transport.proofs.Facts.{closes_add_up, comes_quiet, ends_close, kept_trips_close, looks_close, loss_quiet, quiet_then, reads_close, reads_quiet, says_quiet, shuffle_quiet, upload_trips_close, writes_close, writes_quiet}
use Rattle.gw_session.specs.declared.end.Ended.{Ended}
use Rattle.gw_session.specs.declared.end.Why.{Why}
use Rattle.gw_session.specs.Closing.{SessionsCloseWhatLeaves}
use Rattle.gw_session.specs.Hearing.{Arrives, HearsHead}
use Rattle.gw_session.specs.Passing.{Answer, Answers, AnswersFailure, AnswersOver, AnswersOwn, AnswersReply, BeginsReply, Halt, Halts, HearsBody, Outcome, Owes, Passage, PassedText, PassesKept, PassesOn, Replied, Trace, asking, failure_code, is_late, loss_code, out_of, reason_of, replied, rest_of_continue, wants_continue}
use Rattle.gw_session.specs.Replies.{Said, SaysBy, SaysOwn, Writes, for_fault, refusal_code}
use Rattle.gw_session.specs.Session.{Behind, Serves}
use Rattle.gw_session.specs.Stand.{Line, Spot, line_of}
use Rattle.gw_session.specs.Turn.{Deed, Deeds, Requested, Turn, Turned, turn_next, unread_reason}

abbrev Closing : (At → Work → Type 0) → Type 0
Closing P = (a : At) (w : Work) → P a w → ClosesWhatLeaves a w

-- ---- one behind another, the wire alone, and nothing

then_closing : (a : At) (w u v : Work) → w ≡ and u v → ClosesWhatLeaves a u → ClosesWhatLeaves (behind a u) v → ClosesWhatLeaves a w
then_closing a w u v is p q = subst (λ (x : Work). ClosesWhatLeaves a x) (sym is) (closes_add_up a u v p q)

wire_closing : (a : At) (w : Work) → w.made ≡ [] → closed_links w.acts ≡ [] → ClosesWhatLeaves a w
wire_closing a w none quiet = quiet ∙ sym (ap (gone_links a.limits a.history a.caller) none)

idle_closing : Closing Idle
idle_closing a w is = subst (λ (x : Work). ClosesWhatLeaves a x) (sym is) refl

-- ---- the client

writes_closing : (l : Line) (text : List ℕ) (result : Sent) → Closing (Writes l text result)
writes_closing l text result a w s = wire_closing a w s.1.0 (says_quiet closed_by l.client (writes_close l.client) text result w.acts s.1.2)

says_closing : (l : Line) (reason : Bool → Option Why) (IsText : Bool → ℕ → List ℕ → Type 0) (said : Said) → Closing (SaysBy l reason IsText said)
says_closing l reason IsText Said.Unsaid a w s = idle_closing a w s
says_closing l reason IsText (Said.SaidBy r) a w s = wire_closing a w s.1.1.0 (says_quiet closed_by l.client (writes_close l.client) r.text r.sent w.acts s.1.1.2)

own_closing : (l : Line) (reason : Bool → Option Why) (own : Own) (method : List ℕ) (old : Bool) (said : Said) → Closing (SaysOwn l reason own method old said)
own_closing l reason own method old said = says_closing l reason (λ close moment text. OwnReply own method old close moment text) said

hears_quiet : (client : ℕ) (ahead bytes : List ℕ) (acts : List Act) → HearsHead client ahead bytes acts → closed_links acts ≡ []
hears_quiet client ahead bytes acts h = reads_quiet closed_by client (reads_close client) IsUndecided ahead bytes acts h

arrives_quiet : (client : ℕ) (kept ahead : List ℕ) (acts : List Act) → Arrives client kept ahead acts → closed_links acts ≡ []
arrives_quiet client kept ahead acts s =
    elim s.1 [
      | inl e ↦ ap closed_links e.1
      | inr e ↦ ap closed_links e.1
    ]

-- behind what tells it to go on
told_quiet : (client : ℕ) (front back acts : List Act) → acts ≡ front ++ back → All (IsWriteOf client) front → closed_links back ≡ [] → closed_links acts ≡ []
told_quiet client front back acts is only quiet = quiet_then closed_by front back acts is (writes_quiet closed_by client (writes_close client) front only) quiet

body_closing : (client : ℕ) (head : RequestHead) (kept d left : List ℕ) → Closing (HearsBody client head kept d left)
body_closing client head kept d left a w s =
    let t = s.2 in
    wire_closing a w s.0 (told_quiet client t.0 t.1 w.acts t.2 t.3.only
    (comes_quiet closed_by client (reads_close client) (begins head.framing) t.4.0 kept d left Came.Done t.1 t.4.1))

halts_closing : (l : Line) (head : RequestHead) (kept : List ℕ) (halt : Halt) → Closing (Halts l head kept halt)
halts_closing l head kept (Halt.Untold result) a w s = writes_closing l (continue_of (wants_continue head)) result a w s.1
halts_closing l head kept (Halt.Lost why) a w s =
    let t = s.1.2 in
    wire_closing a w s.1.0 (told_quiet l.client t.0 t.1 w.acts t.2 t.3.only
    (comes_quiet closed_by l.client (reads_close l.client) (begins head.framing) t.4.1 kept t.4.0 [] (Came.Lost why) t.1 t.4.2))
halts_closing l head kept Halt.Unkept a w s =
    let t = s.2 in
    wire_closing a w s.0 (told_quiet l.client t.0 t.1 w.acts t.2 t.3.only
    (comes_quiet closed_by l.client (reads_close l.client) (begins head.framing) t.4.1 kept t.4.0 t.4.2 Came.Inside t.1 t.4.3))

-- ---- the backend's reply

begins_quiet : (k : ℕ) (old new : Place) (ahead d left : List ℕ) (result : Began) (acts : List Act) → Begins k old ahead d new left result acts → closed_links acts ≡ []
begins_quiet k old new ahead d left began.Piece acts s = comes_quiet closed_by k (reads_close k) old new ahead d left Came.Inside acts s
begins_quiet k old new ahead d left began.Whole acts s = comes_quiet closed_by k (reads_close k) old new ahead d left Came.Done acts s
begins_quiet k old new ahead d left (began.Bad error) acts s = comes_quiet closed_by k (reads_close k) old new ahead d left (Came.Bad error) acts s
begins_quiet k old new ahead d left (began.Lost why) acts s = comes_quiet closed_by k (reads_close k) old new ahead d left (Came.Lost why) acts s
begins_quiet k old new ahead d left began.Spent acts s = comes_quiet closed_by k (reads_close k) old new ahead d left Came.Inside acts s

begun_closing : (b : Replied) (result : Began) (d : List ℕ) → Closing (BeginsReply b result d)
begun_closing b result d a w s =
    let q = s.2 in
    then_closing a w q.0 q.1 q.2 (wire_closing a q.0 q.3.0 (begins_quiet b.link b.place s.0 b.ahead d s.1 result q.0.acts q.3.2))
    (ends_close (is_reusable b.begun (incoming s.0 s.1)) b.conn (behind a q.0) q.1 q.4)

reply_closing : (p : Spot) (head : RequestHead) (reason : Bool → Option Why) (b : Replied) (answer : Answer) → Closing (AnswersReply p head reason b answer)
reply_closing p head reason b Answer.Silent a w s = begun_closing b began.Piece s.0 a w s.1
reply_closing p head reason b (Answer.Untold result) a w s = absurd s
reply_closing p head reason b (Answer.Own said) a w s = absurd s
reply_closing p head reason b (Answer.Bad error said) a w s =
    let q = s.1 in
    then_closing a w q.0 q.1 q.2 (begun_closing b (began.Bad error) s.0 a q.0 q.3) (own_closing (line_of p) reason (Plain 502) head.method head.old said (behind a q.0) q.1 q.4)
reply_closing p head reason b (Answer.Lost why said) a w s =
    let q = s.1.1 in
    then_closing a w q.0 q.1 q.2 (begun_closing b (began.Lost why) s.1.0 a q.0 q.3)
    (own_closing (line_of p) reason (Plain (loss_code why)) head.method head.old said (behind a q.0) q.1 q.4)
reply_closing p head reason b (Answer.Whole said) a w s =
    let q = s.1 in
    then_closing a w q.0 q.1 q.2 (begun_closing b began.Whole s.0 a q.0 q.3) (says_closing (line_of p) reason (PassedText b.begun head s.0) said (behind a q.0) q.1 q.4)
reply_closing p head reason b (Answer.Streamed r came) a w s =
    let q = s.does in
    let i = q.3.2 in
    then_closing a w q.0 q.1 q.2 (wire_closing a q.0 q.3.0 (shuffle_quiet closed_by i.0 i.1 q.0.acts i.2
    (says_quiet closed_by p.client (writes_close p.client) r.text r.sent i.0 i.3)
    (comes_quiet closed_by b.link (reads_close b.link) b.place s.new b.ahead s.d s.left came i.1 i.4)))
    (ends_close (is_reusable b.begun (incoming s.new s.left)) b.conn (behind a q.0) q.1 q.4)

-- ---- what is answered without one

answers_own_closing : (p : Spot) (head : RequestHead) (reason : Bool → Option Why) (code : ℕ) (answer : Answer) → Closing (AnswersOwn p head reason code answer)
answers_own_closing p head reason code (Answer.Own said) a w s = own_closing (line_of p) reason (Plain code) head.method head.old said a w s
answers_own_closing p head reason code Answer.Silent a w s = absurd s
answers_own_closing p head reason code (Answer.Untold result) a w s = absurd s
answers_own_closing p head reason code (Answer.Bad error said) a w s = absurd s
answers_own_closing p head reason code (Answer.Lost why said) a w s = absurd s
answers_own_closing p head reason code (Answer.Whole said) a w s = absurd s
answers_own_closing p head reason code (Answer.Streamed r came) a w s = absurd s

failure_closing : (p : Spot) (head : RequestHead) (reason : Bool → Option Why) (why : Failure) (told : ℕ) (answer : Answer) → Closing (AnswersFailure p head reason why told answer)
failure_closing p head reason why told (Answer.Own said) a w s =
    then_closing a w s.0 s.1 s.2 (wire_closing a s.0 s.3.0 (writes_quiet closed_by p.client (writes_close p.client) s.0.acts s.3.2.only))
    (own_closing (line_of p) reason (Plain (failure_code why)) head.method head.old said (behind a s.0) s.1 s.4)
failure_closing p head reason why told (Answer.Untold result) a w s = writes_closing (line_of p) (rest_of_continue why told) result a w s.1
failure_closing p head reason why told Answer.Silent a w s = absurd s
failure_closing p head reason why told (Answer.Bad error said) a w s = absurd s
failure_closing p head reason why told (Answer.Lost cause said) a w s = absurd s
failure_closing p head reason why told (Answer.Whole said) a w s = absurd s
failure_closing p head reason why told (Answer.Streamed r came) a w s = absurd s

over_closing : (p : Spot) (head : RequestHead) (e : End) (answer : Answer) → Closing (AnswersOver p head e answer)
over_closing p head (end.Body error) answer a w s = answers_own_closing p head for_fault 400 answer a w s
over_closing p head end.ClientEnd answer a w s = idle_closing a w s.1
over_closing p head end.ClientFailed answer a w s = idle_closing a w s.1
over_closing p head end.ClientTimeout answer a w s = idle_closing a w s.1
over_closing p head end.NoMemory answer a w s = idle_closing a w s.1

answers_closing : (outcome : Outcome) (p : Spot) (head : RequestHead) (unread : Bool) (t : Trace) (answer : Answer) → Closing (Answers outcome p head unread t answer)
answers_closing (attempted.Reply l begun) p head unread t answer a w s = reply_closing p head (reason_of p head unread) (replied l.link l.no begun t) answer a w s
answers_closing (attempted.Failed why) p head unread t answer a w s = failure_closing p head (reason_of p head unread) why t.told answer a w s
answers_closing (attempted.Over e) p head unread t answer a w s = over_closing p head e answer a w s
answers_closing attempted.Unreachable p head unread t answer a w s = answers_own_closing p head (reason_of p head unread) 502 answer a w s
answers_closing attempted.Full p head unread t answer a w s = answers_own_closing p head (reason_of p head unread) 503 answer a w s

-- ---- passages, and what is done with a request

kept_closing : (p : Spot) (head : RequestHead) (kept left : List ℕ) (g : Passage) → Closing (PassesKept p head kept left g)
kept_closing p head kept left g a w s =
    let x = s.2 in
    let q = x.3 in
    let r = q.4 in
    let t = r.3.does in
    let o = out_of p head g in
    let e : ErrandView = record { host = g.trip.host; backend = g.trip.backend; method = o.method; has_key = o.has_key; body = kind_of x.0 } in
    let b : At = behind a q.0 in
    then_closing a w q.0 q.1 q.2 (body_closing p.client head kept x.0 left a q.0 q.3) (then_closing b q.1 r.0 r.1 r.2
    (then_closing b r.0 t.0 t.1 t.2 (looks_close r.3.at b t.0 t.3) (kept_trips_close e r.3.from r.3.to g.trip.outcome g.trip.late (behind b t.0) t.1 t.4))
    (answers_closing g.trip.outcome p head g.unread x.1 g.answer (behind b r.0) r.1 r.4))

on_closing : (p : Spot) (head : RequestHead) (kept left : List ℕ) (g : Passage) → Closing (PassesOn p head kept left g)
on_closing p head kept left g a w s =
    let x = s.1 in
    let r = x.2 in
    let t = r.3.does in
    let o = (asking p head g kept).out in
    let e : ErrandView = record { host = g.trip.host; backend = g.trip.backend; method = o.method; has_key = o.has_key; body = kind.Once } in
    then_closing a w r.0 r.1 r.2
    (then_closing a r.0 t.0 t.1 t.2 (looks_close r.3.at a t.0 t.3) (upload_trips_close e r.3.from r.3.to g.trip.outcome g.trip.late (behind a t.0) t.1 t.4))
    (answers_closing g.trip.outcome p head g.unread x.0 g.answer (behind a r.0) r.1 r.4)

owes_closing : (late : Bool) (timeout : ℕ) (P : At → Work → Type 0) → Closing P → Closing (Owes late timeout P)
owes_closing false timeout P p a w s = p a w s
owes_closing true timeout P p a w s = subst (λ (x : Work). ClosesWhatLeaves a x) (sym s.2) (p a s.0 s.1)

deeds_closing : (p : Spot) (head : RequestHead) (kept left : List ℕ) (deed : Deed) → Closing (Deeds p head kept left deed)
deeds_closing p head kept left Deed.Undecided a w s = idle_closing a w s
deeds_closing p head kept left (Deed.Owned own said) a w s = own_closing (line_of p) (unread_reason p head) own head.method head.old said a w s.2
deeds_closing p head kept left (Deed.Stopped number said) a w s = own_closing (line_of p) (unread_reason p head) OwnStop head.method head.old said a w s.3
deeds_closing p head kept left (Deed.Halted number halt) a w s = halts_closing (line_of p) head kept halt a w s.2
deeds_closing p head kept left (Deed.PassedKept number g) a w s =
    owes_closing (is_late g) g.timeout (PassesKept p head kept left g) (kept_closing p head kept left g) a w s.2
deeds_closing p head kept left (Deed.PassedOn number g) a w s =
    owes_closing (is_late g) g.timeout (PassesOn p head kept left g) (on_closing p head kept left g) a w s.2

-- ---- turns

requested_closing : (p : Spot) (ahead left : List ℕ) (turn : Turn) → Closing (Requested p ahead left turn)
requested_closing p ahead left (Turn.Missed why) a w s = absurd s
requested_closing p ahead left Turn.Refused a w s = absurd s
requested_closing p ahead left (Turn.Parted why) a w s =
    let t = s.3.2 in
    wire_closing a w s.3.0 (quiet_then closed_by t.0 t.1 w.acts t.2 (hears_quiet p.client ahead s.0 t.0 t.3)
    (ap closed_links t.4 ∙ loss_quiet closed_by p.client (reads_close p.client) why))
requested_closing p ahead left Turn.Unkept a w s = wire_closing a w s.1.0 (hears_quiet p.client ahead s.0 w.acts s.1.2)
requested_closing p ahead left (Turn.Faulty error said) a w s =
    then_closing a w s.0 s.1 s.2 (wire_closing a s.0 s.3.2.0 (hears_quiet p.client ahead s.3.0 s.0.acts s.3.2.2))
    (own_closing (line_of p) for_fault (Plain (refusal_code error)) (codes "GET") false said (behind a s.0) s.1 s.4)
requested_closing p ahead left (Turn.Heard text head deed) a w s =
    let q = s.1 in
    then_closing a w q.0 q.1 q.2 (wire_closing a q.0 q.3.1.0 (hears_quiet p.client ahead (text ++ s.0) q.0.acts q.3.1.2))
    (deeds_closing p head s.0 left deed (behind a q.0) q.1 q.4)

began_closing : (p : Spot) (kept ahead left : List ℕ) (turn : Turn) → Closing (Seq (Only free (Arrives p.client kept ahead)) (Requested p ahead left turn))
began_closing p kept ahead left turn a w q =
    then_closing a w q.0 q.1 q.2 (wire_closing a q.0 q.3.0 (arrives_quiet p.client kept ahead q.0.acts q.3.2)) (requested_closing p ahead left turn (behind a q.0) q.1 q.4)

turned_closing : (p : Spot) (kept left : List ℕ) (turn : Turn) → Closing (Turned p kept left turn)
turned_closing p kept left (Turn.Missed why) a w s = wire_closing a w s.2.0 (ap closed_links s.2.2 ∙ loss_quiet closed_by p.client (reads_close p.client) why)
turned_closing p kept left Turn.Refused a w s = wire_closing a w s.1.0 (arrives_quiet p.client kept s.0 w.acts s.1.2)
turned_closing p kept left (Turn.Parted why) a w s = began_closing p kept s.0 left (Turn.Parted why) a w s.1
turned_closing p kept left Turn.Unkept a w s = began_closing p kept s.0 left Turn.Unkept a w s.1
turned_closing p kept left (Turn.Faulty error said) a w s = began_closing p kept s.0 left (Turn.Faulty error said) a w s.1
turned_closing p kept left (Turn.Heard text head deed) a w s = began_closing p kept s.0 left (Turn.Heard text head deed) a w s.1

-- ---- the session

behind_closing : (next : Option Ended) (Later : At → Work → Type 0) (result : Ended) (turns : List Turn) → Closing Later → Closing (Behind next Later result turns)
behind_closing None Later result turns p a w s = p a w s
behind_closing (Some e) Later result turns p a w s = idle_closing a w s.2

serves_closing : (at : ℕ → Spot) (number : ℕ) (kept : List ℕ) (result : Ended) (turns : List Turn) → Closing (Serves at number kept result turns)
serves_closing at number kept result [] a w s = idle_closing a w s.1
serves_closing at number kept result (turn ∷ turns) a w s =
    let q = s.1 in
    then_closing a w q.0 q.1 q.2 (turned_closing (at number) kept s.0 turn a q.0 q.3)
    (behind_closing (turn_next (at number) turn) (Serves at (number + 1) s.0 result turns) result turns (serves_closing at (number + 1) s.0 result turns) (behind a q.0) q.1 q.4)

pub sessions_close : SessionsCloseWhatLeaves
sessions_close client at result turns a w s =
    let u : Work = s.0 in
    let v : Work = s.1 in
    let gone : List Entry → List ℕ = gone_links a.limits a.history a.caller in
    let T : Work → Type 0 = λ x. closed_links x.acts ≡ gone x.made ++ (client ∷ []) in
    let served = serves_closing at 1 [] result turns a u s.3 in
    subst T (sym s.2) (flat_map-append closed_by u.acts v.acts ∙ ap (λ x. x ++ closed_links v.acts) served ∙ ap (λ x. gone u.made ++ closed_links x) s.4.2
    ∙ ap (λ x. gone x ++ (client ∷ [])) (sym (ap (λ x. u.made ++ x) s.4.0 ∙ append-nil u.made)))
