-- The rest of a reply, over plain variables.
use Rattle.std.proofs.Common.{ℕ, ◌≡◌, ◌≤◌, Bool, true, false, List, [], ◌++◌, Option, Some, None, is_some, refl, ap, sym, subst, ◌∙◌, arith}
use Rattle.gw_wire.specs.Causes.{Rose}
use Rattle.gw_wire.specs.Link.{LinkView}
use Rattle.gw_wire.specs.Wire.{WireView, NowStep}
use Rattle.gw_wire.proofs.Facts.{link_same}
use Rattle.gw_head.specs.declared.request.RequestHead.{RequestHead}
use Rattle.gw_proxy.specs.OutReply.{OutReply}
use Rattle.gw_account.specs.Work.{both}
use Rattle.gw_account.proofs.Facts.{went_map, went_then}
use Rattle.gw_stream.specs.declared.relaying.Incoming.{Incoming}
use Rattle.gw_stream.specs.declared.relaying.Relayed.{Relayed}
use Rattle.gw_stream.specs.declared.relaying.Relayed.TheVariants as relayed
use Rattle.gw_stream.specs.declared.waits.Loss.TheVariants as loss
use Rattle.gw_stream.specs.declared.waits.Sent.{Sent}
use Rattle.gw_stream.specs.declared.waits.Stop.TheVariants as stops
use Rattle.gw_stream.specs.Filling.{Passing, passing}
use Rattle.gw_stream.specs.Outbox.{OutView}
use Rattle.gw_stream.specs.Relaying as relaying
use Rattle.gw_stream.specs.Relaying.{Came, Interleaved, TextFor, came_bill, incoming, relayed_by}
use Rattle.gw_stream.specs.Waits.{Says, sent_bill}
use Rattle.gw_transport.specs.Watch.{times_found}
use Rattle.gw_session.specs.declared.end.Ended.{Ended}
use Rattle.gw_session.specs.declared.end.Ended.TheVariants as ended
use Rattle.gw_session.specs.declared.end.Why.{Why}
use Rattle.gw_session.specs.declared.replying.Heading.TheVariants as heading
use Rattle.gw_session.specs.Ending.{closed, relayed_next, why_after}
use Rattle.gw_session.specs.Passing.{Answer, Replied, is_due_relay, reason_of}
use Rattle.gw_session.specs.ReplySteps.{PutStep, RestStep, SaysRest}
use Rattle.gw_session.specs.Replies.{Reply}
use Rattle.gw_session.specs.Seats.{Seats}
use Rattle.gw_session.specs.Stand.{EndCause, Goes, Spot, Stand, is_last, stand}
use Rattle.gw_session.specs.TripSteps.{RelayedStep}
use Rattle.gw_session.specs.Turn.{is_cancelled_relay}
use Rattle.gw_session.proofs.DoneLemmas.{dated_then}
use Rattle.gw_session.proofs.SayLemmas.{clock_idle, goes_looked, read_clock, reason_cause, unsaid}
use Rattle.gw_session.proofs.SeatLemmas.{end_behind, goes_since, goes_then}

no_said : (came : Came) → (came_bill None came).said ≡ []
no_said Came.Inside = refl
no_said Came.Done = refl
no_said (Came.Bad error) = refl
no_said (Came.Lost loss.End) = refl
no_said (Came.Lost loss.Failed) = refl
no_said (Came.Lost (loss.Stopped stops.Cancelled)) = refl
no_said (Came.Lost (loss.Stopped stops.Deadline)) = refl
no_said (Came.Lost (loss.Stopped stops.Silent)) = refl
no_said (Came.Lost (loss.Stopped stops.Ticks)) = refl

both_unsaid : (came : Came) (silence : ℕ) (s : Sent) → (both (came_bill None came) (sent_bill (Some silence) s)).said ≡ []
both_unsaid came silence s = ap (λ (l : List ℕ). l ++ (sent_bill (Some silence) s).said) (no_said came) ∙ unsaid silence s

-- why it ends: the client's link or a wait for it, or the reason for which the link closes
relayed_cause : (from to : LinkView) (seen : Bool) (result : Relayed) (reason : Option Why) → EndCause from to seen (closed reason) → EndCause from to seen (relayed_next result None)
    → EndCause from to seen (relayed_next result reason)
relayed_cause from to seen relayed.Whole reason e f = e
relayed_cause from to seen (relayed.Bad error) reason e f = f
relayed_cause from to seen (relayed.Lost why) reason e f = f
relayed_cause from to seen (relayed.WriteFailed some) reason e f = f
relayed_cause from to seen (relayed.WriteStopped why) reason e f = f
relayed_cause from to seen relayed.Spent reason e f = f

goes_by : (x y : Stand) (p : Spot) (since : ℕ) (s : Bool) (one other : Option Ended) → Goes x y p since s one → EndCause x.client y.client y.seats.gate.view.seen_shut other
    → Goes x y p since s other
goes_by x y p since s one other g e = record { link = g.link; seats = g.seats; held = g.held; cause = e }

pub rest_relayed : (x y z : WireView) (from to : LinkView) (s0 s1 s2 : Seats) (p : Spot) (head : RequestHead) (unread : Bool) (b : Replied) (out put : OutView) (before : Passing)
    (after : Incoming) (since now link : ℕ) (deadline : Option ℕ) (reason : Option Why) (result : Relayed)
    → NowStep x y now → since ≤ x.moment → out.text ≡ [] → PutStep s0 s1 (is_last p.number) head unread b.begun now out put (heading.Put reason)
    → before ≡ passing b.place b.ahead put → link ≡ b.link → RelayedStep (stand y from s1) (stand z to s2) p since link before after deadline result
    → RestStep (stand x from s0) (stand z to s2) p since deadline (SaysRest p head (reason_of p head unread) b out after) (reason_of p head unread) (relayed_next result reason)
rest_relayed x y z from to s0 s1 s2 p head unread b out put before after since now link deadline reason result n le none step at on k =
    let why = why_after head (is_last p.number) step.shut unread in
    let r : RelayedStep (stand y from s1) (stand z to s2) p since b.link (passing b.place b.ahead put) after deadline result =
    subst (λ (l : ℕ). RelayedStep (stand y from s1) (stand z to s2) p since l (passing b.place b.ahead put) after deadline result) on
    (subst (λ (q : Passing). RelayedStep (stand y from s1) (stand z to s2) p since link q after deadline result) at k) in
    let puts = step.puts in
    let begins = puts.2.0 in
    let cost = both (came_bill None r.came) (sent_bill (Some p.table.client_ms) r.said) in
    let I = Interleaved (Says p.client r.text r.said) (relaying.Comes b.link b.place b.ahead r.given after.body after.inbox r.came) in
    let reply : Reply = record { moment = now; shut = step.shut; text = r.text; sent = r.said } in
    let put_is = puts.2.2 in
    let text : TextFor begins out.in_chunks (out.begun ++ r.given) r.came r.text =
    subst (λ (l : List ℕ). TextFor l out.in_chunks (out.begun ++ r.given) r.came r.text) (ap (λ (l : List ℕ). l ++ begins) none)
    (subst (λ (o : OutView). TextFor o.text o.in_chunks (o.begun ++ r.given) r.came r.text) put_is r.text_is) in
    let head_is : OutReply b.begun.head b.begun.framing head.method head.old (is_some why) now begins =
    subst (λ (o : Option Why). OutReply b.begun.head b.begun.framing head.method head.old (is_some o) now begins) puts.0 puts.2.1 in
    let next : relayed_next result reason ≡ relayed_next (relayed_by r.came r.said) why =
    ap (λ (q : Relayed). relayed_next q reason) r.result_is ∙ ap (λ (o : Option Why). relayed_next (relayed_by r.came r.said) o) puts.0 in
    let looked = goes_since (stand x from s0) (stand y from s1) p x.moment since false None le
    (goes_looked x y y from from s0 s1 p now step.shut None n (omega arith) step.notes (link_same from) tt) in
    let seen : EndCause from to s2.gate.view.seen_shut (closed reason) =
    subst (λ (o : Option Why). EndCause from to s2.gate.view.seen_shut (closed o)) (sym puts.0)
    (end_behind from to to step.shut s2.gate.view.seen_shut (closed why) (link_same to) (λ e. r.goes.seats.seen_shut (step.notes.seen ∙ e)) (reason_cause from to head (is_last p.number) step.shut unread)) in
    let later = goes_by (stand y from s1) (stand z to s2) p since false (relayed_next result None) (relayed_next result reason) r.goes
    (relayed_cause from to s2.gate.view.seen_shut result reason seen r.goes.cause) in
    record {
      answer = Answer.Streamed reply r.came;
      went = went_map (went_then (read_clock x y now n) r.went)
          (λ a w s. record { d = r.given; begins = begins; head_is = head_is; text_is = text; does = dated_then now cost I (both_unsaid r.came p.table.client_ms r.said) a w s });
      next_is = next;
      goes = goes_then (stand x from s0) (stand y from s1) (stand z to s2) p since false false (relayed_next result reason) r.went.wired.later.moment looked later;
      due = λ e. r.due (ap is_due_relay r.result_is ∙ e);
      cancelled = λ e. subst (λ (w : _). Rose (times_found p.own w) (times_found p.own s2.words.view.ended)) (ap (λ w. w.view.ended) step.notes.words) (r.cancelled (ap is_cancelled_relay r.result_is ∙ e));
    }

pub rest_unsaid : (x y : WireView) (from : LinkView) (s0 s1 : Seats) (p : Spot) (head : RequestHead) (unread : Bool) (b : Replied) (out put : OutView) (after : Incoming)
    (since now : ℕ) (deadline : Option ℕ) → NowStep x y now → since ≤ x.moment → PutStep s0 s1 (is_last p.number) head unread b.begun now out put heading.NoMemory
    → after ≡ incoming b.place b.ahead
    → RestStep (stand x from s0) (stand y from s1) p since deadline (SaysRest p head (reason_of p head unread) b out after) (reason_of p head unread) (Some ended.NoMemory)
rest_unsaid x y from s0 s1 p head unread b out put after since now deadline n le step is = record {
  answer = Answer.Silent;
  went = went_map (clock_idle x y now n) (λ a w i. (is, i));
  next_is = refl;
  goes = goes_since (stand x from s0) (stand y from s1) p x.moment since false (Some ended.NoMemory) le
      (goes_looked x y y from from s0 s1 p now step.shut (Some ended.NoMemory) n (omega arith) step.notes (link_same from) tt);
  due = λ e. absurd (let bad : false ≡ true = e in cc);
  cancelled = λ e. absurd (let bad : false ≡ true = e in cc);
}
