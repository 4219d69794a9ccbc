-- The answers of a passage whose trip brought no reply, over plain variables.
use Rattle.std.proofs.Common.{ℕ, ◌≡◌, ◌≤◌, Bool, true, false, List, Option, Some, None, refl, ap, sym, subst, ◌∙◌, arith}
use Rattle.gw_wire.specs.Link.{LinkView}
use Rattle.gw_wire.specs.Wire.{WireView}
use Rattle.gw_wire.proofs.Facts.{link_same}
use Rattle.gw_chunk.specs.declared.error.ChunkError.{ChunkError}
use Rattle.gw_head.specs.declared.request.RequestHead.{RequestHead}
use Rattle.gw_proxy.specs.declared.own.Own.TheVariants.{Plain}
use Rattle.gw_retry.specs.declared.Failure.{Failure}
use Rattle.gw_account.specs.Did.{Went, span}
use Rattle.gw_account.specs.Work.{Work, At, Only, free}
use Rattle.gw_account.proofs.Facts.{went_map, went_nothing, went_then}
use Rattle.gw_pool.specs.declared.leases.Lease.{Lease}
use Rattle.gw_pool.specs.Lent.{Lent}
use Rattle.gw_stream.specs.declared.waits.Sent.{Sent}
use Rattle.gw_stream.specs.declared.waits.Sent.TheVariants as sent
use Rattle.gw_stream.specs.Waits as waits
use Rattle.gw_transport.specs.declared.attempts.Attempted.{Attempted}
use Rattle.gw_transport.specs.declared.attempts.Attempted.TheVariants as attempted
use Rattle.gw_transport.specs.declared.replying.Begun.{Begun}
use Rattle.gw_transport.specs.declared.replying.End.{End}
use Rattle.gw_transport.specs.declared.replying.End.TheVariants as end
use Rattle.gw_transport.specs.Attempts.{LeftOut}
use Rattle.gw_transport.specs.Leasing.{IsRested}
use Rattle.gw_session.specs.declared.client.Client.{Client}
use Rattle.gw_session.specs.declared.end.Ended.{Ended}
use Rattle.gw_session.specs.declared.end.Why.{Why}
use Rattle.gw_session.specs.Ending.{over_end, sent_next}
use Rattle.gw_session.specs.Passing.{Answer, Answers, AnswersFailure, AnswersOver, AnswersOwn, AnswersReply, IsNotAll, Replied, Trace, answer_next, failure_code, is_due_answer, reason_of, replied, rest_of_continue}
use Rattle.gw_session.specs.AnswerSteps.{FailureStep, OverStep, own_end}
use Rattle.gw_session.specs.ReplySteps.{AnsweredStep, reply_next}
use Rattle.gw_session.specs.Replies.{SaysOwn, Writes, for_fault}
use Rattle.gw_session.specs.Seats.{Seats}
use Rattle.gw_session.specs.Stand.{EndCause, Goes, IsSameClient, Line, Spot, Stand, line, line_of, stand}
use Rattle.gw_session.specs.Steps.{FaultStep, OwnStep, WrittenStep}
use Rattle.gw_session.specs.TripSteps.{IsTimed, IsTimedClient, deadline_of, plain}
use Rattle.gw_session.specs.Turn.{is_cancelled_answer}
use Rattle.gw_session.proofs.DoneLemmas.{done_map, done_went}
use Rattle.gw_session.proofs.SayLemmas.{sent_cause}
use Rattle.gw_session.proofs.SeatLemmas.{goes_link, goes_since, goes_then}

-- ---- a trip that is over

pub over_fault : (x y : WireView) (from to : LinkView) (silence : ℕ) (head : RequestHead) (e : End) (error : ChunkError) (next : Option Ended) → e ≡ end.Body error
    → FaultStep x y from to silence 400 head.method head.old next → OverStep x y from to silence head e next
over_fault x y from to silence head e error next is f =
    let made : OverStep x y from to silence head (end.Body error) next =
    record {
      answer = Answer.Own f.said;
      went = λ p same. went_map f.went (λ a v k. subst (λ (l : Line). SaysOwn l for_fault (Plain 400) head.method head.old f.said a v) (sym same) k);
      next_is = λ reason. f.next_is;
      link = f.link;
      cause = f.cause;
    } in
    subst (λ (o : End). OverStep x y from to silence head o next) (sym is) made

abbrev pub IsQuiet : End → Type 0
IsQuiet (end.Body error) = ⊥
IsQuiet _ = Unit {0}

over_quiet : (w : WireView) (from : LinkView) (silence : ℕ) (head : RequestHead) (e : End) → w.aged ≡ false → IsQuiet e
    → OverStep w w from from silence head e (Some (over_end e))
over_quiet w from silence head (end.Body error) fresh quiet = absurd quiet
over_quiet w from silence head end.ClientEnd fresh quiet = record {
  answer = Answer.Silent;
  went = λ p same. went_map (went_nothing w fresh) (λ a v k. (refl, k));
  next_is = λ reason. refl;
  link = link_same from;
  cause = tt;
}
over_quiet w from silence head end.ClientFailed fresh quiet = record {
  answer = Answer.Silent;
  went = λ p same. went_map (went_nothing w fresh) (λ a v k. (refl, k));
  next_is = λ reason. refl;
  link = link_same from;
  cause = tt;
}
over_quiet w from silence head end.ClientTimeout fresh quiet = record {
  answer = Answer.Silent;
  went = λ p same. went_map (went_nothing w fresh) (λ a v k. (refl, k));
  next_is = λ reason. refl;
  link = link_same from;
  cause = tt;
}
over_quiet w from silence head end.NoMemory fresh quiet = record {
  answer = Answer.Silent;
  went = λ p same. went_map (went_nothing w fresh) (λ a v k. (refl, k));
  next_is = λ reason. refl;
  link = link_same from;
  cause = tt;
}

pub over_silent : (w : WireView) (from : LinkView) (silence : ℕ) (head : RequestHead) (e f : End) → w.aged ≡ false → e ≡ f → IsQuiet f
    → OverStep w w from from silence head e (Some (over_end f))
over_silent w from silence head e f fresh is quiet =
    subst (λ (o : End). OverStep w w from from silence head o (Some (over_end f))) (sym is) (over_quiet w from silence head f fresh quiet)

-- ---- a trip that failed

pub not_all : (r : Sent) → (r ≡ sent.All → ⊥) → IsNotAll r
not_all sent.All f = f refl
not_all (sent.Failed some) f = tt
not_all (sent.Stopped why) f = tt

wrote_rest : (silence client number : ℕ) (why : Failure) (told : ℕ) (text : List ℕ) (r : Sent) → client ≡ number → r ≡ sent.All → text ≡ rest_of_continue why told → (a : At) (w : Work)
    → Writes (line number silence) text r a w → Only free (waits.Writes client (rest_of_continue why told)) a w
wrote_rest silence client number why told text r same all is a w k =
    let whole : Writes (line number silence) text sent.All a w = subst (λ (s : Sent). Writes (line number silence) text s a w) all k in
    (whole.1.0, whole.1.1, subst (λ (l : List ℕ). waits.Writes client l w.acts) is (subst (λ (c : ℕ). waits.Writes c text w.acts) (sym same) whole.1.2))

pub failure_own : (x y z : WireView) (from to last : LinkView) (s t : Seats) (p q : Spot) (head : RequestHead) (unread : Bool) (why : Failure) (told code : ℕ) (text : List ℕ) (r : Sent) (next : Option Ended)
    → q ≡ p → p.client ≡ from.number → r ≡ sent.All → text ≡ rest_of_continue why told → code ≡ failure_code why
    → WrittenStep x y from to p.table.client_ms text r → OwnStep (stand y to s) (stand z last t) q head unread (Plain code) next
    → FailureStep (stand x from s) (stand z last t) p head unread why told next
failure_own x y z from to last s t p q head unread why told code text r next spot same all is known w o =
    let own : OwnStep (stand y to s) (stand z last t) p head unread (Plain (failure_code why)) next =
    subst (λ (c : ℕ). OwnStep (stand y to s) (stand z last t) p head unread (Plain c) next) known
    (subst (λ (u : Spot). OwnStep (stand y to s) (stand z last t) u head unread (Plain code) next) spot o) in
    let rest : Went x y (Only free (waits.Writes p.client (rest_of_continue why told))) =
    went_map w.went (wrote_rest p.table.client_ms p.client from.number why told text r same all is) in
    record {
      answer = Answer.Own own.said;
      went = went_map (went_then rest own.went) (λ a v k. k);
      next_is = own.next_is;
      goes = goes_then (stand x from s) (stand y to s) (stand z last t) p x.moment false false next own.went.wired.later.moment
          (goes_link x y from to s p x.moment None w.link tt)
          (goes_since (stand y to s) (stand z last t) p y.moment x.moment false next w.went.wired.later.moment own.goes);
    }

pub failure_untold : (x y : WireView) (from to : LinkView) (s : Seats) (p : Spot) (head : RequestHead) (unread : Bool) (why : Failure) (told : ℕ) (text : List ℕ) (r : Sent) (next : Option Ended)
    → p.client ≡ from.number → IsNotAll r → text ≡ rest_of_continue why told → next ≡ sent_next r None → WrittenStep x y from to p.table.client_ms text r
    → FailureStep (stand x from s) (stand y to s) p head unread why told next
failure_untold x y from to s p head unread why told text r next same some is ends w =
    let made : FailureStep (stand x from s) (stand y to s) p head unread why told (sent_next r None) =
    record {
      answer = Answer.Untold r;
      went = went_map w.went (λ a v k. (
        some,
        subst (λ (l : List ℕ). Writes (line_of p) l r a v) is
            (subst (λ (c : ℕ). Writes (line c p.table.client_ms) text r a v) (sym same) k),
      ));
      next_is = refl;
      goes = goes_link x y from to s p x.moment (sent_next r None) w.link (sent_cause from to false r None w.of_client w.cause tt);
    } in
    subst (λ (o : Option Ended). FailureStep (stand x from s) (stand y to s) p head unread why told o) (sym ends) made

-- ---- the answer of a whole passage, by what its trip came to

-- an answer that neither a deadline nor a cancelled trip is the reason of
abbrev pub IsPlain : Answer → Type 0
IsPlain Answer.Silent = Unit {0}
IsPlain (Answer.Untold r) = Unit {0}
IsPlain (Answer.Own said) = Unit {0}
IsPlain _ = ⊥

plain_due : (answer : Answer) → IsPlain answer → is_due_answer answer ≡ true → ⊥
plain_due Answer.Silent is e = let bad : false ≡ true = e in cc
plain_due (Answer.Untold r) is e = let bad : false ≡ true = e in cc
plain_due (Answer.Own said) is e = let bad : false ≡ true = e in cc
plain_due (Answer.Bad x y) is e = is
plain_due (Answer.Lost x y) is e = is
plain_due (Answer.Whole x) is e = is
plain_due (Answer.Streamed x y) is e = is

plain_cancelled : (answer : Answer) → IsPlain answer → is_cancelled_answer answer ≡ true → ⊥
plain_cancelled Answer.Silent is e = let bad : false ≡ true = e in cc
plain_cancelled (Answer.Untold r) is e = let bad : false ≡ true = e in cc
plain_cancelled (Answer.Own said) is e = let bad : false ≡ true = e in cc
plain_cancelled (Answer.Bad x y) is e = is
plain_cancelled (Answer.Lost x y) is e = is
plain_cancelled (Answer.Whole x) is e = is
plain_cancelled (Answer.Streamed x y) is e = is

plain_own : (p : Spot) (head : RequestHead) (reason : Bool → Option Why) (code : ℕ) (answer : Answer) (a : At) (w : Work) → AnswersOwn p head reason code answer a w → IsPlain answer
plain_own p head reason code Answer.Silent a w k = tt
plain_own p head reason code (Answer.Untold r) a w k = tt
plain_own p head reason code (Answer.Own said) a w k = tt
plain_own p head reason code (Answer.Bad x y) a w k = k
plain_own p head reason code (Answer.Lost x y) a w k = k
plain_own p head reason code (Answer.Whole x) a w k = k
plain_own p head reason code (Answer.Streamed x y) a w k = k

plain_failure : (p : Spot) (head : RequestHead) (reason : Bool → Option Why) (why : Failure) (told : ℕ) (answer : Answer) (a : At) (w : Work)
    → AnswersFailure p head reason why told answer a w → IsPlain answer
plain_failure p head reason why told Answer.Silent a w k = tt
plain_failure p head reason why told (Answer.Untold r) a w k = tt
plain_failure p head reason why told (Answer.Own said) a w k = tt
plain_failure p head reason why told (Answer.Bad x y) a w k = k
plain_failure p head reason why told (Answer.Lost x y) a w k = k
plain_failure p head reason why told (Answer.Whole x) a w k = k
plain_failure p head reason why told (Answer.Streamed x y) a w k = k

plain_over : (p : Spot) (head : RequestHead) (e : End) (answer : Answer) (a : At) (w : Work) → AnswersOver p head e answer a w → IsPlain answer
plain_over p head (end.Body error) answer a w k = plain_own p head for_fault 400 answer a w k
plain_over p head end.ClientEnd answer a w k = subst IsPlain (sym k.0) tt
plain_over p head end.ClientFailed answer a w k = subst IsPlain (sym k.0) tt
plain_over p head end.ClientTimeout answer a w k = subst IsPlain (sym k.0) tt
plain_over p head end.NoMemory answer a w k = subst IsPlain (sym k.0) tt

-- the leases aren't touched
plain_step : (x y : WireView) (from to : LinkView) (s t : Seats) (b : Lent) (p : Spot) (deadline : Option ℕ) (Does : Answer → At → Work → Type 0) (next_of : Answer → Option Ended)
    (answer : Answer) (result : Option Ended) → IsRested b → ((a : At) (w : Work) → Does answer a w → IsPlain answer) → Went x y (Does answer) → result ≡ next_of answer
    → AnsweredStep (span x y b b) (stand x from s) (stand y to t) p deadline Does next_of result
plain_step x y from to s t b p deadline Does next_of answer result rested is went next =
    let done = done_went b went in
    let own = is _ _ done.does in
    record {
      answer = answer;
      done = done;
      next_is = next;
      rested = rested;
      due = λ e. absurd (plain_due answer own e);
      cancelled = λ e. absurd (plain_cancelled answer own e);
    }

reply_as : (l : Lease (Unit {0})) (begun : Begun) (p : Spot) (head : RequestHead) (reason : Bool → Option Why) (b : Replied) (answer : Answer) (a : At) (w : Work)
    → AnswersReply p head reason b answer a w → reply_next reason answer ≡ answer_next (attempted.Reply l begun) reason answer
reply_as l begun p head reason b Answer.Silent a w k = refl
reply_as l begun p head reason b (Answer.Untold x) a w k = absurd k
reply_as l begun p head reason b (Answer.Own x) a w k = absurd k
reply_as l begun p head reason b (Answer.Bad x y) a w k = refl
reply_as l begun p head reason b (Answer.Lost x y) a w k = refl
reply_as l begun p head reason b (Answer.Whole x) a w k = refl
reply_as l begun p head reason b (Answer.Streamed x y) a w k = refl

pub answered_reply : {C : Type 0} (x y : WireView) (from to : LinkView) (s t : Seats) (c d : Lent) (p : Spot) (head : RequestHead) (unread : Bool) (deadline : Option ℕ) (trace : Trace)
    (trip : Attempted C Begun End) (l : Lease C) (begun : Begun) (result : Option Ended) → trip ≡ attempted.Reply l begun
    → AnsweredStep (span x y c d) (stand x from s) (stand y to t) p deadline (AnswersReply p head (reason_of p head unread) (replied l.link l.no begun trace)) (reply_next (reason_of p head unread)) result
    → AnsweredStep (span x y c d) (stand x from s) (stand y to t) p deadline (Answers (plain trip) p head unread trace) (answer_next (plain trip) (reason_of p head unread)) result
answered_reply {C} x y from to s t c d p head unread deadline trace trip l begun result is k =
    let reason = reason_of p head unread in
    let o = plain (attempted.Reply l begun) in
    let made : AnsweredStep (span x y c d) (stand x from s) (stand y to t) p deadline (Answers o p head unread trace) (answer_next o reason) result =
    record {
      answer = k.answer;
      done = done_map k.done (λ a w q. q);
      next_is = k.next_is ∙ reply_as (record { conn = tt; no = l.no; want = l.want; host = l.host; link = l.link; reused = l.reused }) begun p head reason (replied l.link l.no begun trace) k.answer _ _ k.done.does;
      rested = k.rested;
      due = k.due;
      cancelled = k.cancelled;
    } in
    subst (λ (u : Attempted C Begun End). AnsweredStep (span x y c d) (stand x from s) (stand y to t) p deadline (Answers (plain u) p head unread trace) (answer_next (plain u) reason) result) (sym is) made

pub reply_goes : {C : Type 0} (x y : Stand) (p : Spot) (since : ℕ) (trip : Attempted C Begun End) (l : Lease C) (begun : Begun) (result : Option Ended) → trip ≡ attempted.Reply l begun
    → Goes x y p since false result → Goes x y p since false (own_end (plain trip) result)
reply_goes {C} x y p since trip l begun result is k =
    subst (λ (u : Attempted C Begun End). Goes x y p since false (own_end (plain u) result)) (sym is) k

pub answered_failed : {C : Type 0} (link : C → LinkView) (x y : WireView) (from to : LinkView) (s t : Seats) (b : Lent) (p : Spot) (head : RequestHead) (unread : Bool) (deadline : Option ℕ) (trace : Trace)
    (trip : Attempted C Begun End) (why : Failure) (result : Option Ended) → trip ≡ attempted.Failed why → LeftOut link b trip
    → FailureStep (stand x from s) (stand y to t) p head unread why trace.told result
    → AnsweredStep (span x y b b) (stand x from s) (stand y to t) p deadline (Answers (plain trip) p head unread trace) (answer_next (plain trip) (reason_of p head unread)) result
answered_failed {C} link x y from to s t b p head unread deadline trace trip why result is left k =
    let reason = reason_of p head unread in
    let o = plain {C = C} (attempted.Failed why) in
    let rested : IsRested b = subst (λ (u : Attempted C Begun End). LeftOut link b u) is left in
    let made : AnsweredStep (span x y b b) (stand x from s) (stand y to t) p deadline (Answers o p head unread trace) (answer_next o reason) result =
    plain_step x y from to s t b p deadline (Answers o p head unread trace) (answer_next o reason) k.answer result rested
    (plain_failure p head reason why trace.told k.answer) k.went k.next_is in
    subst (λ (u : Attempted C Begun End). AnsweredStep (span x y b b) (stand x from s) (stand y to t) p deadline (Answers (plain u) p head unread trace) (answer_next (plain u) reason) result) (sym is) made

pub failed_goes : {C : Type 0} (x y : Stand) (p : Spot) (since : ℕ) (head : RequestHead) (unread : Bool) (told : ℕ) (trip : Attempted C Begun End) (why : Failure) (result : Option Ended)
    → trip ≡ attempted.Failed why → since ≤ x.wire.moment → FailureStep x y p head unread why told result → Goes x y p since false (own_end (plain trip) result)
failed_goes {C} x y p since head unread told trip why result is le k =
    subst (λ (u : Attempted C Begun End). Goes x y p since false (own_end (plain u) result)) (sym is) (goes_since x y p x.wire.moment since false result le k.goes)

pub answered_over : {C : Type 0} (link : C → LinkView) (x y : WireView) (from to : LinkView) (s : Seats) (b : Lent) (p : Spot) (head : RequestHead) (unread : Bool) (deadline : Option ℕ) (trace : Trace)
    (trip : Attempted C Begun End) (e : End) (result : Option Ended) → trip ≡ attempted.Over e → p.client ≡ from.number → LeftOut link b trip
    → OverStep x y from to p.table.client_ms head e result
    → AnsweredStep (span x y b b) (stand x from s) (stand y to s) p deadline (Answers (plain trip) p head unread trace) (answer_next (plain trip) (reason_of p head unread)) result
answered_over {C} link x y from to s b p head unread deadline trace trip e result is same left k =
    let reason = reason_of p head unread in
    let o = plain {C = C} (attempted.Over e) in
    let rested : IsRested b = subst (λ (u : Attempted C Begun End). LeftOut link b u) is left in
    let made : AnsweredStep (span x y b b) (stand x from s) (stand y to s) p deadline (Answers o p head unread trace) (answer_next o reason) result =
    plain_step x y from to s s b p deadline (Answers o p head unread trace) (answer_next o reason) k.answer result rested
    (plain_over p head e k.answer) (k.went p (ap (λ (n : ℕ). line n p.table.client_ms) same)) (k.next_is reason) in
    subst (λ (u : Attempted C Begun End). AnsweredStep (span x y b b) (stand x from s) (stand y to s) p deadline (Answers (plain u) p head unread trace) (answer_next (plain u) reason) result) (sym is) made

own_cause : (x y : WireView) (from to : LinkView) (silence : ℕ) (head : RequestHead) (e : End) (result : Option Ended) → OverStep x y from to silence head e result
    → EndCause from to false (own_end (attempted.Over e) result)
own_cause x y from to silence head (end.Body error) result k = k.cause
own_cause x y from to silence head end.ClientEnd result k = tt
own_cause x y from to silence head end.ClientFailed result k = tt
own_cause x y from to silence head end.ClientTimeout result k = tt
own_cause x y from to silence head end.NoMemory result k = tt

pub over_goes : {C : Type 0} (x y : WireView) (from to : LinkView) (s : Seats) (p : Spot) (since silence : ℕ) (head : RequestHead) (trip : Attempted C Begun End) (e : End) (result : Option Ended)
    → trip ≡ attempted.Over e → OverStep x y from to silence head e result → Goes (stand x from s) (stand y to s) p since false (own_end (plain trip) result)
over_goes {C} x y from to s p since silence head trip e result is k =
    subst (λ (u : Attempted C Begun End). Goes (stand x from s) (stand y to s) p since false (own_end (plain u) result)) (sym is)
    (goes_link x y from to s p since (own_end (attempted.Over e) result) k.link (own_cause x y from to silence head e result k))

-- the code by which the gateway answers a trip that got no connection
abbrev pub NoConn : {C : Type 0} → Attempted C Begun End → ℕ → Type 0
NoConn attempted.Unreachable code = code ≡ 502
NoConn attempted.Full code = code ≡ 503
NoConn _ code = ⊥

pub no_conn_502 : {C : Type 0} (trip : Attempted C Begun End) (code : ℕ) → trip ≡ attempted.Unreachable → code ≡ 502 → NoConn trip code
no_conn_502 {C} trip code is e = subst (λ (u : Attempted C Begun End). NoConn u code) (sym is) e

pub no_conn_503 : {C : Type 0} (trip : Attempted C Begun End) (code : ℕ) → trip ≡ attempted.Full → code ≡ 503 → NoConn trip code
no_conn_503 {C} trip code is e = subst (λ (u : Attempted C Begun End). NoConn u code) (sym is) e

own_done : {C : Type 0} (x y : WireView) (from to : LinkView) (s t : Seats) (b : Lent) (p : Spot) (head : RequestHead) (unread : Bool) (deadline : Option ℕ) (trace : Trace)
    (trip : Attempted C Begun End) (code : ℕ) (result : Option Ended) → IsRested b → OwnStep (stand x from s) (stand y to t) p head unread (Plain code) result
    → (Answers (plain trip) p head unread trace ≡ AnswersOwn p head (reason_of p head unread) code) → ((said : _) → answer_next (plain trip) (reason_of p head unread) (Answer.Own said) ≡ answer_next attempted.Full (reason_of p head unread) (Answer.Own said))
    → AnsweredStep (span x y b b) (stand x from s) (stand y to t) p deadline (Answers (plain trip) p head unread trace) (answer_next (plain trip) (reason_of p head unread)) result
own_done {C} x y from to s t b p head unread deadline trace trip code result rested k does next =
    let reason = reason_of p head unread in
    plain_step x y from to s t b p deadline (Answers (plain trip) p head unread trace) (answer_next (plain trip) reason) (Answer.Own k.said) result rested
    (λ a w q. tt) (subst (λ (D : Answer → At → Work → Type 0). Went x y (D (Answer.Own k.said))) (sym does) k.went) (k.next_is ∙ sym (next k.said))

pub answered_own : {C : Type 0} (link : C → LinkView) (x y : WireView) (from to : LinkView) (s t : Seats) (b : Lent) (p : Spot) (head : RequestHead) (unread : Bool) (deadline : Option ℕ) (trace : Trace)
    (trip : Attempted C Begun End) (code : ℕ) (result : Option Ended) → NoConn trip code → LeftOut link b trip → OwnStep (stand x from s) (stand y to t) p head unread (Plain code) result
    → AnsweredStep (span x y b b) (stand x from s) (stand y to t) p deadline (Answers (plain trip) p head unread trace) (answer_next (plain trip) (reason_of p head unread)) result
answered_own {C} link x y from to s t b p head unread deadline trace (attempted.Reply l r) code result is left k = absurd is
answered_own {C} link x y from to s t b p head unread deadline trace (attempted.Failed why) code result is left k = absurd is
answered_own {C} link x y from to s t b p head unread deadline trace (attempted.Over e) code result is left k = absurd is
answered_own {C} link x y from to s t b p head unread deadline trace attempted.Unreachable code result is left k =
    own_done {C = C} x y from to s t b p head unread deadline trace attempted.Unreachable code result left k (ap (λ (n : ℕ). AnswersOwn p head (reason_of p head unread) n) (sym is)) (λ said. refl)
answered_own {C} link x y from to s t b p head unread deadline trace attempted.Full code result is left k =
    own_done {C = C} x y from to s t b p head unread deadline trace attempted.Full code result left k (ap (λ (n : ℕ). AnswersOwn p head (reason_of p head unread) n) (sym is)) (λ said. refl)

no_conn_end : {C : Type 0} (trip : Attempted C Begun End) (code : ℕ) (result : Option Ended) → NoConn trip code → own_end (plain trip) result ≡ result
no_conn_end {C} (attempted.Reply l r) code result is = absurd is
no_conn_end {C} (attempted.Failed why) code result is = absurd is
no_conn_end {C} (attempted.Over e) code result is = absurd is
no_conn_end {C} attempted.Unreachable code result is = refl
no_conn_end {C} attempted.Full code result is = refl

pub own_goes : {C : Type 0} (x y : Stand) (p : Spot) (since : ℕ) (head : RequestHead) (unread : Bool) (trip : Attempted C Begun End) (code : ℕ) (result : Option Ended)
    → NoConn trip code → since ≤ x.wire.moment → OwnStep x y p head unread (Plain code) result → Goes x y p since false (own_end (plain trip) result)
own_goes {C} x y p since head unread trip code result is le k =
    subst (λ (o : Option Ended). Goes x y p since false o) (sym (no_conn_end trip code result is)) (goes_since x y p x.wire.moment since false result le k.goes)

-- a client whose tree wasn't told anything
pub timed_same : {C : Type 0} (old new : Client C) (node before moment : ℕ) → IsSameClient old new → IsTimed old.tree node → old.tree.last ≤ before → before ≤ moment
    → IsTimedClient old new node moment
timed_same {C} old new node before moment k timed le later = record {
  peer = k.peer;
  table = k.table;
  requests = k.requests;
  timed = subst (λ (t : _). IsTimed t node) (sym k.tree) timed;
  deadline = ap (λ t. deadline_of t node) k.tree;
  told = (let a = ap (λ t. t.last) k.tree in omega arith);
  last = (let a = ap (λ t. t.last) k.tree in omega arith);
}
