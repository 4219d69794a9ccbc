-- Behind the last request of a connection no other one is served.
use Rattle.std.proofs.Common.{ℕ, ◌≡◌, ◌||◌, Bool, true, false, if◌then◌else◌, List, Option, Some, None, refl, ap, sym, ◌∙◌}
use Rattle.gw_head.specs.declared.request.RequestHead.{RequestHead}
use Rattle.gw_retry.specs.declared.Failure.{Failure}
use Rattle.gw_account.specs.Work.{Work, At}
use Rattle.gw_stream.specs.declared.relaying.Relayed.{Relayed}
use Rattle.gw_stream.specs.declared.relaying.Relayed.TheVariants as relayed
use Rattle.gw_stream.specs.declared.waits.Sent.{Sent}
use Rattle.gw_stream.specs.declared.waits.Sent.TheVariants as sent
use Rattle.gw_stream.specs.Relaying.{relayed_by}
use Rattle.gw_transport.specs.declared.attempts.Attempted.TheVariants as attempted
use Rattle.gw_transport.specs.declared.replying.End.{End}
use Rattle.gw_transport.specs.declared.replying.End.TheVariants as end
use Rattle.gw_session.specs.declared.end.Ended.{Ended}
use Rattle.gw_session.specs.declared.end.Ended.TheVariants as ended
use Rattle.gw_session.specs.declared.end.Why.{Why}
use Rattle.gw_session.specs.declared.end.Why.TheVariants as why
use Rattle.gw_session.specs.Ending.{closed, has_body, over_end, relayed_next, sent_next, why_after}
use Rattle.gw_session.specs.Passing.{Answer, Answers, AnswersFailure, AnswersOver, AnswersOwn, AnswersReply, Halt, Halts, IsNotAll, Outcome, Owes, Passage, PassesKept, PassesOn, Replied, Trace, answer_next, halt_next, is_late, passage_next, reason_of, replied}
use Rattle.gw_session.specs.Replies.{Said, for_fault, said_next}
use Rattle.gw_session.specs.Stand.{Line, Spot, is_last, line_of}
use Rattle.gw_session.specs.Turn.{Deed, Deeds, Turn, Turned, deed_next, turn_next, unread_reason}

-- a session ends where its next isn't that it goes on
abbrev Ends : Option Ended → Type 0
Ends next = next ≡ None → ⊥

some_ends : (e : Ended) → Ends (Some e)
some_ends e n = absurd (let bad : Some e ≡ None = n in cc)

-- a reason for each reply to close the link
abbrev Closes : (Bool → Option Why) → Type 0
Closes reason = (shut : Bool) → reason shut ≡ None → ⊥

asked : (c last : Bool) → last ≡ true → (c || last) ≡ true
asked true last is = refl
asked false last is = is

reason_some : (old asks shut unread : Bool) → asks ≡ true
    → (if old then Some why.Old else (if asks then Some why.Asked else (if shut then Some why.Shut else (if unread then Some why.Unread else None)))) ≡ None → ⊥
reason_some true asks shut unread is none = absurd (let bad : Some why.Old ≡ None = none in cc)
reason_some false true shut unread is none = absurd (let bad : Some why.Asked ≡ None = none in cc)
reason_some false false shut unread is none = absurd (let bad : false ≡ true = is in cc)

last_closes : (head : RequestHead) (last unread : Bool) → last ≡ true → Closes (λ shut. why_after head last shut unread)
last_closes head last unread is shut none = reason_some head.old (head.close || last) shut unread (asked head.close last is) none

closed_ends : (o : Option Why) → (o ≡ None → ⊥) → Ends (closed o)
closed_ends None f e = f refl
closed_ends (Some reason) f e = absurd (let bad : Some (ended.Closed reason) ≡ None = e in cc)

sent_ends : (r : Sent) (o : Option Why) → (o ≡ None → ⊥) → Ends (sent_next r o)
sent_ends sent.All o f e = closed_ends o f e
sent_ends (sent.Failed some) o f e = absurd (let bad : Some (ended.Closed why.Failed) ≡ None = e in cc)
sent_ends (sent.Stopped s) o f e = some_ends _ e

untold_ends : (r : Sent) → IsNotAll r → Ends (sent_next r None)
untold_ends sent.All some e = some
untold_ends (sent.Failed n) some e = absurd (let bad : Some (ended.Closed why.Failed) ≡ None = e in cc)
untold_ends (sent.Stopped s) some e = some_ends _ e

said_ends : (reason : Bool → Option Why) (said : Said) → Closes reason → Ends (said_next reason said)
said_ends reason Said.Unsaid f e = absurd (let bad : Some ended.NoMemory ≡ None = e in cc)
said_ends reason (Said.SaidBy r) f e = sent_ends r.sent (reason r.shut) (f r.shut) e

relayed_ends : (r : Relayed) (o : Option Why) → (o ≡ None → ⊥) → Ends (relayed_next r o)
relayed_ends relayed.Whole o f e = closed_ends o f e
relayed_ends (relayed.Bad error) o f e = some_ends _ e
relayed_ends (relayed.Lost s) o f e = some_ends _ e
relayed_ends (relayed.WriteFailed n) o f e = some_ends _ e
relayed_ends (relayed.WriteStopped s) o f e = some_ends _ e
relayed_ends relayed.Spent o f e = some_ends _ e

fault_closes : Closes for_fault
fault_closes shut e = absurd (let bad : Some why.BadRequest ≡ None = e in cc)

-- ---- answers

abbrev IsPlain : Outcome → Type 0
IsPlain (attempted.Over e) = ⊥
IsPlain _ = Unit {0}

plain_ends : (o : Outcome) (reason : Bool → Option Why) (said : Said) → IsPlain o → Closes reason → Ends (answer_next o reason (Answer.Own said))
plain_ends (attempted.Reply l begun) reason said plain f n = said_ends reason said f n
plain_ends (attempted.Failed cause) reason said plain f n = said_ends reason said f n
plain_ends (attempted.Over e) reason said plain f n = absurd plain
plain_ends attempted.Unreachable reason said plain f n = said_ends reason said f n
plain_ends attempted.Full reason said plain f n = said_ends reason said f n

silent_plain : (o : Outcome) (reason : Bool → Option Why) → IsPlain o → Ends (answer_next o reason Answer.Silent)
silent_plain (attempted.Reply l begun) reason plain n = some_ends _ n
silent_plain (attempted.Failed cause) reason plain n = some_ends _ n
silent_plain (attempted.Over e) reason plain n = absurd plain
silent_plain attempted.Unreachable reason plain n = some_ends _ n
silent_plain attempted.Full reason plain n = some_ends _ n

silent_ends : (e : End) (reason : Bool → Option Why) (answer : Answer) → answer ≡ Answer.Silent → Ends (answer_next (attempted.Over e) reason answer)
silent_ends e reason answer is n = some_ends (over_end e) (sym (ap (answer_next (attempted.Over e) reason) is) ∙ n)

over_ends : (p : Spot) (head : RequestHead) (e : End) (reason : Bool → Option Why) (answer : Answer) (a : At) (w : Work) → AnswersOver p head e answer a w
    → Ends (answer_next (attempted.Over e) reason answer)
over_ends p head (end.Body error) reason (Answer.Own said) a w k n = said_ends for_fault said fault_closes n
over_ends p head (end.Body error) reason Answer.Silent a w k n = absurd k
over_ends p head (end.Body error) reason (Answer.Untold r) a w k n = absurd k
over_ends p head (end.Body error) reason (Answer.Bad f said) a w k n = absurd k
over_ends p head (end.Body error) reason (Answer.Lost l said) a w k n = absurd k
over_ends p head (end.Body error) reason (Answer.Whole said) a w k n = absurd k
over_ends p head (end.Body error) reason (Answer.Streamed r came) a w k n = absurd k
over_ends p head end.ClientEnd reason answer a w k n = silent_ends end.ClientEnd reason answer k.0 n
over_ends p head end.ClientFailed reason answer a w k n = silent_ends end.ClientFailed reason answer k.0 n
over_ends p head end.ClientTimeout reason answer a w k n = silent_ends end.ClientTimeout reason answer k.0 n
over_ends p head end.NoMemory reason answer a w k n = silent_ends end.NoMemory reason answer k.0 n

own_ends : (p : Spot) (head : RequestHead) (reason of : Bool → Option Why) (code : ℕ) (o : Outcome) (answer : Answer) (a : At) (w : Work) → IsPlain o → Closes reason
    → AnswersOwn p head of code answer a w → Ends (answer_next o reason answer)
own_ends p head reason of code o (Answer.Own said) a w plain f k n = plain_ends o reason said plain f n
own_ends p head reason of code o Answer.Silent a w plain f k n = absurd k
own_ends p head reason of code o (Answer.Untold r) a w plain f k n = absurd k
own_ends p head reason of code o (Answer.Bad e said) a w plain f k n = absurd k
own_ends p head reason of code o (Answer.Lost l said) a w plain f k n = absurd k
own_ends p head reason of code o (Answer.Whole said) a w plain f k n = absurd k
own_ends p head reason of code o (Answer.Streamed r came) a w plain f k n = absurd k

failure_ends : (p : Spot) (head : RequestHead) (reason : Bool → Option Why) (cause : Failure) (told : ℕ) (answer : Answer) (a : At) (w : Work) → Closes reason
    → AnswersFailure p head reason cause told answer a w → Ends (answer_next (attempted.Failed cause) reason answer)
failure_ends p head reason cause told (Answer.Own said) a w f k n = said_ends reason said f n
failure_ends p head reason cause told (Answer.Untold r) a w f k n = untold_ends r k.0 n
failure_ends p head reason cause told Answer.Silent a w f k n = absurd k
failure_ends p head reason cause told (Answer.Bad e said) a w f k n = absurd k
failure_ends p head reason cause told (Answer.Lost l said) a w f k n = absurd k
failure_ends p head reason cause told (Answer.Whole said) a w f k n = absurd k
failure_ends p head reason cause told (Answer.Streamed r came) a w f k n = absurd k

reply_ends : (p : Spot) (head : RequestHead) (reason : Bool → Option Why) (b : Replied) (o : Outcome) (answer : Answer) (a : At) (w : Work) → IsPlain o → Closes reason
    → AnswersReply p head reason b answer a w → Ends (answer_next o reason answer)
reply_ends p head reason b o Answer.Silent a w plain f k n = silent_plain o reason plain n
reply_ends p head reason b o (Answer.Bad e said) a w plain f k n = said_ends reason said f n
reply_ends p head reason b o (Answer.Lost l said) a w plain f k n = said_ends reason said f n
reply_ends p head reason b o (Answer.Whole said) a w plain f k n = said_ends reason said f n
reply_ends p head reason b o (Answer.Streamed r came) a w plain f k n = relayed_ends (relayed_by came r.sent) (reason r.shut) (f r.shut) n
reply_ends p head reason b o (Answer.Own said) a w plain f k n = absurd k
reply_ends p head reason b o (Answer.Untold r) a w plain f k n = absurd k

answers_end : (o : Outcome) (p : Spot) (head : RequestHead) (unread : Bool) (t : Trace) (answer : Answer) (a : At) (w : Work) → Closes (reason_of p head unread)
    → Answers o p head unread t answer a w → Ends (answer_next o (reason_of p head unread) answer)
answers_end (attempted.Reply l begun) p head unread t answer a w f k n =
    reply_ends p head (reason_of p head unread) (replied l.link l.no begun t) (attempted.Reply l begun) answer a w tt f k n
answers_end (attempted.Failed cause) p head unread t answer a w f k n = failure_ends p head (reason_of p head unread) cause t.told answer a w f k n
answers_end (attempted.Over e) p head unread t answer a w f k n = over_ends p head e (reason_of p head unread) answer a w k n
answers_end attempted.Unreachable p head unread t answer a w f k n = own_ends p head (reason_of p head unread) (reason_of p head unread) 502 attempted.Unreachable answer a w tt f k n
answers_end attempted.Full p head unread t answer a w f k n = own_ends p head (reason_of p head unread) (reason_of p head unread) 503 attempted.Full answer a w tt f k n

-- ---- deeds and turns

halts_end : (l : Line) (head : RequestHead) (kept : List ℕ) (halt : Halt) (a : At) (w : Work) → Halts l head kept halt a w → Ends (halt_next halt)
halts_end l head kept (Halt.Untold r) a w k n = untold_ends r k.0 n
halts_end l head kept (Halt.Lost why) a w k n = some_ends _ n
halts_end l head kept Halt.Unkept a w k n = some_ends _ n

-- what was answered behind a passage, whatever it cost
passage_end : (p : Spot) (head : RequestHead) (g : Passage) → is_last p.number ≡ true → (t : Trace) (a : At) (w : Work) → Answers g.trip.outcome p head g.unread t g.answer a w
    → Ends (passage_next p head g)
passage_end p head g last t a w k n = answers_end g.trip.outcome p head g.unread t g.answer a w (last_closes head (is_last p.number) g.unread last) k n

owed : (late : Bool) (timeout : ℕ) (P : At → Work → Type 0) (a : At) (w : Work) → Owes late timeout P a w → (v : Work) × P a v
owed false timeout P a w k = (w, k)
owed true timeout P a w k = (k.0, k.1)

deed_ends : (p : Spot) (head : RequestHead) (kept left : List ℕ) (deed : Deed) (a : At) (w : Work) → is_last p.number ≡ true → Deeds p head kept left deed a w → Ends (deed_next p head deed)
deed_ends p head kept left Deed.Undecided a w last k n = some_ends _ n
deed_ends p head kept left (Deed.Owned own said) a w last k n = said_ends (unread_reason p head) said (last_closes head (is_last p.number) (has_body head.framing) last) n
deed_ends p head kept left (Deed.Stopped number said) a w last k n = said_ends (unread_reason p head) said (last_closes head (is_last p.number) (has_body head.framing) last) n
deed_ends p head kept left (Deed.Halted number halt) a w last k n = halts_end (line_of p) head kept halt a w k.2 n
deed_ends p head kept left (Deed.PassedKept number g) a w last k n =
    let o = owed (is_late g) g.timeout (PassesKept p head kept left g) a w k.2 in
    let s = o.1.2 in
    passage_end p head g last s.1 _ _ s.3.4.4 n
deed_ends p head kept left (Deed.PassedOn number g) a w last k n =
    let o = owed (is_late g) g.timeout (PassesOn p head kept left g) a w k.2 in
    let s = o.1.1 in
    passage_end p head g last s.0 _ _ s.2.4 n

-- behind the last request a turn ends the session
pub last_ends : (p : Spot) (kept left : List ℕ) (turn : Turn) (a : At) (w : Work) → is_last p.number ≡ true → Turned p kept left turn a w → Ends (turn_next p turn)
last_ends p kept left (Turn.Missed why) a w last k n = some_ends _ n
last_ends p kept left Turn.Refused a w last k n = some_ends _ n
last_ends p kept left (Turn.Parted why) a w last k n = some_ends _ n
last_ends p kept left Turn.Unkept a w last k n = some_ends _ n
last_ends p kept left (Turn.Faulty error said) a w last k n = said_ends for_fault said fault_closes n
last_ends p kept left (Turn.Heard text head deed) a w last k n = deed_ends p head _ left deed _ _ last k.1.4.1.4 n
