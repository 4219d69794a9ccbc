-- Steps of a reply, over plain variables.
use Rattle.std.proofs.Common.{ℕ, ◌≡◌, ◌≤◌, Bool, ◌||◌, true, false, if◌then◌else◌, List, [], ◌∷◌, ◌++◌, Option, Some, None, is_some, refl, ap, sym, subst, ◌∙◌, arith}
use Rattle.gw_wire.specs.declared.values.Act.{Act}
use Rattle.gw_wire.specs.Link.{LinkView, LinkLater}
use Rattle.gw_wire.specs.Wire.{WireView, NowStep}
use Rattle.gw_wire.proofs.Facts.{link_same}
use Rattle.gw_head.specs.declared.request.RequestHead.{RequestHead}
use Rattle.gw_proxy.specs.OutReply.{OwnReply}
use Rattle.gw_proxy.specs.declared.own.Own.{Own}
use Rattle.gw_proxy.specs.declared.own.Own.TheVariants.{Plain}
use Rattle.gw_account.specs.Did.{Went}
use Rattle.gw_account.specs.Work.{Bill, Work, At, Idle, Only, Seq, both, free, nothing}
use Rattle.gw_account.proofs.Facts.{free_both, went_call, went_map, went_then, went_told}
use Rattle.gw_stream.specs.declared.waits.Sent.{Sent}
use Rattle.gw_stream.specs.declared.waits.Sent.TheVariants as sent
use Rattle.gw_stream.specs.declared.waits.Stop.{Stop}
use Rattle.gw_stream.specs.declared.waits.Stop.TheVariants as stops
use Rattle.gw_stream.specs.Guard.{GuardView, IsDue}
use Rattle.gw_stream.specs.Waits.{Says, SentCause, SentStep, Side, StopCause, sent_bill, side}
use Rattle.gw_session.specs.declared.end.Ended.{Ended}
use Rattle.gw_session.specs.declared.end.Ended.TheVariants as ended
use Rattle.gw_session.specs.declared.end.Why.{Why}
use Rattle.gw_session.specs.declared.end.Why.TheVariants as why
use Rattle.gw_session.specs.Ending.{closed, sent_next, why_after}
use Rattle.gw_session.specs.Replies.{IsOfClient, IsSilence, Reply, Said, Speaks, Writes, dated}
use Rattle.gw_session.specs.Seats.{NotesShut, Seats}
use Rattle.gw_session.specs.Stand.{EndCause, Goes, Line, Spot, is_last, line, stand}
use Rattle.gw_session.specs.Steps.{FaultStep, OwnStep, WrittenCause, WrittenStep}
use Rattle.gw_session.proofs.SeatLemmas.{seats_looked}

-- ---- a wait whose guard neither has a deadline nor is cancelled

pub silent : (f g : GuardView) (moment silence : ℕ) (why : Stop) → f.deadline ≡ None → f.cancels ≡ 0 → g.cancels ≡ 0 → StopCause f g moment (Some silence) why → IsSilence why
silent f g moment silence stops.Cancelled d x y c = absurd (omega (arith, x, y, c))
silent f g moment silence stops.Deadline d x y c = subst (λ (o : Option ℕ). IsDue o moment) d c
silent f g moment silence stops.Silent d x y c = tt
silent f g moment silence stops.Ticks d x y c = tt

ours : (a b : Side) (from to : LinkView) (silence : ℕ) (s : Sent) → a.guard.deadline ≡ None → a.guard.cancels ≡ 0 → b.guard.cancels ≡ 0
    → SentCause a b from to (Some silence) s → IsOfClient s
ours a b from to silence sent.All d x y c = tt
ours a b from to silence (sent.Failed some) d x y c = tt
ours a b from to silence (sent.Stopped why) d x y c = silent a.guard b.guard b.wire.moment silence why d x y c

cause_of : (a b : Side) (from to : LinkView) (silence : ℕ) (s : Sent) → SentCause a b from to (Some silence) s → WrittenCause from to s
cause_of a b from to silence sent.All c = tt
cause_of a b from to silence (sent.Failed some) c = c
cause_of a b from to silence (sent.Stopped why) c = tt

pub written : (x y : WireView) (g h : GuardView) (from to : LinkView) (text : List ℕ) (silence : ℕ) (s : Sent) → g.deadline ≡ None → g.cancels ≡ 0 → h.cancels ≡ 0
    → SentStep (side x g) (side y h) from to text (Some silence) s → WrittenStep x y from to silence text s
written x y g h from to text silence s d a b p =
    let own = ours (side x g) (side y h) from to silence s d a b p.cause in
    record {
      went = went_map p.waited.went (λ at w only. (own, only));
      link = p.link;
      cause = cause_of (side x g) (side y h) from to silence s p.cause;
      of_client = own;
    }

-- ---- a reply that is made at a moment

pub unsaid : (silence : ℕ) (s : Sent) → (sent_bill (Some silence) s).said ≡ []
unsaid silence sent.All = refl
unsaid silence (sent.Failed some) = refl
unsaid silence (sent.Stopped stops.Cancelled) = refl
unsaid silence (sent.Stopped stops.Deadline) = refl
unsaid silence (sent.Stopped stops.Silent) = refl
unsaid silence (sent.Stopped stops.Ticks) = refl

pub dated_bill : (moment : ℕ) (b : Bill) → b.said ≡ [] → both (record free { said = moment ∷ [] }) b ≡ dated moment b
dated_bill moment b none =
    ap (λ (u : Bill). record u { said = moment ∷ b.said }) (free_both b) ∙ ap (λ (l : List ℕ). record b { said = moment ∷ l }) none

-- the clock is read
pub read_clock : (x y : WireView) (now : ℕ) → NowStep x y now → Went x y (Only (record free { said = now ∷ [] }) (λ acts. acts ≡ []))
read_clock x y now n =
    went_told x y (λ acts. acts ≡ []) 0 0 (now ∷ []) n.later n.aged ([], n.log, refl) (let le = n.later.ticks in omega arith)
    ((let le = n.later.moment in let g = n.given in omega arith), (let g = n.given in omega arith))

idle_of : (w : Work) → w.made ≡ [] → w.bill ≡ free → w.acts ≡ [] → w ≡ nothing
idle_of w made bill acts = λ i. record { acts = acts i; made = made i; bill = bill i }

pub clock_idle : (x y : WireView) (now : ℕ) → NowStep x y now → Went x y Idle
clock_idle x y now n = went_map (went_call x y [] n.later n.aged n.log) (λ at w only. idle_of w only.0 only.1 only.2)

speaks : (l : Line) (r : Reply) (a : At) (w : Work) → Seq (Only (record free { said = r.moment ∷ [] }) (λ acts. acts ≡ [])) (Writes l r.text r.sent) a w → Speaks l r a w
speaks l r a w s =
    let u : Work = s.0 in
    let v : Work = s.1 in
    let t = s.4.1 in (
      s.4.0,
      (
        ap (λ (z : Work). z.made) s.2 ∙ ap (λ (m : List _). m ++ v.made) s.3.0 ∙ t.0,
        ap (λ (z : Work). z.bill) s.2 ∙ ap (λ (b : Bill). both b v.bill) s.3.1 ∙ ap (λ (b : Bill). both (record free { said = r.moment ∷ [] }) b) t.1
            ∙ dated_bill r.moment (sent_bill (Some l.silence) r.sent) (unsaid l.silence r.sent),
        subst (λ (m : List Act). Says l.client r.text r.sent m) (sym (ap (λ (z : Work). z.acts) s.2 ∙ ap (λ (m : List Act). m ++ v.acts) s.3.2)) t.2,
      ),
    )

-- and then a text is written
pub spoken : (x y z : WireView) (from to : LinkView) (silence now : ℕ) (shut : Bool) (text : List ℕ) (s : Sent) → NowStep x y now → WrittenStep y z from to silence text s
    → Went x z (Speaks (line from.number silence) (record { moment = now; shut = shut; text = text; sent = s }))
spoken x y z from to silence now shut text s n w =
    went_map (went_then (read_clock x y now n) w.went) (speaks (line from.number silence) (record { moment = now; shut = shut; text = text; sent = s }))

-- ---- why it ends

pub sent_cause : (from to : LinkView) (seen : Bool) (s : Sent) (reason : Option Why) → IsOfClient s → WrittenCause from to s → EndCause from to seen (closed reason)
    → EndCause from to seen (sent_next s reason)
sent_cause from to seen sent.All reason o c e = e
sent_cause from to seen (sent.Failed some) reason o c e = c
sent_cause from to seen (sent.Stopped stops.Cancelled) reason o c e = absurd o
sent_cause from to seen (sent.Stopped stops.Deadline) reason o c e = absurd o
sent_cause from to seen (sent.Stopped stops.Silent) reason o c e = tt
sent_cause from to seen (sent.Stopped stops.Ticks) reason o c e = tt

by_reason : (from to : LinkView) (old asked shut unread : Bool)
    → EndCause from to shut (closed (if old then Some why.Old else (if asked then Some why.Asked else (if shut then Some why.Shut else (if unread then Some why.Unread else None)))))
by_reason from to true asked shut unread = tt
by_reason from to false true shut unread = tt
by_reason from to false false true unread = refl
by_reason from to false false false true = tt
by_reason from to false false false false = tt

pub reason_cause : (from to : LinkView) (head : RequestHead) (last shut unread : Bool) → EndCause from to shut (closed (why_after head last shut unread))
reason_cause from to head last shut unread = by_reason from to head.old (head.close || last) shut unread

-- ---- whole replies

pub fault_said : (x y z : WireView) (from to : LinkView) (silence now code : ℕ) (method text : List ℕ) (is_old : Bool) (s : Sent) → NowStep x y now
    → OwnReply (Plain code) method is_old true now text → WrittenStep y z from to silence text s
    → FaultStep x z from to silence code method is_old (sent_next s (Some why.BadRequest))
fault_said x y z from to silence now code method text is_old s n own w = record {
  said = Said.SaidBy (record { moment = now; shut = false; text = text; sent = s });
  went = went_map (spoken x y z from to silence now false text s n w) (λ at v spoke. (own, spoke));
  next_is = refl;
  link = w.link;
  cause = sent_cause from to false s (Some why.BadRequest) w.of_client w.cause tt;
}

pub fault_unsaid : (x y : WireView) (from : LinkView) (silence now code : ℕ) (method : List ℕ) (is_old : Bool) → NowStep x y now
    → FaultStep x y from from silence code method is_old (Some ended.NoMemory)
fault_unsaid x y from silence now code method is_old n = record {
  said = Said.Unsaid;
  went = clock_idle x y now n;
  next_is = refl;
  link = link_same from;
  cause = tt;
}

-- the worker's seats behind a look at the gate, and a text that was written
pub goes_looked : (x y z : WireView) (from to : LinkView) (before after : Seats) (p : Spot) (now : ℕ) (shut : Bool) (next : Option Ended) → NowStep x y now → y.moment ≤ z.moment
    → NotesShut before after now shut → LinkLater from to → EndCause from to shut next
    → Goes (stand x from before) (stand z to after) p x.moment false next
goes_looked x y z from to before after p now shut next n le look link cause = record {
  link = link;
  seats = seats_looked before after p.own p.table.grace_ms x.moment now z.moment shut (let f = n.later.moment in let g = n.given in omega arith) (let g = n.given in omega arith) look;
  held = look.held;
  cause = subst (λ (seen : Bool). EndCause from to seen next) (sym look.seen) cause;
}

pub own_said : (x y z : WireView) (from to : LinkView) (before after : Seats) (p : Spot) (head : RequestHead) (unread shut : Bool) (own : Own) (now : ℕ) (text : List ℕ) (s : Sent)
    → NowStep x y now → NotesShut before after now shut → p.client ≡ from.number
    → OwnReply own head.method head.old (is_some (why_after head (is_last p.number) shut unread)) now text → WrittenStep y z from to p.table.client_ms text s
    → OwnStep (stand x from before) (stand z to after) p head unread own (sent_next s (why_after head (is_last p.number) shut unread))
own_said x y z from to before after p head unread shut own now text s n look same reply w =
    let reason = why_after head (is_last p.number) shut unread in
    record {
      said = Said.SaidBy (record { moment = now; shut = shut; text = text; sent = s });
      went = went_map (spoken x y z from to p.table.client_ms now shut text s n w)
          (λ at v spoke. (reply, subst (λ (c : ℕ). Speaks (line c p.table.client_ms) (record { moment = now; shut = shut; text = text; sent = s }) at v) (sym same) spoke));
      next_is = refl;
      kept = look.kept;
      goes = goes_looked x y z from to before after p now shut (sent_next s reason) n w.went.wired.later.moment look w.link
          (sent_cause from to shut s reason w.of_client w.cause (reason_cause from to head (is_last p.number) shut unread));
    }

pub own_unsaid : (x y : WireView) (from : LinkView) (before after : Seats) (p : Spot) (head : RequestHead) (unread shut : Bool) (own : Own) (now : ℕ)
    → NowStep x y now → NotesShut before after now shut
    → OwnStep (stand x from before) (stand y from after) p head unread own (Some ended.NoMemory)
own_unsaid x y from before after p head unread shut own now n look = record {
  said = Said.Unsaid;
  went = clock_idle x y now n;
  next_is = refl;
  kept = λ e. refl;
  goes = goes_looked x y y from from before after p now shut (Some ended.NoMemory) n (omega arith) look (link_same from) tt;
}
