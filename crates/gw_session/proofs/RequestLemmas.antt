-- A request that began, over plain variables: its head is heard, and then it is dealt with.
use Rattle.std.proofs.Common.{ℕ, zero, suc, ◌≡◌, ◌≤◌, ◌==◌, Bool, true, false, not, List, codes, Option, Some, None, refl, ap, sym, subst, ◌∙◌, arith}
use Rattle.std.specs.Prelude.{nat_lt}
use Rattle.std.proofs.lemmas.Bool.{lt-ltb, ne_eqb}
use Rattle.gw_wire.specs.Link.{LinkView, LinkLater}
use Rattle.gw_wire.specs.Wire.{WireView}
use Rattle.gw_body.specs.Places.{begins, is_done}
use Rattle.gw_head.specs.declared.error.HeadError.{HeadError}
use Rattle.gw_head.specs.declared.framing.Framing.{Framing}
use Rattle.gw_head.specs.declared.framing.Framing.TheVariants.{None as NoBody, Length, Chunked, ToEnd}
use Rattle.gw_head.specs.declared.request.RequestHead.{RequestHead}
use Rattle.gw_pool.specs.Lent.{Lent}
use Rattle.gw_proxy.specs.declared.own.Own.{Own}
use Rattle.gw_proxy.specs.declared.own.Own.TheVariants.{Plain, Stopped as OwnStop}
use Rattle.gw_account.specs.Did.{span}
use Rattle.gw_account.specs.Work.{at_of}
use Rattle.gw_account.proofs.Facts.{went_map, went_nothing}
use Rattle.gw_stream.specs.declared.waits.Loss.{Loss}
use Rattle.gw_transport.specs.Leasing.{IsRested}
use Rattle.gw_session.specs.declared.end.Ended.{Ended}
use Rattle.gw_session.specs.declared.end.Ended.TheVariants as ended
use Rattle.gw_session.specs.declared.hearing.Request.TheVariants as request
use Rattle.gw_session.specs.Ending.{has_body, lost_end}
use Rattle.gw_session.specs.Hearing.{HearsPart, HearsRefused, HearsUnkept, HearsWhole}
use Rattle.gw_session.specs.Replies.{SaysOwn, for_fault, refusal_code}
use Rattle.gw_session.specs.Routing.{IsOwn, IsStop}
use Rattle.gw_session.specs.Seats.{Seats, SeatsGo}
use Rattle.gw_session.specs.Stand.{Done, Goes, Line, Spot, line, line_of, stand}
use Rattle.gw_session.specs.Steps.{FaultStep, HeadStep, OwnStep}
use Rattle.gw_session.specs.Turn.{Deed, Turn}
use Rattle.gw_session.specs.TurnSteps.{DeedStep, RequestStep}
use Rattle.gw_session.proofs.DoneLemmas.{done_map, done_then, done_went}
use Rattle.gw_session.proofs.SeatLemmas.{goes_ending, goes_link, goes_since, goes_then}

-- ---- what the gateway does by itself

none_left : (n : ℕ) → not (n == 0) ≡ nat_lt 0 n
none_left zero = refl
none_left (suc n) = ap not (ne_eqb (suc n) 0 (λ e. omega arith)) ∙ sym (lt-ltb 0 (suc n) (omega arith))

-- a body of which nothing was read is unread where it isn't empty
pub unread_begun : (f : Framing) → not (is_done (begins f)) ≡ has_body f
unread_begun NoBody = refl
unread_begun (Length n) = none_left n
unread_begun Chunked = refl
unread_begun ToEnd = refl

pub deed_undecided : (x : WireView) (l : LinkView) (s : Seats) (b : Lent) (p : Spot) (since : ℕ) (head : RequestHead) (kept : List ℕ) → x.aged ≡ false → IsRested b
    → DeedStep (span x x b b) (stand x l s) (stand x l s) p since head kept kept (Some ended.NoMemory)
deed_undecided x l s b p since head kept fresh rested = record {
  deed = Deed.Undecided;
  done = done_went b (went_nothing x fresh);
  next_is = refl;
  goes = goes_ending (stand x l s) p since;
  rested = rested;
  cancelled = λ e. absurd (let bad : false ≡ true = e in cc);
}

pub deed_owned : (x y : WireView) (from to : LinkView) (s t : Seats) (b : Lent) (p : Spot) (since : ℕ) (head : RequestHead) (kept : List ℕ) (unread : Bool) (own : Own) (next : Option Ended)
    → IsRested b → since ≤ x.moment → unread ≡ has_body head.framing → IsOwn p.table head own → OwnStep (stand x from s) (stand y to t) p head unread own next
    → DeedStep (span x y b b) (stand x from s) (stand y to t) p since head kept kept next
deed_owned x y from to s t b p since head kept unread own next rested le is plan o =
    let step : OwnStep (stand x from s) (stand y to t) p head (has_body head.framing) own next = subst (λ (u : Bool). OwnStep (stand x from s) (stand y to t) p head u own next) is o in
    record {
      deed = Deed.Owned own step.said;
      done = done_went b (went_map step.went (λ a w k. (plan, refl, k)));
      next_is = step.next_is;
      goes = goes_since (stand x from s) (stand y to t) p x.moment since false next le step.goes;
      rested = rested;
      cancelled = λ e. absurd (let bad : false ≡ true = e in cc);
    }

-- the gate was shut, and then the reply was written
pub deed_stopped : (x y : WireView) (from to : LinkView) (r s t : Seats) (b : Lent) (p : Spot) (since number : ℕ) (head : RequestHead) (kept : List ℕ) (unread : Bool) (next : Option Ended)
    → IsRested b → since ≤ x.moment → unread ≡ has_body head.framing → IsStop p.table head number → SeatsGo r s p.own p.table.grace_ms since x.moment true
    → s.gate.view.held ≡ r.gate.view.held → s.words ≡ r.words → LinkLater from from → OwnStep (stand x from s) (stand y to t) p head unread OwnStop next
    → DeedStep (span x y b b) (stand x from r) (stand y to t) p since head kept kept next
deed_stopped x y from to r s t b p since number head kept unread next rested le is plan shut held words same o =
    let step : OwnStep (stand x from s) (stand y to t) p head (has_body head.framing) OwnStop next = subst (λ (u : Bool). OwnStep (stand x from s) (stand y to t) p head u OwnStop next) is o in
    let first : Goes (stand x from r) (stand x from s) p since true None = record { link = same; seats = shut; held = held; cause = tt } in
    record {
      deed = Deed.Stopped number step.said;
      done = done_went b (went_map step.went (λ a w k. (plan, refl, step.kept (shut.told refl), k)));
      next_is = step.next_is;
      goes = goes_then (stand x from r) (stand x from s) (stand y to t) p since true false next step.went.wired.later.moment first
          (goes_since (stand x from s) (stand y to t) p x.moment since false next le step.goes);
      rested = rested;
      cancelled = λ e. absurd (let bad : false ≡ true = e in cc);
    }

-- ---- a request

pub request_heard : (x y z : WireView) (b c : Lent) (from mid to : LinkView) (s t : Seats) (p : Spot) (since silence : ℕ) (kept behind left : List ℕ) (head : RequestHead) (next : Option Ended)
    → p.client ≡ from.number → HeadStep x y from mid kept behind silence (request.Head head)
    → DeedStep (span y z b c) (stand y mid s) (stand z to t) p since head behind left next → RequestStep (span x z b c) (stand x from s) (stand z to t) p since kept left next
request_heard x y z b c from mid to s t p since silence kept behind left head next client h d =
    let heard = done_went b h.went in
    let text : List ℕ = heard.does.0 in
    let whole : Done (span x y b b) (HearsWhole p.client kept text head behind) = record {
      work = heard.work;
      doing = heard.doing;
      does = subst (λ (k : ℕ). HearsWhole k kept text head behind (at_of x b) heard.work) (sym client) heard.does.1;
    } in
    record {
      turn = Turn.Heard text head d.deed;
      done = done_map (done_then whole d.done) (λ a w k. (behind, k));
      next_is = d.next_is;
      goes = goes_then (stand x from s) (stand y mid s) (stand z to t) p since false _ next d.done.doing.wired.later.moment
          (goes_link x y from mid s p since None h.link tt) d.goes;
      rested = d.rested;
      cancelled = d.cancelled;
    }

pub request_faulty : (x y z : WireView) (b : Lent) (from mid to : LinkView) (s : Seats) (p : Spot) (since silence code : ℕ) (kept left method : List ℕ) (old : Bool) (error : HeadError) (next : Option Ended)
    → IsRested b → p.client ≡ from.number → silence ≡ p.table.client_ms → code ≡ refusal_code error → method ≡ codes "GET" → old ≡ false
    → HeadStep x y from mid kept left silence (request.Refused error)
    → FaultStep y z mid to silence code method old next → RequestStep (span x z b b) (stand x from s) (stand z to s) p since kept left next
request_faulty x y z b from mid to s p since silence code kept left method old error next rested client pause is get new h f =
    let heard : Done (span x y b b) (HearsRefused p.client kept error) = done_map (done_went b h.went) (λ a w k. subst (λ (n : ℕ). HearsRefused n kept error a w) (sym client) k) in
    let same : line mid.number silence ≡ line_of p = ap (λ (n : ℕ). line n silence) (h.link.number ∙ sym client) ∙ ap (λ (n : ℕ). line p.client n) pause in
    let said : Done (span y z b b) (SaysOwn (line_of p) for_fault (Plain (refusal_code error)) (codes "GET") false f.said) =
    done_map (done_went b f.went) (λ a w k.
    subst (λ (o : Bool). SaysOwn (line_of p) for_fault (Plain (refusal_code error)) (codes "GET") o f.said a w) new
    (subst (λ (m : List ℕ). SaysOwn (line_of p) for_fault (Plain (refusal_code error)) m old f.said a w) get
    (subst (λ (n : ℕ). SaysOwn (line_of p) for_fault (Plain n) method old f.said a w) is
    (subst (λ (l : Line). SaysOwn l for_fault (Plain code) method old f.said a w) same k)))) in
    record {
      turn = Turn.Faulty error f.said;
      done = done_map (done_then heard said) (λ a w k. k);
      next_is = f.next_is;
      goes = goes_then (stand x from s) (stand y mid s) (stand z to s) p since false false next f.went.wired.later.moment
          (goes_link x y from mid s p since None h.link tt) (goes_link y z mid to s p since next f.link f.cause);
      rested = rested;
      cancelled = λ e. absurd (let bad : false ≡ true = e in cc);
    }

pub request_lost : (x y : WireView) (b : Lent) (from to : LinkView) (s : Seats) (p : Spot) (since silence : ℕ) (kept left : List ℕ) (why : Loss)
    → IsRested b → p.client ≡ from.number → silence ≡ p.table.client_ms → HeadStep x y from to kept left silence (request.Lost why)
    → RequestStep (span x y b b) (stand x from s) (stand y to s) p since kept left (Some (lost_end why))
request_lost x y b from to s p since silence kept left why rested client pause h =
    let same : line from.number silence ≡ line_of p = ap (λ (n : ℕ). line n silence) (sym client) ∙ ap (λ (n : ℕ). line p.client n) pause in
    record {
      turn = Turn.Parted why;
      done = done_map (done_went b h.went) (λ a w k. subst (λ (l : Line). HearsPart l kept why a w) same k);
      next_is = refl;
      goes = goes_link x y from to s p since (Some (lost_end why)) h.link h.cause;
      rested = rested;
      cancelled = λ e. absurd (let bad : false ≡ true = e in cc);
    }

pub request_unkept : (x y : WireView) (b : Lent) (from to : LinkView) (s : Seats) (p : Spot) (since silence : ℕ) (kept left : List ℕ)
    → IsRested b → p.client ≡ from.number → HeadStep x y from to kept left silence request.NoMemory
    → RequestStep (span x y b b) (stand x from s) (stand y to s) p since kept left (Some ended.NoMemory)
request_unkept x y b from to s p since silence kept left rested client h = record {
  turn = Turn.Unkept;
  done = done_map (done_went b h.went) (λ a w k. subst (λ (n : ℕ). HearsUnkept n kept a w) (sym client) k);
  next_is = refl;
  goes = goes_link x y from to s p since (Some ended.NoMemory) h.link tt;
  rested = rested;
  cancelled = λ e. absurd (let bad : false ≡ true = e in cc);
}

-- spots with the same parts
pub spot_is : (p q : Spot) → q.client ≡ p.client → q.peer ≡ p.peer → q.table ≡ p.table → q.own ≡ p.own → q.number ≡ p.number → q ≡ p
spot_is p q client peer table own number = λ i. record { client = client i; peer = peer i; table = table i; own = own i; number = number i }
