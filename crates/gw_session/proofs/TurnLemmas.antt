-- Turns of a session, one after another, over plain variables.
use Rattle.std.proofs.Common.{ℕ, ◌≡◌, ◌≤◌, ◌+◌, ◌||◌, Bool, true, false, List, [], ◌∷◌, ◌++◌, length, Option, Some, None, refl, ap, sym, subst, ◌∙◌, arith, inl, inr}
use Rattle.std.specs.List.{list_any}
use Rattle.gw_wire.specs.Causes.{Rose}
use Rattle.gw_wire.specs.Link.{LinkView}
use Rattle.gw_wire.specs.Wire.{WireView}
use Rattle.gw_wire.proofs.Facts.{link_same}
use Rattle.gw_pool.specs.Lent.{Lent}
use Rattle.gw_account.specs.Did.{span}
use Rattle.gw_account.specs.Work.{Work, At, Only, Seq, and, behind, free, nothing}
use Rattle.gw_account.proofs.Facts.{and_and, and_nothing, behind_behind}
use Rattle.gw_conn.specs.States.{FirstByte}
use Rattle.gw_gate.specs.declared.gate.Enter.{Enter}
use Rattle.gw_gate.specs.declared.gate.Enter.TheVariants as enter
use Rattle.gw_gate.specs.Calls.{Entered}
use Rattle.gw_gate.specs.Seat.{SeatName, SeatState, with_view}
use Rattle.gw_gate.specs.Steps.{entered, has_read}
use Rattle.gw_stream.specs.declared.waits.Loss.{Loss}
use Rattle.gw_transport.specs.Leasing.{IsRested}
use Rattle.gw_transport.specs.Watch.{times_found}
use Rattle.gw_session.specs.declared.end.Ended.{Ended}
use Rattle.gw_session.specs.declared.end.Ended.TheVariants as ended
use Rattle.gw_session.specs.declared.end.Why.TheVariants as why
use Rattle.gw_session.specs.declared.session.Next.{Next}
use Rattle.gw_session.specs.declared.session.Next.TheVariants as next
use Rattle.gw_session.specs.Ending.{lost_end}
use Rattle.gw_session.specs.Hearing.{Arrives}
use Rattle.gw_session.specs.Seats.{Seats, SeatsGo}
use Rattle.gw_session.specs.Session.{Behind, Serves, begun_in}
use Rattle.gw_session.specs.Stand.{Goes, Spot, stand}
use Rattle.gw_session.specs.Turn.{Requested, Turn, Turned, begun_of, stops, turn_next}
use Rattle.gw_session.specs.TurnSteps.{ArrivedStep, RequestStep, ServesOn, TurnStep, ended_by, next_spot}
use Rattle.gw_session.proofs.DoneLemmas.{after_idle, done_map, done_then, done_went, rose_behind, rose_before}
use Rattle.gw_session.proofs.SeatLemmas.{either_which, or_assoc, or_false, goes_from, goes_inside, goes_since, goes_then}

-- ---- one turn

-- no request came
pub turn_missed : (x y : WireView) (b : Lent) (from to : LinkView) (s t : Seats) (p : Spot) (since count : ℕ) (kept ahead left : List ℕ) (why : Loss)
    → IsRested b → since ≤ x.moment → count ≡ p.number → ArrivedStep (stand x from s) (stand y to t) p kept ahead (Some why)
    → TurnStep (span x y b b) (stand x from s) (stand y to t) (next_spot p) since kept left count (next.End (lost_end why))
turn_missed x y b from to s t p since count kept ahead left why rested le count_is a = record {
  turn = Turn.Missed why;
  done = done_went b a.went;
  count_is = (let c = count_is in omega arith);
  closed = λ e. refl;
  next_is = refl;
  goes = goes_since (stand x from s) (stand y to t) (next_spot p) x.moment since false (Some (lost_end why)) le
      (goes_from (stand x from s) (stand y to t) p (next_spot p) x.moment false (Some (lost_end why)) refl refl a.goes);
  rested = rested;
  cancelled = λ e. absurd (let bad : false ≡ true = e in cc);
}

-- it came behind the shut gate
pub turn_refused : (x y : WireView) (b : Lent) (from to : LinkView) (r s t : Seats) (p : Spot) (since count : ℕ) (kept ahead left : List ℕ)
    → IsRested b → since ≤ x.moment → count ≡ p.number → ArrivedStep (stand x from r) (stand y to s) p kept ahead None
    → SeatsGo s t p.own p.table.grace_ms x.moment y.moment false → t.gate.view.held ≡ s.gate.view.held → t.gate.view.seen_shut ≡ true
    → TurnStep (span x y b b) (stand x from r) (stand y to t) (next_spot p) since kept left count (next.End (ended.Closed why.Refused))
turn_refused x y b from to r s t p since count kept ahead left rested le count_is a read held seen =
    let after : Goes (stand y to s) (stand y to t) p x.moment false (Some (ended.Closed why.Refused)) = record { link = link_same to; seats = read; held = held; cause = seen } in
    let both : Goes (stand x from r) (stand y to t) p x.moment false (Some (ended.Closed why.Refused)) =
    goes_then (stand x from r) (stand y to s) (stand y to t) p x.moment false false (Some (ended.Closed why.Refused)) (omega arith) a.goes after in
    record {
      turn = Turn.Refused;
      done = done_map (done_went b a.went) (λ z w k. (ahead, k));
      count_is = (let c = count_is in omega arith);
      closed = λ e. refl;
      next_is = refl;
      goes = goes_since (stand x from r) (stand y to t) (next_spot p) x.moment since false (Some (ended.Closed why.Refused)) le
          (goes_from (stand x from r) (stand y to t) p (next_spot p) x.moment false (Some (ended.Closed why.Refused)) refl refl both);
      rested = rested;
      cancelled = λ e. absurd (let bad : false ≡ true = e in cc);
    }

turned : (p : Spot) (kept ahead left : List ℕ) (turn : Turn) (a : At) (w : Work) → Seq (Only free (Arrives p.client kept ahead)) (Requested p ahead left turn) a w → Turned p kept left turn a w
turned p kept ahead left (Turn.Missed why) a w k = absurd k.4
turned p kept ahead left Turn.Refused a w k = absurd k.4
turned p kept ahead left (Turn.Parted why) a w k = (ahead, k)
turned p kept ahead left Turn.Unkept a w k = (ahead, k)
turned p kept ahead left (Turn.Faulty error said) a w k = (ahead, k)
turned p kept ahead left (Turn.Heard text head deed) a w k = (ahead, k)

begun_one : (p : Spot) (ahead left : List ℕ) (turn : Turn) (a : At) (w : Work) → Requested p ahead left turn a w → begun_of turn ≡ 1
begun_one p ahead left (Turn.Missed why) a w k = absurd k
begun_one p ahead left Turn.Refused a w k = absurd k
begun_one p ahead left (Turn.Parted why) a w k = refl
begun_one p ahead left Turn.Unkept a w k = refl
begun_one p ahead left (Turn.Faulty error said) a w k = refl
begun_one p ahead left (Turn.Heard text head deed) a w k = refl

-- it came, and was served while the seat was inside
pub turn_served : (x y z : WireView) (b c : Lent) (from mid to : LinkView) (r s t u v : Seats) (p q : Spot) (since count : ℕ) (kept ahead left : List ℕ) (result : Option Ended) (answer : Next)
    → q ≡ next_spot p → since ≤ x.moment → count ≡ q.number → ended_by answer ≡ result
    → ArrivedStep (stand x from r) (stand y mid s) p kept ahead None
    → (s.gate.view.seen_shut ≡ true → ⊥) → SeatsGo s t p.own p.table.grace_ms since y.moment false → RequestStep (span y z b c) (stand y mid t) (stand z to u) q since ahead left result
    → SeatsGo u v p.own p.table.grace_ms since z.moment false → v.gate.view.held ≡ s.gate.view.held
    → times_found p.own s.words.view.ended ≡ times_found p.own t.words.view.ended → times_found p.own u.words.view.ended ≡ times_found p.own v.words.view.ended
    → TurnStep (span x z b c) (stand x from r) (stand z to v) (next_spot p) since kept left count answer
turn_served x y z b c from mid to r s t u v p q since count kept ahead left result answer spot le count_is ends a unseen enters k leaves held found same =
    let n : Spot = next_spot p in
    let step : RequestStep (span y z b c) (stand y mid t) (stand z to u) n since ahead left result = subst (λ (o : Spot). RequestStep (span y z b c) (stand y mid t) (stand z to u) o since ahead left result) spot k in
    let inner : Goes (stand y mid s) (stand z to v) n since (stops step.turn) result =
    goes_inside y z mid to s t u v n since (stops step.turn) result step.done.doing.wired.later.moment enters step.goes leaves held in
    let first : Goes (stand x from r) (stand y mid s) n since false None =
    goes_since (stand x from r) (stand y mid s) n x.moment since false None le (goes_from (stand x from r) (stand y mid s) p n x.moment false None refl refl a.goes) in
    let whole : Goes (stand x from r) (stand z to v) n since (stops step.turn) result =
    goes_then (stand x from r) (stand y mid s) (stand z to v) n since false (stops step.turn) result step.done.doing.wired.later.moment first inner in
    record {
      turn = step.turn;
      done = done_map (done_then (done_went b a.went) step.done) (λ h w e. turned n kept ahead left step.turn h w e);
      count_is = (let c = count_is ∙ ap (λ (o : Spot). o.number) spot in let one = begun_one n ahead left step.turn _ _ step.done.does in omega arith);
      closed = λ e. absurd (unseen (a.goes.seats.seen_shut e));
      next_is = ends ∙ step.next_is;
      goes = subst (λ (o : Option Ended). Goes (stand x from r) (stand z to v) n since (stops step.turn) o) (sym ends) whole;
      rested = step.rested;
      cancelled = λ e.
          rose_before (times_found p.own r.words.view.ended) (times_found p.own s.words.view.ended) (times_found p.own v.words.view.ended) a.goes.seats.found
          (subst (λ m. Rose (times_found p.own s.words.view.ended) m) same (subst (λ m. Rose m (times_found p.own u.words.view.ended)) (sym found) (step.cancelled e)));
    }

-- ---- turn after turn

pub any_more : (P : Turn → Bool) (turns : List Turn) (turn : Turn) → list_any P (turns ++ turn ∷ []) ≡ (list_any P turns || P turn)
any_more P [] turn = or_false (P turn)
any_more P (t ∷ ts) turn = ap (λ b. P t || b) (any_more P ts turn) ∙ sym (or_assoc (P t) (list_any P ts) (P turn))

pub begun_more : (turns : List Turn) (turn : Turn) → begun_in (turns ++ turn ∷ []) ≡ begun_in turns + begun_of turn
begun_more [] turn = omega arith
begun_more (t ∷ ts) turn = let more = begun_more ts turn in omega arith

-- nothing was done before: the turns begin with what was left
serves_here : (at : ℕ → Spot) (n m : ℕ) (kept mid left : List ℕ) (turn : Turn) → m ≡ n → mid ≡ kept → (a : At) (w : Work) → Turned (at m) mid left turn a w
    → Turned (at n) kept left turn a w
serves_here at n m kept mid left turn is same a w k =
    subst (λ (i : ℕ). Turned (at i) kept left turn a w) is (subst (λ (l : List ℕ). Turned (at m) l left turn a w) same k)

-- a turn more, behind which the session goes on
pub on_more : (at : ℕ → Spot) (n m : ℕ) (kept mid left : List ℕ) (turns : List Turn) (turn : Turn) → m ≡ n + length turns → turn_next (at m) turn ≡ None
    → (a : At) (w : Work) → Seq (ServesOn at n kept mid turns) (Turned (at m) mid left turn) a w → ServesOn at n kept left (turns ++ turn ∷ []) a w
on_more at n m kept mid left [] turn is none a w s =
    let same : m ≡ n = (let e = is in omega arith) in
    let t = after_idle (Turned (at m) mid left turn) a w (s.0, s.1, s.2, s.3.1, s.4) in
    (subst (λ (i : ℕ). turn_next (at i) turn ≡ None) same none, (left, (w, nothing, sym (and_nothing w), serves_here at n m kept mid left turn same s.3.0 a w t, (refl, refl))))
on_more at n m kept mid left (t ∷ ts) turn is none a w s =
    let among : List ℕ = s.3.1.0 in
    let seq = s.3.1.1 in
    let rest : Seq (ServesOn at (n + 1) among mid ts) (Turned (at m) mid left turn) (behind a seq.0) (and seq.1 s.1) =
    (seq.1, s.1, refl, seq.4, subst (λ (b : At). Turned (at m) mid left turn b s.1) (ap (λ v. behind a v) seq.2 ∙ sym (behind_behind a seq.0 seq.1)) s.4) in
    let later = on_more at (n + 1) m among mid left ts turn (let e = is in omega arith) none (behind a seq.0) (and seq.1 s.1) rest in
    (s.3.0, (among, (seq.0, and seq.1 s.1, s.2 ∙ ap (λ v. and v s.1) seq.2 ∙ and_and seq.0 seq.1 s.1, seq.3, later)))

-- a turn more, which ends it
pub ends_more : (at : ℕ → Spot) (n m : ℕ) (kept mid left : List ℕ) (turns : List Turn) (turn : Turn) (e : Ended) → m ≡ n + length turns → turn_next (at m) turn ≡ Some e
    → (a : At) (w : Work) → Seq (ServesOn at n kept mid turns) (Turned (at m) mid left turn) a w → Serves at n kept e (turns ++ turn ∷ []) a w
ends_more at n m kept mid left [] turn e is ends a w s =
    let same : m ≡ n = (let f = is in omega arith) in
    let t = after_idle (Turned (at m) mid left turn) a w (s.0, s.1, s.2, s.3.1, s.4) in
    let last : turn_next (at n) turn ≡ Some e = subst (λ (i : ℕ). turn_next (at i) turn ≡ Some e) same ends in (
      left,
      (
        w,
        nothing,
        sym (and_nothing w),
        serves_here at n m kept mid left turn same s.3.0 a w t,
        subst (λ (o : Option Ended). Behind o (Serves at (n + 1) left e []) e [] (behind a w) nothing) (sym last) (refl, refl, refl),
      ),
    )
ends_more at n m kept mid left (t ∷ ts) turn e is ends a w s =
    let among : List ℕ = s.3.1.0 in
    let seq = s.3.1.1 in
    let rest : Seq (ServesOn at (n + 1) among mid ts) (Turned (at m) mid left turn) (behind a seq.0) (and seq.1 s.1) =
    (seq.1, s.1, refl, seq.4, subst (λ (b : At). Turned (at m) mid left turn b s.1) (ap (λ v. behind a v) seq.2 ∙ sym (behind_behind a seq.0 seq.1)) s.4) in
    let later = ends_more at (n + 1) m among mid left ts turn e (let f = is in omega arith) ends (behind a seq.0) (and seq.1 s.1) rest in (
      among,
      (
        seq.0,
        and seq.1 s.1,
        s.2 ∙ ap (λ v. and v s.1) seq.2 ∙ and_and seq.0 seq.1 s.1,
        seq.3,
        subst (λ (o : Option Ended). Behind o (Serves at (n + 1) among e (ts ++ turn ∷ [])) e (ts ++ turn ∷ []) (behind a seq.0) (and seq.1 s.1)) (sym s.3.0) later,
      ),
    )

pub cancelled_by : (p q : Bool) (a b c : ℕ) → a ≤ b → b ≤ c → (p ≡ true → Rose a b) → (q ≡ true → Rose b c) → (p || q) ≡ true → Rose a c
cancelled_by p q a b c le more f g e =
    elim (either_which p q e) [ inl l ↦ rose_behind a b c more (f l) | inr r ↦ rose_before a b c le (g r) ]

-- ---- the gate

-- an active connection holds what its `enter` was granted
pub granted : (before now : SeatState) (answer : Enter) (active : SeatName) → Entered before now answer → FirstByte answer (Some active)
    → (active ≡ before.name) × (now ≡ with_view before (entered now.view.last before.view))
granted before now (enter.Granted inside) active by first = ((let e : Some active ≡ Some inside = first in cc) ∙ by.1, by.2)
granted before now enter.Shut active by first = absurd (let bad : Some active ≡ None = first in cc)

pub refused : (before now : SeatState) (answer : Enter) → Entered before now answer → (answer ≡ enter.Shut → now.view.seen_shut ≡ true) → FirstByte answer None
    → (now.view.seen_shut ≡ true) × (now ≡ with_view before (record (has_read now.view.last before.view) { held = before.view.held }))
refused before now (enter.Granted inside) by told first = absurd (let bad : None ≡ Some inside = first in cc)
refused before now enter.Shut by told first = (told refl, by.1)

-- behind a gate that was seen shut none is granted
pub not_open : (before : SeatState) (answer : Enter) (active : SeatName) → (before.view.seen_shut ≡ true → answer ≡ enter.Shut) → FirstByte answer (Some active)
    → before.view.seen_shut ≡ true → ⊥
not_open before (enter.Granted inside) active never first seen = (let bad : enter.Granted inside ≡ enter.Shut = never seen in cc)
not_open before enter.Shut active never first seen = (let bad : Some active ≡ None = first in cc)
