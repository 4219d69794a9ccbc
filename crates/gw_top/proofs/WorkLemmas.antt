-- A worker's clients, one after another, over plain variables.
use Rattle.std.proofs.Common.{ℕ, ◌≡◌, ◌≤◌, ◌+◌, ◌-◌, ◌^◌, ◌&&◌, ◌||◌, min, not, Bool, true, false, List, [], ◌∷◌, ◌++◌, Option, Some, None, refl, ap, sym, subst, ◌∙◌, arith, append-nil, inl, inr}
use Rattle.std.specs.Prelude.{if◌then◌else◌}
use Rattle.std.specs.List.{list_any}
use Rattle.std.proofs.lemmas.Grind.{flat_map-append}
use Rattle.std.proofs.lemmas.List.Sums.{sum_by-append, sum_by-cons}
use Rattle.gw_wire.specs.declared.traits.Accept.TheVariants as accept
use Rattle.gw_wire.specs.declared.values.Act.TheVariants.{Accepted, AcceptFailed, Ended as ListenerEnded}
use Rattle.gw_wire.specs.AcceptStep.{AcceptStep}
use Rattle.gw_wire.specs.Causes.{Rose}
use Rattle.gw_wire.specs.Link.{LinkView}
use Rattle.gw_wire.specs.Wire.{NowStep, WireView}
use Rattle.gw_pool.specs.declared.limits.Limits.{Limits}
use Rattle.gw_pool.specs.Lent.{Lent}
use Rattle.gw_head.specs.declared.request.RequestHead.{RequestHead}
use Rattle.gw_account.specs.Did.{Went, span}
use Rattle.gw_account.specs.Work.{Work, At, Idle, Only, Seq, and, behind, free, nothing}
use Rattle.gw_account.proofs.Facts.{and_and, and_nothing, behind_behind, only_is, went_call, went_map, went_nothing}
use Rattle.gw_routes.specs.declared.table.Table.{Table}
use Rattle.gw_stream.specs.declared.waits.Sent.{Sent}
use Rattle.gw_stream.specs.declared.waits.Sent.TheVariants as sent
use Rattle.gw_transport.specs.Leasing.{IsRested}
use Rattle.gw_transport.specs.Watch.{times_found}
use Rattle.gw_session.specs.declared.end.Ended.{Ended}
use Rattle.gw_session.specs.declared.end.Ended.TheVariants as ended
use Rattle.gw_session.specs.declared.end.Served.{Served}
use Rattle.gw_session.specs.declared.end.Why.{Why}
use Rattle.gw_session.specs.declared.end.Why.TheVariants as why
use Rattle.gw_session.specs.Ending.{closed, has_body, sent_next, stopped_end}
use Rattle.gw_session.specs.Replies.{Said, is_shut, said_next}
use Rattle.gw_session.specs.declared.shared.Shared.{Shared}
use Rattle.gw_session.specs.Routing.{IsServable}
use Rattle.gw_session.specs.Seats.{IsSameShared, NotesShut, Seats, SeatsGo}
use Rattle.gw_session.specs.Session.{Behind, Serves, SessionStep, begun_in, cancelled_in, stops_in}
use Rattle.gw_session.specs.Stand.{Done, EndCause, Spot, WhyCause, is_last}
use Rattle.gw_session.specs.Turn.{Deed, Turn, Turned, is_cancelled, stops, turn_next, unread_reason}
use Rattle.gw_session.proofs.Facts.{after_idle, clock_idle, done_map, done_then, done_went, either_which, or_assoc, or_false, rose_before, rose_behind, seats_looked, seats_same, seats_since, seats_then, then_idle}
use Rattle.gw_top.specs.declared.worker.Worker.{Worker}
use Rattle.gw_top.specs.Run.{AtEnd, AtFailure, AtGate, Last, Visit, Visited, Visits, Worked, counted, in_order, is_failure, is_gate, is_gate_end, is_gate_reason, last_acts, ends_there, saw_shut, turns_of, unkept, unkept_in}

-- ---- a stop ends its session

-- a reason is there where the gate is shut
shut_closes : (old asks unread : Bool) → (if old then Some why.Old else (if asks then Some why.Asked else (if true then Some why.Shut else (if unread then Some why.Unread else None)))) ≡ None → ⊥
shut_closes true asks unread e = (let bad : Some why.Old ≡ None = e in cc)
shut_closes false true unread e = (let bad : Some why.Asked ≡ None = e in cc)
shut_closes false false unread e = (let bad : Some why.Shut ≡ None = e in cc)

closed_none : (o : Option Why) → closed o ≡ None → o ≡ None
closed_none None e = refl
closed_none (Some reason) e = absurd (let bad : Some (ended.Closed reason) ≡ None = e in cc)

stop_sent : (p : Spot) (head : RequestHead) (shut : Bool) (r : Sent) → shut ≡ true → sent_next r (unread_reason p head shut) ≡ None → ⊥
stop_sent p head shut (sent.Failed some) is e = (let bad : Some (ended.Closed why.Failed) ≡ None = e in cc)
stop_sent p head shut (sent.Stopped s) is e = (let bad : Some (stopped_end s) ≡ None = e in cc)
stop_sent p head shut sent.All is e =
    let none : unread_reason p head true ≡ None = subst (λ (b : Bool). unread_reason p head b ≡ None) is (closed_none (unread_reason p head shut) e) in
    shut_closes head.old (head.close || is_last p.number) (has_body head.framing) none

stop_said : (p : Spot) (head : RequestHead) (said : Said) → is_shut said ≡ true → said_next (unread_reason p head) said ≡ None → ⊥
stop_said p head Said.Unsaid shut e = (let bad : Some ended.NoMemory ≡ None = e in cc)
stop_said p head (Said.SaidBy r) shut e = stop_sent p head r.shut r.sent shut e

-- a request that shuts the gate ends its session
stop_ends : (p : Spot) (kept left : List ℕ) (turn : Turn) (a : At) (w : Work) → Turned p kept left turn a w → stops turn ≡ true → turn_next p turn ≡ None → ⊥
stop_ends p kept left (Turn.Missed why) a w k s e = (let bad : false ≡ true = s in cc)
stop_ends p kept left Turn.Refused a w k s e = (let bad : false ≡ true = s in cc)
stop_ends p kept left (Turn.Parted why) a w k s e = (let bad : false ≡ true = s in cc)
stop_ends p kept left Turn.Unkept a w k s e = (let bad : false ≡ true = s in cc)
stop_ends p kept left (Turn.Faulty error said) a w k s e = (let bad : false ≡ true = s in cc)
stop_ends p kept left (Turn.Heard text head Deed.Undecided) a w k s e = (let bad : false ≡ true = s in cc)
stop_ends p kept left (Turn.Heard text head (Deed.Owned own said)) a w k s e = (let bad : false ≡ true = s in cc)
stop_ends p kept left (Turn.Heard text head (Deed.Stopped number said)) a w k s e = stop_said p head said k.1.4.1.4.2 e
stop_ends p kept left (Turn.Heard text head (Deed.Halted number halt)) a w k s e = (let bad : false ≡ true = s in cc)
stop_ends p kept left (Turn.Heard text head (Deed.PassedKept number g)) a w k s e = (let bad : false ≡ true = s in cc)
stop_ends p kept left (Turn.Heard text head (Deed.PassedOn number g)) a w k s e = (let bad : false ≡ true = s in cc)

behind_in_order : (b : Bool) (o : Option Ended) (result : Ended) (turns : List Turn) (P : At → Work → Type 0) (a : At) (w : Work) → (b ≡ true → o ≡ None → ⊥)
    → ((c : At) (v : Work) → P c v → in_order false turns ≡ true) → Behind o P result turns a w → in_order b turns ≡ true
behind_in_order b (Some e) result turns P a w stop on k = subst (λ (l : List Turn). in_order b l ≡ true) (sym k.0) refl
behind_in_order false None result turns P a w stop on k = on a w k
behind_in_order true None result turns P a w stop on k = absurd (stop refl refl)

serves_in_order : (at : ℕ → Spot) (n : ℕ) (kept : List ℕ) (result : Ended) (turns : List Turn) (a : At) (w : Work) → Serves at n kept result turns a w → in_order false turns ≡ true
serves_in_order at n kept result [] a w s = refl
serves_in_order at n kept result (t ∷ ts) a w s =
    behind_in_order (stops t) (turn_next (at n) t) result ts (Serves at (n + 1) s.0 result ts) _ _ (stop_ends (at n) kept s.0 t a s.1.0 s.1.3)
    (λ c v r. serves_in_order at (n + 1) s.0 result ts c v r) s.1.4

neither : (a b : Bool) → (a || b) ≡ false → (a ≡ false) × (b ≡ false)
neither true b e = absurd (let bad : true ≡ false = e in cc)
neither false b e = (refl, e)

-- no request among them shut the gate, so others may begin behind them
order_more : (xs ys : List Turn) → in_order false xs ≡ true → list_any stops xs ≡ false → in_order false ys ≡ true → in_order false (xs ++ ys) ≡ true
order_more [] ys o none more = more
order_more (t ∷ ts) ys o none more =
    let n = neither (stops t) (list_any stops ts) none in
    subst (λ (b : Bool). in_order b (ts ++ ys) ≡ true) (sym n.0) (order_more ts ys (subst (λ (b : Bool). in_order b ts ≡ true) n.0 o) n.1 more)

-- ---- sums over clients

any_append : {A : Type 0} (P : A → Bool) (xs ys : List A) → list_any P (xs ++ ys) ≡ (list_any P xs || list_any P ys)
any_append P [] ys = refl
any_append P (x ∷ xs) ys = ap (λ b. P x || b) (any_append P xs ys) ∙ sym (or_assoc (P x) (list_any P xs) (list_any P ys))

any_push : {A : Type 0} (P : A → Bool) (xs : List A) (y : A) → list_any P (xs ++ y ∷ []) ≡ (list_any P xs || P y)
any_push P xs y = any_append P xs (y ∷ []) ∙ ap (λ b. list_any P xs || b) (or_false (P y))

begun_append : (xs ys : List Turn) → begun_in (xs ++ ys) ≡ begun_in xs + begun_in ys
begun_append [] ys = omega arith
begun_append (t ∷ ts) ys = let more = begun_append ts ys in omega arith

turns_push : (visits : List Visit) (v : Visit) → turns_of (visits ++ v ∷ []) ≡ turns_of visits ++ v.turns
turns_push visits v = flat_map-append (λ (x : Visit). x.turns) visits (v ∷ []) ∙ ap (λ l. turns_of visits ++ l) (append-nil v.turns)

unkept_push : (visits : List Visit) (v : Visit) → unkept_in (visits ++ v ∷ []) ≡ unkept_in visits + unkept v.ended
unkept_push visits v = sum_by-append (λ (x : Visit). unkept x.ended) visits (v ∷ []) ∙ ap (λ n. unkept_in visits + n) (sum_by-cons (λ (x : Visit). unkept x.ended) v [] ∙ (omega arith))

-- one client more
visits_push : (table : Table) (own : ℕ) (visits : List Visit) (v : Visit) (a : At) (w : Work) → Seq (Visits table own visits) (Visited table own v) a w → Visits table own (visits ++ v ∷ []) a w
visits_push table own [] v a w s = (w, nothing, sym (and_nothing w), after_idle (Visited table own v) a w s, refl)
visits_push table own (x ∷ xs) v a w s =
    let t = s.3 in
    let rest : Seq (Visits table own xs) (Visited table own v) (behind a t.0) (and t.1 s.1) =
    (t.1, s.1, refl, t.4, subst (λ (b : At). Visited table own v b s.1) (ap (λ z. behind a z) t.2 ∙ sym (behind_behind a t.0 t.1)) s.4) in
    (t.0, and t.1 s.1, s.2 ∙ ap (λ z. and z s.1) t.2 ∙ and_and t.0 t.1 s.1, t.3, visits_push table own xs v (behind a t.0) (and t.1 s.1) rest)

-- ---- where no client saw the gate shut

unseen_none : (b seen : Bool) → (b ≡ true → seen ≡ true) → seen ≡ false → b ≡ false
unseen_none true seen f is = absurd (let bad : true ≡ false = sym (f refl) ∙ is in cc)
unseen_none false seen f is = refl

or_true : (b : Bool) → (b || true) ≡ true
or_true true = refl
or_true false = refl

none_there : (visits : List Visit) (last : Last) → list_any saw_shut visits ≡ false → ends_there visits last ≡ true
none_there [] last none = refl
none_there (v ∷ []) last none = ap (λ b. not b || is_gate last) (neither (saw_shut v) false none).0
none_there (v ∷ next ∷ later) last none =
    let n = neither (saw_shut v) (list_any saw_shut (next ∷ later)) none in
    ap (λ b. not b && ends_there (next ∷ later) last) n.0 ∙ none_there (next ∷ later) last n.1

there_push : (visits : List Visit) (v : Visit) → list_any saw_shut visits ≡ false → ends_there (visits ++ v ∷ []) AtGate ≡ true
there_push [] v none = or_true (not (saw_shut v))
there_push (x ∷ []) v none = ap (λ b. not b && (not (saw_shut v) || true)) (neither (saw_shut x) false none).0 ∙ or_true (not (saw_shut v))
there_push (x ∷ next ∷ later) v none =
    let n = neither (saw_shut x) (list_any saw_shut (next ∷ later)) none in
    ap (λ b. not b && ends_there (next ∷ later ++ v ∷ []) AtGate) n.0 ∙ there_push (next ∷ later) v n.1

-- ---- a worker on its way

-- these clients were served
pub record Serving (x y : WireView) (b c : Lent) (old new : Seats) (table : Table) (own : ℕ) (entered unkept : ℕ) : Type 0 where
  pub visits : List Visit
  pub done : Done (span x y b c) (Visits table own visits)
  pub entered_is : entered ≡ counted (begun_in (turns_of visits))
  pub unkept_is : unkept ≡ counted (unkept_in visits)
  pub order : in_order false (turns_of visits) ≡ true
  pub seats : SeatsGo old new own table.grace_ms x.moment y.moment (stops_in (turns_of visits))
  pub held : new.gate.view.held ≡ old.gate.view.held
  pub there : ends_there visits AtGate ≡ true
  pub seen : list_any saw_shut visits ≡ true → new.gate.view.seen_shut ≡ true
  pub cancelled : cancelled_in (turns_of visits) ≡ true → Rose (times_found own old.words.view.ended) (times_found own new.words.view.ended)
  pub rested : IsRested c

pub serving_first : (x : WireView) (b : Lent) (s : Seats) (table : Table) (own : ℕ) (entered unkept : ℕ) → x.aged ≡ false → IsRested b → entered ≡ 0 → unkept ≡ 0 → Serving x x b b s s table own entered unkept
serving_first x b s table own entered unkept fresh rested nobody none = record {
  visits = [];
  done = done_went b (went_nothing x fresh);
  entered_is = nobody;
  unkept_is = none;
  order = refl;
  there = refl;
  seats = seats_same s own table.grace_ms x.moment x.moment;
  held = refl;
  seen = λ e. absurd (let bad : false ≡ true = e in cc);
  cancelled = λ e. absurd (let bad : false ≡ true = e in cc);
  rested = rested;
}

-- the clock was read, and the gate was looked at
pub serving_looked : (x y z : WireView) (b c : Lent) (r s t : Seats) (table : Table) (own : ℕ) (entered unkept now : ℕ) (shut : Bool) → Serving x y b c r s table own entered unkept → NowStep y z now
    → NotesShut s t now shut → Serving x z b c r t table own entered unkept
serving_looked x y z b c r s t table own entered unkept now shut g n look =
    let st = stops_in (turns_of g.visits) in
    let step : SeatsGo s t own table.grace_ms x.moment z.moment false =
    seats_looked s t own table.grace_ms x.moment now z.moment shut
    (let l = g.done.doing.wired.later.moment in let m = n.later.moment in let k = n.given in omega arith) (let k = n.given in omega arith) look in
    record {
      visits = g.visits;
      done = done_map (done_then g.done (done_went c (clock_idle y z now n))) (then_idle (Visits table own g.visits));
      entered_is = g.entered_is;
      unkept_is = g.unkept_is;
      order = g.order;
      there = g.there;
      seats = subst (λ (v : Bool). SeatsGo r t own table.grace_ms x.moment z.moment v) (or_false st)
          (seats_then r s t own table.grace_ms x.moment y.moment z.moment st false n.later.moment g.seats step);
      held = look.held ∙ g.held;
      seen = λ e. step.seen_shut (g.seen e);
      cancelled = λ e. rose_behind (times_found own r.words.view.ended) (times_found own s.words.view.ended) (times_found own t.words.view.ended) step.found (g.cancelled e);
      rested = g.rested;
    }

-- nobody came
pub serving_on : {C : Type 0} (link : C → LinkView) (x y z : WireView) (b c : Lent) (r s : Seats) (table : Table) (own : ℕ) (entered unkept : ℕ) → Serving x y b c r s table own entered unkept
    → AcceptStep link y z accept.Tick → Serving x z b c r s table own entered unkept
serving_on link x y z b c r s table own entered unkept g k =
    let st = stops_in (turns_of g.visits) in
    let still : Went y z Idle =
    went_map (went_call y z [] k.later (k.aged ∙ g.done.doing.fresh) k.log) (λ a w o. only_is free (λ acts. acts ≡ []) a w o ∙ ap (λ l. record { acts = l; made = []; bill = free }) o.2) in
    record {
      visits = g.visits;
      done = done_map (done_then g.done (done_went c still)) (then_idle (Visits table own g.visits));
      entered_is = g.entered_is;
      unkept_is = g.unkept_is;
      order = g.order;
      there = g.there;
      seats = subst (λ (v : Bool). SeatsGo r s own table.grace_ms x.moment z.moment v) (or_false st)
          (seats_then r s s own table.grace_ms x.moment y.moment z.moment st false k.later.moment g.seats (seats_same s own table.grace_ms x.moment z.moment));
      held = g.held;
      seen = g.seen;
      cancelled = g.cancelled;
      rested = g.rested;
    }

gate_seen : (from to : LinkView) (seen : Bool) (reason : Why) → is_gate_reason reason ≡ true → WhyCause from to seen reason → seen ≡ true
gate_seen from to seen why.Refused e k = k
gate_seen from to seen why.Shut e k = k
gate_seen from to seen why.End e k = absurd (let bad : false ≡ true = e in cc)
gate_seen from to seen why.Failed e k = absurd (let bad : false ≡ true = e in cc)
gate_seen from to seen why.Timeout e k = absurd (let bad : false ≡ true = e in cc)
gate_seen from to seen why.BadRequest e k = absurd (let bad : false ≡ true = e in cc)
gate_seen from to seen why.Cut e k = absurd (let bad : false ≡ true = e in cc)
gate_seen from to seen why.Old e k = absurd (let bad : false ≡ true = e in cc)
gate_seen from to seen why.Asked e k = absurd (let bad : false ≡ true = e in cc)
gate_seen from to seen why.Unread e k = absurd (let bad : false ≡ true = e in cc)

end_seen : (from to : LinkView) (seen : Bool) (e : Ended) → is_gate_end e ≡ true → EndCause from to seen (Some e) → seen ≡ true
end_seen from to seen ended.NoMemory g k = absurd (let bad : false ≡ true = g in cc)
end_seen from to seen (ended.Closed reason) g k = gate_seen from to seen reason g k

seen_by : (p q : Bool) (P Q : Type 0) → (P → Q) → (p ≡ true → P) → (q ≡ true → Q) → (p || q) ≡ true → Q
seen_by p q P Q later f g e = elim (either_which p q e) [ inl l ↦ later (f l) | inr r ↦ g r ]

rose_by : (p q : Bool) (a b c : ℕ) → a ≤ b → b ≤ c → (p ≡ true → Rose a b) → (q ≡ true → Rose b c) → (p || q) ≡ true → Rose a c
rose_by p q a b c le more f g e = elim (either_which p q e) [ inl l ↦ rose_behind a b c more (f l) | inr r ↦ rose_before a b c le (g r) ]

-- a client came and was served
pub serving_more : {C : Type 0} (link : C → LinkView) (x y z w : WireView) (b c d : Lent) (r s t : Seats) (table : Table) (own : ℕ) (entered unkept_before more_entered more_unkept mid : ℕ) (client : C) (peer : List ℕ)
    (result : Served) (begun lost : ℕ) → mid ≡ own → s.gate.view.seen_shut ≡ false → Serving x y b c r s table own entered unkept_before → AcceptStep link y z (accept.Conn client peer)
    → SessionStep (span z w c d) s t mid (link client) peer table result
    → begun ≡ result.begun → lost ≡ unkept result.ended → more_entered ≡ min (entered + begun) (2 ^ 64 - 1) → more_unkept ≡ min (unkept_before + lost) (2 ^ 64 - 1)
    → Serving x w b d r t table own more_entered more_unkept
serving_more {C} link x y z w b c d r s t table own entered unkept_before more_entered more_unkept mid client peer result begun lost node unseen g k m begun_is lost_is more more_lost =
    let step : SessionStep (span z w c d) s t own (link client) peer table result = subst (λ (n : ℕ). SessionStep (span z w c d) s t n (link client) peer table result) node m in
    let v : Visit = record { client = (link client).number; peer = peer; ended = result.ended; turns = step.turns } in
    let came : Went y z (Only free (λ acts. acts ≡ Accepted (link client).number peer ∷ [])) = went_call y z (Accepted (link client).number peer ∷ []) k.later (k.aged ∙ g.done.doing.fresh) k.log in
    let visited : Done (span y w c d) (Visited table own v) = done_then (done_went c came) step.done in
    let all : turns_of (g.visits ++ v ∷ []) ≡ turns_of g.visits ++ step.turns = turns_push g.visits v in
    let st = stops_in (turns_of g.visits) in
    let later = visited.doing.wired.later.moment in
    let none : st ≡ false = unseen_none st s.gate.view.seen_shut g.seats.told unseen in
    let seats : SeatsGo s t own table.grace_ms x.moment w.moment (stops_in step.turns) =
    seats_since s t own table.grace_ms z.moment x.moment w.moment (stops_in step.turns) (let l = g.done.doing.wired.later.moment in let n = k.later.moment in omega arith) step.goes.seats in
    record {
      visits = g.visits ++ v ∷ [];
      done = done_map (done_then g.done visited) (visits_push table own g.visits v);
      entered_is = rw all (let e = g.entered_is in let n = more in let q = begun_is in let f = step.begun in let h = begun_append (turns_of g.visits) step.turns in omega arith);
      unkept_is = (let e = g.unkept_is in let n = more_lost in let q = lost_is in let h = unkept_push g.visits v in omega arith);
      there = there_push g.visits v (unseen_none (list_any saw_shut g.visits) s.gate.view.seen_shut g.seen unseen);
      order = rw all (order_more (turns_of g.visits) step.turns g.order none (serves_in_order _ 1 [] result.ended step.turns _ _ step.done.does.3));
      seats = rw (all, any_append stops (turns_of g.visits) step.turns)
          (seats_then r s t own table.grace_ms x.moment y.moment w.moment st (stops_in step.turns) later g.seats seats);
      held = step.goes.held ∙ g.held;
      seen = rw (any_push saw_shut g.visits v)
          (seen_by (list_any saw_shut g.visits) (saw_shut v) (s.gate.view.seen_shut ≡ true) (t.gate.view.seen_shut ≡ true) seats.seen_shut g.seen
          (seen_by (is_gate_end result.ended) (stops_in step.turns) (t.gate.view.seen_shut ≡ true) (t.gate.view.seen_shut ≡ true) (λ e. e)
          (λ e. end_seen (link client) step.closing t.gate.view.seen_shut result.ended e step.goes.cause) seats.told));
      cancelled = rw (all, any_append is_cancelled (turns_of g.visits) step.turns)
          (rose_by (cancelled_in (turns_of g.visits)) (cancelled_in step.turns) (times_found own r.words.view.ended) (times_found own s.words.view.ended) (times_found own t.words.view.ended)
          g.seats.found seats.found g.cancelled step.cancelled);
      rested = step.rested;
    }

-- ---- its end

-- behind its clients just these acts were done
worked : {W : Type 0} (worker : Worker W) (x y z : WireView) (b c : Lent) (r s : Seats) (table : Table) (own : ℕ) (last : Last) (g : Serving x y b c r s table own worker.entered worker.unkept)
    → ends_there g.visits last ≡ true → Went y z (Only free (λ acts. acts ≡ last_acts last)) → worker.accept_failed ≡ is_failure last → (is_gate last ≡ true → s.gate.view.seen_shut ≡ true)
    → Worked (span x z b c) r s table own worker
worked worker x y z b c r s table own last g there acts is shut =
    let st = stops_in (turns_of g.visits) in
    record {
      part = record { visits = g.visits; last = last };
      done = done_then g.done (done_went c acts);
      counts = record { entered = g.entered_is; unkept = g.unkept_is; failed = is };
      ordered = record { order = g.order; there = there };
      seats = subst (λ (v : Bool). SeatsGo r s own table.grace_ms x.moment z.moment v) (or_false st)
          (seats_then r s s own table.grace_ms x.moment y.moment z.moment st false acts.wired.later.moment g.seats (seats_same s own table.grace_ms x.moment z.moment));
      held = g.held;
      seen = seen_by (list_any saw_shut g.visits) (is_gate last) (s.gate.view.seen_shut ≡ true) (s.gate.view.seen_shut ≡ true) (λ e. e) g.seen shut;
      cancelled = g.cancelled;
      rested = g.rested;
    }

pub worked_till_end : {C W : Type 0} (link : C → LinkView) (worker : Worker W) (x y z : WireView) (b c : Lent) (r s : Seats) (table : Table) (own : ℕ) → worker.accept_failed ≡ false → s.gate.view.seen_shut ≡ false
    → Serving x y b c r s table own worker.entered worker.unkept → AcceptStep link y z accept.Ended → Worked (span x z b c) r s table own worker
worked_till_end link worker x y z b c r s table own is unseen g k =
    worked worker x y z b c r s table own AtEnd g (none_there g.visits AtEnd (unseen_none (list_any saw_shut g.visits) s.gate.view.seen_shut g.seen unseen)) (went_call y z (ListenerEnded ∷ []) k.later (k.aged ∙ g.done.doing.fresh) k.log) is
    (λ e. absurd (let bad : false ≡ true = e in cc))

pub worked_till_failure : {C W : Type 0} (link : C → LinkView) (worker : Worker W) (x y z : WireView) (b c : Lent) (r s : Seats) (table : Table) (own : ℕ) → worker.accept_failed ≡ true → s.gate.view.seen_shut ≡ false
    → Serving x y b c r s table own worker.entered worker.unkept → AcceptStep link y z accept.Failed → Worked (span x z b c) r s table own worker
worked_till_failure link worker x y z b c r s table own is unseen g k =
    worked worker x y z b c r s table own AtFailure g (none_there g.visits AtFailure (unseen_none (list_any saw_shut g.visits) s.gate.view.seen_shut g.seen unseen)) (went_call y z (AcceptFailed ∷ []) k.later (k.aged ∙ g.done.doing.fresh) k.log) is
    (λ e. absurd (let bad : false ≡ true = e in cc))

pub worked_till_gate : {W : Type 0} (worker : Worker W) (x y : WireView) (b c : Lent) (r s : Seats) (table : Table) (own : ℕ) → worker.accept_failed ≡ false → s.gate.view.seen_shut ≡ true
    → Serving x y b c r s table own worker.entered worker.unkept → Worked (span x y b c) r s table own worker
worked_till_gate worker x y b c r s table own is shut g =
    worked worker x y y b c r s table own AtGate g g.there
    (went_map (went_nothing y g.done.doing.fresh) (λ a w e. (ap (λ (u : Work). u.made) e, ap (λ (u : Work). u.bill) e, ap (λ (u : Work). u.acts) e))) is (λ e. shut)

pub not_failed : (failed : Bool) (P : Type 0) → failed ≡ false → failed ≡ true → P
not_failed failed P good bad = absurd (let both : true ≡ false = sym bad ∙ good in cc)

pub failed_rose : {C : Type 0} (link : C → LinkView) (x y z : WireView) (b c : Lent) (r s : Seats) (table : Table) (own : ℕ) (entered unkept : ℕ) → Serving x y b c r s table own entered unkept
    → AcceptStep link y z accept.Failed → Rose x.accept_faults z.accept_faults
failed_rose link x y z b c r s table own entered unkept g k = (let l = g.done.doing.wired.later.accept_faults in let m = k.cause in omega arith)

-- ---- what a worker lends

pub same_shared : (s : Shared) → IsSameShared s s
same_shared s = record { gate = refl; gate_seat = refl; ctx = refl; ctx_seat = refl; ctx_node = refl; buffers = refl }

pub same_then : (r s t : Shared) → IsSameShared r s → IsSameShared s t → IsSameShared r t
same_then r s t p q = record {
  gate = q.gate ∙ p.gate;
  gate_seat = q.gate_seat ∙ p.gate_seat;
  ctx = q.ctx ∙ p.ctx;
  ctx_seat = q.ctx_seat ∙ p.ctx_seat;
  ctx_node = q.ctx_node ∙ p.ctx_node;
  buffers = q.buffers ∙ p.buffers;
}

-- a table is servable as long as the pool's limits are the same
pub servable_still : (table : Table) (b c : Lent) → c.limits ≡ b.limits → IsServable table b → IsServable table c
servable_still table b c same s = record { numbered = s.numbered; hosts = (let h = s.hosts in let e = ap (λ (l : Limits). l.hosts) same in omega arith) }
