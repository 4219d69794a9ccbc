-- What is done with a worker's seats, one step after another.
use Rattle.std.proofs.Common.{ℕ, ◌≡◌, ◌≤◌, ◌⊎◌, Bool, ◌||◌, true, false, List, [], ◌++◌, Option, Some, None, refl, ap, sym, subst, ◌∙◌, arith, append_assoc, append-nil, inl, inr}
use Rattle.std.specs.Prelude.{nat_le}
use Rattle.std.proofs.lemmas.List.Elements.{All-nil, All-append}
use Rattle.gw_wire.specs.Causes.{Rose}
use Rattle.gw_wire.specs.Link.{LinkView, LinkLater}
use Rattle.gw_wire.specs.Wire.{WireView}
use Rattle.gw_wire.proofs.Facts.{link_same, link_then}
use Rattle.gw_context.specs.declared.parts.Cause.{Cause}
use Rattle.gw_context.specs.declared.parts.Cause.TheVariants.{Canceled}
use Rattle.gw_stream.proofs.Facts.{rose_from}
use Rattle.gw_transport.specs.Watch.{times_found}
use Rattle.gw_session.specs.declared.end.Ended.{Ended}
use Rattle.gw_session.specs.declared.end.Ended.TheVariants as ended
use Rattle.gw_session.specs.declared.end.Why.TheVariants as why
use Rattle.gw_session.specs.declared.client.Client.{Client}
use Rattle.gw_session.specs.declared.shared.Shared.{Shared}
use Rattle.gw_session.specs.TripSteps.{IsTimedClient}
use Rattle.gw_ctxwords.specs.Calls as ctx
use Rattle.gw_gate.specs.declared.gate.ShutAnswer.{ShutAnswer}
use Rattle.gw_gate.specs.declared.gate.ShutAnswer.TheVariants as shut
use Rattle.gw_gate.specs.Calls.{ShutBy}
use Rattle.gw_gate.specs.Gate.{shut_bit}
use Rattle.gw_gate.specs.Seat as gate
use Rattle.gw_gate.specs.Seat.{with_view}
use Rattle.gw_gate.specs.Steps.{has_read}
use Rattle.gw_session.specs.Seats.{IsSameShared, Seats, SeatsGo, Notes, NotesShut, IsPast, seats}
use Rattle.gw_session.specs.Stand.{EndCause, Goes, Spot, Stand, spot_of, stand}

pub seats_same : (s : Seats) (own grace since moment : ℕ) → SeatsGo s s own grace since moment false
seats_same s own grace since moment = record {
  name = refl;
  room = refl;
  shut = λ e. inl e;
  seen_shut = λ e. e;
  told = λ e. absurd (let bad : false ≡ true = e in cc);
  noted = inl refl;
  table = refl;
  places = refl;
  base = record { more = []; cancels = sym (append-nil s.words.view.cancels); base = All-nil (λ (set : ℕ × Cause). set ≡ (0, Canceled)); past = inl refl };
  found = omega arith;
}

noted_within : (old new : Seats) (now since moment : ℕ) → since ≤ now → now ≤ moment → Notes old new now now → Notes old new since moment
noted_within old new now since moment le later (inl same) = inl same
noted_within old new now since moment le later (inr s) =
    inr (s.0, (s.1.0, s.1.1, (let a = s.1.2 in omega arith), (let b = s.1.3 in omega arith), s.1.4))

-- the gate was looked at
pub seats_looked : (old new : Seats) (own grace since now moment : ℕ) (shut : Bool) → since ≤ now → now ≤ moment → NotesShut old new now shut
    → SeatsGo old new own grace since moment false
seats_looked old new own grace since now moment shut le later n = record {
  name = n.name;
  room = n.room;
  shut = λ e. inl (sym n.shut_is ∙ e);
  seen_shut = λ e. n.seen ∙ n.kept e;
  told = λ e. absurd (let bad : false ≡ true = e in cc);
  noted = noted_within old new now since moment le later n.noted;
  table = ap (λ w. w.table) n.words;
  places = ap (λ w. w.view.room) n.words;
  base = record {
    more = [];
    cancels = ap (λ w. w.view.cancels) n.words ∙ sym (append-nil old.words.view.cancels);
    base = All-nil (λ (set : ℕ × Cause). set ≡ (0, Canceled));
    past = inl refl;
  };
  found = subst (λ (k : ℕ). times_found own old.words.view.ended ≤ k) (ap (λ w. times_found own w.view.ended) (sym n.words)) (omega arith);
}

-- ---- one step after another

past_later : (g h : Seats) (grace since m n : ℕ) → m ≤ n → Notes g h since n → IsPast g grace m → IsPast h grace n
past_later g h grace since m n le (inl same) p = (p.0, same ∙ p.1, (let f = p.2 in omega arith))
past_later g h grace since m n le (inr s) p = absurd (let bad : Some p.0 ≡ None = sym p.1 ∙ s.0 in cc)

base_past : (g h : Seats) (grace since m n : ℕ) (x y : List (ℕ × Cause)) → m ≤ n → Notes g h since n
    → (x ≡ []) ⊎ IsPast g grace m → (y ≡ []) ⊎ IsPast h grace n → (x ++ y ≡ []) ⊎ IsPast h grace n
base_past g h grace since m n x y le s p (inr q) = inr q
base_past g h grace since m n x y le s (inr p) (inl none) = inr (past_later g h grace since m n le s p)
base_past g h grace since m n x y le s (inl gone) (inl none) = inl (ap (λ l. l ++ y) gone ∙ none)

noted_then : (f g h : Seats) (since m n : ℕ) → m ≤ n → (g.gate.view.seen_shut ≡ true → h.gate.view.seen_shut ≡ true)
    → Notes f g since m → Notes g h since n → Notes f h since n
noted_then f g h since m n le seen (inl same) (inl still) = inl (still ∙ same)
noted_then f g h since m n le seen (inl same) (inr t) = inr (sym same ∙ t.0, t.1)
noted_then f g h since m n le seen (inr s) (inl still) = inr (s.0, (s.1.0, still ∙ s.1.1, s.1.2, (let e = s.1.3 in omega arith), seen s.1.4))
noted_then f g h since m n le seen (inr s) (inr t) = absurd (let bad : Some s.1.0 ≡ None = sym s.1.1 ∙ t.0 in cc)

pub either_left : (a b : Bool) → a ≡ true → (a || b) ≡ true
either_left true b e = refl
either_left false b e = absurd (let bad : false ≡ true = e in cc)

pub either_right : (a b : Bool) → b ≡ true → (a || b) ≡ true
either_right true b e = refl
either_right false b e = e

pub either_which : (a b : Bool) → (a || b) ≡ true → (a ≡ true) ⊎ (b ≡ true)
either_which true b e = inl refl
either_which false b e = inr e

shut_by : (a b : Bool) (P Q R : Type 0) → (R → Q ⊎ (b ≡ true)) → (Q → P ⊎ (a ≡ true)) → R → P ⊎ ((a || b) ≡ true)
shut_by a b P Q R f g r =
    elim (f r) [
      | inl q ↦ elim (g q) [ inl p ↦ inl p | inr e ↦ inr (either_left a b e) ]
      | inr e ↦ inr (either_right a b e)
    ]

told_by : (a b : Bool) (P Q : Type 0) → (a ≡ true → P) → (P → Q) → (b ≡ true → Q) → (a || b) ≡ true → Q
told_by a b P Q f g h e = elim (either_which a b e) [ inl l ↦ g (f l) | inr r ↦ h r ]

pub seats_then : (f g h : Seats) (own grace since m n : ℕ) (s t : Bool) → m ≤ n → SeatsGo f g own grace since m s → SeatsGo g h own grace since n t
    → SeatsGo f h own grace since n (s || t)
seats_then f g h own grace since m n s t le p q = record {
  name = q.name ∙ p.name;
  room = q.room ∙ p.room;
  shut = shut_by s t (f.gate.view.shut ≡ true) (g.gate.view.shut ≡ true) (h.gate.view.shut ≡ true) q.shut p.shut;
  seen_shut = λ e. q.seen_shut (p.seen_shut e);
  told = told_by s t (g.gate.view.seen_shut ≡ true) (h.gate.view.seen_shut ≡ true) p.told q.seen_shut q.told;
  noted = noted_then f g h since m n le q.seen_shut p.noted q.noted;
  table = q.table ∙ p.table;
  places = q.places ∙ p.places;
  base = record {
    more = p.base.more ++ q.base.more;
    cancels = q.base.cancels ∙ ap (λ l. l ++ q.base.more) p.base.cancels ∙ append_assoc f.words.view.cancels p.base.more q.base.more;
    base = All-append (λ (set : ℕ × Cause). set ≡ (0, Canceled)) p.base.more q.base.more p.base.base q.base.base;
    past = base_past g h grace since m n p.base.more q.base.more le q.noted p.base.past q.base.past;
  };
  found = (let a = p.found in let b = q.found in omega arith);
}

noted_since : (f g : Seats) (since early m : ℕ) → early ≤ since → Notes f g since m → Notes f g early m
noted_since f g since early m le (inl same) = inl same
noted_since f g since early m le (inr s) = inr (s.0, (s.1.0, s.1.1, (let a = s.1.2 in omega arith), s.1.3, s.1.4))

-- what is noted from a moment on is so from an earlier one
pub seats_since : (f g : Seats) (own grace since early m : ℕ) (s : Bool) → early ≤ since → SeatsGo f g own grace since m s → SeatsGo f g own grace early m s
seats_since f g own grace since early m s le p = record {
  name = p.name;
  room = p.room;
  shut = p.shut;
  seen_shut = p.seen_shut;
  told = p.told;
  noted = noted_since f g since early m le p.noted;
  table = p.table;
  places = p.places;
  base = p.base;
  found = p.found;
}

-- ---- why a session ends

pub end_before : (a b c : LinkView) (seen : Bool) (next : Option Ended) → LinkLater a b → EndCause b c seen next → EndCause a c seen next
end_before a b c seen None l e = tt
end_before a b c seen (Some ended.NoMemory) l e = tt
end_before a b c seen (Some (ended.Closed why.End)) l e = rose_from a.ends b.ends c.ends l.ends e
end_before a b c seen (Some (ended.Closed why.Failed)) l e = rose_from a.faults b.faults c.faults l.faults e
end_before a b c seen (Some (ended.Closed why.Refused)) l e = e
end_before a b c seen (Some (ended.Closed why.Shut)) l e = e
end_before a b c seen (Some (ended.Closed why.Timeout)) l e = tt
end_before a b c seen (Some (ended.Closed why.BadRequest)) l e = tt
end_before a b c seen (Some (ended.Closed why.Cut)) l e = tt
end_before a b c seen (Some (ended.Closed why.Old)) l e = tt
end_before a b c seen (Some (ended.Closed why.Asked)) l e = tt
end_before a b c seen (Some (ended.Closed why.Unread)) l e = tt

rose_up : (a b c : ℕ) → b ≤ c → Rose a b → Rose a c
rose_up a b c le rose = omega arith

-- what held at a link's place holds later, and so does that the gate was seen shut
pub end_behind : (a b c : LinkView) (seen now : Bool) (next : Option Ended) → LinkLater b c → (seen ≡ true → now ≡ true) → EndCause a b seen next → EndCause a c now next
end_behind a b c seen now None l f e = tt
end_behind a b c seen now (Some ended.NoMemory) l f e = tt
end_behind a b c seen now (Some (ended.Closed why.End)) l f e = rose_up a.ends b.ends c.ends l.ends e
end_behind a b c seen now (Some (ended.Closed why.Failed)) l f e = rose_up a.faults b.faults c.faults l.faults e
end_behind a b c seen now (Some (ended.Closed why.Refused)) l f e = f e
end_behind a b c seen now (Some (ended.Closed why.Shut)) l f e = f e
end_behind a b c seen now (Some (ended.Closed why.Timeout)) l f e = tt
end_behind a b c seen now (Some (ended.Closed why.BadRequest)) l f e = tt
end_behind a b c seen now (Some (ended.Closed why.Cut)) l f e = tt
end_behind a b c seen now (Some (ended.Closed why.Old)) l f e = tt
end_behind a b c seen now (Some (ended.Closed why.Asked)) l f e = tt
end_behind a b c seen now (Some (ended.Closed why.Unread)) l f e = tt

-- ---- whole stands

pub goes_same : (x : Stand) (p : Spot) (since : ℕ) → Goes x x p since false None
goes_same x p since = record { link = link_same x.client; seats = seats_same x.seats p.own p.table.grace_ms since x.wire.moment; held = refl; cause = tt }

-- a step behind which the session goes on, and another one
pub goes_then : (x y z : Stand) (p : Spot) (since : ℕ) (s t : Bool) (next : Option Ended) → y.wire.moment ≤ z.wire.moment → Goes x y p since s None → Goes y z p since t next
    → Goes x z p since (s || t) next
goes_then x y z p since s t next le a b = record {
  link = link_then x.client y.client z.client a.link b.link;
  seats = seats_then x.seats y.seats z.seats p.own p.table.grace_ms since y.wire.moment z.wire.moment s t le a.seats b.seats;
  held = b.held ∙ a.held;
  cause = end_before x.client y.client z.client z.seats.gate.view.seen_shut next a.link b.cause;
}

-- a step that ends the session, and what is done yet
pub goes_ended : (x y z : Stand) (p : Spot) (since : ℕ) (s t : Bool) (next : Option Ended) → y.wire.moment ≤ z.wire.moment → Goes x y p since s next → Goes y z p since t None
    → Goes x z p since (s || t) next
goes_ended x y z p since s t next le a b = record {
  link = link_then x.client y.client z.client a.link b.link;
  seats = seats_then x.seats y.seats z.seats p.own p.table.grace_ms since y.wire.moment z.wire.moment s t le a.seats b.seats;
  held = b.held ∙ a.held;
  cause = end_behind x.client y.client z.client y.seats.gate.view.seen_shut z.seats.gate.view.seen_shut next b.link b.seats.seen_shut a.cause;
}

pub goes_since : (x y : Stand) (p : Spot) (since early : ℕ) (s : Bool) (next : Option Ended) → early ≤ since → Goes x y p since s next → Goes x y p early s next
goes_since x y p since early s next le a = record {
  link = a.link;
  seats = seats_since x.seats y.seats p.own p.table.grace_ms since early y.wire.moment s le a.seats;
  held = a.held;
  cause = a.cause;
}

-- only the client's link went on
pub goes_link : (w v : WireView) (x y : LinkView) (s : Seats) (p : Spot) (since : ℕ) (next : Option Ended) → LinkLater x y → EndCause x y false next
    → Goes (stand w x s) (stand v y s) p since false next
goes_link w v x y s p since next link cause = record {
  link = link;
  seats = seats_same s p.own p.table.grace_ms since v.moment;
  held = refl;
  cause = end_behind x y y false s.gate.view.seen_shut next (link_same y) (λ e. absurd (let bad : false ≡ true = e in cc)) cause;
}

-- a worker that lends the same serves from the same spot
pub spot_same : {C : Type 0} (link : C → LinkView) (client : Client C) (old new : Shared) → IsSameShared old new → spot_of link client new ≡ spot_of link client old
spot_same link client old new same =
    ap (λ (n : ℕ). record { client = (link client.conn).number; peer = client.peer; table = client.table.now; own = n; number = client.requests }) same.ctx_node

pub timed_spot : {C : Type 0} (link : C → LinkView) (old new : Client C) (before after : Shared) (node moment : ℕ) → IsTimedClient old new node moment
    → (link new.conn).number ≡ (link old.conn).number → IsSameShared before after → spot_of link new after ≡ spot_of link old before
timed_spot link old new before after node moment t number same =
    λ i. record { client = number i; peer = t.peer i; table = (t.table i).now; own = same.ctx_node i; number = t.requests i }

-- ---- the seat at the gate

-- its word was read, and what it holds may have changed
pub seats_read : (f g : gate.SeatState) (w : ctx.SeatState) (at : Option ℕ) (own grace since moment n : ℕ) (held : Bool) → g ≡ with_view f (record (has_read n f.view) { held = held })
    → SeatsGo (seats f w at) (seats g w at) own grace since moment false
seats_read f g w at own grace since moment n held is = record {
  name = ap (λ (x : gate.SeatState). x.name) is;
  room = ap (λ (x : gate.SeatState). x.view.room) is;
  shut = λ e. inl (sym (ap (λ (x : gate.SeatState). x.view.shut) is) ∙ e);
  seen_shut = λ e. ap (λ (x : gate.SeatState). x.view.seen_shut) is ∙ either_left f.view.seen_shut (nat_le shut_bit n) e;
  told = λ e. absurd (let bad : false ≡ true = e in cc);
  noted = inl refl;
  table = refl;
  places = refl;
  base = record { more = []; cancels = sym (append-nil w.view.cancels); base = All-nil (λ (set : ℕ × Cause). set ≡ (0, Canceled)); past = inl refl };
  found = omega arith;
}

-- the gate was shut by it, or before
pub seats_shut : (f g : gate.SeatState) (w : ctx.SeatState) (at : Option ℕ) (own grace since moment : ℕ) (answer : ShutAnswer) → ShutBy f g answer → g.view.seen_shut ≡ true
    → SeatsGo (seats f w at) (seats g w at) own grace since moment true
seats_shut f g w at own grace since moment shut.First by seen = record {
  name = ap (λ (x : gate.SeatState). x.name) by.1;
  room = ap (λ (x : gate.SeatState). x.view.room) by.1;
  shut = λ e. inr refl;
  seen_shut = λ e. seen;
  told = λ e. seen;
  noted = inl refl;
  table = refl;
  places = refl;
  base = record { more = []; cancels = sym (append-nil w.view.cancels); base = All-nil (λ (set : ℕ × Cause). set ≡ (0, Canceled)); past = inl refl };
  found = omega arith;
}
seats_shut f g w at own grace since moment shut.Already by seen = record {
  name = ap (λ (x : gate.SeatState). x.name) by.1;
  room = ap (λ (x : gate.SeatState). x.view.room) by.1;
  shut = λ e. inr refl;
  seen_shut = λ e. seen;
  told = λ e. seen;
  noted = inl refl;
  table = refl;
  places = refl;
  base = record { more = []; cancels = sym (append-nil w.view.cancels); base = All-nil (λ (set : ℕ × Cause). set ≡ (0, Canceled)); past = inl refl };
  found = omega arith;
}

pub held_shut : (f g : gate.SeatState) (answer : ShutAnswer) → ShutBy f g answer → g.view.held ≡ f.view.held
held_shut f g shut.First by = ap (λ (x : gate.SeatState). x.view.held) by.1
held_shut f g shut.Already by = ap (λ (x : gate.SeatState). x.view.held) by.1

pub or_false : (a : Bool) → (a || false) ≡ a
or_false true = refl
or_false false = refl

pub or_assoc : (a b c : Bool) → ((a || b) || c) ≡ (a || (b || c))
or_assoc true b c = refl
or_assoc false b c = refl

-- what is done between an `enter` and its `leave`
pub goes_inside : (x y : WireView) (from to : LinkView) (a b c d : Seats) (p : Spot) (since : ℕ) (s : Bool) (next : Option Ended) → x.moment ≤ y.moment
    → SeatsGo a b p.own p.table.grace_ms since x.moment false → Goes (stand x from b) (stand y to c) p since s next → SeatsGo c d p.own p.table.grace_ms since y.moment false
    → d.gate.view.held ≡ a.gate.view.held → Goes (stand x from a) (stand y to d) p since s next
goes_inside x y from to a b c d p since s next le enters g leaves held =
    let own = p.own in
    let grace = p.table.grace_ms in
    record {
      link = g.link;
      seats = subst (λ (t : Bool). SeatsGo a d own grace since y.moment t) (or_false s)
          (seats_then a c d own grace since y.moment y.moment s false (omega arith) (seats_then a b c own grace since x.moment y.moment false s le enters g.seats) leaves);
      held = held;
      cause = end_behind from to to c.gate.view.seen_shut d.gate.view.seen_shut next (link_same to) leaves.seen_shut g.cause;
    }

-- a request's spot may have another number
pub goes_from : (x y : Stand) (p q : Spot) (since : ℕ) (s : Bool) (next : Option Ended) → p.own ≡ q.own → p.table.grace_ms ≡ q.table.grace_ms → Goes x y p since s next → Goes x y q since s next
goes_from x y p q since s next own grace g = record {
  link = g.link;
  seats = subst (λ (n : ℕ). SeatsGo x.seats y.seats q.own n since y.wire.moment s) grace (subst (λ (n : ℕ). SeatsGo x.seats y.seats n p.table.grace_ms since y.wire.moment s) own g.seats);
  held = g.held;
  cause = g.cause;
}

-- nothing is done, and the session ends for want of memory
pub goes_ending : (x : Stand) (p : Spot) (since : ℕ) → Goes x x p since false (Some ended.NoMemory)
goes_ending x p since = record { link = link_same x.client; seats = seats_same x.seats p.own p.table.grace_ms since x.wire.moment; held = refl; cause = tt }
