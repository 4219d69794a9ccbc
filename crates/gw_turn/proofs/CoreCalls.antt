-- The calls of a pass that has the turn, by those of the pool below.
use Rattle.std.proofs.Common.{◌≡◌, ℕ, ◌<◌, ◌==◌, ◌||◌, inl, inr, Bool, true, false, List, [], ◌∷◌, ◌++◌, length, drop, Some, None, refl, ap, sym, ◌∙◌, arith, cond, subst, eq-eqb}
use Rattle.std.proofs.lemmas.List.Elements.{All-push}
use Rattle.gw_wire.specs.Link.{LinkView}
use Rattle.gw_pool.specs.declared.entry.Entry.{Entry}
use Rattle.gw_pool.specs.declared.entry.Call.{Call}
use Rattle.gw_pool.specs.declared.entry.Call.TheVariants as call
use Rattle.gw_pool.specs.declared.holding.Holding.{Holding}
use Rattle.gw_pool.specs.declared.rows.ConnRow.{ConnRow}
use Rattle.gw_pool.specs.declared.leases.Ticket.{Ticket}
use Rattle.gw_pool.specs.State.{State}
use Rattle.gw_pool.specs.Machine.{Outcome, want_step}
use Rattle.gw_pool.specs.History.{IsLegal, AreBelow, mine, refuses}
use Rattle.gw_pool.specs.Shelf.{is_among}
use Rattle.gw_pool.specs.Tokens.{ticket_of}
use Rattle.gw_pool.specs.Core.{CoreView, Enters, Started, Done, DonePut, CancelDone, IsBack, IsOut, IdleTaken as CoreIdle, IdleNot as CoreNot, IdleDone, state_at, WantMade as CoreMade, WantExpired as CoreExpired, AskTaken as CoreTaken, NotStarted}
use Rattle.gw_pool.specs.Lent as lent
use Rattle.gw_pool.specs.Lent.{Lent, Meets, Calls, Looks, Leaves, LeaseOf, row_of, entry_of}
use Rattle.gw_pool.proofs.Histories.{entered_state}
use Rattle.gw_pool.proofs.Numbers.{Numbers, legal_numbers}
use Rattle.gw_pool.proofs.Inverts.{want_was}
use Rattle.gw_pool.proofs.SoloCalls.{gone_some}
use Rattle.gw_pool.proofs.TieWant.{made_want}
use Rattle.gw_pool.specs.Owner.{made_by, made_by_reply, made_in, owner, owners_after, IsOwned}
use Rattle.gw_turn.specs.Tie.{Ties, Moves}
use Rattle.gw_turn.proofs.Callers.{units_named}
use Rattle.gw_pool.proofs.Mades.{made_last, made_is, mine_push, mine_one}
use Rattle.std.proofs.lemmas.List.Folds.{list_any-append}
use Rattle.std.proofs.Math.Seq.{drop-append_seam}
use Rattle.gw_turn.specs.Meeting.{Meeting, Entering, Leaving, known}
use Rattle.gw_pool.proofs.RowSteps.{MakesOr, makes_or}
use Rattle.gw_pool.proofs.Owners.{owner_push, owners_none, owners_new, owners_old, legal_owned}
use Rattle.gw_turn.proofs.Moving.{move_same, move_expired, move_made}

-- a call that makes an entry
at_outcome : (core core' : CoreView) (caller : ℕ) (asked : Call) (outcome : Outcome) → Enters core core' caller asked outcome → state_at core' ≡ outcome.state
at_outcome core core' caller asked outcome e = rw (e.limits, e.journal) (entered_state core.limits core.journal caller asked outcome e.fits)

pub entering : (number : ℕ) (core core' : CoreView) (asked : Call) (outcome : Outcome) (out out' : List Holding) → Enters core core' number asked outcome
    → Moves (owner core.journal) (owners_after (owner core.journal) (entry_of number asked outcome.reply)) number (state_at core) outcome.state core.taken core'.taken out out'
    → Entering number core core' out out'
entering number core core' asked outcome out out' e m = record {
  entry = entry_of number asked outcome.reply;
  caller = refl;
  limits = e.limits;
  journal = e.journal;
  legal = e.legal;
  leads = subst (λ t. Moves (owner core.journal) (owner core'.journal) number (state_at core) t core.taken core'.taken out out') (sym (at_outcome core core' number asked outcome e))
      (subst (λ by. Moves (owner core.journal) by number (state_at core) outcome.state core.taken core'.taken out out') (sym (ap owner e.journal ∙ owner_push core.journal (entry_of number asked outcome.reply))) m);
}

callers_push : (l : Lent) (core core' : CoreView) (asked : Call) (outcome : Outcome) → Meeting l core → Enters core core' l.number asked outcome → AreBelow core.limits.passes core'.journal
callers_push l core core' asked outcome m e = rw e.journal (All-push (λ entry. entry.caller < core.limits.passes) core.journal (entry_of l.number asked outcome.reply) m.callers m.below)

among_more : (w : ℕ) (xs ys : List ℕ) → is_among w xs ≡ true → is_among w (xs ++ ys) ≡ true
among_more w xs ys e = list_any-append (λ v. v == w) xs ys ∙ ap (λ b. b || is_among w ys) e

-- what stays in each call
stays : (l : Lent) (core core' : CoreView) (out : List Holding) (waits : ℕ) (m : Meeting l core) → core'.limits ≡ core.limits → IsLegal core'.limits core'.journal → AreBelow core'.limits.passes core'.journal → Ties (owner core'.journal) l.number (state_at core') out core'.taken → Meets l (known l core' out waits) m.others
stays l core core' out waits m same legal callers ties =
    let limits : l.limits ≡ core'.limits = m.same_limits ∙ sym same in
    record {
      limits = refl;
      few = m.few;
      number = refl;
      foreign = m.foreign;
      legal = rw limits legal;
      callers = rw limits callers;
      own = refl;
      named = λ v u e. units_named (owner core'.journal) l.number (state_at core') out core'.taken v (legal_owned core'.limits core'.journal legal) ties (rw limits at u) e;
      fresh = λ v e. among_more v l.fresh (made_in (drop (length l.mine) (mine core'.journal l.number))) e;
      ended = refl;
    }

pub calls : (l : Lent) (core core' : CoreView) (asked : Call) (outcome : Outcome) (out : List Holding) (waits : ℕ) (m : Meeting l core) → Enters core core' l.number asked outcome → Entering l.number core core' l.out out → Calls l (known l core' out waits) m.others asked outcome
calls l core core' asked outcome out waits m e k = record {
  meets = stays l core core' out waits m k.limits k.legal (rw e.limits (callers_push l core core' asked outcome m e)) k.leads.own;
  fits = rw (m.same_limits, m.since) e.fits;
  state = rw (m.same_limits, e.journal) (entered_state core.limits core.journal l.number asked outcome e.fits);
  seen = rw m.since e.journal;
  mine = ap (λ h. mine h l.number) e.journal ∙ mine_push core.journal (entry_of l.number asked outcome.reply) l.number ∙ rw (m.own, mine_one (entry_of l.number asked outcome.reply) l.number refl) refl;
}

pub looks : (l : Lent) (core core' : CoreView) (out : List Holding) (waits : ℕ) (m : Meeting l core) → Leaving l.number core core' l.out out → Looks l (known l core' out waits) m.others
looks l core core' out waits m k = record {
  meets = stays l core core' out waits m k.limits (rw (k.limits, k.journal) m.legal) (rw (k.limits, k.journal) m.callers) k.leads.own;
  seen = rw m.since k.journal;
  mine = ap (λ h. mine h l.number) k.journal ∙ m.own;
}

-- the state stays
pub leaving : (l : Lent) (core core' : CoreView) (out' : List Holding) → core'.limits ≡ core.limits → core'.journal ≡ core.journal
    → Moves (owner core.journal) (owner core.journal) l.number (state_at core) (state_at core) core.taken core'.taken l.out out' → Leaving l.number core core' l.out out'
leaving l core core' out' a b m = record { limits = a; journal = b; leads = rw (a, b) m }

pub leaving_same : (l : Lent) (core core' : CoreView) → Meeting l core → core' ≡ core → Leaving l.number core core' l.out l.out
leaving_same l core core' m e = rw e (leaving l core core l.out refl refl (move_same (owner core.journal) l.number (state_at core) l.out core.taken m.ties))

pub numbers : (l : Lent) (core : CoreView) → Meeting l core → Numbers (state_at core)
numbers l core m = legal_numbers core.limits core.journal m.legal

pub owned : (l : Lent) (core : CoreView) → Meeting l core → IsOwned (owner core.journal) (state_at core)
owned l core m = legal_owned core.limits core.journal m.legal

-- want
or_last : (a b : Bool) → b ≡ true → (a || b) ≡ true
or_last true b e = refl
or_last false b e = e

made_owner : (l : Lent) (core : CoreView) (host now v : ℕ) → MakesOr (state_at core) (want_step core.limits (state_at core) l.number host now) → Rattle.gw_pool.specs.Core.IsMade v (want_step core.limits (state_at core) l.number host now).reply
    → made_by_reply (want_step core.limits (state_at core) l.number host now).reply ≡ Some (state_at core).next_want
made_owner l core host now v (inl none) m = absurd (omega (arith, none.1, (made_want core.limits (state_at core) l.number host now v m).1))
made_owner l core host now v (inr some) m = some.0

pub enter_made : (l : Lent) (core core' : CoreView) (host now v : ℕ) → Meeting l core → CoreMade core core' l.number host now v → Entering l.number core core' l.out (l.out ++ ticket_of v ∷ [])
enter_made l core core' host now v m d =
    let s = state_at core in
    let same = want_was core.limits s l.number host now d.outcome d.enters.fits in
    let made : Rattle.gw_pool.specs.Core.IsMade v (want_step core.limits s l.number host now).reply = rw same at d.is_made in
    let e : Entry = entry_of l.number (call.Want host now) d.outcome.reply in
    let new : made_by e.call e.reply ≡ Some s.next_want = ap (λ (o : Outcome). made_by_reply o.reply) same ∙ made_owner l core host now v (makes_or core.limits s l.number host now) made in
    entering l.number core core' (call.Want host now) d.outcome l.out (l.out ++ ticket_of v ∷ []) d.enters
    (subst (λ (o : Outcome). Moves (owner core.journal) (owners_after (owner core.journal) e) l.number s o.state core.taken core'.taken l.out (l.out ++ ticket_of v ∷ [])) (sym same)
    (move_made (owner core.journal) (owners_after (owner core.journal) e) l.number core.limits s l.out core.taken core'.taken host now v (numbers l core m) m.fresh m.ties (owners_new (owner core.journal) e s.next_want new) (λ u ne. owners_old (owner core.journal) e s.next_want u new ne) made d.enters.taken))

gone_none : (core : CoreView) (number host now : ℕ) (r : ConnRow) → MakesOr (state_at core) (want_step core.limits (state_at core) number host now) → (want_step core.limits (state_at core) number host now).gone ≡ Some r
    → made_by_reply (want_step core.limits (state_at core) number host now).reply ≡ None
gone_none core number host now r (inl none) g = none.0
gone_none core number host now r (inr some) g = absurd (omega (arith, some.1, Rattle.gw_pool.proofs.TieWant.gone_want core.limits (state_at core) number host now r g))

pub owners_same : (by by' : ℕ → ℕ) (c : ℕ) (s t : State) (taken taken' : List ℕ) (out out' : List Holding) → ((w : ℕ) → by' w ≡ by w) → Moves by by c s t taken taken' out out' → Moves by by' c s t taken taken' out out'
owners_same by by' c s t taken taken' out out' e m = record {
  own = record {
    own = λ w n. m.own.own w (λ h. n (e w ∙ h));
    made = m.own.made;
    once = m.own.once;
    held = λ w h. m.own.held w (sym (e w) ∙ h);
    dials = λ w h. m.own.dials w (sym (e w) ∙ h);
    untaken = m.own.untaken;
  };
  others = record {
    kept = λ w l. e w;
    same = λ w n. e w;
    more = m.others.more;
    occ = λ w n. m.others.occ w (λ h. n (e w ∙ h));
    dials = λ w n. m.others.dials w (λ h. n (e w ∙ h));
    lent = λ w n. m.others.lent w (λ h. n (e w ∙ h));
  };
  fresh = m.fresh;
}

pub enter_expired : {C : Type 0} (link : C → LinkView) (l : Lent) (core core' : CoreView) (host now : ℕ) (conn : C) → Meeting l core → CoreExpired link core core' l.number host now conn → Entering l.number core core' l.out l.out
enter_expired link l core core' host now conn m d =
    let s = state_at core in
    let same = want_was core.limits s l.number host now d.outcome d.enters.fits in
    let gone = gone_some link conn d.outcome.gone d.close in
    let gone' : (want_step core.limits s l.number host now).gone ≡ Some gone.0 = sym (ap (λ (o : Outcome). o.gone) same) ∙ gone.1 in
    let e : Entry = entry_of l.number (call.Want host now) d.outcome.reply in
    let none : made_by e.call e.reply ≡ None = ap (λ (o : Outcome). made_by_reply o.reply) same ∙ gone_none core l.number host now gone.0 (makes_or core.limits s l.number host now) gone' in
    entering l.number core core' (call.Want host now) d.outcome l.out l.out d.enters
    (owners_same (owner core.journal) (owners_after (owner core.journal) e) l.number s d.outcome.state core.taken core'.taken l.out l.out (λ w. owners_none (owner core.journal) e w none)
    (rw same (move_expired (owner core.journal) l.number core.limits s l.out core.taken core'.taken host now gone.0 m.ties gone' d.enters.taken)))

-- the want is among those that the caller made since
made_fresh : (l : Lent) (core core' : CoreView) (host now v w : ℕ) → Meeting l core → (d : CoreMade core core' l.number host now v) → lent.IsMade w d.outcome.reply → is_among w (l.fresh ++ made_in (drop (length l.mine) (mine core'.journal l.number))) ≡ true
made_fresh l core core' host now v w m d made =
    let e : Entry = entry_of l.number (call.Want host now) d.outcome.reply in
    let own : mine core'.journal l.number ≡ l.mine ++ e ∷ [] = ap (λ h. mine h l.number) d.enters.journal ∙ mine_push core.journal e l.number ∙ rw (m.own, mine_one e l.number refl) refl in
    let new : drop (length l.mine) (mine core'.journal l.number) ≡ e ∷ [] = ap (λ h. drop (length l.mine) h) own ∙ drop-append_seam l.mine (e ∷ []) in
    rw new (list_any-append (λ u. u == w) l.fresh (made_in (e ∷ [])) ∙ or_last (is_among w l.fresh) (is_among w (made_in (e ∷ []))) (made_last [] e w (made_is w d.outcome.reply made)))

pub want_made : (l : Lent) (core core' : CoreView) (host now v : ℕ) (ticket : Ticket) (waits : ℕ) → Meeting l core → CoreMade core core' l.number host now v → ticket.want ≡ v → ticket.host ≡ host → lent.WantMade l (known l core' (l.out ++ ticket_of v ∷ []) l.waits) host now ticket
want_made l core core' host now v ticket waits m d a b = record {
  others = m.others;
  outcome = d.outcome;
  calls = calls l core core' (call.Want host now) d.outcome (l.out ++ ticket_of v ∷ []) l.waits m d.enters (enter_made l core core' host now v m d);
  room = rw (m.same_limits, m.since) d.has_room;
  made = rw a d.is_made;
  names = b;
  fresh = made_fresh l core core' host now v ticket.want m d (rw a d.is_made);
  leaves = record { out = rw a refl; waits = refl; audit_failed = refl };
}

pub want_expired : {C : Type 0} (link : C → LinkView) (l : Lent) (core core' : CoreView) (host now : ℕ) (conn : C) → Meeting l core → CoreExpired link core core' l.number host now conn → lent.WantExpired link l (known l core' l.out l.waits) host now conn
want_expired link l core core' host now conn m d = record {
  others = m.others;
  outcome = d.outcome;
  calls = calls l core core' (call.Want host now) d.outcome l.out l.waits m d.enters (enter_expired link l core core' host now conn m d);
  room = rw (m.same_limits, m.since) d.has_room;
  close = d.close;
  leaves = record { out = refl; waits = refl; audit_failed = refl };
}

pub want_full : (l : Lent) (core core' : CoreView) → Meeting l core → core' ≡ core → refuses core.limits core.journal ≡ true → lent.WantFull l (known l core' l.out l.waits)
want_full l core core' m e f = record {
  others = m.others;
  looks = looks l core core' l.out l.waits m (leaving_same l core core' m e);
  full = rw (m.same_limits, e) f;
  leaves = record { out = refl; waits = refl; audit_failed = refl };
}
