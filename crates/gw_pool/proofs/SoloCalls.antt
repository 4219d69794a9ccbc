-- The calls of a pool with one caller, by those of the pool below.
use Rattle.std.proofs.Common.{◌≡◌, ℕ, ◌<◌, ◌≤◌, ◌⊎◌, inl, inr, Bool, true, false, List, [], ◌∷◌, ◌++◌, Option, Some, None, refl, ap, sym, ◌∙◌, arith, cond, subst, append-nil}
use Rattle.std.specs.List.{find}
use Rattle.std.specs.Option.{IsSome}
use Rattle.std.proofs.lemmas.List.Elements.{All-push, All-nil}
use Rattle.std.proofs.lemmas.List.Sums.{sum_by-cons}
use Rattle.gw_wire.specs.Link.{LinkView}
use Rattle.gw_pool.specs.declared.limits.Limits.{Limits}
use Rattle.gw_pool.specs.declared.entry.Entry.{Entry}
use Rattle.gw_pool.specs.declared.entry.Call.{Call}
use Rattle.gw_pool.specs.declared.entry.Call.TheVariants as call
use Rattle.gw_pool.specs.declared.holding.Holding.{Holding}
use Rattle.gw_pool.specs.declared.rows.Stage.{Stage}
use Rattle.gw_pool.specs.declared.rows.Stage.TheVariants.{Waiting, Granted, Dialing}
use Rattle.gw_pool.specs.declared.rows.Place.{Place}
use Rattle.gw_pool.specs.declared.rows.Place.TheVariants.{Out, Idle}
use Rattle.gw_pool.specs.declared.rows.WantRow.{WantRow}
use Rattle.gw_pool.specs.declared.rows.ConnRow.{ConnRow}
use Rattle.gw_pool.specs.declared.rows.DialRow.{DialRow}
use Rattle.gw_pool.specs.declared.leases.Ticket.{Ticket}
use Rattle.gw_pool.specs.declared.leases.Put.{Put}
use Rattle.gw_pool.specs.Closes.{IsOf}
use Rattle.gw_pool.specs.State.{State, empty, wants_it, dials_for, has_number, is_with}
use Rattle.gw_pool.specs.Machine.{Outcome, step, want_step, Standing, Served, MayDial, NotServed, NotComing, standing, stands_as, stage_standing}
use Rattle.gw_pool.specs.History.{IsLegal, AreBelow, after, mine, refuses}
use Rattle.gw_pool.specs.Shelf.{is_among, LeavesTaken}
use Rattle.gw_pool.specs.Tokens.{TokensView, change, ticket_of, has_ticket, has_dial, has_lease, with_dial, without_dial, without_ticket, leased, without_lease}
use Rattle.gw_pool.specs.Core.{CoreView, Enters, Started, Done, DonePut, CancelDone, IsBack, IdleTaken as CoreIdle, IdleNot as CoreNot, IdleDone, state_at, WantMade as CoreMade, WantExpired as CoreExpired, AskTaken as CoreTaken}
use Rattle.gw_pool.specs.Lent as lent
use Rattle.gw_pool.specs.Lent.{Lent, Meets, Calls, Looks, Leaves}
use Rattle.gw_pool.specs.Owner.{made_in}
use Rattle.gw_pool.specs.Ties.{Tied, SoloHolds, Owns, OutBy, dials_of, one, bit, Weigh, weight, occ_of, dia_of, con_of}
use Rattle.gw_pool.proofs.Edits.{found_passes}
use Rattle.gw_pool.proofs.Shelves.{out_at}
use Rattle.gw_pool.proofs.Histories.{entered_state}
use Rattle.gw_pool.proofs.Owns.{found_among}
use Rattle.gw_pool.proofs.Inverts.{want_was, start_was, dialed_was, failed_was, cancel_was, back_was, drop_was, IdleWas, CancelRowWas, CancelConnWas}
use Rattle.gw_pool.proofs.TieCalls.{tie_start, tie_dialed, tie_failed, tie_lease, tie_none, tie_cancel, tie_cancel_conn, tie_back, tie_drop, tie_idle, leased_has}
use Rattle.gw_pool.proofs.TieWant.{tie_made, tie_expired, with_number, units_named}
use Rattle.gw_pool.proofs.Mades.{made_more, made_last, made_is, mine_push, mine_one}

abbrev pub lent_of : CoreView → TokensView → ℕ → Lent
lent_of core tokens waits = record { limits = core.limits; number = 0; seen = core.journal; mine = core.journal; out = tokens.out; waits = waits; fresh = made_in core.journal; audit_failed = 0; ended = false }

ap2_entry : (journal : List Entry) (e : Entry) → e.caller ≡ 0 → mine journal 0 ≡ journal → mine journal 0 ++ mine (e ∷ []) 0 ≡ journal ++ e ∷ []
ap2_entry journal e z own = ap (λ xs. xs ++ mine (e ∷ []) 0) own ∙ ap (λ xs. journal ++ xs) (mine_one e 0 z)

-- an entry more is of a caller of the pool
callers_push : (core core' : CoreView) (t : TokensView) (caller : ℕ) (asked : Call) (outcome : Outcome) → SoloHolds core t → caller ≡ 0 → Enters core core' caller asked outcome → AreBelow core'.limits.passes core'.journal
callers_push core core' t caller asked outcome h z e =
    rw (e.limits, e.journal) (All-push (λ entry. entry.caller < core.limits.passes) core.journal (lent.entry_of caller asked outcome.reply) h.callers (rw z h.passes))

-- what stays in each call
met : (core core' : CoreView) (t t' : TokensView) (w w' : ℕ) → core'.limits ≡ core.limits → ((v : ℕ) → is_among v (made_in core.journal) ≡ true → is_among v (made_in core'.journal) ≡ true) → SoloHolds core' t' → Meets (lent_of core t w) (lent_of core' t' w') []
met core core' t t' w w' l f h = record {
  limits = l;
  few = h.few;
  number = refl;
  foreign = refl;
  legal = h.legal;
  callers = h.callers;
  own = h.mine;
  named = λ v m e. units_named (state_at core') t'.out core'.taken v h.tied m e;
  fresh = f;
  ended = refl;
}

-- an entry is the caller's, and nobody else made one
pub calls : (core core' : CoreView) (t t' : TokensView) (w w' : ℕ) (asked : Call) (outcome : Outcome) → SoloHolds core' t' → Enters core core' 0 asked outcome → Calls (lent_of core t w) (lent_of core' t' w') [] asked outcome
calls core core' t t' w w' asked outcome h e = record {
  meets = met core core' t t' w w' e.limits (λ v k. rw e.journal (made_more core.journal (lent.entry_of 0 asked outcome.reply ∷ []) v k)) h;
  fits = rw (append-nil core.journal) e.fits;
  state = rw e.journal (entered_state core.limits core.journal 0 asked outcome e.fits);
  seen = rw (append-nil core.journal) e.journal;
  mine = e.journal;
}

pub looks : (core core' : CoreView) (t t' : TokensView) (w w' : ℕ) → SoloHolds core' t' → core'.limits ≡ core.limits → core'.journal ≡ core.journal → Looks (lent_of core t w) (lent_of core' t' w') []
looks core core' t t' w w' h a b = record {
  meets = met core core' t t' w w' a (λ v k. rw b k) h;
  seen = rw (append-nil core.journal) b;
  mine = b;
}

-- the state after an entry
at_outcome : (core core' : CoreView) (caller : ℕ) (asked : Call) (outcome : Outcome) → Enters core core' caller asked outcome → state_at core' ≡ outcome.state
at_outcome core core' caller asked outcome e = rw (e.limits, e.journal) (entered_state core.limits core.journal caller asked outcome e.fits)

tied_after : (core core' : CoreView) (caller : ℕ) (asked : Call) (outcome : Outcome) (out : List Holding) (taken : List ℕ) → Enters core core' caller asked outcome → Tied outcome.state out taken → Tied (state_at core') out taken
tied_after core core' caller asked outcome out taken e k = rw (at_outcome core core' caller asked outcome e) k

holds_after : (core core' : CoreView) (t t' : TokensView) (caller : ℕ) (asked : Call) (outcome : Outcome) (out : List Holding) → SoloHolds core t → caller ≡ 0 → Enters core core' caller asked outcome → t'.room ≡ t.room → t'.out ≡ out → Tied outcome.state out core'.taken → SoloHolds core' t'
holds_after core core' t t' caller asked outcome out h z e r o k = record {
  tied = rw o (tied_after core core' caller asked outcome out core'.taken e k);
  legal = e.legal;
  passes = rw e.limits h.passes;
  callers = callers_push core core' t caller asked outcome h z e;
  few = rw e.limits h.few;
  mine = rw e.journal (mine_push core.journal (lent.entry_of caller asked outcome.reply) 0 ∙ ap2_entry core.journal (lent.entry_of caller asked outcome.reply) z h.mine);
  room = rw (e.limits, r) h.room;
}

holds_here : (core core' : CoreView) (t t' : TokensView) (out : List Holding) → SoloHolds core t → core'.limits ≡ core.limits → core'.journal ≡ core.journal → t'.room ≡ t.room → t'.out ≡ out → Tied (state_at core) out core'.taken → SoloHolds core' t'
holds_here core core' t t' out h a b r o k = record {
  tied = rw (a, b, o) k;
  legal = rw (a, b) h.legal;
  passes = rw a h.passes;
  callers = rw (a, b) h.callers;
  few = rw a h.few;
  mine = rw b h.mine;
  room = rw (a, r) h.room;
}

-- want
pub holds_made : (core core' : CoreView) (t t' : TokensView) (host now v : ℕ) → SoloHolds core t → CoreMade core core' 0 host now v → t'.out ≡ t.out ++ ticket_of v ∷ [] → t'.room ≡ t.room → SoloHolds core' t'
holds_made core core' t t' host now v h m o r =
    let same = want_was core.limits (state_at core) 0 host now m.outcome m.enters.fits in
    holds_after core core' t t' 0 (call.Want host now) m.outcome (t.out ++ ticket_of v ∷ []) h refl m.enters r o
    (rw same (tie_made core.limits (state_at core) t.out core.taken core'.taken host now v h.tied (rw same at m.is_made) m.enters.taken))

pub gone_some : {C : Type 0} (link : C → LinkView) (conn : C) (o : Option ConnRow) → IsOf link conn o → (r : ConnRow) × (o ≡ Some r)
gone_some link conn None i = absurd i
gone_some link conn (Some r) i = (r, refl)

pub holds_expired : {C : Type 0} (link : C → LinkView) (core core' : CoreView) (t : TokensView) (host now : ℕ) (conn : C) → SoloHolds core t → CoreExpired link core core' 0 host now conn → SoloHolds core' t
holds_expired link core core' t host now conn h m =
    let same = want_was core.limits (state_at core) 0 host now m.outcome m.enters.fits in
    let gone = gone_some link conn m.outcome.gone m.close in
    let gone' : (want_step core.limits (state_at core) 0 host now).gone ≡ Some gone.0 = sym (ap (λ (o : Outcome). o.gone) same) ∙ gone.1 in
    holds_after core core' t t 0 (call.Want host now) m.outcome t.out h refl m.enters refl refl
    (rw same (tie_expired core.limits (state_at core) t.out core.taken core'.taken host now gone.0 h.tied gone' m.enters.taken))

-- start
start_zero : (core core' : CoreView) (t : TokensView) (w : ℕ) → SoloHolds core t → (s : Started core core' w) → s.caller ≡ 0
start_zero core core' t w h s =
    let was = start_was core.limits (state_at core) s.caller w s.outcome s.enters.fits in
    sym was.by ∙ h.tied.own.wants was.row (found_among (wants_it w) was.row (state_at core).wants was.found)

pub start_enters : (core core' : CoreView) (t : TokensView) (w : ℕ) → SoloHolds core t → (s : Started core core' w) → Enters core core' 0 (call.Start w) s.outcome
start_enters core core' t w h s = let P : ℕ → Type 0 = λ n. Enters core core' n (call.Start w) s.outcome in subst P (start_zero core core' t w h s) s.enters

pub holds_start : (core core' : CoreView) (t t' : TokensView) (w : ℕ) → SoloHolds core t → Started core core' w → has_ticket w t.out ≡ true → t'.out ≡ change w with_dial t.out → t'.room ≡ t.room → SoloHolds core' t'
holds_start core core' t t' w h s k o r =
    let was = start_was core.limits (state_at core) s.caller w s.outcome s.enters.fits in
    let same = was.same in
    holds_after core core' t t' s.caller (call.Start w) s.outcome (change w with_dial t.out) h (start_zero core core' t w h s) s.enters r o
    (rw same (tie_start (state_at core) t.out core.taken core'.taken w was.row h.tied was.found was.granted k s.enters.taken))

-- dialed and failed
none_dials_by : (w : ℕ) (x : DialRow) (xs : List DialRow) (b : Bool) → dials_for w x ≡ b → cond b (Some x) (find (dials_for w) xs) ≡ None → (find (dials_for w) xs ≡ None → dials_of w xs ≡ 0) → dials_of w (x ∷ xs) ≡ 0
none_dials_by w x xs true p e k = absurd (cc)
none_dials_by w x xs false p e k = let here : one w x.want ≡ 0 = (rw p) in omega (arith, sum_by-cons (λ (r : DialRow). one w r.want) x xs, here, k e)

none_dials : (w : ℕ) (xs : List DialRow) → find (dials_for w) xs ≡ None → dials_of w xs ≡ 0
none_dials w [] e = refl
none_dials w (x ∷ xs) e = none_dials_by w x xs (dials_for w x) refl e (none_dials w xs)

pub some_dial : (w : ℕ) (xs : List DialRow) (o : Option DialRow) → find (dials_for w) xs ≡ o → dials_of w xs ≡ 1 → IsSome o
some_dial w xs None f e = absurd (omega (arith, none_dials w xs f, e))
some_dial w xs (Some r) f e = refl

pub has_dial_row : (core : CoreView) (t : TokensView) (w : ℕ) → SoloHolds core t → has_dial w t.out ≡ true → IsSome (find (dials_for w) (state_at core).dials)
has_dial_row core t w h k = some_dial w (state_at core).dials (find (dials_for w) (state_at core).dials) refl (h.tied.dials w ∙ ap bit k)

failed_zero : (core core' : CoreView) (t : TokensView) (w : ℕ) → SoloHolds core t → (s : Done core core' (call.DialFailed w)) → s.caller ≡ 0
failed_zero core core' t w h s =
    let was = failed_was core.limits (state_at core) s.caller w s.outcome s.enters.fits in
    sym was.by ∙ h.tied.own.dials was.row (found_among (dials_for w) was.row (state_at core).dials was.found)

pub failed_enters : (core core' : CoreView) (t : TokensView) (w : ℕ) → SoloHolds core t → (s : Done core core' (call.DialFailed w)) → Enters core core' 0 (call.DialFailed w) s.outcome
failed_enters core core' t w h s = let P : ℕ → Type 0 = λ n. Enters core core' n (call.DialFailed w) s.outcome in subst P (failed_zero core core' t w h s) s.enters

pub holds_failed : (core core' : CoreView) (t t' : TokensView) (w : ℕ) → SoloHolds core t → Done core core' (call.DialFailed w) → has_dial w t.out ≡ true → t'.out ≡ change w without_dial t.out → t'.room ≡ t.room → SoloHolds core' t'
holds_failed core core' t t' w h s k o r =
    let was = failed_was core.limits (state_at core) s.caller w s.outcome s.enters.fits in
    let same = was.same in
    holds_after core core' t t' s.caller (call.DialFailed w) s.outcome (change w without_dial t.out) h (failed_zero core core' t w h s) s.enters r o
    (rw same (tie_failed core.limits (state_at core) t.out core.taken core'.taken w was.row h.tied was.found k s.enters.taken))

dialed_zero : {C : Type 0} (link : C → LinkView) (core core' : CoreView) (t : TokensView) (w number now : ℕ) (close : Option C) → SoloHolds core t → (s : DonePut link core core' (call.Dialed w number now) close) → s.caller ≡ 0
dialed_zero link core core' t w number now close h s =
    let was = dialed_was core.limits (state_at core) s.caller w number now s.outcome s.enters.fits in
    sym was.by ∙ h.tied.own.dials was.row (found_among (dials_for w) was.row (state_at core).dials was.found)

pub dialed_enters : {C : Type 0} (link : C → LinkView) (core core' : CoreView) (t : TokensView) (w number now : ℕ) (close : Option C) → SoloHolds core t → (s : DonePut link core core' (call.Dialed w number now) close) → Enters core core' 0 (call.Dialed w number now) s.outcome
dialed_enters link core core' t w number now close h s =
    let P : ℕ → Type 0 = λ n. Enters core core' n (call.Dialed w number now) s.outcome in subst P (dialed_zero link core core' t w number now close h s) s.enters

pub holds_dialed : {C : Type 0} (link : C → LinkView) (core core' : CoreView) (t t' : TokensView) (w number now : ℕ) (close : Option C) → SoloHolds core t → DonePut link core core' (call.Dialed w number now) close → has_dial w t.out ≡ true → t'.out ≡ change w without_dial t.out → t'.room ≡ t.room → SoloHolds core' t'
holds_dialed link core core' t t' w number now close h s k o r =
    let was = dialed_was core.limits (state_at core) s.caller w number now s.outcome s.enters.fits in
    let same = was.same in
    holds_after core core' t t' s.caller (call.Dialed w number now) s.outcome (change w without_dial t.out) h (dialed_zero link core core' t w number now close h s) s.enters r o
    (rw same (tie_dialed core.limits (state_at core) t.out core.taken core'.taken w number now was.row h.tied was.found k s.enters.taken))

-- ask
pub holds_taken : {C : Type 0} (link : C → LinkView) (core core' : CoreView) (t t' : TokensView) (w : ℕ) (conn : C) (n : ℕ) (reused : Bool) (host : ℕ) → SoloHolds core t → CoreTaken link core core' w conn n reused host → has_ticket w t.out ≡ true → t'.out ≡ change w leased t.out → t'.room ≡ t.room → SoloHolds core' t'
holds_taken link core core' t t' w conn n reused host h s k o r =
    holds_here core core' t t' (change w leased t.out) h s.limits s.journal r o
    (tie_lease (state_at core) t.out core.taken core'.taken w h.tied k s.taken)

stage_coming : (stage : Stage) → stage_standing stage ≡ NotComing → ⊥
stage_coming Waiting e = cc
stage_coming Granted e = cc
stage_coming Dialing e = cc

none_rows : (s : State) (w : ℕ) (c : Option ConnRow) (r : Option WantRow) → find (is_with w) s.conns ≡ c → find (wants_it w) s.wants ≡ r → stands_as c r ≡ NotComing → (find (wants_it w) s.wants ≡ None) × (find (is_with w) s.conns ≡ None)
none_rows s w (Some c) r a b e = absurd (cc)
none_rows s w None (Some r) a b e = absurd (stage_coming r.stage e)
none_rows s w None None a b e = (b, a)

pub not_coming_rows : (s : State) (w : ℕ) → standing s w ≡ NotComing → (find (wants_it w) s.wants ≡ None) × (find (is_with w) s.conns ≡ None)
unfolding standing
not_coming_rows s w e = none_rows s w (find (is_with w) s.conns) (find (wants_it w) s.wants) refl refl e

pub holds_none : (core core' : CoreView) (t t' : TokensView) (w : ℕ) → SoloHolds core t → core' ≡ core → standing (state_at core) w ≡ NotComing → has_ticket w t.out ≡ true → t'.out ≡ change w without_ticket t.out → t'.room ≡ t.room → SoloHolds core' t'
holds_none core core' t t' w h same st k o r =
    let none = not_coming_rows (state_at core) w st in
    rw same (holds_here core core t t' (change w without_ticket t.out) h refl refl r o
    (tie_none (state_at core) t.out core.taken core.taken w h.tied none.0 none.1 k (λ v u. u)))

stage_served : (stage : Stage) (row : ConnRow) → stage_standing stage ≡ Served row → ⊥
stage_served Waiting row e = cc
stage_served Granted row e = cc
stage_served Dialing row e = cc

served_by : (s : State) (w : ℕ) (row : ConnRow) (c : Option ConnRow) (r : Option WantRow) → find (is_with w) s.conns ≡ c → stands_as c r ≡ Served row → find (is_with w) s.conns ≡ Some row
served_by s w row (Some c) r a e = let same : c ≡ row = cc in a ∙ ap (λ x. Some x) same
served_by s w row None (Some r) a e = absurd (stage_served r.stage row e)
served_by s w row None None a e = absurd (cc)

pub served_row : (s : State) (w : ℕ) (row : ConnRow) → standing s w ≡ Served row → find (is_with w) s.conns ≡ Some row
unfolding standing
served_row s w row e = served_by s w row (find (is_with w) s.conns) (find (wants_it w) s.wants) refl e

out_zero : (place : Place) (w caller : ℕ) → place ≡ Out w caller → OutBy 0 place → place ≡ Out w 0
out_zero (Out v c) w caller e o = (let P : ℕ → Type 0 = λ n. Out v n ≡ Out w 0 in subst P (sym o) (let same : v ≡ w = cc in ap (λ n. Out n 0) same))
out_zero (Idle a b) w caller e o = absurd (cc)

pub row_is : (core : CoreView) (t : TokensView) (w : ℕ) (row : ConnRow) → SoloHolds core t → standing (state_at core) w ≡ Served row → row.place ≡ Out w 0
row_is core t w row h st =
    let f = served_row (state_at core) w row st in
    let out = out_at w row (found_passes (is_with w) (state_at core).conns row f) in
    out_zero row.place w out.0 out.1 (h.tied.own.conns row (found_among (is_with w) row (state_at core).conns f))

pub row_numbered : (core : CoreView) (t : TokensView) (w : ℕ) (row : ConnRow) → SoloHolds core t → standing (state_at core) w ≡ Served row → find (has_number row.conn) (state_at core).conns ≡ Some row
row_numbered core t w row h st = with_number (state_at core) t.out core.taken w row h.tied (served_row (state_at core) w row st)

-- drop
drop_zero : (core core' : CoreView) (n w : ℕ) (row : ConnRow) → find (has_number n) (state_at core).conns ≡ Some row → row.place ≡ Out w 0 → (s : Done core core' (call.Drop n)) → s.caller ≡ 0
drop_zero core core' n w row f p s =
    let was = drop_was core.limits (state_at core) s.caller n s.outcome s.enters.fits in
    let same : was.row ≡ row = (let both = sym was.found ∙ f in cc) in
    let place : Out was.place.0 s.caller ≡ Out w 0 = sym was.place.1 ∙ ap (λ (r : ConnRow). r.place) same ∙ p in
    cc

pub drop_enters : (core core' : CoreView) (n w : ℕ) (row : ConnRow) → find (has_number n) (state_at core).conns ≡ Some row → row.place ≡ Out w 0 → (s : Done core core' (call.Drop n)) → Enters core core' 0 (call.Drop n) s.outcome
drop_enters core core' n w row f p s = let P : ℕ → Type 0 = λ m. Enters core core' m (call.Drop n) s.outcome in subst P (drop_zero core core' n w row f p s) s.enters

pub holds_drop : (core core' : CoreView) (t t' : TokensView) (n w : ℕ) (row : ConnRow) → SoloHolds core t → find (has_number n) (state_at core).conns ≡ Some row → row.place ≡ Out w 0 → Done core core' (call.Drop n) → has_lease w t.out ≡ true → t'.out ≡ change w without_lease t.out → t'.room ≡ t.room → SoloHolds core' t'
holds_drop core core' t t' n w row h f p s k o r =
    let was = drop_was core.limits (state_at core) s.caller n s.outcome s.enters.fits in
    let found = was.found in
    let same = was.same in
    let rows : was.row ≡ row = (let both = sym was.found ∙ f in cc) in
    let place : was.row.place ≡ Out w 0 = ap (λ (x : ConnRow). x.place) rows ∙ p in
    holds_after core core' t t' s.caller (call.Drop n) s.outcome (change w without_lease t.out) h (drop_zero core core' n w row f p s) s.enters r o
    (rw same (tie_drop core.limits (state_at core) t.out core.taken core'.taken n w was.row h.tied found place k s.enters.taken))

-- give back
pub is_back : {C : Type 0} (link : C → LinkView) (conn : C) (o : Option ConnRow) (row : ConnRow) (w : ℕ) → o ≡ Some row → row.place ≡ Out w 0 → (link conn).number ≡ row.link → IsBack link conn o
is_back link conn None row w e p n = absurd (cc)
is_back link conn (Some r) row w e p n =
    let same : r ≡ row = cc in
    let place : r.place ≡ Out w 0 = ap (λ (x : ConnRow). x.place) same ∙ p in
    (rw place refl, n ∙ ap (λ (x : ConnRow). x.link) (sym same))

back_zero : {C : Type 0} (link : C → LinkView) (core core' : CoreView) (n now w : ℕ) (row : ConnRow) (close : Option C) → find (has_number n) (state_at core).conns ≡ Some row → row.place ≡ Out w 0 → (s : DonePut link core core' (call.GiveBack n now) close) → s.caller ≡ 0
back_zero link core core' n now w row close f p s =
    let was = back_was core.limits (state_at core) s.caller n now s.outcome s.enters.fits in
    let same : was.row ≡ row = (let both = sym was.found ∙ f in cc) in
    let place : Out was.place.0 s.caller ≡ Out w 0 = sym was.place.1 ∙ ap (λ (r : ConnRow). r.place) same ∙ p in
    cc

pub back_enters : {C : Type 0} (link : C → LinkView) (core core' : CoreView) (n now w : ℕ) (row : ConnRow) (close : Option C) → find (has_number n) (state_at core).conns ≡ Some row → row.place ≡ Out w 0 → (s : DonePut link core core' (call.GiveBack n now) close) → Enters core core' 0 (call.GiveBack n now) s.outcome
back_enters link core core' n now w row close f p s = let P : ℕ → Type 0 = λ m. Enters core core' m (call.GiveBack n now) s.outcome in subst P (back_zero link core core' n now w row close f p s) s.enters

pub holds_back : {C : Type 0} (link : C → LinkView) (core core' : CoreView) (t t' : TokensView) (n now w : ℕ) (row : ConnRow) (close : Option C) → SoloHolds core t → find (has_number n) (state_at core).conns ≡ Some row → row.place ≡ Out w 0 → DonePut link core core' (call.GiveBack n now) close → has_lease w t.out ≡ true → t'.out ≡ change w without_lease t.out → t'.room ≡ t.room → SoloHolds core' t'
holds_back link core core' t t' n now w row close h f p s k o r =
    let was = back_was core.limits (state_at core) s.caller n now s.outcome s.enters.fits in
    let found = was.found in
    let same = was.same in
    let rows : was.row ≡ row = (let both = sym was.found ∙ f in cc) in
    let place : was.row.place ≡ Out w 0 = ap (λ (x : ConnRow). x.place) rows ∙ p in
    holds_after core core' t t' s.caller (call.GiveBack n now) s.outcome (change w without_lease t.out) h (back_zero link core core' n now w row close f p s) s.enters r o
    (rw same (tie_back core.limits (state_at core) t.out core.taken core'.taken n now w was.row h.tied found place k s.enters.taken))

-- idle connections
holds_idle : {C : Type 0} (link : C → LinkView) (core core' : CoreView) (t : TokensView) (asked : Call) (conn : C) → SoloHolds core t → (s : CoreIdle link core core' 0 asked conn) → IdleWas (state_at core) s.outcome → SoloHolds core' t
holds_idle link core core' t asked conn h s was =
    let same = was.same in
    holds_after core core' t t 0 asked s.outcome t.out h refl s.enters refl refl
    (rw same (tie_idle (state_at core) t.out core.taken core'.taken h.tied s.enters.taken))

holds_same : (core core' : CoreView) (t : TokensView) → SoloHolds core t → core' ≡ core → SoloHolds core' t
holds_same core core' t h e = rw e h

idle_taken : {C : Type 0} (link : C → LinkView) (core core' : CoreView) (t : TokensView) (n : ℕ) (asked : Call) (conn : C) → SoloHolds core' t → CoreIdle link core core' 0 asked conn → lent.IdleTaken link (lent_of core t n) (lent_of core' t n) asked conn
idle_taken link core core' t n asked conn h s = record {
  others = [];
  outcome = s.outcome;
  calls = calls core core' t t n n asked s.outcome h s.enters;
  close = s.close;
  leaves = record { out = refl; waits = refl; audit_failed = refl };
}

idle_not : (core core' : CoreView) (t : TokensView) (n : ℕ) (asked : Call) → SoloHolds core' t → CoreNot core core' asked → lent.IdleNot (lent_of core t n) (lent_of core' t n) asked
idle_not core core' t n asked h s = record {
  others = [];
  looks = looks core core' t t n n h (ap (λ c. c.limits) s.same) (ap (λ c. c.journal) s.same);
  unfit = rw (append-nil core.journal) s.unfit;
  leaves = record { out = refl; waits = refl; audit_failed = refl };
}

pub holds_idle_done : {C : Type 0} (link : C → LinkView) (core core' : CoreView) (t : TokensView) (asked : Call) (o : Option C) → SoloHolds core t → IdleDone link core core' 0 asked o → ((out : Outcome) → step core.limits (state_at core) 0 asked ≡ Some out → IdleWas (state_at core) out) → SoloHolds core' t
holds_idle_done link core core' t asked (Some conn) h s was = holds_idle link core core' t asked conn h s (was s.outcome s.enters.fits)
holds_idle_done link core core' t asked None h s was = holds_same core core' t h s.same

pub idle_done : {C : Type 0} (link : C → LinkView) (core core' : CoreView) (t : TokensView) (n : ℕ) (asked : Call) (o : Option C) → SoloHolds core' t → IdleDone link core core' 0 asked o → lent.IdleStep link (lent_of core t n) (lent_of core' t n) asked o
idle_done link core core' t n asked (Some conn) h s = idle_taken link core core' t n asked conn h s
idle_done link core core' t n asked None h s = idle_not core core' t n asked h s

-- cancel
out_caller : (place : Place) (w caller : ℕ) → place ≡ Out w caller → OutBy 0 place → caller ≡ 0
out_caller (Out v c) w caller e o = (let same : c ≡ caller = cc in sym same ∙ o)
out_caller (Idle a b) w caller e o = absurd (cc)

cancel_zero : (core : CoreView) (t : TokensView) (w now caller : ℕ) (o : Outcome) → SoloHolds core t → CancelRowWas core.limits (state_at core) caller w o ⊎ CancelConnWas core.limits (state_at core) caller w now o → caller ≡ 0
cancel_zero core t w now caller o h (inl was) = sym was.by ∙ h.tied.own.wants was.row (found_among (wants_it w) was.row (state_at core).wants was.found)
cancel_zero core t w now caller o h (inr was) = out_caller was.row.place was.place.0 caller was.place.1 (h.tied.own.conns was.row (found_among (is_with w) was.row (state_at core).conns was.found))

cancel_tied : (core core' : CoreView) (t : TokensView) (w now caller : ℕ) (o : Outcome) → SoloHolds core t → LeavesTaken core.taken core'.taken → has_ticket w t.out ≡ true → CancelRowWas core.limits (state_at core) caller w o ⊎ CancelConnWas core.limits (state_at core) caller w now o → Tied o.state (change w without_ticket t.out) core'.taken
cancel_tied core core' t w now caller o h tk k (inl was) = let same = was.same in rw same (tie_cancel core.limits (state_at core) t.out core.taken core'.taken w was.row h.tied was.found k tk)
cancel_tied core core' t w now caller o h tk k (inr was) =
    let same = was.same in
    let out = out_at w was.row (found_passes (is_with w) (state_at core).conns was.row was.found) in
    rw same (tie_cancel_conn core.limits (state_at core) t.out core.taken core'.taken w now was.row out.0 h.tied was.found out.1 k tk)

holds_put : {C : Type 0} (link : C → LinkView) (core core' : CoreView) (t t' : TokensView) (w now : ℕ) (close : Option C) → SoloHolds core t → DonePut link core core' (call.Cancel w now) close → has_ticket w t.out ≡ true → t'.out ≡ change w without_ticket t.out → t'.room ≡ t.room → SoloHolds core' t'
holds_put link core core' t t' w now close h s k o r =
    let was = cancel_was core.limits (state_at core) s.caller w now s.outcome s.enters.fits in
    holds_after core core' t t' s.caller (call.Cancel w now) s.outcome (change w without_ticket t.out) h (cancel_zero core t w now s.caller s.outcome h was) s.enters r o
    (cancel_tied core core' t w now s.caller s.outcome h s.enters.taken k was)

holds_cancel_by : {C : Type 0} (link : C → LinkView) (core core' : CoreView) (t t' : TokensView) (w now : ℕ) (close : Option C) (st : Standing) → standing (state_at core) w ≡ st → SoloHolds core t → CancelDone link core core' w now close st → has_ticket w t.out ≡ true → t'.out ≡ change w without_ticket t.out → t'.room ≡ t.room → SoloHolds core' t'
holds_cancel_by link core core' t t' w now close (Served row) e h d k o r = holds_put link core core' t t' w now close h d k o r
holds_cancel_by link core core' t t' w now close MayDial e h d k o r = holds_put link core core' t t' w now close h d k o r
holds_cancel_by link core core' t t' w now close NotServed e h d k o r = holds_put link core core' t t' w now close h d k o r
holds_cancel_by link core core' t t' w now close NotComing e h d k o r = holds_none core core' t t' w h d.0 e k o r

pub holds_cancel : {C : Type 0} (link : C → LinkView) (core core' : CoreView) (t t' : TokensView) (w now : ℕ) (close : Option C) → SoloHolds core t → CancelDone link core core' w now close (standing (state_at core) w) → has_ticket w t.out ≡ true → t'.out ≡ change w without_ticket t.out → t'.room ≡ t.room → SoloHolds core' t'
holds_cancel link core core' t t' w now close h d k o r = holds_cancel_by link core core' t t' w now close (standing (state_at core) w) refl h d k o r

put_made : {C : Type 0} (link : C → LinkView) (core core' : CoreView) (t t' : TokensView) (n : ℕ) (ticket : Ticket) (now : ℕ) (put : Put C) → SoloHolds core t → SoloHolds core' t' → DonePut link core core' (call.Cancel ticket.want now) put.close → lent.CancelMade link (lent_of core t n) (lent_of core' t' n) [] ticket now put
put_made link core core' t t' n ticket now put h k s =
    let was = cancel_was core.limits (state_at core) s.caller ticket.want now s.outcome s.enters.fits in
    let P : ℕ → Type 0 = λ m. Enters core core' m (call.Cancel ticket.want now) s.outcome in
    record {
      outcome = s.outcome;
      calls = calls core core' t t' n n (call.Cancel ticket.want now) s.outcome k (subst P (cancel_zero core t ticket.want now s.caller s.outcome h was) s.enters);
      close = s.closes;
    }

cancel_by : {C : Type 0} (link : C → LinkView) (core core' : CoreView) (t t' : TokensView) (n : ℕ) (ticket : Ticket) (now : ℕ) (put : Put C) (st : Standing) → SoloHolds core t → SoloHolds core' t' → CancelDone link core core' ticket.want now put.close st → lent.CancelBy link (lent_of core t n) (lent_of core' t' n) [] ticket now put st
cancel_by link core core' t t' n ticket now put (Served row) h k d = put_made link core core' t t' n ticket now put h k d
cancel_by link core core' t t' n ticket now put MayDial h k d = put_made link core core' t t' n ticket now put h k d
cancel_by link core core' t t' n ticket now put NotServed h k d = put_made link core core' t t' n ticket now put h k d
cancel_by link core core' t t' n ticket now put NotComing h k d = record {
  looks = looks core core' t t' n n k (ap (λ c. c.limits) d.0) (ap (λ c. c.journal) d.0);
  close = d.1;
}

pub cancels : {C : Type 0} (link : C → LinkView) (core core' : CoreView) (t t' : TokensView) (n : ℕ) (ticket : Ticket) (now : ℕ) (put : Put C) → SoloHolds core t → SoloHolds core' t' → CancelDone link core core' ticket.want now put.close (standing (state_at core) ticket.want) → t'.out ≡ change ticket.want without_ticket t.out → lent.CancelStep link (lent_of core t n) (lent_of core' t' n) ticket now put
cancels link core core' t t' n ticket now put h k d o = record {
  others = [];
  does = rw (append-nil core.journal) (cancel_by link core core' t t' n ticket now put (standing (state_at core) ticket.want) h k d);
  leaves = record { out = o; waits = refl; audit_failed = refl };
}

-- opening
nothing_owned : Owns 0 empty
nothing_owned = record { wants = λ r m. absurd m; dials = λ r m. absurd m; conns = λ r m. absurd m }

empty_weight : (g : Weigh) → weight g empty ≡ 0
unfolding weight
empty_weight g = refl

empty_tied : Tied empty [] []
empty_tied = record {
  own = nothing_owned;
  occ = λ w. omega (arith, empty_weight (occ_of w));
  dia = λ w. omega (arith, empty_weight (dia_of w));
  con = λ n. omega (arith, empty_weight (con_of n));
  occ_new = λ w l. empty_weight (occ_of w);
  dia_new = λ w l. empty_weight (dia_of w);
  con_new = λ n l. empty_weight (con_of n);
  out_new = λ w l. refl;
  once = λ w. omega arith;
  held = λ w. omega (arith, empty_weight (occ_of w));
  dials = λ w. refl;
  untaken = λ w t. refl;
  taken_new = λ w l. refl;
}

pub solo_opened : (core : CoreView) (t : TokensView) (limits : Limits) → core.limits ≡ limits → core.journal ≡ [] → core.taken ≡ [] → t.out ≡ [] → 0 < limits.passes → 0 < limits.per_pass → limits.per_pass ≤ t.room → SoloHolds core t
unfolding after IsLegal
solo_opened core t limits l j k o p q r = record {
  tied = rw (j, k, o) empty_tied;
  legal = rw j tt;
  passes = rw l p;
  callers = rw j (All-nil (λ entry. entry.caller < core.limits.passes));
  few = rw l q;
  mine = rw j refl;
  room = rw l r;
}

-- what each call does
pub want_made : (core core' : CoreView) (t t' : TokensView) (n host now v : ℕ) (ticket : Ticket) → SoloHolds core' t' → CoreMade core core' 0 host now v → ticket.want ≡ v → ticket.host ≡ host → t'.out ≡ t.out ++ ticket_of v ∷ [] → lent.WantMade (lent_of core t n) (lent_of core' t' n) host now ticket
want_made core core' t t' n host now v ticket h m a b o = record {
  others = [];
  outcome = m.outcome;
  calls = calls core core' t t' n n (call.Want host now) m.outcome h m.enters;
  room = rw (append-nil core.journal) m.has_room;
  made = rw a m.is_made;
  names = b;
  fresh = rw m.enters.journal (made_last core.journal (lent.entry_of 0 (call.Want host now) m.outcome.reply) ticket.want (made_is ticket.want m.outcome.reply (rw a m.is_made)));
  leaves = record { out = rw a o; waits = refl; audit_failed = refl };
}

pub want_expired : {C : Type 0} (link : C → LinkView) (core core' : CoreView) (t : TokensView) (n host now : ℕ) (conn : C) → SoloHolds core' t → CoreExpired link core core' 0 host now conn → lent.WantExpired link (lent_of core t n) (lent_of core' t n) host now conn
want_expired link core core' t n host now conn h m = record {
  others = [];
  outcome = m.outcome;
  calls = calls core core' t t n n (call.Want host now) m.outcome h m.enters;
  room = rw (append-nil core.journal) m.has_room;
  close = m.close;
  leaves = record { out = refl; waits = refl; audit_failed = refl };
}

full_after : (core core' : CoreView) → core' ≡ core → refuses core.limits core.journal ≡ true → refuses core'.limits core'.journal ≡ true
full_after core core' e f = rw e f

pub want_full : (core core' : CoreView) (t : TokensView) (n : ℕ) → SoloHolds core' t → core' ≡ core → refuses core.limits core.journal ≡ true → lent.WantFull (lent_of core t n) (lent_of core' t n)
want_full core core' t n h e f = record {
  others = [];
  looks = looks core core' t t n n h (ap (λ c. c.limits) e) (ap (λ c. c.journal) e);
  full = full_after core core' e f;
  leaves = record { out = refl; waits = refl; audit_failed = refl };
}

pub row_eq : (row : ConnRow) (number host link w : ℕ) (reused : Bool) → number ≡ row.conn → host ≡ row.host → link ≡ row.link → reused ≡ row.reused → row.place ≡ Out w 0 → row ≡ record { conn = number; host = host; link = link; reused = reused; place = Out w 0 }
row_eq row number host link w reused a b c d p = rw (a, b, c, d, ← p) refl

pub ask_taken : {C : Type 0} (link : C → LinkView) (core core' : CoreView) (t t' : TokensView) (n : ℕ) (ticket : Ticket) (conn : C) (number : ℕ) (reused : Bool) (host linked : ℕ) → SoloHolds core t → SoloHolds core' t' → CoreTaken link core core' ticket.want conn number reused host → linked ≡ (link conn).number → has_ticket ticket.want t.out ≡ true → t'.out ≡ change ticket.want leased t.out → has_lease ticket.want t'.out ≡ true → lent.AskTaken link (lent_of core t n) (lent_of core' t' n) ticket (record { conn = conn; no = number; want = ticket.want; host = host; link = linked; reused = reused })
ask_taken link core core' t t' n ticket conn number reused host linked h h' m e k o le =
    let place = row_is core t ticket.want m.row h m.stands in
    let same : m.row ≡ record { conn = number; host = host; link = linked; reused = reused; place = Out ticket.want 0 } =
    row_eq m.row number host linked ticket.want reused m.is_no m.is_host (e ∙ m.is_conn) m.is_reused place in
    let found : find (has_number number) (state_at core).conns ≡ Some m.row = rw m.is_no (row_numbered core t ticket.want m.row h m.stands) in
    record {
      others = [];
      looks = looks core core' t t' n n h' m.limits m.journal;
      stands = rw (append-nil core.journal) (m.stands ∙ ap (λ r. Served r) same);
      want = refl;
      lease = record { out = le; row = rw (m.limits, m.journal) (found ∙ ap (λ r. Some r) same); conn = sym e };
      leaves = record { out = o; waits = refl; audit_failed = refl };
    }

pub leases : (core : CoreView) (t : TokensView) (w : ℕ) → SoloHolds core t → has_ticket w t.out ≡ true → has_lease w (change w leased t.out) ≡ true
leases core t w h k = leased_has w t.out h.tied.once k
