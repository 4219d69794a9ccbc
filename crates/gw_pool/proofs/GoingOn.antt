-- What goes on behind entries of others alone, and a want that ended.
use Rattle.std.proofs.Common.{◌≡◌, ℕ, ◌+◌, ◌<◌, ◌≤◌, ◌==◌, ◌⊎◌, inl, inr, Bool, true, false, List, [], ◌∷◌, ◌++◌, Option, Some, None, refl, ap, sym, ◌∙◌, subst, cond, arith, eqb-true, eq-eqb, append_assoc, append-nil}
use Rattle.std.specs.List.{find}
use Rattle.gw_pool.specs.declared.limits.Limits.{Limits}
use Rattle.gw_pool.specs.declared.entry.Entry.{Entry}
use Rattle.gw_pool.specs.declared.entry.Call.{Call}
use Rattle.gw_pool.specs.declared.entry.Call.TheVariants as call
use Rattle.gw_pool.specs.declared.rows.Stage.{Stage}
use Rattle.gw_pool.specs.declared.rows.Stage.TheVariants.{Waiting, Granted, Dialing}
use Rattle.gw_pool.specs.declared.rows.Place.TheVariants.{Out}
use Rattle.gw_pool.specs.declared.rows.WantRow.{WantRow}
use Rattle.gw_pool.specs.declared.rows.ConnRow.{ConnRow}
use Rattle.gw_pool.specs.declared.rows.DialRow.{DialRow}
use Rattle.gw_pool.specs.Places.{is_waiting}
use Rattle.gw_pool.specs.State.{State, empty, wants_it, is_with}
use Rattle.gw_pool.specs.Machine.{Outcome, step, standing, NotComing}
use Rattle.gw_pool.specs.History.{IsLegal, after, mine}
use Rattle.gw_pool.specs.Keeps.{IsWanted, IsServed, IsOut, IsDialed, Comes, IsOver, IsKeptByGrant}
use Rattle.gw_pool.specs.Owner.{owner}
use Rattle.gw_pool.specs.Ties.{Among, Weigh, one, occ_of}
use Rattle.gw_pool.proofs.Comings.{Goes, Stays, IsGranted, ByConn, other_step, other_dial}
use Rattle.gw_pool.proofs.Inverts.{want_was, start_was, dialed_was, failed_was, cancel_was, back_was, drop_was, expire_was, close_was, IdleWas, CancelRowWas, CancelConnWas}
use Rattle.gw_pool.proofs.Numbers.{Numbers, legal_numbers}
use Rattle.gw_pool.proofs.Owners.{legal_owned}
use Rattle.gw_pool.proofs.Served.{step_serves, not_less, with_rows, no_row, rows_few}
use Rattle.gw_pool.proofs.SoloCalls.{not_coming_rows}
use Rattle.gw_pool.proofs.SoundOffers.{once_of}
use Rattle.gw_pool.proofs.Standings.{not_coming}
use Rattle.gw_pool.proofs.Staying.{front, out_stays}
use Rattle.gw_pool.proofs.TieCalls.{nothing_there}
use Rattle.gw_pool.proofs.Ties.{one_other}
use Rattle.gw_pool.proofs.TieWant.{adds_at_most}
use Rattle.gw_pool.proofs.Walk.{last, legal_split}
use Rattle.gw_pool.proofs.Weights.{weight, place_weight, want_weight, conn_weight, start_less, dialed_adds, failed_less, cancel_less, cancel_conn_less, back_less, drop_less, oldest_keeps}

-- a want comes still where its row went on
waits_as : (stage : Stage) → is_waiting stage ≡ true → stage ≡ Waiting
waits_as Waiting e = refl
waits_as Granted e = absurd (cc)
waits_as Dialing e = absurd (cc)

comes_on : (test : Stage → Bool) (want host caller : ℕ) (s t : State) → IsKeptByGrant test → (k : IsWanted test want host caller s) → Goes k.row t → Comes test want host caller t
comes_on test want host caller s t g k (Stays m) = inl (record { row = k.row; there = m; is_want = k.is_want; is_host = k.is_host; by = k.by; stage = k.stage })
comes_on test want host caller s t g k (IsGranted e m) =
    inl (record { row = record k.row { stage = Granted }; there = m; is_want = k.is_want; is_host = k.is_host; by = k.by; stage = g (ap test (sym (waits_as k.row.stage e)) ∙ k.stage) })
comes_on test want host caller s t g k (ByConn row h m p) =
    inr (record { row = row; is_host = h ∙ k.is_host; out = record { there = m; place = p ∙ ap (λ n. Out n k.row.caller) k.is_want ∙ ap (λ n. Out want n) k.by } })

-- a history of others, entry by entry
not_mine : (e : Entry) (rest : List Entry) (b : Bool) → cond b (e ∷ rest) rest ≡ [] → (b ≡ false) × (rest ≡ [])
not_mine e rest true h = absurd (cc)
not_mine e rest false h = (refl, h)

others : (e : Entry) (more : List Entry) (caller : ℕ) → mine (e ∷ more) caller ≡ [] → (e.caller ≡ caller → ⊥) × (mine more caller ≡ [])
others e more caller m =
    let no_mine = not_mine e (mine more caller) (e.caller == caller) m in
    (λ same. let yes = eq-eqb e.caller caller same in let none = no_mine.0 in cc, no_mine.1)

longer : (limits : Limits) (seen : List Entry) (e : Entry) (more : List Entry) → IsLegal limits (seen ++ e ∷ more) → IsLegal limits ((seen ++ e ∷ []) ++ more)
longer limits seen e more l = subst (λ h. IsLegal limits h) (sym (append_assoc seen (e ∷ []) more)) l

pub served_stays : (limits : Limits) (seen more : List Entry) (want host caller : ℕ) → IsLegal limits (seen ++ more) → mine more caller ≡ [] → IsServed want host caller (after limits seen) → IsServed want host caller (after limits (seen ++ more))
served_stays limits seen more want host caller l m k = record { row = k.row; is_host = k.is_host; out = out_stays limits seen more want caller k.row l m k.out }

pub wants_go_on : (test : Stage → Bool) (limits : Limits) (seen more : List Entry) (want host caller : ℕ) → IsKeptByGrant test → IsLegal limits (seen ++ more) → mine more caller ≡ [] → Comes test want host caller (after limits seen) → Comes test want host caller (after limits (seen ++ more))
wants_go_on test limits seen [] want host caller g l m k = rw (append-nil seen) k
wants_go_on test limits seen (e ∷ more) want host caller g l m (inr k) = inr (served_stays limits seen (e ∷ more) want host caller l m k)
wants_go_on test limits seen (e ∷ more) want host caller g l m (inl k) =
    let long = longer limits seen e more l in
    let at = last limits seen e (front limits (seen ++ e ∷ []) more long) in
    let apart = others e more caller m in
    let goes : Goes k.row at.outcome.state = other_step limits (owner seen) (after limits seen) e.caller caller e.call at.outcome k.row at.fits (legal_owned limits seen at.legal) (once_of (after limits seen) (legal_numbers limits seen at.legal)) apart.0 k.by k.there in
    let next : Comes test want host caller (after limits (seen ++ e ∷ [])) = subst (λ t. Comes test want host caller t) (sym at.state) (comes_on test want host caller (after limits seen) at.outcome.state g k goes) in
    subst (λ h. Comes test want host caller (after limits h)) (append_assoc seen (e ∷ []) more) (wants_go_on test limits (seen ++ e ∷ []) more want host caller g long apart.1 next)

pub dials_stay : (limits : Limits) (seen more : List Entry) (want host caller : ℕ) → IsLegal limits (seen ++ more) → mine more caller ≡ [] → IsDialed want host caller (after limits seen) → IsDialed want host caller (after limits (seen ++ more))
dials_stay limits seen [] want host caller l m k = rw (append-nil seen) k
dials_stay limits seen (e ∷ more) want host caller l m k =
    let long = longer limits seen e more l in
    let at = last limits seen e (front limits (seen ++ e ∷ []) more long) in
    let apart = others e more caller m in
    let goes : IsDialed want host caller at.outcome.state = other_dial limits (after limits seen) e.caller caller e.call at.outcome (record { want = want; host = host; caller = caller }) at.fits apart.0 refl k in
    let next : IsDialed want host caller (after limits (seen ++ e ∷ [])) = subst (λ t. IsDialed want host caller t) (sym at.state) goes in
    subst (λ h. IsDialed want host caller (after limits h)) (append_assoc seen (e ∷ []) more) (dials_stay limits (seen ++ e ∷ []) more want host caller long apart.1 next)

-- a want without row and connection weighs nothing, and one that weighs nothing has none
pub over_weight : (want : ℕ) (s : State) → standing s want ≡ NotComing → weight (occ_of want) s ≡ 0
over_weight want s e = let none = not_coming_rows s want e in nothing_there want s none.0 none.1

no_conn_by : (want : ℕ) (s : State) (o : Option ConnRow) → find (is_with want) s.conns ≡ o → weight (occ_of want) s ≡ 0 → o ≡ None
no_conn_by want s None f e = refl
no_conn_by want s (Some row) f e = absurd (omega (arith, with_rows want s row f, e))

pub weight_over : (want : ℕ) (s : State) → weight (occ_of want) s ≡ 0 → standing s want ≡ NotComing
weight_over want s e = not_coming s want (no_conn_by want s (find (is_with want) s.conns) refl e) (no_row want s (omega (arith, rows_few want s, e)))

-- no call but a want makes anything heavier that weighs connections as nothing
state_on : (g : Weigh) (s : State) (n : ℕ) (o p : Outcome) → o ≡ p → weight g p.state ≤ weight g s + n → weight g o.state ≤ weight g s + n
state_on g s n o p e l = rw e l

cancel_weighs : (g : Weigh) (limits : Limits) (s : State) (d v now : ℕ) (o : Outcome) → CancelRowWas limits s d v o ⊎ CancelConnWas limits s d v now o → weight g o.state ≤ weight g s + 0
cancel_weighs g limits s d v now o (inl was) = state_on g s 0 o _ was.same (omega (arith, (cancel_less g limits s v was.row was.found).weight))
cancel_weighs g limits s d v now o (inr was) = state_on g s 0 o _ was.same (omega (arith, (cancel_conn_less g limits s v now was.row was.found).weight))

abbrev pub new_weight : Weigh → State → Call → ℕ
new_weight g s (call.Want host now) = g.want s.next_want
new_weight g s _ = 0

pub step_weighs : (g : Weigh) (limits : Limits) (s : State) (d : ℕ) (asked : Call) (o : Outcome) → ((n : ℕ) → g.conn n ≡ 0) → step limits s d asked ≡ Some o → weight g o.state ≤ weight g s + new_weight g s asked
step_weighs g limits s d (call.Want host now) o z f = state_on g s (g.want s.next_want) o _ (want_was limits s d host now o f) (adds_at_most g limits s d host now)
step_weighs g limits s d (call.Start v) o z f = let was = start_was limits s d v o f in state_on g s 0 o _ was.same (omega (arith, (start_less g s v was.row was.found was.granted).weight))
step_weighs g limits s d (call.Dialed v link now) o z f = let was = dialed_was limits s d v link now o f in state_on g s 0 o _ was.same (omega (arith, (dialed_adds g limits s v link now was.row was.found).weight, z s.next_conn))
step_weighs g limits s d (call.DialFailed v) o z f = let was = failed_was limits s d v o f in state_on g s 0 o _ was.same (omega (arith, (failed_less g limits s v was.row was.found).weight))
step_weighs g limits s d (call.Cancel v now) o z f = cancel_weighs g limits s d v now o (cancel_was limits s d v now o f)
step_weighs g limits s d (call.GiveBack conn now) o z f = let was = back_was limits s d conn now o f in state_on g s 0 o _ was.same (omega (arith, (back_less g limits s conn now was.row was.found).weight))
step_weighs g limits s d (call.Drop conn) o z f = let was = drop_was limits s d conn o f in state_on g s 0 o _ was.same (omega (arith, (drop_less g limits s conn was.row was.found).weight))
step_weighs g limits s d (call.Expire now) o z f = let was = expire_was limits s d now o f in state_on g s 0 o _ was.same (omega (arith, (oldest_keeps g s).weight))
step_weighs g limits s d call.CloseIdle o z f = let was = close_was limits s d o f in state_on g s 0 o _ was.same (omega (arith, (oldest_keeps g s).weight))

-- none makes an old want heavier
old_new : (w : ℕ) (s : State) (asked : Call) → w < s.next_want → new_weight (occ_of w) s asked ≡ 0
old_new w s (call.Want host now) old = one_other w s.next_want (λ e. omega (arith, e, old))
old_new w s _ old = refl

pub over_step : (limits : Limits) (s : State) (d want : ℕ) (asked : Call) (o : Outcome) → step limits s d asked ≡ Some o → IsOver want s → IsOver want o.state
over_step limits s d want asked o f k = record {
  none = weight_over want o.state (omega (arith, step_weighs (occ_of want) limits s d asked o (λ n. refl) f, old_new want s asked k.made, over_weight want s k.none));
  made = omega (arith, k.made, not_less want s asked o (step_serves want limits s d asked o f));
}

pub over_stays : (limits : Limits) (seen more : List Entry) (want : ℕ) → IsLegal limits (seen ++ more) → IsOver want (after limits seen) → IsOver want (after limits (seen ++ more))
over_stays limits seen [] want l k = rw (append-nil seen) k
over_stays limits seen (e ∷ more) want l k =
    let long = longer limits seen e more l in
    let at = last limits seen e (front limits (seen ++ e ∷ []) more long) in
    let next : IsOver want (after limits (seen ++ e ∷ [])) = subst (λ t. IsOver want t) (sym at.state) (over_step limits (after limits seen) e.caller want e.call at.outcome at.fits k) in
    subst (λ h. IsOver want (after limits h)) (append_assoc seen (e ∷ []) more) (over_stays limits (seen ++ e ∷ []) more want long next)
