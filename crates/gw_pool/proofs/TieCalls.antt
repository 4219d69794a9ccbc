-- Each call keeps a caller's tokens tied to the rows.
use Rattle.std.proofs.Common.{◌≡◌, ℕ, ◌+◌, ◌≤◌, ◌==◌, inl, inr, Bool, true, false, List, [], ◌∷◌, ◌++◌, Option, Some, None, refl, ap, sym, ◌∙◌, arith, cond, eqb-true, subst}
use Rattle.std.specs.List.{find, sum_by}
use Rattle.std.proofs.lemmas.List.Sums.{sum_by-cons, sum_by_push}
use Rattle.gw_pool.specs.declared.limits.Limits.{Limits}
use Rattle.gw_pool.specs.declared.holding.Holding.{Holding}
use Rattle.gw_pool.specs.declared.rows.Stage.{Stage}
use Rattle.gw_pool.specs.declared.rows.Stage.TheVariants.{Waiting, Granted, Dialing}
use Rattle.gw_pool.specs.declared.rows.Place.{Place}
use Rattle.gw_pool.specs.declared.rows.Place.TheVariants.{Out, Idle}
use Rattle.gw_pool.specs.declared.rows.WantRow.{WantRow}
use Rattle.gw_pool.specs.declared.rows.ConnRow.{ConnRow}
use Rattle.gw_pool.specs.declared.rows.DialRow.{DialRow}
use Rattle.gw_pool.specs.Places.{is_granted, is_out_to}
use Rattle.gw_pool.specs.State.{State, remove_first, wants_it, dials_for, is_with, has_number, take_oldest}
use Rattle.gw_pool.specs.Machine.{start_row, dialed_row, failed_row, cancel_row, cancel_conn, back_row, drop_row}
use Rattle.gw_pool.specs.Shelf.{is_among, LeavesTaken, LeavesOthers}
use Rattle.gw_pool.specs.Tokens.{names, is_held, change, holds, has_ticket, has_dial, has_lease, with_dial, without_dial, without_ticket, leased, without_lease}
use Rattle.gw_pool.proofs.Edits.{found_passes}
use Rattle.gw_pool.proofs.Room.{removed}
use Rattle.gw_pool.proofs.Owns.{Owns, start_owns, drop_owns, back_owns, oldest_owns, cancel_owns, cancel_conn_owns, failed_owns, dialed_owns}
use Rattle.gw_pool.proofs.Weights.{Weigh, Lessens, weight, want_weight, conn_weight, stage_weight, place_weight, start_less, drop_less, drop_dials, back_less, back_dials, oldest_keeps, cancel_less, cancel_dials, cancel_conn_less, cancel_conn_dials, failed_less, failed_dials, dialed_adds, dialed_dials}
use Rattle.gw_pool.proofs.Ties.{one, bit, occ_of, dia_of, con_of, dials_of, Tied, decide, one_same, one_other, Moves, tie, kept, Renames, changed}

renames_dial : Renames with_dial
renames_dial = record { same = λ h. refl }

renames_no_dial : Renames without_dial
renames_no_dial = record { same = λ h. refl }

renames_no_ticket : Renames without_ticket
renames_no_ticket = record { same = λ h. refl }

renames_leased : Renames leased
renames_leased = record { same = λ h. refl }

renames_no_lease : Renames without_lease
renames_no_lease = record { same = λ h. refl }

-- a token that is out stands in its want's row
pub record Has (w : ℕ) (out : List Holding) (token : Holding → Bool) : Type 0 where
  pub row : Holding
  pub found : find (names w) out ≡ Some row
  pub has : token row ≡ true

has_by : (w : ℕ) (out : List Holding) (token : Holding → Bool) (o : Option Holding) → find (names w) out ≡ o → holds token o ≡ true → Has w out token
has_by w out token None e h = absurd (cc)
has_by w out token (Some row) e h = record { row = row; found = e; has = h }

pub has : (w : ℕ) (out : List Holding) (token : Holding → Bool) → holds token (find (names w) out) ≡ true → Has w out token
has w out token h = has_by w out token (find (names w) out) refl h

-- a step that makes nothing heavier
less_moves : (s t : State) → Owns 0 t → ((n : ℕ) → weight (con_of n) s ≤ 1) → ((n : ℕ) → s.next_conn ≤ n → weight (con_of n) s ≡ 0) → ((g : Weigh) → Lessens g s t 0) → Moves s t
less_moves s t o c n l = record {
  own = o;
  occ = λ w. omega (arith, (l (occ_of w)).weight);
  dia = λ w. omega (arith, (l (dia_of w)).weight);
  con = λ m. omega (arith, (l (con_of m)).weight, c m);
  con_new = λ m h. omega (arith, (l (con_of m)).weight, n m (rw (l (con_of m)).next_conn at h));
  next_want = (l (con_of 0)).next_want;
}

weaken : (g : Weigh) (s t : State) (down : ℕ) → Lessens g s t down → Lessens g s t 0
weaken g s t down l = record { weight = omega (arith, l.weight); next_want = l.next_want; next_conn = l.next_conn }

-- what is kept of a row has its tokens
no_ticket : (a b c : Bool) → cond a true (cond b true c) ≡ false → false ≡ a
no_ticket true b c e = sym e
no_ticket false b c e = refl

no_dial : (a b c : Bool) → cond a true (cond b true c) ≡ false → false ≡ b
no_dial true b c e = absurd (cc)
no_dial false true c e = absurd (cc)
no_dial false false c e = refl

no_lease : (a b c : Bool) → cond a true (cond b true c) ≡ false → false ≡ c
no_lease true b c e = absurd (cc)
no_lease false true c e = absurd (cc)
no_lease false false c e = sym e

ticket_by : (h : Holding) (b : Bool) → is_held h ≡ b → holds (λ x. x.ticket) (cond b (Some h) None) ≡ h.ticket
ticket_by h true e = refl
ticket_by h false e = no_ticket h.ticket h.dial h.lease e

dial_by : (h : Holding) (b : Bool) → is_held h ≡ b → holds (λ x. x.dial) (cond b (Some h) None) ≡ h.dial
dial_by h true e = refl
dial_by h false e = no_dial h.ticket h.dial h.lease e

lease_by : (h : Holding) (b : Bool) → is_held h ≡ b → holds (λ x. x.lease) (cond b (Some h) None) ≡ h.lease
lease_by h true e = refl
lease_by h false e = no_lease h.ticket h.dial h.lease e

pub kept_ticket : (h : Holding) → holds (λ x. x.ticket) (kept h) ≡ h.ticket
kept_ticket h = ticket_by h (is_held h) refl

pub kept_dial : (h : Holding) → holds (λ x. x.dial) (kept h) ≡ h.dial
kept_dial h = dial_by h (is_held h) refl

pub kept_lease : (h : Holding) → holds (λ x. x.lease) (kept h) ≡ h.lease
kept_lease h = lease_by h (is_held h) refl

same_dials : (s t : State) (w : ℕ) → t.dials ≡ s.dials → (v : ℕ) → (v ≡ w → ⊥) → dials_of v t.dials ≡ dials_of v s.dials
same_dials s t w e v n = rw e

-- the tie, where a want's row of tokens becomes another
tie_kept : (s t : State) (out : List Holding) (taken taken' : List ℕ) (w : ℕ) (h : Holding) (f : Holding → Holding) → Renames f → Tied s out taken → find (names w) out ≡ Some h → Moves s t
    → weight (occ_of w) t ≤ bit (f h).ticket + bit (f h).lease
    → dials_of w t.dials ≡ bit (f h).dial
    → ((v : ℕ) → (v ≡ w → ⊥) → dials_of v t.dials ≡ dials_of v s.dials)
    → ((f h).ticket ≡ true → is_among w taken' ≡ false)
    → ((v : ℕ) → (v ≡ w → ⊥) → is_among v taken ≡ false → is_among v taken' ≡ false)
    → Tied t (change w f out) taken'
tie_kept s t out taken taken' w h f r k e m heldw dialsw dialsv untakenw takenv =
    tie s t out (change w f out) taken taken' w h (kept (f h)) k e m (changed w f out h r k.once e)
    (rw (kept_ticket (f h), kept_lease (f h)) heldw) (rw (kept_dial (f h)) dialsw) dialsv (λ tk. untakenw (rw (kept_ticket (f h)) at tk)) takenv

-- what the tie says of the want whose row is found
held_row : (s : State) (out : List Holding) (taken : List ℕ) (w : ℕ) (h : Holding) → Tied s out taken → find (names w) out ≡ Some h → weight (occ_of w) s ≤ bit h.ticket + bit h.lease
held_row s out taken w h k e = let l = k.held w in rw e at l

dials_row : (s : State) (out : List Holding) (taken : List ℕ) (w : ℕ) (h : Holding) → Tied s out taken → find (names w) out ≡ Some h → dials_of w s.dials ≡ bit h.dial
dials_row s out taken w h k e = let l = k.dials w in rw e at l

untaken_row : (s : State) (out : List Holding) (taken : List ℕ) (w : ℕ) (h : Holding) → Tied s out taken → find (names w) out ≡ Some h → h.ticket ≡ true → is_among w taken ≡ false
untaken_row s out taken w h k e t = let l = k.untaken w in (rw e at l) t

pub ticket_untaken : (s : State) (out : List Holding) (taken : List ℕ) (w : ℕ) → Tied s out taken → has_ticket w out ≡ true → is_among w taken ≡ false
ticket_untaken s out taken w k h = k.untaken w h

pub stage_one : (w : ℕ) (stage : Stage) (n : ℕ) → n ≡ w → stage_weight (occ_of w) stage n ≡ 1
stage_one w Waiting n e = ap (one w) e ∙ one_same w
stage_one w Granted n e = ap (one w) e ∙ one_same w
stage_one w Dialing n e = ap (one w) e ∙ one_same w

dia_one : (w : ℕ) (stage : Stage) (n : ℕ) → is_granted stage ≡ true → n ≡ w → stage_weight (dia_of w) stage n ≡ 1
dia_one w Waiting n g e = absurd (cc)
dia_one w Granted n g e = ap (one w) e ∙ one_same w
dia_one w Dialing n g e = absurd (cc)

-- a want that may dial has no dial
pub undialed_dials : (w : ℕ) (s : State) (row : WantRow) → find (wants_it w) s.wants ≡ Some row → is_granted row.stage ≡ true → row.want ≡ w → weight (dia_of w) s ≤ 1 → dials_of w s.dials ≡ 0
unfolding weight
undialed_dials w s row f g e l = omega (arith, removed (want_weight (dia_of w)) (wants_it w) s.wants row f, dia_one w row.stage row.want g e, l)

-- no row of a want is found
stage_zero : (w : ℕ) (stage : Stage) (n : ℕ) → (n == w) ≡ false → stage_weight (occ_of w) stage n ≡ 0
stage_zero w Waiting n e = rw e
stage_zero w Granted n e = rw e
stage_zero w Dialing n e = rw e

place_zero : (w : ℕ) (place : Place) → is_out_to w place ≡ false → place_weight (occ_of w) place ≡ 0
place_zero w (Out n c) e = rw e
place_zero w (Idle a b) e = refl

no_want_by : (w : ℕ) (x : WantRow) (xs : List WantRow) (b : Bool) → wants_it w x ≡ b → cond b (Some x) (find (wants_it w) xs) ≡ None → (find (wants_it w) xs ≡ None → sum_by (want_weight (occ_of w)) xs ≡ 0) → sum_by (want_weight (occ_of w)) (x ∷ xs) ≡ 0
no_want_by w x xs true p e k = absurd (cc)
no_want_by w x xs false p e k = omega (arith, sum_by-cons (want_weight (occ_of w)) x xs, stage_zero w x.stage x.want p, k e)

no_conn_by : (w : ℕ) (x : ConnRow) (xs : List ConnRow) (b : Bool) → is_with w x ≡ b → cond b (Some x) (find (is_with w) xs) ≡ None → (find (is_with w) xs ≡ None → sum_by (conn_weight (occ_of w)) xs ≡ 0) → sum_by (conn_weight (occ_of w)) (x ∷ xs) ≡ 0
no_conn_by w x xs true p e k = absurd (cc)
no_conn_by w x xs false p e k = omega (arith, sum_by-cons (conn_weight (occ_of w)) x xs, place_zero w x.place p, k e)

no_dials : (xs : List DialRow) → sum_by (λ (r : DialRow). 0) xs ≡ 0
no_dials [] = refl
no_dials (x ∷ xs) = no_dials xs

no_want : (w : ℕ) (xs : List WantRow) → find (wants_it w) xs ≡ None → sum_by (want_weight (occ_of w)) xs ≡ 0
no_want w [] e = refl
no_want w (x ∷ xs) e = no_want_by w x xs (wants_it w x) refl e (no_want w xs)

no_conn : (w : ℕ) (xs : List ConnRow) → find (is_with w) xs ≡ None → sum_by (conn_weight (occ_of w)) xs ≡ 0
no_conn w [] e = refl
no_conn w (x ∷ xs) e = no_conn_by w x xs (is_with w x) refl e (no_conn w xs)

pub nothing_there : (w : ℕ) (s : State) → find (wants_it w) s.wants ≡ None → find (is_with w) s.conns ≡ None → weight (occ_of w) s ≡ 0
unfolding weight
nothing_there w s nw nc = omega (arith, no_want w s.wants nw, no_conn w s.conns nc, no_dials s.dials)

-- a want whose connection is dropped
pub tie_drop : (limits : Limits) (s : State) (out : List Holding) (taken taken' : List ℕ) (conn w : ℕ) (row : ConnRow) → Tied s out taken → find (has_number conn) s.conns ≡ Some row → row.place ≡ Out w 0 → has_lease w out ≡ true → LeavesTaken taken taken' → Tied (drop_row limits s row).state (change w without_lease out) taken'
tie_drop limits s out taken taken' conn w row k f p l tk =
    let h = has w out (λ x. x.lease) l in
    let less = drop_less (occ_of w) limits s conn row f in
    let own : conn_weight (occ_of w) row ≡ 1 = (rw p (omega (arith, one_same w))) in
    tie_kept s (drop_row limits s row).state out taken taken' w h.row without_lease renames_no_lease k h.found
    (less_moves s (drop_row limits s row).state (drop_owns 0 limits s row k.own) k.con k.con_new (λ g. weaken g s (drop_row limits s row).state (conn_weight g row) (drop_less g limits s conn row f)))
    (omega (arith, less.weight, own, k.occ w))
    (ap (dials_of w) (drop_dials limits s row) ∙ dials_row s out taken w h.row k h.found)
    (same_dials s (drop_row limits s row).state w (drop_dials limits s row))
    (λ t. tk w (untaken_row s out taken w h.row k h.found t))
    (λ v n u. tk v u)

-- a want whose connection is given back
pub tie_back : (limits : Limits) (s : State) (out : List Holding) (taken taken' : List ℕ) (conn now w : ℕ) (row : ConnRow) → Tied s out taken → find (has_number conn) s.conns ≡ Some row → row.place ≡ Out w 0 → has_lease w out ≡ true → LeavesTaken taken taken' → Tied (back_row limits s row now).state (change w without_lease out) taken'
tie_back limits s out taken taken' conn now w row k f p l tk =
    let h = has w out (λ x. x.lease) l in
    let less = back_less (occ_of w) limits s conn now row f in
    let own : place_weight (occ_of w) row.place ≡ 1 = (rw p (one_same w)) in
    tie_kept s (back_row limits s row now).state out taken taken' w h.row without_lease renames_no_lease k h.found
    (less_moves s (back_row limits s row now).state (back_owns 0 limits s row now k.own) k.con k.con_new (λ g. weaken g s (back_row limits s row now).state (place_weight g row.place) (back_less g limits s conn now row f)))
    (omega (arith, less.weight, own, k.occ w))
    (ap (dials_of w) (back_dials limits s row now) ∙ dials_row s out taken w h.row k h.found)
    (same_dials s (back_row limits s row now).state w (back_dials limits s row now))
    (λ t. tk w (untaken_row s out taken w h.row k h.found t))
    (λ v n u. tk v u)

-- an idle connection that is taken out: no token names it
pub tie_idle : (s : State) (out : List Holding) (taken taken' : List ℕ) → Tied s out taken → LeavesTaken taken taken' → Tied (take_oldest s).1 out taken'
tie_idle s out taken taken' k tk =
    let less = λ (g : Weigh). oldest_keeps g s in
    let next = (less (con_of 0)).next_want in
    let conn = (less (con_of 0)).next_conn in
    record {
      own = oldest_owns 0 s k.own;
      occ = λ w. omega (arith, (less (occ_of w)).weight, k.occ w);
      dia = λ w. omega (arith, (less (dia_of w)).weight, k.dia w);
      con = λ n. omega (arith, (less (con_of n)).weight, k.con n);
      occ_new = λ w l. omega (arith, (less (occ_of w)).weight, k.occ_new w (rw next at l));
      dia_new = λ w l. omega (arith, (less (dia_of w)).weight, k.dia_new w (rw next at l));
      con_new = λ n l. omega (arith, (less (con_of n)).weight, k.con_new n (rw conn at l));
      out_new = λ w l. k.out_new w (rw next at l);
      once = k.once;
      held = λ w. omega (arith, (less (occ_of w)).weight, k.held w);
      dials = λ w. ap (dials_of w) (less (occ_of w)).dials ∙ k.dials w;
      untaken = λ w t. tk w (k.untaken w t);
      taken_new = λ w l. tk w (k.taken_new w (rw next at l));
    }

-- a want that is given up
pub tie_cancel : (limits : Limits) (s : State) (out : List Holding) (taken taken' : List ℕ) (w : ℕ) (row : WantRow) → Tied s out taken → find (wants_it w) s.wants ≡ Some row → has_ticket w out ≡ true → LeavesTaken taken taken' → Tied (cancel_row limits s row).state (change w without_ticket out) taken'
tie_cancel limits s out taken taken' w row k f l tk =
    let h = has w out (λ x. x.ticket) l in
    let same : row.want ≡ w = eqb-true row.want w (found_passes (wants_it w) s.wants row f) in
    let less = cancel_less (occ_of w) limits s w row f in
    let own : want_weight (occ_of w) row ≡ 1 = stage_one w row.stage row.want same in
    tie_kept s (cancel_row limits s row).state out taken taken' w h.row without_ticket renames_no_ticket k h.found
    (less_moves s (cancel_row limits s row).state (cancel_owns 0 limits s row k.own) k.con k.con_new (λ g. weaken g s (cancel_row limits s row).state (want_weight g row) (cancel_less g limits s w row f)))
    (omega (arith, less.weight, own, k.occ w))
    (ap (dials_of w) (cancel_dials limits s row) ∙ dials_row s out taken w h.row k h.found)
    (same_dials s (cancel_row limits s row).state w (cancel_dials limits s row))
    (λ t. cc)
    (λ v n u. tk v u)

pub tie_cancel_conn : (limits : Limits) (s : State) (out : List Holding) (taken taken' : List ℕ) (w now : ℕ) (row : ConnRow) (caller : ℕ) → Tied s out taken → find (is_with w) s.conns ≡ Some row → row.place ≡ Out w caller → has_ticket w out ≡ true → LeavesTaken taken taken' → Tied (cancel_conn limits s w row now).state (change w without_ticket out) taken'
tie_cancel_conn limits s out taken taken' w now row caller k f p l tk =
    let h = has w out (λ x. x.ticket) l in
    let less = cancel_conn_less (occ_of w) limits s w now row f in
    let own : place_weight (occ_of w) row.place ≡ 1 = (rw p (one_same w)) in
    tie_kept s (cancel_conn limits s w row now).state out taken taken' w h.row without_ticket renames_no_ticket k h.found
    (less_moves s (cancel_conn limits s w row now).state (cancel_conn_owns 0 limits s w now row k.own) k.con k.con_new (λ g. weaken g s (cancel_conn limits s w row now).state (place_weight g row.place) (cancel_conn_less g limits s w now row f)))
    (omega (arith, less.weight, own, k.occ w))
    (ap (dials_of w) (cancel_conn_dials limits s w now row) ∙ dials_row s out taken w h.row k h.found)
    (same_dials s (cancel_conn limits s w row now).state w (cancel_conn_dials limits s w now row))
    (λ t. cc)
    (λ v n u. tk v u)

-- a want that isn't coming, or whose connection is handed out: the rows stay
here_moves : (s : State) (out : List Holding) (taken : List ℕ) → Tied s out taken → Moves s s
here_moves s out taken k = record { own = k.own; occ = λ w. omega arith; dia = λ w. omega arith; con = k.con; con_new = k.con_new; next_want = refl }

pub tie_none : (s : State) (out : List Holding) (taken taken' : List ℕ) (w : ℕ) → Tied s out taken → find (wants_it w) s.wants ≡ None → find (is_with w) s.conns ≡ None → has_ticket w out ≡ true → LeavesTaken taken taken' → Tied s (change w without_ticket out) taken'
tie_none s out taken taken' w k nw nc l tk =
    let h = has w out (λ x. x.ticket) l in
    tie_kept s s out taken taken' w h.row without_ticket renames_no_ticket k h.found (here_moves s out taken k)
    (omega (arith, nothing_there w s nw nc))
    (dials_row s out taken w h.row k h.found)
    (λ v n. refl)
    (λ t. cc)
    (λ v n u. tk v u)

pub tie_lease : (s : State) (out : List Holding) (taken taken' : List ℕ) (w : ℕ) → Tied s out taken → has_ticket w out ≡ true → LeavesOthers w taken taken' → Tied s (change w leased out) taken'
tie_lease s out taken taken' w k l tk =
    let h = has w out (λ x. x.ticket) l in
    tie_kept s s out taken taken' w h.row leased renames_leased k h.found (here_moves s out taken k)
    (omega (arith, k.occ w))
    (dials_row s out taken w h.row k h.found)
    (λ v n. refl)
    (λ t. cc)
    (λ v n u. tk v n u)

-- a dial that begins
pub start_dials : (s : State) (row : WantRow) → (start_row s row).state.dials ≡ s.dials ++ (record { want = row.want; host = row.host; caller = row.caller }) ∷ []
unfolding start_row
start_dials s row = refl

pub tie_start : (s : State) (out : List Holding) (taken taken' : List ℕ) (w : ℕ) (row : WantRow) → Tied s out taken → find (wants_it w) s.wants ≡ Some row → is_granted row.stage ≡ true → has_ticket w out ≡ true → LeavesTaken taken taken' → Tied (start_row s row).state (change w with_dial out) taken'
tie_start s out taken taken' w row k f g l tk =
    let h = has w out (λ x. x.ticket) l in
    let same : row.want ≡ w = eqb-true row.want w (found_passes (wants_it w) s.wants row f) in
    let dial : DialRow = record { want = row.want; host = row.host; caller = row.caller } in
    let none : dials_of w s.dials ≡ 0 = undialed_dials w s row f g same (k.dia w) in
    let all : (v : ℕ) → dials_of v (start_row s row).state.dials ≡ dials_of v s.dials + one v row.want = λ v. ap (dials_of v) (start_dials s row) ∙ sum_by_push (λ (r : DialRow). one v r.want) s.dials dial in
    let mine : one w row.want ≡ 1 = ap (one w) same ∙ one_same w in
    tie_kept s (start_row s row).state out taken taken' w h.row with_dial renames_dial k h.found
    (less_moves s (start_row s row).state (start_owns 0 s w row f k.own) k.con k.con_new (λ v. start_less v s w row f g))
    (omega (arith, (start_less (occ_of w) s w row f g).weight, held_row s out taken w h.row k h.found))
    (omega (arith, all w, none, mine))
    (λ v n. let other : one v row.want ≡ 0 = ap (one v) same ∙ one_other v w n in omega (arith, all v, other))
    (λ t. tk w (untaken_row s out taken w h.row k h.found t))
    (λ v n u. tk v u)

-- a dial that ends
pub gone_dials : (s t : State) (w v : ℕ) (row : DialRow) → t.dials ≡ remove_first (dials_for row.want) s.dials → find (dials_for row.want) s.dials ≡ Some row → dials_of v t.dials + one v row.want ≡ dials_of v s.dials
gone_dials s t w v row e f = rw e (removed (λ (r : DialRow). one v r.want) (dials_for row.want) s.dials row f)

pub dial_found : (want : ℕ) (s : State) (row : DialRow) → find (dials_for want) s.dials ≡ Some row → find (dials_for row.want) s.dials ≡ Some row
dial_found want s row f = let same : row.want ≡ want = eqb-true row.want want (found_passes (dials_for want) s.dials row f) in
    let P : ℕ → Type 0 = λ n. find (dials_for n) s.dials ≡ Some row in
    subst P (sym same) f

tie_dial : (s t : State) (out : List Holding) (taken taken' : List ℕ) (w : ℕ) (row : DialRow) → Tied s out taken → find (dials_for w) s.dials ≡ Some row → t.dials ≡ remove_first (dials_for row.want) s.dials → has_dial w out ≡ true → Moves s t → LeavesTaken taken taken' → Tied t (change w without_dial out) taken'
tie_dial s t out taken taken' w row k f e l m tk =
    let h = has w out (λ x. x.dial) l in
    let same : row.want ≡ w = eqb-true row.want w (found_passes (dials_for w) s.dials row f) in
    let all = λ (v : ℕ). gone_dials s t w v row e (dial_found w s row f) in
    let mine : one w row.want ≡ 1 = ap (one w) same ∙ one_same w in
    let before : dials_of w s.dials ≡ 1 = dials_row s out taken w h.row k h.found ∙ ap bit h.has in
    tie_kept s t out taken taken' w h.row without_dial renames_no_dial k h.found m
    (omega (arith, m.occ w, held_row s out taken w h.row k h.found))
    (omega (arith, all w, mine, before))
    (λ v n. let other : one v row.want ≡ 0 = ap (one v) same ∙ one_other v w n in omega (arith, all v, other))
    (λ u. tk w (untaken_row s out taken w h.row k h.found u))
    (λ v n u. tk v u)

pub tie_failed : (limits : Limits) (s : State) (out : List Holding) (taken taken' : List ℕ) (w : ℕ) (row : DialRow) → Tied s out taken → find (dials_for w) s.dials ≡ Some row → has_dial w out ≡ true → LeavesTaken taken taken' → Tied (failed_row limits s row).state (change w without_dial out) taken'
tie_failed limits s out taken taken' w row k f l tk =
    tie_dial s (failed_row limits s row).state out taken taken' w row k f (failed_dials limits s row) l
    (less_moves s (failed_row limits s row).state (failed_owns 0 limits s row k.own) k.con k.con_new (λ g. weaken g s (failed_row limits s row).state (g.dial row.want) (failed_less g limits s w row f)))
    tk

dialed_con : (n next : ℕ) (s t : State) → weight (con_of n) t ≤ weight (con_of n) s + one n next → next ≡ s.next_conn → weight (con_of n) s ≤ 1 → (s.next_conn ≤ n → weight (con_of n) s ≡ 0) → weight (con_of n) t ≤ 1
dialed_con n next s t l e c new = elim (decide n next) [
  | inl same ↦ omega (arith, l, ap (one n) (sym same) ∙ one_same n, new (omega (arith, same, e)))
  | inr other ↦ omega (arith, l, one_other n next other, c)
]

pub tie_dialed : (limits : Limits) (s : State) (out : List Holding) (taken taken' : List ℕ) (w link now : ℕ) (row : DialRow) → Tied s out taken → find (dials_for w) s.dials ≡ Some row → has_dial w out ≡ true → LeavesTaken taken taken' → Tied (dialed_row limits s row link now).state (change w without_dial out) taken'
tie_dialed limits s out taken taken' w link now row k f l tk =
    let t = (dialed_row limits s row link now).state in
    let a = λ (g : Weigh). dialed_adds g limits s w link now row f in
    tie_dial s t out taken taken' w row k f (dialed_dials limits s row link now) l
    (record {
      own = dialed_owns 0 limits s w link now row f k.own;
      occ = λ v. omega (arith, (a (occ_of v)).weight);
      dia = λ v. omega (arith, (a (dia_of v)).weight);
      con = λ n. dialed_con n s.next_conn s t (omega (arith, (a (con_of n)).weight)) refl (k.con n) (k.con_new n);
      con_new = λ n h. (let next = (a (con_of n)).next_conn in let above : s.next_conn + 1 ≤ n = omega (arith, next, h) in omega (arith, (a (con_of n)).weight, one_other n s.next_conn (λ e. omega (arith, e, above)), k.con_new n (omega (arith, above))));
      next_want = (a (con_of 0)).next_want;
    })
    tk

pub leased_has : (w : ℕ) (out : List Holding) → ((v : ℕ) → sum_by (λ (h : Holding). one v h.want) out ≤ 1) → has_ticket w out ≡ true → has_lease w (change w leased out) ≡ true
leased_has w out l k =
    let h = has w out (λ x. x.ticket) k in
    let after = changed w leased out h.row renames_leased l h.found in
    rw after.here (kept_lease (leased h.row))
