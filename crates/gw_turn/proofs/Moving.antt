-- A call of one caller among several keeps its tokens tied to the rows, and leaves those of the others as they are.
use Rattle.std.proofs.Common.{◌≡◌, ℕ, ◌+◌, ◌≤◌, inl, inr, true, false, List, [], ◌∷◌, ◌++◌, Option, Some, None, refl, ap, sym, ◌∙◌, arith, eqb-true, subst}
use Rattle.std.proofs.lemmas.Bool.{cases_lt}
use Rattle.std.specs.List.{find}
use Rattle.std.proofs.lemmas.List.Sums.{sum_by_push}
use Rattle.gw_pool.specs.declared.limits.Limits.{Limits}
use Rattle.gw_pool.specs.declared.holding.Holding.{Holding}
use Rattle.gw_pool.specs.declared.rows.Place.TheVariants.{Out}
use Rattle.gw_pool.specs.declared.rows.WantRow.{WantRow}
use Rattle.gw_pool.specs.declared.rows.ConnRow.{ConnRow}
use Rattle.gw_pool.specs.declared.rows.DialRow.{DialRow}
use Rattle.gw_pool.specs.Core.{IsMade}
use Rattle.gw_pool.specs.Places.{is_granted}
use Rattle.gw_pool.specs.State.{State, wants_it, dials_for, has_number, is_with, take_oldest}
use Rattle.gw_pool.specs.Machine.{want_step, start_row, dialed_row, failed_row, cancel_row, cancel_conn, back_row, drop_row}
use Rattle.gw_pool.specs.Shelf.{is_among, LeavesTaken, LeavesOthers}
use Rattle.gw_pool.specs.Tokens.{names, change, holds, ticket_of, has_ticket, has_dial, has_lease, with_dial, without_dial, without_ticket, leased, without_lease}
use Rattle.gw_pool.proofs.Edits.{found_passes}
use Rattle.gw_pool.proofs.Weights.{Weigh, weight, want_weight, conn_weight, place_weight, start_less, drop_less, drop_dials, back_less, back_dials, cancel_less, cancel_dials, cancel_conn_less, cancel_conn_dials, failed_less, failed_dials, dialed_adds, dialed_dials, oldest_keeps}
use Rattle.gw_pool.proofs.Ties.{one, bit, occ_of, dials_of, decide, one_same, one_other, changed, Renames}
use Rattle.gw_pool.proofs.TieCalls.{has, kept_ticket, kept_dial, kept_lease, stage_one, undialed_dials, nothing_there, gone_dials, dial_found}
use Rattle.gw_pool.proofs.TieWant.{made_want, gone_want, adds_at_most, adds_none, want_dials, find_push_other, find_push_here, count_none}
use Rattle.gw_pool.proofs.Numbers.{Numbers}
use Rattle.gw_turn.specs.Tie.{Ties, Spares, Fresh, Moves}

-- the tokens of another caller stay tied
pub spared : (by by' : ℕ → ℕ) (c d : ℕ) (s t : State) (taken taken' : List ℕ) (out : List Holding) → (d ≡ c → ⊥) → Spares by by' c s t taken taken' → Ties by d s out taken → Ties by' d t out taken'
spared by by' c d s t taken taken' out ne k o =
    let none_own : (w : ℕ) → by' w ≡ c → find (names w) out ≡ None = λ w mine. elim (cases_lt w s.next_want) [
      | inl old ↦ o.own w (λ e. ne (sym e ∙ sym (k.kept w old) ∙ mine))
      | inr new ↦ o.made w new
    ] in
    let not_c : (w : ℕ) → by' w ≡ d → by' w ≡ c → ⊥ = λ w e f. ne (sym e ∙ f) in
    record {
      own = λ w n. elim (decide (by' w) c) [ inl mine ↦ none_own w mine | inr other ↦ o.own w (λ e. n (k.same w other ∙ e)) ];
      made = λ w l. o.made w (omega (arith, k.more, l));
      once = o.once;
      held = λ w e. omega (arith, k.occ w (not_c w e), o.held w (sym (k.same w (not_c w e)) ∙ e));
      dials = λ w e. k.dials w (not_c w e) ∙ o.dials w (sym (k.same w (not_c w e)) ∙ e);
      untaken = λ w h. elim (decide (by' w) c) [
        | inl mine ↦ absurd (let none : has_ticket w out ≡ false = ap (λ (x : Option Holding). holds (λ y. y.ticket) x) (none_own w mine) in cc)
        | inr other ↦ k.lent w other (o.untaken w h)
      ];
    }

-- a want whose tokens are out is the caller's
pub is_own : (by : ℕ → ℕ) (c : ℕ) (s : State) (out : List Holding) (taken : List ℕ) (w : ℕ) (h : Holding) → Ties by c s out taken → find (names w) out ≡ Some h → by w ≡ c
is_own by c s out taken w h k e = elim (decide (by w) c) [ inl mine ↦ mine | inr other ↦ absurd (let none = k.own w other in cc) ]

is_old : (by : ℕ → ℕ) (c : ℕ) (s : State) (out : List Holding) (taken : List ℕ) (w v : ℕ) (h : Holding) → Ties by c s out taken → find (names w) out ≡ Some h → s.next_want ≤ v → v ≡ w → ⊥
is_old by c s out taken w v h k e l same = let none : find (names w) out ≡ None = k.made w (omega (arith, l, same)) in cc

-- what one want's tokens become, where nothing gets heavier
move_want : (by : ℕ → ℕ) (c : ℕ) (s t : State) (out : List Holding) (taken taken' : List ℕ) (w : ℕ) (h : Holding) (f : Holding → Holding) → Renames f → Ties by c s out taken → find (names w) out ≡ Some h
    → t.next_want ≡ s.next_want
    → ((v : ℕ) → weight (occ_of v) t ≤ weight (occ_of v) s)
    → weight (occ_of w) t ≤ bit (f h).ticket + bit (f h).lease
    → dials_of w t.dials ≡ bit (f h).dial
    → ((v : ℕ) → (v ≡ w → ⊥) → dials_of v t.dials ≡ dials_of v s.dials)
    → ((f h).ticket ≡ true → is_among w taken' ≡ false)
    → ((v : ℕ) → (v ≡ w → ⊥) → is_among v taken ≡ false → is_among v taken' ≡ false)
    → Moves by by c s t taken taken' out (change w f out)
move_want by c s t out taken taken' w h f r k e next less heldw dialsw dialsv untakenw takenv =
    let a = changed w f out h r k.once e in
    let mine : by w ≡ c = is_own by c s out taken w h k e in
    let other : (v : ℕ) → (by v ≡ c → ⊥) → v ≡ w → ⊥ = λ v n same. n (ap by same ∙ mine) in
    let apart : (v : ℕ) → s.next_want ≤ v → v ≡ w → ⊥ = λ v l. is_old by c s out taken w v h k e l in
    record {
      own = record {
        own = λ v n. a.others v (other v n) ∙ k.own v n;
        made = λ v l. (let up : s.next_want ≤ v = omega (arith, next, l) in a.others v (apart v up) ∙ k.made v up);
        once = a.once;
        held = λ v b. elim (decide v w) [
          | inl same ↦ (let P : ℕ → Type 0 = λ n. weight (occ_of n) t ≤ bit (has_ticket n (change w f out)) + bit (has_lease n (change w f out)) in subst P (sym same) (rw (a.here, kept_ticket (f h), kept_lease (f h)) heldw))
          | inr n ↦ rw (a.others v n) (omega (arith, k.held v b, less v))
        ];
        dials = λ v b. elim (decide v w) [
          | inl same ↦ (let P : ℕ → Type 0 = λ n. dials_of n t.dials ≡ bit (has_dial n (change w f out)) in subst P (sym same) (rw (a.here, kept_dial (f h)) dialsw))
          | inr n ↦ rw (a.others v n) (dialsv v n ∙ k.dials v b)
        ];
        untaken = λ v. elim (decide v w) [
          | inl same ↦ (let P : ℕ → Type 0 = λ n. has_ticket n (change w f out) ≡ true → is_among n taken' ≡ false in subst P (sym same) (λ tk. untakenw (rw (a.here, kept_ticket (f h)) at tk)))
          | inr n ↦ λ tk. takenv v n (k.untaken v (rw (a.others v n) at tk))
        ];
      };
      others = record { kept = λ v l. refl; same = λ v n. refl; more = omega (arith, next); occ = λ v n. less v; dials = λ v n. dialsv v (other v n); lent = λ v n u. takenv v (other v n) u };
      fresh = λ all v l. (let up : s.next_want ≤ v = omega (arith, next, l) in takenv v (apart v up) (all v up));
    }

-- what the tie says of a want of the caller whose tokens are found
held_row : (by : ℕ → ℕ) (c : ℕ) (s : State) (out : List Holding) (taken : List ℕ) (w : ℕ) (h : Holding) → Ties by c s out taken → find (names w) out ≡ Some h → weight (occ_of w) s ≤ bit h.ticket + bit h.lease
held_row by c s out taken w h k e = let l = k.held w (is_own by c s out taken w h k e) in rw e at l

dials_row : (by : ℕ → ℕ) (c : ℕ) (s : State) (out : List Holding) (taken : List ℕ) (w : ℕ) (h : Holding) → Ties by c s out taken → find (names w) out ≡ Some h → dials_of w s.dials ≡ bit h.dial
dials_row by c s out taken w h k e = let l = k.dials w (is_own by c s out taken w h k e) in rw e at l

untaken_row : (by : ℕ → ℕ) (c : ℕ) (s : State) (out : List Holding) (taken : List ℕ) (w : ℕ) (h : Holding) → Ties by c s out taken → find (names w) out ≡ Some h → h.ticket ≡ true → is_among w taken ≡ false
untaken_row by c s out taken w h k e t = let l = k.untaken w in (rw e at l) t

-- a connection that is dropped, or given back
pub move_drop : (by : ℕ → ℕ) (c : ℕ) (limits : Limits) (s : State) (out : List Holding) (taken taken' : List ℕ) (conn w caller : ℕ) (row : ConnRow) → Numbers s → Ties by c s out taken → find (has_number conn) s.conns ≡ Some row → row.place ≡ Out w caller → has_lease w out ≡ true → LeavesTaken taken taken' → Moves by by c s (drop_row limits s row).state taken taken' out (change w without_lease out)
move_drop by c limits s out taken taken' conn w caller row n k f p l tk =
    let h = has w out (λ x. x.lease) l in
    let less = λ (v : ℕ). drop_less (occ_of v) limits s conn row f in
    let own : conn_weight (occ_of w) row ≡ 1 = (rw p (omega (arith, one_same w))) in
    move_want by c s (drop_row limits s row).state out taken taken' w h.row without_lease (record { same = λ x. refl }) k h.found (less w).next_want
    (λ v. omega (arith, (less v).weight))
    (omega (arith, (less w).weight, own, n.occ w))
    (ap (dials_of w) (drop_dials limits s row) ∙ dials_row by c s out taken w h.row k h.found)
    (λ v ne. ap (dials_of v) (drop_dials limits s row))
    (λ t. tk w (untaken_row by c s out taken w h.row k h.found t))
    (λ v ne u. tk v u)

pub move_back : (by : ℕ → ℕ) (c : ℕ) (limits : Limits) (s : State) (out : List Holding) (taken taken' : List ℕ) (conn now w caller : ℕ) (row : ConnRow) → Numbers s → Ties by c s out taken → find (has_number conn) s.conns ≡ Some row → row.place ≡ Out w caller → has_lease w out ≡ true → LeavesTaken taken taken' → Moves by by c s (back_row limits s row now).state taken taken' out (change w without_lease out)
move_back by c limits s out taken taken' conn now w caller row n k f p l tk =
    let h = has w out (λ x. x.lease) l in
    let less = λ (v : ℕ). back_less (occ_of v) limits s conn now row f in
    let own : place_weight (occ_of w) row.place ≡ 1 = (rw p (one_same w)) in
    move_want by c s (back_row limits s row now).state out taken taken' w h.row without_lease (record { same = λ x. refl }) k h.found (less w).next_want
    (λ v. omega (arith, (less v).weight))
    (omega (arith, (less w).weight, own, n.occ w))
    (ap (dials_of w) (back_dials limits s row now) ∙ dials_row by c s out taken w h.row k h.found)
    (λ v ne. ap (dials_of v) (back_dials limits s row now))
    (λ t. tk w (untaken_row by c s out taken w h.row k h.found t))
    (λ v ne u. tk v u)

-- a want that is given up
pub move_cancel : (by : ℕ → ℕ) (c : ℕ) (limits : Limits) (s : State) (out : List Holding) (taken taken' : List ℕ) (w : ℕ) (row : WantRow) → Numbers s → Ties by c s out taken → find (wants_it w) s.wants ≡ Some row → has_ticket w out ≡ true → LeavesTaken taken taken' → Moves by by c s (cancel_row limits s row).state taken taken' out (change w without_ticket out)
move_cancel by c limits s out taken taken' w row n k f l tk =
    let h = has w out (λ x. x.ticket) l in
    let same : row.want ≡ w = eqb-true row.want w (found_passes (wants_it w) s.wants row f) in
    let less = λ (v : ℕ). cancel_less (occ_of v) limits s w row f in
    let own : want_weight (occ_of w) row ≡ 1 = stage_one w row.stage row.want same in
    move_want by c s (cancel_row limits s row).state out taken taken' w h.row without_ticket (record { same = λ x. refl }) k h.found (less w).next_want
    (λ v. omega (arith, (less v).weight))
    (omega (arith, (less w).weight, own, n.occ w))
    (ap (dials_of w) (cancel_dials limits s row) ∙ dials_row by c s out taken w h.row k h.found)
    (λ v ne. ap (dials_of v) (cancel_dials limits s row))
    (λ t. cc)
    (λ v ne u. tk v u)

pub move_cancel_conn : (by : ℕ → ℕ) (c : ℕ) (limits : Limits) (s : State) (out : List Holding) (taken taken' : List ℕ) (w now caller : ℕ) (row : ConnRow) → Numbers s → Ties by c s out taken → find (is_with w) s.conns ≡ Some row → row.place ≡ Out w caller → has_ticket w out ≡ true → LeavesTaken taken taken' → Moves by by c s (cancel_conn limits s w row now).state taken taken' out (change w without_ticket out)
move_cancel_conn by c limits s out taken taken' w now caller row n k f p l tk =
    let h = has w out (λ x. x.ticket) l in
    let less = λ (v : ℕ). cancel_conn_less (occ_of v) limits s w now row f in
    let own : place_weight (occ_of w) row.place ≡ 1 = (rw p (one_same w)) in
    move_want by c s (cancel_conn limits s w row now).state out taken taken' w h.row without_ticket (record { same = λ x. refl }) k h.found (less w).next_want
    (λ v. omega (arith, (less v).weight))
    (omega (arith, (less w).weight, own, n.occ w))
    (ap (dials_of w) (cancel_conn_dials limits s w now row) ∙ dials_row by c s out taken w h.row k h.found)
    (λ v ne. ap (dials_of v) (cancel_conn_dials limits s w now row))
    (λ t. cc)
    (λ v ne u. tk v u)

-- the rows stay: a want that isn't coming, a connection that is handed out, nothing at all
pub move_none : (by : ℕ → ℕ) (c : ℕ) (s : State) (out : List Holding) (taken taken' : List ℕ) (w : ℕ) → Ties by c s out taken → find (wants_it w) s.wants ≡ None → find (is_with w) s.conns ≡ None → has_ticket w out ≡ true → LeavesTaken taken taken' → Moves by by c s s taken taken' out (change w without_ticket out)
move_none by c s out taken taken' w k nw nc l tk =
    let h = has w out (λ x. x.ticket) l in
    move_want by c s s out taken taken' w h.row without_ticket (record { same = λ x. refl }) k h.found refl (λ v. omega arith)
    (omega (arith, nothing_there w s nw nc))
    (dials_row by c s out taken w h.row k h.found)
    (λ v ne. refl)
    (λ t. cc)
    (λ v ne u. tk v u)

pub move_lease : (by : ℕ → ℕ) (c : ℕ) (s : State) (out : List Holding) (taken taken' : List ℕ) (w : ℕ) → Numbers s → Ties by c s out taken → has_ticket w out ≡ true → LeavesOthers w taken taken' → Moves by by c s s taken taken' out (change w leased out)
move_lease by c s out taken taken' w n k l tk =
    let h = has w out (λ x. x.ticket) l in
    move_want by c s s out taken taken' w h.row leased (record { same = λ x. refl }) k h.found refl (λ v. omega arith)
    (omega (arith, n.occ w))
    (dials_row by c s out taken w h.row k h.found)
    (λ v ne. refl)
    (λ t. cc)
    (λ v ne u. tk v ne u)

pub move_same : (by : ℕ → ℕ) (c : ℕ) (s : State) (out : List Holding) (taken : List ℕ) → Ties by c s out taken → Moves by by c s s taken taken out out
move_same by c s out taken k = record {
  own = k;
  others = record { kept = λ v l. refl; same = λ v n. refl; more = omega arith; occ = λ v n. omega arith; dials = λ v n. refl; lent = λ v n u. u };
  fresh = λ all. all;
}

-- a dial that begins
start_dials : (s : State) (row : WantRow) → (start_row s row).state.dials ≡ s.dials ++ (record { want = row.want; host = row.host; caller = row.caller }) ∷ []
unfolding start_row
start_dials s row = refl

pub move_start : (by : ℕ → ℕ) (c : ℕ) (s : State) (out : List Holding) (taken taken' : List ℕ) (w : ℕ) (row : WantRow) → Numbers s → Ties by c s out taken → find (wants_it w) s.wants ≡ Some row → is_granted row.stage ≡ true → has_ticket w out ≡ true → LeavesTaken taken taken' → Moves by by c s (start_row s row).state taken taken' out (change w with_dial out)
move_start by c s out taken taken' w row n k f g l tk =
    let h = has w out (λ x. x.ticket) l in
    let same : row.want ≡ w = eqb-true row.want w (found_passes (wants_it w) s.wants row f) in
    let dial : DialRow = record { want = row.want; host = row.host; caller = row.caller } in
    let none : dials_of w s.dials ≡ 0 = undialed_dials w s row f g same (n.dia w) in
    let all : (v : ℕ) → dials_of v (start_row s row).state.dials ≡ dials_of v s.dials + one v row.want = λ v. ap (dials_of v) (start_dials s row) ∙ sum_by_push (λ (r : DialRow). one v r.want) s.dials dial in
    let mine : one w row.want ≡ 1 = ap (one w) same ∙ one_same w in
    let less = λ (v : ℕ). start_less (occ_of v) s w row f g in
    move_want by c s (start_row s row).state out taken taken' w h.row with_dial (record { same = λ x. refl }) k h.found (less w).next_want
    (λ v. omega (arith, (less v).weight))
    (omega (arith, (less w).weight, held_row by c s out taken w h.row k h.found))
    (omega (arith, all w, none, mine))
    (λ v ne. let other : one v row.want ≡ 0 = ap (one v) same ∙ one_other v w ne in omega (arith, all v, other))
    (λ t. tk w (untaken_row by c s out taken w h.row k h.found t))
    (λ v ne u. tk v u)

-- a dial that ends
move_dial : (by : ℕ → ℕ) (c : ℕ) (s t : State) (out : List Holding) (taken taken' : List ℕ) (w : ℕ) (row : DialRow) → Ties by c s out taken → find (dials_for w) s.dials ≡ Some row → t.dials ≡ Rattle.gw_pool.specs.State.remove_first (dials_for row.want) s.dials → has_dial w out ≡ true → t.next_want ≡ s.next_want → ((v : ℕ) → weight (occ_of v) t ≤ weight (occ_of v) s) → LeavesTaken taken taken' → Moves by by c s t taken taken' out (change w without_dial out)
move_dial by c s t out taken taken' w row k f e l next less tk =
    let h = has w out (λ x. x.dial) l in
    let same : row.want ≡ w = eqb-true row.want w (found_passes (dials_for w) s.dials row f) in
    let all = λ (v : ℕ). gone_dials s t w v row e (dial_found w s row f) in
    let mine : one w row.want ≡ 1 = ap (one w) same ∙ one_same w in
    let before : dials_of w s.dials ≡ 1 = dials_row by c s out taken w h.row k h.found ∙ ap bit h.has in
    move_want by c s t out taken taken' w h.row without_dial (record { same = λ x. refl }) k h.found next less
    (omega (arith, less w, held_row by c s out taken w h.row k h.found))
    (omega (arith, all w, mine, before))
    (λ v ne. let other : one v row.want ≡ 0 = ap (one v) same ∙ one_other v w ne in omega (arith, all v, other))
    (λ u. tk w (untaken_row by c s out taken w h.row k h.found u))
    (λ v ne u. tk v u)

pub move_failed : (by : ℕ → ℕ) (c : ℕ) (limits : Limits) (s : State) (out : List Holding) (taken taken' : List ℕ) (w : ℕ) (row : DialRow) → Ties by c s out taken → find (dials_for w) s.dials ≡ Some row → has_dial w out ≡ true → LeavesTaken taken taken' → Moves by by c s (failed_row limits s row).state taken taken' out (change w without_dial out)
move_failed by c limits s out taken taken' w row k f l tk =
    let less = λ (v : ℕ). failed_less (occ_of v) limits s w row f in
    move_dial by c s (failed_row limits s row).state out taken taken' w row k f (failed_dials limits s row) l (less w).next_want (λ v. omega (arith, (less v).weight)) tk

pub move_dialed : (by : ℕ → ℕ) (c : ℕ) (limits : Limits) (s : State) (out : List Holding) (taken taken' : List ℕ) (w link now : ℕ) (row : DialRow) → Ties by c s out taken → find (dials_for w) s.dials ≡ Some row → has_dial w out ≡ true → LeavesTaken taken taken' → Moves by by c s (dialed_row limits s row link now).state taken taken' out (change w without_dial out)
move_dialed by c limits s out taken taken' w link now row k f l tk =
    let more = λ (v : ℕ). dialed_adds (occ_of v) limits s w link now row f in
    move_dial by c s (dialed_row limits s row link now).state out taken taken' w row k f (dialed_dials limits s row link now) l (more w).next_want (λ v. omega (arith, (more v).weight)) tk

-- an idle connection that is taken out, by a want too: no token names it
lighter : (by : ℕ → ℕ) (c : ℕ) (s t : State) (out : List Holding) (taken taken' : List ℕ) → Ties by c s out taken → t.next_want ≡ s.next_want → ((v : ℕ) → weight (occ_of v) t ≤ weight (occ_of v) s) → t.dials ≡ s.dials → LeavesTaken taken taken' → Moves by by c s t taken taken' out out
lighter by c s t out taken taken' k next less dials tk = record {
  own = record {
    own = k.own;
    made = λ v l. k.made v (omega (arith, next, l));
    once = k.once;
    held = λ v b. omega (arith, k.held v b, less v);
    dials = λ v b. ap (dials_of v) dials ∙ k.dials v b;
    untaken = λ v u. tk v (k.untaken v u);
  };
  others = record { kept = λ v l. refl; same = λ v n. refl; more = omega (arith, next); occ = λ v n. less v; dials = λ v n. ap (dials_of v) dials; lent = λ v n u. tk v u };
  fresh = λ all v l. tk v (all v (omega (arith, next, l)));
}

pub move_idle : (by : ℕ → ℕ) (c : ℕ) (s : State) (out : List Holding) (taken taken' : List ℕ) → Ties by c s out taken → LeavesTaken taken taken' → Moves by by c s (take_oldest s).1 taken taken' out out
move_idle by c s out taken taken' k tk =
    let less = λ (v : ℕ). oldest_keeps (occ_of v) s in
    lighter by c s (take_oldest s).1 out taken taken' k (less 0).next_want (λ v. omega (arith, (less v).weight)) (less 0).dials tk

pub move_expired : (by : ℕ → ℕ) (c : ℕ) (limits : Limits) (s : State) (out : List Holding) (taken taken' : List ℕ) (host now : ℕ) (r : ConnRow) → Ties by c s out taken → (want_step limits s c host now).gone ≡ Some r → LeavesTaken taken taken' → Moves by by c s (want_step limits s c host now).state taken taken' out out
move_expired by c limits s out taken taken' host now r k g tk =
    let next = gone_want limits s c host now r g in
    lighter by c s (want_step limits s c host now).state out taken taken' k next (λ v. adds_none (occ_of v) limits s c host now next) (want_dials limits s c host now) tk

-- a new want
dials_new : (s : State) → Numbers s → dials_of s.next_want s.dials ≡ 0
unfolding weight
dials_new s n = omega (arith, n.dia_new s.next_want (omega arith))

pub move_made : (by by' : ℕ → ℕ) (c : ℕ) (limits : Limits) (s : State) (out : List Holding) (taken taken' : List ℕ) (host now v : ℕ) → Numbers s → Fresh s taken → Ties by c s out taken → by' s.next_want ≡ c → ((u : ℕ) → (u ≡ s.next_want → ⊥) → by' u ≡ by u) → IsMade v (want_step limits s c host now).reply → LeavesTaken taken taken' → Moves by by' c s (want_step limits s c host now).state taken taken' out (out ++ ticket_of v ∷ [])
move_made by by' c limits s out taken taken' host now v n fresh k new old m tk =
    let w : ℕ = s.next_want in
    let made = made_want limits s c host now v m in
    let t = (want_step limits s c host now).state in
    let next : t.next_want ≡ w + 1 = made.1 in
    let more = λ (g : Weigh). adds_at_most g limits s c host now in
    let none : find (names w) out ≡ None = k.made w (omega arith) in
    let other : (u : ℕ) → (by' u ≡ c → ⊥) → u ≡ w → ⊥ = λ u ne same. ne (ap by' same ∙ new) in
    let P : ℕ → Type 0 = λ m. Moves by by' c s t taken taken' out (out ++ ticket_of m ∷ []) in
    subst P (sym made.0) (record {
      own = record {
        own = λ u ne. find_push_other u w out (other u ne) ∙ k.own u (λ e. ne (old u (other u ne) ∙ e));
        made = λ u l. (let above : w + 1 ≤ u = omega (arith, next, l) in find_push_other u w out (λ e. omega (arith, e, above)) ∙ k.made u (omega (arith, above)));
        once = λ u. elim (decide u w) [
          | inl e ↦ omega (arith, sum_by_push (λ (h : Holding). one u h.want) out (ticket_of w), ap (λ m. one u m) (sym e) ∙ one_same u, count_none u out (let Q : ℕ → Type 0 = λ m. find (names m) out ≡ None in subst Q (sym e) none))
          | inr ne ↦ omega (arith, sum_by_push (λ (h : Holding). one u h.want) out (ticket_of w), one_other u w ne, k.once u)
        ];
        held = λ u b. elim (decide u w) [
          | inl e ↦ (let Q : ℕ → Type 0 = λ m. weight (occ_of m) t ≤ bit (has_ticket m (out ++ ticket_of w ∷ [])) + bit (has_lease m (out ++ ticket_of w ∷ [])) in subst Q (sym e) (rw (find_push_here w out none) (omega (arith, more (occ_of w), n.occ_new w (omega arith), one_same w))))
          | inr ne ↦ rw (find_push_other u w out ne) (omega (arith, more (occ_of u), one_other u w ne, k.held u (sym (old u ne) ∙ b)))
        ];
        dials = λ u b. ap (dials_of u) (want_dials limits s c host now) ∙ elim (decide u w) [
          | inl e ↦ (let Q : ℕ → Type 0 = λ m. dials_of m s.dials ≡ bit (has_dial m (out ++ ticket_of w ∷ [])) in subst Q (sym e) (rw (find_push_here w out none) (dials_new s n)))
          | inr ne ↦ rw (find_push_other u w out ne) (k.dials u (sym (old u ne) ∙ b))
        ];
        untaken = λ u. elim (decide u w) [
          | inl e ↦ (λ h. let Q : ℕ → Type 0 = λ m. is_among m taken' ≡ false in subst Q (sym e) (tk w (fresh w (omega arith))))
          | inr ne ↦ (λ h. tk u (k.untaken u (rw (find_push_other u w out ne) at h)))
        ];
      };
      others = record {
        kept = λ u l. old u (λ e. omega (arith, e, l));
        same = λ u ne. old u (other u ne);
        more = omega (arith, next);
        occ = λ u ne. omega (arith, more (occ_of u), one_other u w (other u ne));
        dials = λ u ne. ap (dials_of u) (want_dials limits s c host now);
        lent = λ u ne h. tk u h;
      };
      fresh = λ all u l. tk u (all u (omega (arith, next, l)));
    })
