-- In each legal state a want and a connection stand once at most, and none has a number that is still to come.
use Rattle.std.proofs.Common.{◌≡◌, ℕ, ◌+◌, ◌≤◌, ◌⊎◌, inl, inr, List, Some, refl, ap, sym, ◌∙◌, arith}
use Rattle.gw_pool.specs.declared.limits.Limits.{Limits}
use Rattle.gw_pool.specs.declared.entry.Entry.{Entry}
use Rattle.gw_pool.specs.declared.entry.Call.{Call}
use Rattle.gw_pool.specs.declared.entry.Call.TheVariants as call
use Rattle.gw_pool.specs.State.{State, empty, take_oldest}
use Rattle.gw_pool.specs.Machine.{Outcome, step, want_step}
use Rattle.gw_pool.specs.History.{IsLegal, after}
use Rattle.gw_pool.proofs.Inverts.{want_was, start_was, dialed_was, failed_was, cancel_was, back_was, drop_was, expire_was, close_was, CancelRowWas, CancelConnWas, IdleWas}
use Rattle.gw_pool.proofs.Weights.{Weigh, Lessens, weight, want_weight, conn_weight, place_weight, want_adds, start_less, dialed_adds, failed_less, cancel_less, cancel_conn_less, back_less, drop_less, oldest_keeps}
use Rattle.gw_pool.proofs.Ties.{one, occ_of, dia_of, con_of, decide, one_same, one_other}
use Rattle.gw_pool.proofs.Walk.{legal_along}

pub record Numbers (s : State) : Type 0 where
  pub occ : (w : ℕ) → weight (occ_of w) s ≤ 1
  pub dia : (w : ℕ) → weight (dia_of w) s ≤ 1
  pub con : (n : ℕ) → weight (con_of n) s ≤ 1
  pub occ_new : (w : ℕ) → s.next_want ≤ w → weight (occ_of w) s ≡ 0
  pub dia_new : (w : ℕ) → s.next_want ≤ w → weight (dia_of w) s ≡ 0
  pub con_new : (n : ℕ) → s.next_conn ≤ n → weight (con_of n) s ≡ 0

-- a step that makes nothing heavier
pub less_numbers : (s t : State) → ((g : Weigh) → Lessens g s t 0) → Numbers s → Numbers t
less_numbers s t l k =
    let next = (l (con_of 0)).next_want in
    let conn = (l (con_of 0)).next_conn in
    record {
      occ = λ w. omega (arith, (l (occ_of w)).weight, k.occ w);
      dia = λ w. omega (arith, (l (dia_of w)).weight, k.dia w);
      con = λ n. omega (arith, (l (con_of n)).weight, k.con n);
      occ_new = λ w h. omega (arith, (l (occ_of w)).weight, k.occ_new w (rw next at h));
      dia_new = λ w h. omega (arith, (l (dia_of w)).weight, k.dia_new w (rw next at h));
      con_new = λ n h. omega (arith, (l (con_of n)).weight, k.con_new n (rw conn at h));
    }

pub weaken : (g : Weigh) (s t : State) (down : ℕ) → Lessens g s t down → Lessens g s t 0
weaken g s t down l = record { weight = omega (arith, l.weight); next_want = l.next_want; next_conn = l.next_conn }

-- a new number stands once
at_most : (a b k m : ℕ) → a ≤ b + one k m → (k ≡ m → b ≡ 0) → b ≤ 1 → a ≤ 1
at_most a b k m l new old = elim (decide k m) [
  | inl same ↦ omega (arith, l, new same, ap (λ x. one k x) (sym same) ∙ one_same k)
  | inr other ↦ omega (arith, l, old, one_other k m other)
]

above : (k m : ℕ) → m + 1 ≤ k → one k m ≡ 0
above k m h = one_other k m (λ e. omega (arith, e, h))

want_weighs : (limits : Limits) (s : State) (caller host now : ℕ) (g : Weigh) → weight g (want_step limits s caller host now).state ≤ weight g s + g.want s.next_want
want_weighs limits s caller host now g = elim (want_adds g limits s caller host now) [ inl k ↦ omega (arith, k.weight) | inr a ↦ omega (arith, a.weight) ]

-- a want whose number stays to come makes nothing heavier
want_next : (limits : Limits) (s : State) (caller host now : ℕ) (g : Weigh) → (weight g (want_step limits s caller host now).state ≤ weight g s) ⊎ ((want_step limits s caller host now).state.next_want ≡ s.next_want + 1)
want_next limits s caller host now g = elim (want_adds g limits s caller host now) [ inl k ↦ inl (omega (arith, k.weight)) | inr a ↦ inr a.next_want ]

want_not_less : (limits : Limits) (s : State) (caller host now : ℕ) → s.next_want ≤ (want_step limits s caller host now).state.next_want
want_not_less limits s caller host now = elim (want_adds (con_of 0) limits s caller host now) [ inl k ↦ omega (arith, k.next_want) | inr a ↦ omega (arith, a.next_want) ]

want_conns : (limits : Limits) (s : State) (caller host now : ℕ) → (want_step limits s caller host now).state.next_conn ≡ s.next_conn
want_conns limits s caller host now = elim (want_adds (con_of 0) limits s caller host now) [ inl k ↦ k.next_conn | inr a ↦ a.next_conn ]

new_none : (limits : Limits) (s : State) (caller host now w : ℕ) (g : Weigh) → g.want s.next_want ≡ one w s.next_want → (s.next_want ≤ w → weight g s ≡ 0) → (want_step limits s caller host now).state.next_want ≤ w → weight g (want_step limits s caller host now).state ≡ 0
new_none limits s caller host now w g e old h =
    let not_less = want_not_less limits s caller host now in
    elim (want_next limits s caller host now g) [
      | inl less ↦ omega (arith, less, old (omega (arith, not_less, h)))
      | inr next ↦ omega (arith, want_weighs limits s caller host now g, e, above w s.next_want (omega (arith, next, h)), old (omega (arith, not_less, h)))
    ]

want_numbers : (limits : Limits) (s : State) (caller host now : ℕ) → Numbers s → Numbers (want_step limits s caller host now).state
want_numbers limits s caller host now k =
    let l = λ (g : Weigh). want_weighs limits s caller host now g in
    record {
      occ = λ w. at_most (weight (occ_of w) (want_step limits s caller host now).state) (weight (occ_of w) s) w s.next_want (l (occ_of w)) (λ e. k.occ_new w (omega (arith, e))) (k.occ w);
      dia = λ w. at_most (weight (dia_of w) (want_step limits s caller host now).state) (weight (dia_of w) s) w s.next_want (l (dia_of w)) (λ e. k.dia_new w (omega (arith, e))) (k.dia w);
      con = λ n. omega (arith, l (con_of n), k.con n);
      occ_new = λ w h. new_none limits s caller host now w (occ_of w) refl (k.occ_new w) h;
      dia_new = λ w h. new_none limits s caller host now w (dia_of w) refl (k.dia_new w) h;
      con_new = λ n h. omega (arith, l (con_of n), k.con_new n (rw (want_conns limits s caller host now) at h));
    }

-- a dial that gave a connection
dialed_numbers : (limits : Limits) (s t : State) → ((g : Weigh) → weight g t ≤ weight g s + g.conn s.next_conn) → t.next_want ≡ s.next_want → t.next_conn ≡ s.next_conn + 1 → Numbers s → Numbers t
dialed_numbers limits s t l next conn k = record {
  occ = λ w. omega (arith, l (occ_of w), k.occ w);
  dia = λ w. omega (arith, l (dia_of w), k.dia w);
  con = λ n. at_most (weight (con_of n) t) (weight (con_of n) s) n s.next_conn (l (con_of n)) (λ e. k.con_new n (omega (arith, e))) (k.con n);
  occ_new = λ w h. omega (arith, l (occ_of w), k.occ_new w (rw next at h));
  dia_new = λ w h. omega (arith, l (dia_of w), k.dia_new w (rw next at h));
  con_new = λ n h. (let big : s.next_conn + 1 ≤ n = rw conn at h in omega (arith, l (con_of n), above n s.next_conn big, k.con_new n (omega (arith, big))));
}

at : (o p : Outcome) → o ≡ p → Numbers p.state → Numbers o.state
at o p e k = rw e k

cancelled : (limits : Limits) (s : State) (caller want now : ℕ) (o : Outcome) → CancelRowWas limits s caller want o ⊎ CancelConnWas limits s caller want now o → Numbers s → Numbers o.state
cancelled limits s caller want now o (inl w) k = at o _ w.same (less_numbers s _ (λ g. weaken g s _ (want_weight g w.row) (cancel_less g limits s want w.row w.found)) k)
cancelled limits s caller want now o (inr w) k = at o _ w.same (less_numbers s _ (λ g. weaken g s _ (place_weight g w.row.place) (cancel_conn_less g limits s want now w.row w.found)) k)

oldest_less : (g : Weigh) (s : State) → Lessens g s (take_oldest s).1 0
oldest_less g s = let k = oldest_keeps g s in record { weight = omega (arith, k.weight); next_want = k.next_want; next_conn = k.next_conn }

idled : (s : State) (o : Outcome) → IdleWas s o → Numbers s → Numbers o.state
idled s o w k = at o _ w.same (less_numbers s (take_oldest s).1 (λ g. oldest_less g s) k)

pub step_numbers : (limits : Limits) (s : State) (caller : ℕ) (asked : Call) (o : Outcome) → step limits s caller asked ≡ Some o → Numbers s → Numbers o.state
step_numbers limits s caller (call.Want host now) o e k = at o _ (want_was limits s caller host now o e) (want_numbers limits s caller host now k)
step_numbers limits s caller (call.Start want) o e k = let w = start_was limits s caller want o e in at o _ w.same (less_numbers s _ (λ g. start_less g s want w.row w.found w.granted) k)
step_numbers limits s caller (call.Dialed want link now) o e k =
    let w = dialed_was limits s caller want link now o e in
    let a = λ (g : Weigh). dialed_adds g limits s want link now w.row w.found in
    at o _ w.same (dialed_numbers limits s _ (λ g. omega (arith, (a g).weight)) (a (con_of 0)).next_want (a (con_of 0)).next_conn k)
step_numbers limits s caller (call.DialFailed want) o e k = let w = failed_was limits s caller want o e in at o _ w.same (less_numbers s _ (λ g. weaken g s _ (g.dial w.row.want) (failed_less g limits s want w.row w.found)) k)
step_numbers limits s caller (call.Cancel want now) o e k = cancelled limits s caller want now o (cancel_was limits s caller want now o e) k
step_numbers limits s caller (call.GiveBack conn now) o e k = let w = back_was limits s caller conn now o e in at o _ w.same (less_numbers s _ (λ g. weaken g s _ (place_weight g w.row.place) (back_less g limits s conn now w.row w.found)) k)
step_numbers limits s caller (call.Drop conn) o e k = let w = drop_was limits s caller conn o e in at o _ w.same (less_numbers s _ (λ g. weaken g s _ (conn_weight g w.row) (drop_less g limits s conn w.row w.found)) k)
step_numbers limits s caller (call.Expire now) o e k = idled s o (expire_was limits s caller now o e) k
step_numbers limits s caller call.CloseIdle o e k = idled s o (close_was limits s caller o e) k

pub empty_numbers : Numbers empty
unfolding weight
empty_numbers = record { occ = λ w. omega arith; dia = λ w. omega arith; con = λ n. omega arith; occ_new = λ w h. refl; dia_new = λ w h. refl; con_new = λ n h. refl }

pub legal_numbers : (limits : Limits) (h : List Entry) → IsLegal limits h → Numbers (after limits h)
legal_numbers limits h l = legal_along limits Numbers (λ s e o f r k. step_numbers limits s e.caller e.call o f k) empty_numbers h l
