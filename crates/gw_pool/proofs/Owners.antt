-- In each legal history each row of a want is its owner's.
use Rattle.std.proofs.Common.{◌≡◌, ℕ, inl, inr, List, [], ◌∷◌, ◌++◌, Some, None, refl, ap, sym, ◌∙◌, subst, arith, eq-eqb, ne_eqb}
use Rattle.gw_pool.specs.declared.limits.Limits.{Limits}
use Rattle.gw_pool.specs.declared.entry.Entry.{Entry}
use Rattle.gw_pool.specs.declared.entry.Call.{Call}
use Rattle.gw_pool.specs.declared.entry.Call.TheVariants as call
use Rattle.gw_pool.specs.declared.entry.Reply.{Reply}
use Rattle.gw_pool.specs.declared.rows.Place.{Place}
use Rattle.gw_pool.specs.declared.rows.Place.TheVariants.{Out, Idle}
use Rattle.gw_pool.specs.State.{State, empty}
use Rattle.gw_pool.specs.Machine.{Outcome, step, want_step}
use Rattle.gw_pool.specs.History.{IsLegal, after}
use Rattle.gw_pool.proofs.Inverts.{want_was, start_was, dialed_was, failed_was, cancel_was, back_was, drop_was, expire_was, close_was}
use Rattle.gw_pool.proofs.Weights.{start_less, dialed_adds, failed_less, cancel_less, cancel_conn_less, back_less, drop_less, oldest_keeps}
use Rattle.gw_pool.proofs.Ties.{con_of}
use Rattle.gw_pool.proofs.Walk.{walk}
use Rattle.gw_pool.specs.Owner.{made_by, made_by_reply, owners_after, owners_from, owner, Rows, PlaceIs, Owned, IsOwned}
use Rattle.gw_pool.proofs.RowSteps.{MakesOr, makes_or, start_rows, dialed_rows, failed_rows, cancel_rows, cancel_conn_rows, back_rows, drop_rows, oldest_rows, want_rows}

owners_push : (by : ℕ → ℕ) (h : List Entry) (e : Entry) → owners_from by (h ++ e ∷ []) ≡ owners_after (owners_from by h) e
owners_push by [] e = refl
owners_push by (x ∷ h) e = owners_push (owners_after by x) h e

pub owner_push : (h : List Entry) (e : Entry) → owner (h ++ e ∷ []) ≡ owners_after (owner h) e
unfolding owner
owner_push h e = owners_push (λ want. 0) h e

-- what is true of each row's want and caller may be said otherwise
place_as : (P Q : ℕ → ℕ → Type 0) → ((w c : ℕ) → P w c → Q w c) → (place : Place) → PlaceIs P place → PlaceIs Q place
place_as P Q f (Out w c) p = f w c p
place_as P Q f (Idle a b) p = tt

pub rows_as : (P Q : ℕ → ℕ → Type 0) (s : State) → ((w c : ℕ) → P w c → Q w c) → Rows P s → Rows Q s
rows_as P Q s f o = record {
  wants = λ r m. f r.want r.caller (o.wants r m);
  dials = λ r m. f r.want r.caller (o.dials r m);
  conns = λ r m. place_as P Q f r.place (o.conns r m);
}

-- a step that makes no want
renumbered : (by : ℕ → ℕ) (n m : ℕ) (t : State) → m ≡ n → Rows (Owned by n) t → Rows (Owned by m) t
renumbered by n m t e o = subst (λ k. Rows (Owned by k) t) (sym e) o

-- the owners after a want
pub owners_none : (by : ℕ → ℕ) (e : Entry) (w : ℕ) → made_by e.call e.reply ≡ None → owners_after by e w ≡ by w
owners_none by e w m = rw m

pub owners_new : (by : ℕ → ℕ) (e : Entry) (n : ℕ) → made_by e.call e.reply ≡ Some n → owners_after by e n ≡ e.caller
owners_new by e n m = rw (m, eq-eqb n n refl)

pub owners_old : (by : ℕ → ℕ) (e : Entry) (n w : ℕ) → made_by e.call e.reply ≡ Some n → (w ≡ n → ⊥) → owners_after by e w ≡ by w
owners_old by e n w m ne = rw (m, ne_eqb n w (λ e. ne (sym e)))

want_owned_by : (limits : Limits) (s : State) (by : ℕ → ℕ) (host now : ℕ) (e : Entry) → MakesOr s (want_step limits s e.caller host now) → made_by e.call e.reply ≡ made_by_reply (want_step limits s e.caller host now).reply → IsOwned by s → IsOwned (owners_after by e) (want_step limits s e.caller host now).state
want_owned_by limits s by host now e (inl none) m o =
    want_rows (Owned (owners_after by e) (want_step limits s e.caller host now).state.next_want) limits s e.caller host now (λ u. absurd (omega (arith, u, none.1)))
    (rows_as (Owned by s.next_want) (Owned (owners_after by e) (want_step limits s e.caller host now).state.next_want) s (λ w c p. (omega (arith, p.0, none.1), p.1 ∙ sym (owners_none by e w (m ∙ none.0)))) o)
want_owned_by limits s by host now e (inr some) m o =
    want_rows (Owned (owners_after by e) (want_step limits s e.caller host now).state.next_want) limits s e.caller host now (λ u. (omega (arith, some.1), sym (owners_new by e s.next_want (m ∙ some.0))))
    (rows_as (Owned by s.next_want) (Owned (owners_after by e) (want_step limits s e.caller host now).state.next_want) s (λ w c p. (omega (arith, p.0, some.1), p.1 ∙ sym (owners_old by e s.next_want w (m ∙ some.0) (λ same. omega (arith, same, p.0))))) o)

-- each step
kept_by : (by : ℕ → ℕ) (e : Entry) (s t : State) → t.next_want ≡ s.next_want → made_by e.call e.reply ≡ None → (((P : ℕ → ℕ → Type 0) → Rows P s → Rows P t)) → IsOwned by s → IsOwned (owners_after by e) t
kept_by by e s t n m f o = rows_as (Owned by s.next_want) (Owned (owners_after by e) t.next_want) t (λ w c p. (omega (arith, p.0, n), p.1 ∙ sym (owners_none by e w m))) (f (Owned by s.next_want) o)

-- what a call that fits leaves of its outcome
by_call : (limits : Limits) (s : State) (by : ℕ → ℕ) (caller : ℕ) (asked : Call) (answer : Reply) (o : Outcome) → step limits s caller asked ≡ Some o → o.reply ≡ answer → IsOwned by s
    → IsOwned (owners_after by (record { caller = caller; call = asked; reply = answer })) o.state
by_call limits s by caller (call.Want host now) answer o f r k =
    let same = want_was limits s caller host now o f in
    rw same (want_owned_by limits s by host now (record { caller = caller; call = call.Want host now; reply = answer }) (makes_or limits s caller host now) (ap made_by_reply (sym r ∙ ap (λ (x : Outcome). x.reply) same)) k)
by_call limits s by caller (call.Start want) answer o f r k =
    let was = start_was limits s caller want o f in let same = was.same in
    rw same (kept_by by (record { caller = caller; call = call.Start want; reply = answer }) s _ (start_less (con_of 0) s want was.row was.found was.granted).next_want refl (λ P. start_rows P s want was.row was.found) k)
by_call limits s by caller (call.Dialed want link now) answer o f r k =
    let was = dialed_was limits s caller want link now o f in let same = was.same in
    rw same (kept_by by (record { caller = caller; call = call.Dialed want link now; reply = answer }) s _ (dialed_adds (con_of 0) limits s want link now was.row was.found).next_want refl (λ P. dialed_rows P limits s want link now was.row was.found) k)
by_call limits s by caller (call.DialFailed want) answer o f r k =
    let was = failed_was limits s caller want o f in let same = was.same in
    rw same (kept_by by (record { caller = caller; call = call.DialFailed want; reply = answer }) s _ (failed_less (con_of 0) limits s want was.row was.found).next_want refl (λ P. failed_rows P limits s was.row) k)
by_call limits s by caller (call.Cancel want now) answer o f r k = elim (cancel_was limits s caller want now o f) [
  | inl was ↦ (let same = was.same in
      rw same (kept_by by (record { caller = caller; call = call.Cancel want now; reply = answer }) s _ (cancel_less (con_of 0) limits s want was.row was.found).next_want refl (λ P. cancel_rows P limits s was.row) k))
  | inr was ↦ (let same = was.same in
      rw same (kept_by by (record { caller = caller; call = call.Cancel want now; reply = answer }) s _ (cancel_conn_less (con_of 0) limits s want now was.row was.found).next_want refl (λ P. cancel_conn_rows P limits s want now was.row) k))
]
by_call limits s by caller (call.GiveBack conn now) answer o f r k =
    let was = back_was limits s caller conn now o f in let same = was.same in
    rw same (kept_by by (record { caller = caller; call = call.GiveBack conn now; reply = answer }) s _ (back_less (con_of 0) limits s conn now was.row was.found).next_want refl (λ P. back_rows P limits s was.row now) k)
by_call limits s by caller (call.Drop conn) answer o f r k =
    let was = drop_was limits s caller conn o f in let same = was.same in
    rw same (kept_by by (record { caller = caller; call = call.Drop conn; reply = answer }) s _ (drop_less (con_of 0) limits s conn was.row was.found).next_want refl (λ P. drop_rows P limits s was.row) k)
by_call limits s by caller (call.Expire now) answer o f r k =
    let was = expire_was limits s caller now o f in let same = was.same in
    rw same (kept_by by (record { caller = caller; call = call.Expire now; reply = answer }) s _ (oldest_keeps (con_of 0) s).next_want refl (λ P. oldest_rows P s) k)
by_call limits s by caller call.CloseIdle answer o f r k =
    let was = close_was limits s caller o f in let same = was.same in
    rw same (kept_by by (record { caller = caller; call = call.CloseIdle; reply = answer }) s _ (oldest_keeps (con_of 0) s).next_want refl (λ P. oldest_rows P s) k)

empty_owned : (by : ℕ → ℕ) → IsOwned by empty
empty_owned by = record { wants = λ r m. absurd m; dials = λ r m. absurd m; conns = λ r m. absurd m }

pub legal_owned : (limits : Limits) (h : List Entry) → IsLegal limits h → IsOwned (owner h) (after limits h)
legal_owned limits h l = walk limits (λ before s. IsOwned (owner before) s)
    (λ before s e o f r k. subst (λ by. IsOwned by o.state) (sym (owner_push before e)) (by_call limits s (owner before) e.caller e.call e.reply o f r k))
    (empty_owned (owner [])) h l
