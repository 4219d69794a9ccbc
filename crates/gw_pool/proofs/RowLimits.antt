-- In each legal history the rows are no more than the limits allow.
use Rattle.std.proofs.Common.{◌≡◌, ℕ, ◌+◌, ◌*◌, ◌<◌, ◌≤◌, ◌==◌, ◌⊎◌, inl, inr, Bool, true, false, not, List, [], ◌∷◌, ◌++◌, length, filter, Some, refl, ap, sym, ◌∙◌, subst, cond, arith, ltb-true, ne_eqb}
use Rattle.std.specs.List.{sum_by, count_by}
use Rattle.std.proofs.lemmas.List.Sums.{sum_by-cons}
use Rattle.gw_pool.specs.declared.limits.Limits.{Limits}
use Rattle.gw_pool.specs.declared.entry.Entry.{Entry}
use Rattle.gw_pool.specs.declared.entry.Call.{Call}
use Rattle.gw_pool.specs.declared.entry.Call.TheVariants as call
use Rattle.gw_pool.specs.declared.entry.Reply.{Reply}
use Rattle.gw_pool.specs.declared.rows.Place.{Place}
use Rattle.gw_pool.specs.declared.rows.Place.TheVariants.{Out, Idle}
use Rattle.gw_pool.specs.declared.rows.WantRow.{WantRow}
use Rattle.gw_pool.specs.declared.rows.DialRow.{DialRow}
use Rattle.gw_pool.specs.declared.rows.ConnRow.{ConnRow}
use Rattle.gw_pool.specs.Places.{is_idle}
use Rattle.gw_pool.specs.State.{State, empty, rests}
use Rattle.gw_pool.specs.Machine.{Outcome, step, want_step, units}
use Rattle.gw_pool.specs.History.{IsLegal, AreBelow, after}
use Rattle.gw_pool.specs.Owner.{Owned, IsOwned, owner, owners_after, made_by, made_by_reply}
use Rattle.gw_pool.specs.Ties.{Among, Weigh, bit}
use Rattle.gw_pool.proofs.Distincts.{few_of_each, split_length}
use Rattle.gw_pool.proofs.FewRows.{occ_by, dia_by, is_by, Agree, same_weight, sum_same, stage_occ, occ_units, dia_units, owner_below}
use Rattle.gw_pool.proofs.GoingOn.{new_weight, step_weighs}
use Rattle.gw_pool.proofs.Histories.{made, entered_state}
use Rattle.gw_pool.proofs.Inverts.{want_was, want_few}
use Rattle.gw_pool.proofs.Numbers.{Numbers, legal_numbers}
use Rattle.gw_pool.proofs.Owners.{legal_owned, owner_push, owners_none, owners_new, owners_old, rows_as}
use Rattle.gw_pool.proofs.RowSteps.{makes_or, MakesOr}
use Rattle.gw_pool.proofs.SoundSteps.{idle_are_limited}
use Rattle.gw_pool.proofs.Ties.{decide}
use Rattle.gw_pool.proofs.TieWant.{adds_none, adds_at_most}
use Rattle.gw_pool.proofs.Walk.{walk}
use Rattle.gw_pool.proofs.Weights.{weight, want_weight, conn_weight, place_weight}

-- each caller's wants are as many as it may have, at most
record Few (limits : Limits) (by : ℕ → ℕ) (s : State) : Type 0 where
  occ : (c : ℕ) → weight (occ_by by c) s ≤ limits.per_pass
  dia : (c : ℕ) → weight (dia_by by c) s ≤ limits.per_pass

old_occ : (by by' : ℕ → ℕ) (c : ℕ) (s : State) → IsOwned by s → ((w : ℕ) → w < s.next_want → by' w ≡ by w) → weight (occ_by by' c) s ≡ weight (occ_by by c) s
old_occ by by' c s o k = same_weight (occ_by by' c) (occ_by by c) s (λ n. refl) (rows_as (Owned by s.next_want) (Agree (occ_by by' c) (occ_by by c)) s (λ w d p. let e = ap (λ v. bit (v == c)) (k w p.0) in (e, e, refl, e)) o)

old_dia : (by by' : ℕ → ℕ) (c : ℕ) (s : State) → IsOwned by s → ((w : ℕ) → w < s.next_want → by' w ≡ by w) → weight (dia_by by' c) s ≡ weight (dia_by by c) s
old_dia by by' c s o k = same_weight (dia_by by' c) (dia_by by c) s (λ n. refl) (rows_as (Owned by s.next_want) (Agree (dia_by by' c) (dia_by by c)) s (λ w d p. let e = ap (λ v. bit (v == c)) (k w p.0) in (e, refl, e, refl)) o)

-- a want makes the weight of its caller alone heavier, by one
bit_few : (b : Bool) → bit b ≤ 1
bit_few true = omega arith
bit_few false = omega arith

-- the new want, where there is one, is the caller's
abbrev NewBy : (ℕ → ℕ) → State → ℕ → Outcome → Type 0
NewBy by s d o = (o.state.next_want ≡ s.next_want) ⊎ (by s.next_want ≡ d)

grown : (g : Weigh) (limits : Limits) (s : State) (d c host now n : ℕ) (by : ℕ → ℕ) → g.want s.next_want ≡ is_by by c s.next_want → weight g s ≡ n → n ≤ length (units s c) → n ≤ limits.per_pass → length (units s d) < limits.per_pass → NewBy by s d (want_step limits s d host now) → weight g (want_step limits s d host now).state ≤ limits.per_pass
grown g limits s d c host now n by w e few may room new = elim (decide c d) [
  | inl same ↦ (let fewer : n ≤ length (units s d) = subst (λ k. n ≤ length (units s k)) same few in
      let adds = adds_at_most g limits s d host now in
      omega (arith, adds, w, bit_few (by s.next_want == c), e, fewer, room))
  | inr ne ↦ elim new [
    | inl none ↦ (let adds = adds_none g limits s d host now none in omega (arith, adds, e, may))
    | inr made ↦ (let adds = adds_at_most g limits s d host now in
        let zero_bit : is_by by c s.next_want ≡ 0 = ap (λ v. bit (v == c)) made ∙ ap bit (ne_eqb d c (λ f. ne (sym f))) in
        omega (arith, adds, w, zero_bit, e, may))
  ]
]

grown_on : (g : Weigh) (limits : Limits) (o p : Outcome) → o ≡ p → weight g p.state ≤ limits.per_pass → weight g o.state ≤ limits.per_pass
grown_on g limits o p e l = rw e l

new_on : (by : ℕ → ℕ) (s : State) (d : ℕ) (o p : Outcome) → o ≡ p → NewBy by s d o → NewBy by s d p
new_on by s d o p e k = subst (λ x. NewBy by s d x) e k

-- the owners of old wants stay, and a new want's owner is its caller
abbrev entry : ℕ → Call → Reply → Entry
entry d asked answer = record { caller = d; call = asked; reply = answer }

want_old : (by : ℕ → ℕ) (s : State) (e : Entry) (o : Outcome) (w : ℕ) → MakesOr s o → made_by e.call e.reply ≡ made_by_reply o.reply → w < s.next_want → owners_after by e w ≡ by w
want_old by s e o w (inl none) m l = owners_none by e w (m ∙ none.0)
want_old by s e o w (inr some) m l = owners_old by e s.next_want w (m ∙ some.0) (λ same. omega (arith, same, l))

want_new_by : (by : ℕ → ℕ) (s : State) (e : Entry) (o : Outcome) → MakesOr s o → made_by e.call e.reply ≡ made_by_reply o.reply → NewBy (owners_after by e) s e.caller o
want_new_by by s e o (inl none) m = inl none.1
want_new_by by s e o (inr some) m = inr (owners_new by e s.next_want (m ∙ some.0))

want_says : (limits : Limits) (s : State) (d host now : ℕ) (answer : Reply) (o : Outcome) → step limits s d (call.Want host now) ≡ Some o → o.reply ≡ answer → made_by_reply answer ≡ made_by_reply (want_step limits s d host now).reply
want_says limits s d host now answer o f r = ap made_by_reply (sym r ∙ ap (λ (x : Outcome). x.reply) (want_was limits s d host now o f))

old_by : (limits : Limits) (s : State) (by : ℕ → ℕ) (d : ℕ) (asked : Call) (answer : Reply) (o : Outcome) → step limits s d asked ≡ Some o → o.reply ≡ answer → (w : ℕ) → w < s.next_want → owners_after by (entry d asked answer) w ≡ by w
old_by limits s by d (call.Want host now) answer o f r w l = want_old by s (entry d (call.Want host now) answer) (want_step limits s d host now) w (makes_or limits s d host now) (want_says limits s d host now answer o f r) l
old_by limits s by d asked answer o f r w l = owners_none by (entry d asked answer) w refl

step_occ : (limits : Limits) (by : ℕ → ℕ) (s : State) (d c : ℕ) (asked : Call) (answer : Reply) (o : Outcome) → step limits s d asked ≡ Some o → o.reply ≡ answer → IsOwned by s → Numbers s → weight (occ_by by c) s ≤ limits.per_pass → weight (occ_by (owners_after by (entry d asked answer)) c) o.state ≤ limits.per_pass
step_occ limits by s d c (call.Want host now) answer o f r own n may =
    let by' : ℕ → ℕ = owners_after by (entry d (call.Want host now) answer) in
    let new = want_new_by by s (entry d (call.Want host now) answer) (want_step limits s d host now) (makes_or limits s d host now) (want_says limits s d host now answer o f r) in
    grown_on (occ_by by' c) limits o (want_step limits s d host now) (want_was limits s d host now o f)
    (grown (occ_by by' c) limits s d c host now (weight (occ_by by c) s) by' refl (old_occ by by' c s own (old_by limits s by d (call.Want host now) answer o f r)) (occ_units by c s own n) may (ltb-true (length (units s d)) limits.per_pass (want_few limits s d host now o f)) new)
step_occ limits by s d c asked answer o f r own n may =
    omega (arith, step_weighs (occ_by (owners_after by (entry d asked answer)) c) limits s d asked o (λ k. refl) f, old_occ by (owners_after by (entry d asked answer)) c s own (old_by limits s by d asked answer o f r), may)

step_dia : (limits : Limits) (by : ℕ → ℕ) (s : State) (d c : ℕ) (asked : Call) (answer : Reply) (o : Outcome) → step limits s d asked ≡ Some o → o.reply ≡ answer → IsOwned by s → Numbers s → weight (dia_by by c) s ≤ limits.per_pass → weight (dia_by (owners_after by (entry d asked answer)) c) o.state ≤ limits.per_pass
step_dia limits by s d c (call.Want host now) answer o f r own n may =
    let by' : ℕ → ℕ = owners_after by (entry d (call.Want host now) answer) in
    let new = want_new_by by s (entry d (call.Want host now) answer) (want_step limits s d host now) (makes_or limits s d host now) (want_says limits s d host now answer o f r) in
    grown_on (dia_by by' c) limits o (want_step limits s d host now) (want_was limits s d host now o f)
    (grown (dia_by by' c) limits s d c host now (weight (dia_by by c) s) by' refl (old_dia by by' c s own (old_by limits s by d (call.Want host now) answer o f r)) (dia_units by c s own n) may (ltb-true (length (units s d)) limits.per_pass (want_few limits s d host now o f)) new)
step_dia limits by s d c asked answer o f r own n may =
    omega (arith, step_weighs (dia_by (owners_after by (entry d asked answer)) c) limits s d asked o (λ k. refl) f, old_dia by (owners_after by (entry d asked answer)) c s own (old_by limits s by d asked answer o f r), may)

-- along a history
record Known (limits : Limits) (before : List Entry) (s : State) : Type 0 where
  state : s ≡ after limits before
  legal : IsLegal limits before
  few : Few limits (owner before) s

known_step : (limits : Limits) (before : List Entry) (s : State) (e : Entry) (o : Outcome) → step limits s e.caller e.call ≡ Some o → o.reply ≡ e.reply → Known limits before s → Known limits (before ++ e ∷ []) o.state
known_step limits before s e o f r k =
    let own : IsOwned (owner before) s = subst (IsOwned (owner before)) (sym k.state) (legal_owned limits before k.legal) in
    let n : Numbers s = subst Numbers (sym k.state) (legal_numbers limits before k.legal) in
    let at : step limits (after limits before) e.caller e.call ≡ Some o = subst (λ t. step limits t e.caller e.call ≡ Some o) k.state f in
    let m = made limits before e.caller e.call o k.legal at in
    record {
      state = m.state ∙ ap (λ a. after limits (before ++ entry e.caller e.call a ∷ [])) r;
      legal = subst (λ a. IsLegal limits (before ++ entry e.caller e.call a ∷ [])) r m.legal;
      few = subst (λ by. Few limits by o.state) (sym (owner_push before e)) (record {
        occ = λ c. step_occ limits (owner before) s e.caller c e.call e.reply o f r own n (k.few.occ c);
        dia = λ c. step_dia limits (owner before) s e.caller c e.call e.reply o f r own n (k.few.dia c);
      });
    }

nothing_yet : (limits : Limits) → Known limits [] empty
unfolding IsLegal after weight
nothing_yet limits = record { state = refl; legal = tt; few = record { occ = λ c. omega arith; dia = λ c. omega arith } }

few_after : (limits : Limits) (h : List Entry) → IsLegal limits h → Few limits (owner h) (after limits h)
few_after limits h l = (walk limits (λ before s. Known limits before s) (λ before s e o f r k. known_step limits before s e o f r k) (nothing_yet limits) h l).few

-- how many rows there are, at most
pub record RowsFit (limits : Limits) (s : State) : Type 0 where
  pub wants : length s.wants ≤ limits.passes * limits.per_pass
  pub dials : length s.dials ≤ limits.passes * limits.per_pass
  pub conns : length s.conns ≤ limits.passes * limits.per_pass + limits.idle_total

wants_by : (by : ℕ → ℕ) (c : ℕ) (s : State) → sum_by (λ (r : WantRow). bit (by r.want == c)) s.wants ≤ weight (occ_by by c) s
unfolding weight
wants_by by c s = omega (arith, sum_same (λ (r : WantRow). bit (by r.want == c)) (want_weight (occ_by by c)) s.wants (λ r m. sym (stage_occ by c r.stage r.want)))

dials_by : (by : ℕ → ℕ) (c : ℕ) (s : State) → sum_by (λ (r : DialRow). bit (by r.want == c)) s.dials ≤ weight (dia_by by c) s
unfolding weight
dials_by by c s = omega arith

abbrev want_of : Place → ℕ
want_of (Out w c) = w
want_of (Idle a b) = 0

out_step : (by : ℕ → ℕ) (c : ℕ) (x : ConnRow) (rest : List ConnRow) (place : Place) (n m : ℕ) → x.place ≡ place → n ≤ m → sum_by (λ (r : ConnRow). bit (by (want_of r.place) == c)) rest ≡ n → sum_by (λ (r : ConnRow). bit (by (want_of r.place) == c)) (cond (not (is_idle place)) (x ∷ rest) rest) ≤ 0 + place_weight (occ_by by c) place + m
out_step by c x rest (Out w d) n m e l r = let here : bit (by (want_of x.place) == c) ≡ bit (by w == c) = ap (λ p. bit (by (want_of p) == c)) e in omega (arith, sum_by-cons (λ (y : ConnRow). bit (by (want_of y.place) == c)) x rest, here, l, r)
out_step by c x rest (Idle a b) n m e l r = omega (arith, l, r)

outs_of : (by : ℕ → ℕ) (c : ℕ) (xs : List ConnRow) → sum_by (λ (r : ConnRow). bit (by (want_of r.place) == c)) (filter (λ r. not (rests r)) xs) ≤ sum_by (conn_weight (occ_by by c)) xs
outs_of by c [] = omega arith
outs_of by c (x ∷ xs) =
    let rest = filter (λ r. not (rests r)) xs in
    let here = out_step by c x rest x.place (sum_by (λ (r : ConnRow). bit (by (want_of r.place) == c)) rest) (sum_by (conn_weight (occ_by by c)) xs) refl (outs_of by c xs) refl in
    omega (arith, here, sum_by-cons (conn_weight (occ_by by c)) x xs)

outs_by : (by : ℕ → ℕ) (c : ℕ) (s : State) → sum_by (λ (r : ConnRow). bit (by (want_of r.place) == c)) (filter (λ r. not (rests r)) s.conns) ≤ weight (occ_by by c) s
unfolding weight
outs_by by c s = omega (arith, outs_of by c s.conns)

pub rows_fit : (limits : Limits) (h : List Entry) → IsLegal limits h → 0 < limits.passes → AreBelow limits.passes h → RowsFit limits (after limits h)
rows_fit limits h l some_pass callers =
    let s = after limits h in
    let by = owner h in
    let few = few_after limits h l in
    let below : (w : ℕ) → by w < limits.passes = owner_below limits.passes h some_pass callers in
    let outs = few_of_each (λ (r : ConnRow). by (want_of r.place)) limits.passes limits.per_pass (filter (λ r. not (rests r)) s.conns) (λ r m. below (want_of r.place)) (λ c. omega (arith, outs_by by c s, few.occ c)) in
    record {
      wants = few_of_each (λ (r : WantRow). by r.want) limits.passes limits.per_pass s.wants (λ r m. below r.want) (λ c. omega (arith, wants_by by c s, few.occ c));
      dials = few_of_each (λ (r : DialRow). by r.want) limits.passes limits.per_pass s.dials (λ r m. below r.want) (λ c. omega (arith, dials_by by c s, few.dia c));
      conns = omega (arith, outs, split_length rests s.conns, idle_are_limited limits h l);
    }
