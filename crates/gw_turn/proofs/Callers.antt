-- What the tie says of one caller's rows among those of several.
use Rattle.std.proofs.Common.{◌≡◌, ℕ, ◌+◌, ◌≤◌, ◌==◌, ◌||◌, inl, inr, Bool, true, false, List, [], ◌∷◌, ◌++◌, length, map, filter, Some, None, refl, ap, sym, ◌∙◌, arith, cond, eqb-true, eq-eqb}
use Rattle.std.specs.List.{find, list_any, filter_map, cons_option}
use Rattle.std.specs.Option.{IsSome}
use Rattle.gw_pool.specs.declared.holding.Holding.{Holding}
use Rattle.gw_pool.specs.declared.rows.Place.{Place}
use Rattle.gw_pool.specs.declared.rows.Place.TheVariants.{Out, Idle}
use Rattle.gw_pool.specs.declared.rows.WantRow.{WantRow}
use Rattle.gw_pool.specs.declared.rows.ConnRow.{ConnRow}
use Rattle.gw_pool.specs.declared.rows.DialRow.{DialRow}
use Rattle.gw_pool.specs.State.{State, wants_it, dials_for, has_number, is_with}
use Rattle.gw_pool.specs.Machine.{units, distinct, out_want, Served, standing}
use Rattle.gw_pool.specs.Tokens.{names, has_ticket, has_dial}
use Rattle.gw_pool.specs.Ties.{Among, bit, occ_of, dials_of}
use Rattle.gw_pool.proofs.Edits.{found_passes}
use Rattle.gw_pool.proofs.Owns.{found_among}
use Rattle.gw_pool.proofs.Shelves.{out_at}
use Rattle.gw_pool.proofs.Weights.{weight}
use Rattle.gw_pool.proofs.Numbers.{Numbers}
use Rattle.gw_pool.proofs.TieCalls.{has}
use Rattle.gw_pool.proofs.TieWant.{In, in_append, or_cases, in_distinct, unit_weight, pigeon}
use Rattle.gw_pool.proofs.SoloCalls.{some_dial, served_row}
use Rattle.gw_pool.specs.Owner.{PlaceIs, Owned, IsOwned}
use Rattle.gw_turn.specs.Tie.{Ties}
use Rattle.gw_turn.proofs.Moving.{is_own}

-- a want whose ticket, or whose dial token, is out is the caller's
pub ticket_own : (by : ℕ → ℕ) (c : ℕ) (s : State) (out : List Holding) (taken : List ℕ) (w : ℕ) → Ties by c s out taken → has_ticket w out ≡ true → by w ≡ c
ticket_own by c s out taken w k t = let h = has w out (λ x. x.ticket) t in is_own by c s out taken w h.row k h.found

pub dial_own : (by : ℕ → ℕ) (c : ℕ) (s : State) (out : List Holding) (taken : List ℕ) (w : ℕ) → Ties by c s out taken → has_dial w out ≡ true → by w ≡ c
dial_own by c s out taken w k t = let h = has w out (λ x. x.dial) t in is_own by c s out taken w h.row k h.found

pub has_dial_row : (by : ℕ → ℕ) (c : ℕ) (s : State) (out : List Holding) (taken : List ℕ) (w : ℕ) → Ties by c s out taken → has_dial w out ≡ true → IsSome (find (dials_for w) s.dials)
has_dial_row by c s out taken w k h = some_dial w s.dials (find (dials_for w) s.dials) refl (k.dials w (dial_own by c s out taken w k h) ∙ ap bit h)

-- the units of a caller are wants of its own
unit_step : {X : Type 0} (by : ℕ → ℕ) (c w : ℕ) (f g : X → ℕ) (x : X) (xs : List X) (b : Bool) → (g x == c) ≡ b → g x ≡ by (f x) → In w (map f (cond b (x ∷ filter (λ y. g y == c) xs) (filter (λ y. g y == c) xs))) → (In w (map f (filter (λ y. g y == c) xs)) → by w ≡ c) → by w ≡ c
unit_step by c w f g x xs true e own h k = elim (or_cases (f x == w) (list_any (λ y. y == w) (map f (filter (λ y. g y == c) xs))) h) [
  | inl same ↦ ap by (sym (eqb-true (f x) w same)) ∙ sym own ∙ eqb-true (g x) c e
  | inr m ↦ k m
]
unit_step by c w f g x xs false e own h k = k h

unit_row : {X : Type 0} (by : ℕ → ℕ) (c w : ℕ) (f g : X → ℕ) (xs : List X) → ((x : X) → Among x xs → g x ≡ by (f x)) → In w (map f (filter (λ y. g y == c) xs)) → by w ≡ c
unit_row by c w f g [] own h = absurd (cc)
unit_row by c w f g (x ∷ xs) own h = unit_step by c w f g x xs (g x == c) refl (own x (inl refl)) h (unit_row by c w f g xs (λ y m. own y (inr m)))

out_cond : (by : ℕ → ℕ) (c w n d : ℕ) (b : Bool) (ys : List ℕ) → (d == c) ≡ b → d ≡ by n → In w (cons_option (cond b (Some n) None) ys) → (In w ys → by w ≡ c) → by w ≡ c
out_cond by c w n d true ys e own h k = elim (or_cases (n == w) (list_any (λ y. y == w) ys) h) [ inl same ↦ ap by (sym (eqb-true n w same)) ∙ sym own ∙ eqb-true d c e | inr m ↦ k m ]
out_cond by c w n d false ys e own h k = k h

out_step : (by : ℕ → ℕ) (next c w : ℕ) (place : Place) (ys : List ℕ) → PlaceIs (Owned by next) place → In w (cons_option (out_want c place) ys) → (In w ys → by w ≡ c) → by w ≡ c
out_step by next c w (Out n d) ys own h k = out_cond by c w n d (d == c) ys refl own.1 h k
out_step by next c w (Idle a b) ys own h k = k h

unit_out : (by : ℕ → ℕ) (next c w : ℕ) (xs : List ConnRow) → ((x : ConnRow) → Among x xs → PlaceIs (Owned by next) x.place) → In w (filter_map (λ (r : ConnRow). out_want c r.place) xs) → by w ≡ c
unit_out by next c w [] own h = absurd (cc)
unit_out by next c w (x ∷ xs) own h = out_step by next c w x.place _ (own x (inl refl)) h (unit_out by next c w xs (λ y m. own y (inr m)))

unit_own : (by : ℕ → ℕ) (c : ℕ) (s : State) (w : ℕ) → IsOwned by s → In w (map (λ (row : WantRow). row.want) (filter (λ (row : WantRow). row.caller == c) s.wants) ++ map (λ (row : DialRow). row.want) (filter (λ (row : DialRow). row.caller == c) s.dials) ++ filter_map (λ (row : ConnRow). out_want c row.place) s.conns) → by w ≡ c
unit_own by c s w o h = elim (in_append w (map (λ (row : WantRow). row.want) (filter (λ (row : WantRow). row.caller == c) s.wants) ++ map (λ (row : DialRow). row.want) (filter (λ (row : DialRow). row.caller == c) s.dials)) (filter_map (λ (row : ConnRow). out_want c row.place) s.conns) h) [
  | inl a ↦ elim (in_append w (map (λ (row : WantRow). row.want) (filter (λ (row : WantRow). row.caller == c) s.wants)) (map (λ (row : DialRow). row.want) (filter (λ (row : DialRow). row.caller == c) s.dials)) a) [
    | inl b ↦ unit_row by c w (λ (r : WantRow). r.want) (λ (r : WantRow). r.caller) s.wants (λ r m. (o.wants r m).1) b
    | inr b ↦ unit_row by c w (λ (r : DialRow). r.want) (λ (r : DialRow). r.caller) s.dials (λ r m. (o.dials r m).1) b
  ]
  | inr b ↦ unit_out by s.next_want c w s.conns o.conns b
]

none_named : (by : ℕ → ℕ) (c w : ℕ) (s : State) (out : List Holding) (taken : List ℕ) → Ties by c s out taken → by w ≡ c → 1 ≤ weight (occ_of w) s + dials_of w s.dials → find (names w) out ≡ None → ⊥
none_named by c w s out taken k mine h e =
    let a : weight (occ_of w) s ≤ 0 = (let l = k.held w mine in let m = rw e at l in omega (arith, m)) in
    let b : dials_of w s.dials ≡ 0 = (let l = k.dials w mine in rw e at l) in
    omega (arith, a, b, h)

pub few_units : (by : ℕ → ℕ) (c : ℕ) (s : State) (out : List Holding) (taken : List ℕ) → IsOwned by s → Ties by c s out taken → length (units s c) ≤ length out
unfolding units
few_units by c s out taken o k = pigeon _ out (λ w m. none_named by c w s out taken k (unit_own by c s w o m) (unit_weight s c w m))

-- each unit of a caller is a want that its tokens name
pub unit_named : (by : ℕ → ℕ) (c : ℕ) (s : State) (out : List Holding) (taken : List ℕ) (w : ℕ) → IsOwned by s → Ties by c s out taken → list_any (λ y. y == w) (map (λ (row : WantRow). row.want) (filter (λ (row : WantRow). row.caller == c) s.wants) ++ map (λ (row : DialRow). row.want) (filter (λ (row : DialRow). row.caller == c) s.dials) ++ filter_map (λ (row : ConnRow). out_want c row.place) s.conns) ≡ true → find (names w) out ≡ None → ⊥
unit_named by c s out taken w o k m = none_named by c w s out taken k (unit_own by c s w o m) (unit_weight s c w m)

pub units_named : (by : ℕ → ℕ) (c : ℕ) (s : State) (out : List Holding) (taken : List ℕ) (w : ℕ) → IsOwned by s → Ties by c s out taken → In w (units s c) → find (names w) out ≡ None → ⊥
unfolding units
units_named by c s out taken w o k m = unit_named by c s out taken w o k (in_distinct w _ m)
