-- The rows are no more than the limits allow: a caller's units are at most those that it may have, and each row is a
-- caller's.
use Rattle.std.proofs.Common.{◌≡◌, ℕ, zero, suc, ◌+◌, ◌*◌, ◌<◌, ◌≤◌, ◌==◌, ◌&&◌, ◌||◌, ◌⊎◌, inl, inr, Bool, true, false, not, List, [], ◌∷◌, ◌++◌, length, map, filter, Option, Some, None, refl, ap, sym, ◌∙◌, subst, cond, arith, eqb-true, eq-eqb, ne_eqb, length-append, ltb-true}
use Rattle.std.specs.List.{find, sum_by, count_by, list_any, filter_map, cons_option}
use Rattle.std.proofs.lemmas.List.Sums.{sum_by-cons, sum_by-append}
use Rattle.std.proofs.lemmas.List.Elements.{All-head, All-tail}
use Rattle.gw_pool.specs.declared.limits.Limits.{Limits}
use Rattle.gw_pool.specs.declared.entry.Entry.{Entry}
use Rattle.gw_pool.specs.declared.entry.Call.{Call}
use Rattle.gw_pool.specs.declared.entry.Call.TheVariants as call
use Rattle.gw_pool.specs.declared.holding.Holding.{Holding}
use Rattle.gw_pool.specs.declared.rows.Stage.{Stage}
use Rattle.gw_pool.specs.declared.rows.Stage.TheVariants.{Waiting, Granted, Dialing}
use Rattle.gw_pool.specs.declared.rows.Place.{Place}
use Rattle.gw_pool.specs.declared.rows.Place.TheVariants.{Out, Idle}
use Rattle.gw_pool.specs.declared.rows.WantRow.{WantRow}
use Rattle.gw_pool.specs.declared.rows.DialRow.{DialRow}
use Rattle.gw_pool.specs.declared.rows.ConnRow.{ConnRow}
use Rattle.gw_pool.specs.Places.{is_idle}
use Rattle.gw_pool.specs.State.{State, empty, rests}
use Rattle.gw_pool.specs.Machine.{Outcome, step, want_step, units, distinct, out_want}
use Rattle.gw_pool.specs.History.{IsLegal, AreBelow, after}
use Rattle.gw_pool.specs.Laws.{is_number}
use Rattle.gw_pool.specs.Owner.{Rows, PlaceIs, Owned, IsOwned, owner, owners_from, owners_after, made_by, made_by_reply}
use Rattle.gw_pool.specs.Ties.{Among, Weigh, bit, one, occ_of, dia_of}
use Rattle.gw_pool.specs.Tokens.{names, ticket_of}
use Rattle.gw_pool.proofs.Distincts.{occs, fits_in, in_left, in_right, len_where, occs_where, in_where, few_of_each, sum_filter, among_filter, split_length}
use Rattle.gw_pool.proofs.GoingOn.{new_weight, step_weighs}
use Rattle.gw_pool.proofs.Inverts.{want_was}
use Rattle.gw_pool.proofs.Numbers.{Numbers, legal_numbers}
use Rattle.gw_pool.proofs.Owners.{legal_owned, owner_push, owners_none, owners_new, owners_old}
use Rattle.gw_pool.proofs.RowSteps.{makes_or, MakesOr}
use Rattle.gw_pool.proofs.Ties.{one_same, one_other, decide}
use Rattle.gw_pool.proofs.TieWant.{In, in_append, or_cases, pigeon, adds_none}
use Rattle.gw_pool.proofs.Walk.{walk}
use Rattle.gw_pool.proofs.Weights.{weight, want_weight, stage_weight, conn_weight, place_weight}

-- the owner of each want is a caller of the pool
owner_below_by : (n : ℕ) (b : Bool) (c d : ℕ) → c < n → d < n → cond b c d < n
owner_below_by n true c d p q = p
owner_below_by n false c d p q = q

owners_below : (n : ℕ) (by : ℕ → ℕ) (h : List Entry) → ((w : ℕ) → by w < n) → AreBelow n h → (w : ℕ) → owners_from by h w < n
owners_below n by [] b all w = b w
owners_below n by (e ∷ h) b all w = owners_below n (owners_after by e) h (λ v. owner_below_by n (is_number v (made_by e.call e.reply)) e.caller (by v) (All-head (λ entry. entry.caller < n) e h all) (b v)) (All-tail (λ entry. entry.caller < n) e h all) w

pub owner_below : (n : ℕ) (h : List Entry) → 0 < n → AreBelow n h → (w : ℕ) → owner h w < n
unfolding owner
owner_below n h some_pass all w = owners_below n (λ want. 0) h (λ v. some_pass) all w

-- the weight of a caller's wants that have a row or a connection, and of those that may come to a dial or have one
abbrev pub is_by : (ℕ → ℕ) → ℕ → ℕ → ℕ
is_by by c w = bit (by w == c)

pub no_more : (n : ℕ) → n + 0 ≤ n
no_more n = omega arith

pub less : (n : ℕ) → 0 + n ≤ n
less n = omega arith

pub self : (n : ℕ) → n ≤ n
self n = omega arith

abbrev pub occ_by : (ℕ → ℕ) → ℕ → Weigh
occ_by by c = record { want = is_by by c; dialing = is_by by c; dial = λ _. 0; conn = λ _. 0; out = is_by by c; start = λ w. no_more (is_by by c w); serve = λ w. self (is_by by c w) }

abbrev pub dia_by : (ℕ → ℕ) → ℕ → Weigh
dia_by by c = record { want = is_by by c; dialing = λ _. 0; dial = is_by by c; conn = λ _. 0; out = λ _. 0; start = λ w. less (is_by by c w); serve = λ w. self 0 }

-- weights that agree on the wants of the rows
pub sum_same : {X : Type 0} (f g : X → ℕ) (xs : List X) → ((x : X) → Among x xs → f x ≡ g x) → sum_by f xs ≡ sum_by g xs
sum_same f g [] k = refl
sum_same f g (x ∷ xs) k = omega (arith, sum_by-cons f x xs, sum_by-cons g x xs, k x (inl refl), sum_same f g xs (λ y m. k y (inr m)))

abbrev pub Agree : Weigh → Weigh → ℕ → ℕ → Type 0
Agree g k w c = (g.want w ≡ k.want w) × (g.dialing w ≡ k.dialing w) × (g.dial w ≡ k.dial w) × (g.out w ≡ k.out w)

stage_same : (g k : Weigh) (stage : Stage) (w c : ℕ) → Agree g k w c → stage_weight g stage w ≡ stage_weight k stage w
stage_same g k Waiting w c a = a.0
stage_same g k Granted w c a = a.0
stage_same g k Dialing w c a = a.1

place_same : (g k : Weigh) (place : Place) → PlaceIs (Agree g k) place → place_weight g place ≡ place_weight k place
place_same g k (Out w c) a = a.3
place_same g k (Idle x y) a = refl

pub same_weight : (g k : Weigh) (s : State) → ((n : ℕ) → g.conn n ≡ k.conn n) → Rows (Agree g k) s → weight g s ≡ weight k s
unfolding weight
same_weight g k s z o = omega (
  arith,
  sum_same (want_weight g) (want_weight k) s.wants (λ r m. stage_same g k r.stage r.want r.caller (o.wants r m)),
  sum_same (λ (r : DialRow). g.dial r.want) (λ (r : DialRow). k.dial r.want) s.dials (λ r m. (o.dials r m).2),
  sum_same (conn_weight g) (conn_weight k) s.conns (λ r m. let p = place_same g k r.place (o.conns r m) in omega (arith, p, z r.conn)),
)

-- a caller's wants with a row or a connection are units of it
pub stage_occ : (by : ℕ → ℕ) (c : ℕ) (stage : Stage) (w : ℕ) → stage_weight (occ_by by c) stage w ≡ is_by by c w
stage_occ by c Waiting w = refl
stage_occ by c Granted w = refl
stage_occ by c Dialing w = refl

stage_one : (w : ℕ) (stage : Stage) (n : ℕ) → one w n ≤ stage_weight (occ_of w) stage n
stage_one w Waiting n = omega arith
stage_one w Granted n = omega arith
stage_one w Dialing n = omega arith

abbrev outs : ℕ → List ConnRow → List ℕ
outs c xs = filter_map (λ (r : ConnRow). out_want c r.place) xs

len_out : (by : ℕ → ℕ) (c w d : ℕ) (b : Bool) (ys : List ℕ) (n : ℕ) → (d == c) ≡ b → d ≡ by w → n ≡ length ys → 0 + is_by by c w + n ≡ length (cons_option (cond b (Some w) None) ys)
len_out by c w d true ys n e own l = let h : is_by by c w ≡ 1 = ap (λ v. bit (v == c)) (sym own) ∙ ap bit e in omega (arith, h, l)
len_out by c w d false ys n e own l = let h : is_by by c w ≡ 0 = ap (λ v. bit (v == c)) (sym own) ∙ ap bit e in omega (arith, h, l)

len_place : (by : ℕ → ℕ) (next c n : ℕ) (place : Place) (ys : List ℕ) → PlaceIs (Owned by next) place → n ≡ length ys → 0 + place_weight (occ_by by c) place + n ≡ length (cons_option (out_want c place) ys)
len_place by next c n (Out w d) ys own l = len_out by c w d (d == c) ys n refl own.1 l
len_place by next c n (Idle a b) ys own l = omega (arith, l)

len_outs : (by : ℕ → ℕ) (next c : ℕ) (xs : List ConnRow) → ((r : ConnRow) → Among r xs → PlaceIs (Owned by next) r.place) → sum_by (conn_weight (occ_by by c)) xs ≡ length (outs c xs)
len_outs by next c [] k = refl
len_outs by next c (x ∷ xs) k = sum_by-cons (conn_weight (occ_by by c)) x xs ∙ len_place by next c (sum_by (conn_weight (occ_by by c)) xs) x.place (outs c xs) (k x (inl refl)) (len_outs by next c xs (λ r m. k r (inr m)))

occs_out : (w v : ℕ) (b : Bool) (ys : List ℕ) (n : ℕ) → occs w ys ≤ n → occs w (cons_option (cond b (Some v) None) ys) ≤ 0 + one w v + n
occs_out w v true ys n l = omega (arith, sum_by-cons (λ x. one w x) v ys, l)
occs_out w v false ys n l = omega (arith, l)

occs_place : (w c n : ℕ) (place : Place) (ys : List ℕ) → occs w ys ≤ n → occs w (cons_option (out_want c place) ys) ≤ 0 + place_weight (occ_of w) place + n
occs_place w c n (Out v d) ys l = occs_out w v (d == c) ys n l
occs_place w c n (Idle a b) ys l = omega (arith, l)

occs_outs : (w c : ℕ) (xs : List ConnRow) → occs w (outs c xs) ≤ sum_by (conn_weight (occ_of w)) xs
occs_outs w c [] = omega arith
occs_outs w c (x ∷ xs) = let here = occs_place w c (sum_by (conn_weight (occ_of w)) xs) x.place (outs c xs) (occs_outs w c xs) in omega (arith, here, sum_by-cons (conn_weight (occ_of w)) x xs)

zero_sum : {X : Type 0} (f : X → ℕ) (xs : List X) → ((x : X) → f x ≡ 0) → sum_by f xs ≡ 0
zero_sum f [] k = refl
zero_sum f (x ∷ xs) k = omega (arith, sum_by-cons f x xs, k x, zero_sum f xs k)

abbrev of_caller : ℕ → WantRow → Bool
of_caller c r = r.caller == c

pub occ_units : (by : ℕ → ℕ) (c : ℕ) (s : State) → IsOwned by s → Numbers s → weight (occ_by by c) s ≤ length (units s c)
unfolding weight units
occ_units by c s o n =
    let a = map (λ (r : WantRow). r.want) (filter (of_caller c) s.wants) in
    let d = map (λ (r : DialRow). r.want) (filter (λ (r : DialRow). r.caller == c) s.dials) in
    let e = outs c s.conns in
    let once : (w : ℕ) → occs w (a ++ e) ≤ 1 = λ w.
    omega (arith, sum_by-append (λ x. one w x) a e, occs_where w (want_weight (occ_of w)) (λ (r : WantRow). r.want) (of_caller c) s.wants (λ r t. stage_one w r.stage r.want), occs_outs w c s.conns, n.occ w) in
    let inside : (w : ℕ) → In w (a ++ e) → In w ((a ++ d) ++ e) = λ w m. elim (in_append w a e m) [ inl x ↦ in_left w (a ++ d) e (in_left w a d x) | inr x ↦ in_right w (a ++ d) e x ] in
    omega (
      arith,
      fits_in (a ++ e) ((a ++ d) ++ e) once inside,
      length-append a e,
      len_where (want_weight (occ_by by c)) (λ (r : WantRow). r.want) (of_caller c) s.wants (λ r m. stage_occ by c r.stage r.want ∙ ap (λ v. bit (v == c)) (sym (o.wants r m).1)),
      len_outs by s.next_want c s.conns o.conns,
      zero_sum (λ (r : DialRow). 0) s.dials (λ r. refl),
    )

-- so are those that may come to a dial or have one
abbrev is_before : Stage → Bool
is_before Waiting = true
is_before Granted = true
is_before Dialing = false

abbrev early_of : ℕ → WantRow → Bool
early_of c r = is_before r.stage && (r.caller == c)

stage_dia : (by : ℕ → ℕ) (c : ℕ) (stage : Stage) (w d : ℕ) → d ≡ by w → stage_weight (dia_by by c) stage w ≡ bit (is_before stage && (d == c))
stage_dia by c Waiting w d e = ap (λ v. bit (v == c)) (sym e)
stage_dia by c Granted w d e = ap (λ v. bit (v == c)) (sym e)
stage_dia by c Dialing w d e = refl

early_one : (w c : ℕ) (stage : Stage) (n d : ℕ) → (is_before stage && (d == c)) ≡ true → one w n ≤ stage_weight (dia_of w) stage n
early_one w c Waiting n d t = omega arith
early_one w c Granted n d t = omega arith
early_one w c Dialing n d t = absurd (cc)

early_caller : (c : ℕ) (stage : Stage) (d : ℕ) → (is_before stage && (d == c)) ≡ true → (d == c) ≡ true
early_caller c Waiting d t = t
early_caller c Granted d t = t
early_caller c Dialing d t = absurd (cc)

place_none : (by : ℕ → ℕ) (c : ℕ) (place : Place) → place_weight (dia_by by c) place ≡ 0
place_none by c (Out w d) = refl
place_none by c (Idle a b) = refl

pub dia_units : (by : ℕ → ℕ) (c : ℕ) (s : State) → IsOwned by s → Numbers s → weight (dia_by by c) s ≤ length (units s c)
unfolding weight units
dia_units by c s o n =
    let a = map (λ (r : WantRow). r.want) (filter (early_of c) s.wants) in
    let b = map (λ (r : WantRow). r.want) (filter (of_caller c) s.wants) in
    let d = map (λ (r : DialRow). r.want) (filter (λ (r : DialRow). r.caller == c) s.dials) in
    let e = outs c s.conns in
    let once : (w : ℕ) → occs w (a ++ d) ≤ 1 = λ w.
    omega (
      arith,
      sum_by-append (λ x. one w x) a d,
      occs_where w (want_weight (dia_of w)) (λ (r : WantRow). r.want) (early_of c) s.wants (λ r t. early_one w c r.stage r.want r.caller t),
      occs_where w (λ (r : DialRow). one w r.want) (λ (r : DialRow). r.want) (λ (r : DialRow). r.caller == c) s.dials (λ r t. omega arith),
      n.dia w,
    ) in
    let inside : (w : ℕ) → In w (a ++ d) → In w ((b ++ d) ++ e) = λ w m. elim (in_append w a d m) [
      | inl x ↦ in_left w (b ++ d) e (in_left w b d (in_where w (λ (r : WantRow). r.want) (early_of c) (of_caller c) s.wants (λ r t. early_caller c r.stage r.caller t) x))
      | inr x ↦ in_left w (b ++ d) e (in_right w b d x)
    ] in
    omega (
      arith,
      fits_in (a ++ d) ((b ++ d) ++ e) once inside,
      length-append a d,
      len_where (want_weight (dia_by by c)) (λ (r : WantRow). r.want) (early_of c) s.wants (λ r m. stage_dia by c r.stage r.want r.caller (o.wants r m).1),
      len_where (λ (r : DialRow). is_by by c r.want) (λ (r : DialRow). r.want) (λ (r : DialRow). r.caller == c) s.dials (λ r m. ap (λ v. bit (v == c)) (sym (o.dials r m).1)),
      zero_sum (conn_weight (dia_by by c)) s.conns (λ r. omega (arith, place_none by c r.place)),
    )
