-- A want keeps a caller's tokens tied to the rows; and a caller's units are among the wants that its tokens name.
use Rattle.std.proofs.Common.{◌≡◌, ℕ, ◌+◌, ◌≤◌, ◌==◌, ◌||◌, ◌⊎◌, inl, inr, Bool, true, false, List, [], ◌∷◌, ◌++◌, length, map, filter, Option, Some, None, refl, ap, sym, ◌∙◌, arith, cond, eq-eqb, ne_eqb, eqb-true, subst}
use Rattle.std.specs.List.{find, sum_by, list_any, list_all, filter_map, cons_option}
use Rattle.std.proofs.lemmas.List.Sums.{sum_by-cons, sum_by_push}
use Rattle.gw_pool.specs.declared.limits.Limits.{Limits}
use Rattle.gw_pool.specs.declared.entry.Reply.TheVariants as reply
use Rattle.gw_pool.specs.declared.holding.Holding.{Holding}
use Rattle.gw_pool.specs.declared.rows.Stage.{Stage}
use Rattle.gw_pool.specs.declared.rows.Stage.TheVariants.{Waiting, Granted, Dialing}
use Rattle.gw_pool.specs.declared.rows.Place.{Place}
use Rattle.gw_pool.specs.declared.rows.Place.TheVariants.{Out, Idle}
use Rattle.gw_pool.specs.declared.rows.WantRow.{WantRow}
use Rattle.gw_pool.specs.declared.rows.ConnRow.{ConnRow}
use Rattle.gw_pool.specs.declared.rows.DialRow.{DialRow}
use Rattle.gw_pool.specs.Core.{IsMade, IsQuiet}
use Rattle.gw_pool.specs.Places.{since_of, is_out_to, is_idle}
use Rattle.gw_pool.specs.State.{State, rests, remove_first, is_free, is_expired, newest_stamp, take_newest, take_stamped_for, is_with, has_number}
use Rattle.gw_pool.specs.Machine.{Outcome, want_new, want_idle, want_by, want_step, units, distinct, out_want}
use Rattle.gw_pool.specs.Shelf.{is_among, LeavesTaken}
use Rattle.gw_pool.specs.Tokens.{names, ticket_of, has_ticket, has_dial, has_lease}
use Rattle.gw_pool.proofs.Room.{removed_length, Among}
use Rattle.gw_pool.proofs.Owns.{want_owns, found_among}
use Rattle.gw_pool.proofs.Weights.{Weigh, weight, want_weight, conn_weight, stage_weight, place_weight, want_adds}
use Rattle.gw_pool.proofs.Ties.{one, bit, occ_of, dia_of, con_of, dials_of, Tied, decide, one_same, one_other, count_names}

-- a want that was made has the next number, which is used by it; one that met an expired connection makes nothing
no_made : (v : ℕ) (conn : ℕ) → IsMade v (reply.Expired conn) → ⊥
no_made v conn h = h

abbrev pub MadeWant : State → ℕ → Outcome → Type 0
MadeWant s v o = (v ≡ s.next_want) × (o.state.next_want ≡ s.next_want + 1)

new_made : (s t : State) (caller host v : ℕ) (b : Bool) → t.next_want ≡ s.next_want → IsMade v (cond {A = Outcome} b (record { reply = reply.Granted t.next_want; gone = None; state = record t { wants = t.wants ++ (record { want = t.next_want; host = host; caller = caller; stage = Granted }) ∷ []; next_want = t.next_want + 1 } }) (record { reply = reply.Waiting t.next_want; gone = None; state = record t { wants = t.wants ++ (record { want = t.next_want; host = host; caller = caller; stage = Waiting }) ∷ []; next_want = t.next_want + 1 } })).reply → MadeWant s v (cond {A = Outcome} b (record { reply = reply.Granted t.next_want; gone = None; state = record t { wants = t.wants ++ (record { want = t.next_want; host = host; caller = caller; stage = Granted }) ∷ []; next_want = t.next_want + 1 } }) (record { reply = reply.Waiting t.next_want; gone = None; state = record t { wants = t.wants ++ (record { want = t.next_want; host = host; caller = caller; stage = Waiting }) ∷ []; next_want = t.next_want + 1 } }))
new_made s t caller host v true e m = (sym m ∙ e, ap (λ n. n + 1) e)
new_made s t caller host v false e m = (sym m ∙ e, ap (λ n. n + 1) e)

idle_made : (s t : State) (caller v : ℕ) (row : ConnRow) (b : Bool) → t.next_want ≡ s.next_want → IsMade v (cond {A = Outcome} b (record { reply = reply.Expired row.conn; gone = Some row; state = t }) (record { reply = reply.Given t.next_want row.conn; gone = None; state = record t { conns = t.conns ++ record row { place = Out t.next_want caller } ∷ []; next_want = t.next_want + 1 } })).reply → MadeWant s v (cond {A = Outcome} b (record { reply = reply.Expired row.conn; gone = Some row; state = t }) (record { reply = reply.Given t.next_want row.conn; gone = None; state = record t { conns = t.conns ++ record row { place = Out t.next_want caller } ∷ []; next_want = t.next_want + 1 } }))
idle_made s t caller v row true e m = absurd m
idle_made s t caller v row false e m = (sym m ∙ e, ap (λ n. n + 1) e)

made_by : (limits : Limits) (s : State) (caller host now v : ℕ) (p : Option ConnRow × State) → p.1.next_want ≡ s.next_want → IsMade v (want_by limits caller host now p).reply → MadeWant s v (want_by limits caller host now p)
unfolding want_by want_new want_idle
made_by limits s caller host now v (None, t) e m = new_made s t caller host v (is_free limits t host) e m
made_by limits s caller host now v (Some row, t) e m = idle_made s t caller v row (is_expired limits (since_of row.place) now) e m

next_by : (s : State) (host : ℕ) (o : Option ℕ) → (take_stamped_for s host o).1.next_want ≡ s.next_want
next_by s host None = refl
next_by s host (Some n) = refl

pub made_want : (limits : Limits) (s : State) (caller host now v : ℕ) → IsMade v (want_step limits s caller host now).reply → MadeWant s v (want_step limits s caller host now)
unfolding want_step take_newest
made_want limits s caller host now v m = made_by limits s caller host now v (take_stamped_for s host (newest_stamp s host)) (next_by s host (newest_stamp s host)) m

abbrev pub GoneWant : State → Outcome → Type 0
GoneWant s o = o.state.next_want ≡ s.next_want

new_gone : (s t : State) (caller host : ℕ) (row : ConnRow) (b : Bool) → (cond {A = Outcome} b (record { reply = reply.Granted t.next_want; gone = None; state = record t { wants = t.wants ++ (record { want = t.next_want; host = host; caller = caller; stage = Granted }) ∷ []; next_want = t.next_want + 1 } }) (record { reply = reply.Waiting t.next_want; gone = None; state = record t { wants = t.wants ++ (record { want = t.next_want; host = host; caller = caller; stage = Waiting }) ∷ []; next_want = t.next_want + 1 } })).gone ≡ Some row → ⊥
new_gone s t caller host row true e = cc
new_gone s t caller host row false e = cc

idle_gone : (s t : State) (caller : ℕ) (row r : ConnRow) (b : Bool) → t.next_want ≡ s.next_want → (cond {A = Outcome} b (record { reply = reply.Expired row.conn; gone = Some row; state = t }) (record { reply = reply.Given t.next_want row.conn; gone = None; state = record t { conns = t.conns ++ record row { place = Out t.next_want caller } ∷ []; next_want = t.next_want + 1 } })).gone ≡ Some r → GoneWant s (cond {A = Outcome} b (record { reply = reply.Expired row.conn; gone = Some row; state = t }) (record { reply = reply.Given t.next_want row.conn; gone = None; state = record t { conns = t.conns ++ record row { place = Out t.next_want caller } ∷ []; next_want = t.next_want + 1 } }))
idle_gone s t caller row r true e g = e
idle_gone s t caller row r false e g = absurd (cc)

gone_by : (limits : Limits) (s : State) (caller host now : ℕ) (r : ConnRow) (p : Option ConnRow × State) → p.1.next_want ≡ s.next_want → (want_by limits caller host now p).gone ≡ Some r → GoneWant s (want_by limits caller host now p)
unfolding want_by want_new want_idle
gone_by limits s caller host now r (None, t) e g = absurd (new_gone s t caller host r (is_free limits t host) g)
gone_by limits s caller host now r (Some row, t) e g = idle_gone s t caller row r (is_expired limits (since_of row.place) now) e g

pub gone_want : (limits : Limits) (s : State) (caller host now : ℕ) (r : ConnRow) → (want_step limits s caller host now).gone ≡ Some r → GoneWant s (want_step limits s caller host now)
unfolding want_step take_newest
gone_want limits s caller host now r g = gone_by limits s caller host now r (take_stamped_for s host (newest_stamp s host)) (next_by s host (newest_stamp s host)) g

-- a want adds at most its own weight
pub adds_at_most : (g : Weigh) (limits : Limits) (s : State) (caller host now : ℕ) → weight g (want_step limits s caller host now).state ≤ weight g s + g.want s.next_want
adds_at_most g limits s caller host now = elim (want_adds g limits s caller host now) [ inl k ↦ omega (arith, k.weight) | inr a ↦ omega (arith, a.weight) ]

pub adds_none : (g : Weigh) (limits : Limits) (s : State) (caller host now : ℕ) → (want_step limits s caller host now).state.next_want ≡ s.next_want → weight g (want_step limits s caller host now).state ≤ weight g s
adds_none g limits s caller host now e = elim (want_adds g limits s caller host now) [ inl k ↦ omega (arith, k.weight) | inr a ↦ absurd (omega (arith, a.next_want, e)) ]

pub want_conn : (limits : Limits) (s : State) (caller host now : ℕ) → (want_step limits s caller host now).state.next_conn ≡ s.next_conn
want_conn limits s caller host now = elim (want_adds (con_of 0) limits s caller host now) [ inl k ↦ k.next_conn | inr a ↦ a.next_conn ]

pub want_dials : (limits : Limits) (s : State) (caller host now : ℕ) → (want_step limits s caller host now).state.dials ≡ s.dials
want_dials limits s caller host now = elim (want_adds (con_of 0) limits s caller host now) [ inl k ↦ k.dials | inr a ↦ a.dials ]

pub tie_expired : (limits : Limits) (s : State) (out : List Holding) (taken taken' : List ℕ) (host now : ℕ) (r : ConnRow) → Tied s out taken → (want_step limits s 0 host now).gone ≡ Some r → LeavesTaken taken taken' → Tied (want_step limits s 0 host now).state out taken'
tie_expired limits s out taken taken' host now r k g tk =
    let next = gone_want limits s 0 host now r g in
    let less = λ (w : Weigh). adds_none w limits s 0 host now next in
    let conn = want_conn limits s 0 host now in
    record {
      own = want_owns 0 limits s host now k.own;
      occ = λ w. omega (arith, less (occ_of w), k.occ w);
      dia = λ w. omega (arith, less (dia_of w), k.dia w);
      con = λ n. omega (arith, less (con_of n), k.con n);
      occ_new = λ w l. omega (arith, less (occ_of w), k.occ_new w (rw next at l));
      dia_new = λ w l. omega (arith, less (dia_of w), k.dia_new w (rw next at l));
      con_new = λ n l. omega (arith, less (con_of n), k.con_new n (rw conn at l));
      out_new = λ w l. k.out_new w (rw next at l);
      once = k.once;
      held = λ w. omega (arith, less (occ_of w), k.held w);
      dials = λ w. ap (dials_of w) (want_dials limits s 0 host now) ∙ k.dials w;
      untaken = λ w t. tk w (k.untaken w t);
      taken_new = λ w l. tk w (k.taken_new w (rw next at l));
    }

-- a new want's row of tokens
find_push_step : (v : ℕ) (x h : Holding) (xs : List Holding) (b : Bool) → (find (names v) (xs ++ h ∷ []) ≡ find (names v) xs) → cond b (Some x) (find (names v) (xs ++ h ∷ [])) ≡ cond b (Some x) (find (names v) xs)
find_push_step v x h xs true k = refl
find_push_step v x h xs false k = k

pub find_push_other : (v w : ℕ) (xs : List Holding) → (v ≡ w → ⊥) → find (names v) (xs ++ ticket_of w ∷ []) ≡ find (names v) xs
find_push_other v w [] n = rw (ne_eqb w v (λ e. n (sym e)))
find_push_other v w (x ∷ xs) n = find_push_step v x (ticket_of w) xs (names v x) (find_push_other v w xs n)

push_here_step : (w : ℕ) (x : Holding) (xs : List Holding) (b : Bool) → cond b (Some x) (find (names w) xs) ≡ None → (find (names w) xs ≡ None → find (names w) (xs ++ ticket_of w ∷ []) ≡ Some (ticket_of w)) → cond b (Some x) (find (names w) (xs ++ ticket_of w ∷ [])) ≡ Some (ticket_of w)
push_here_step w x xs true e k = absurd (cc)
push_here_step w x xs false e k = k e

pub find_push_here : (w : ℕ) (xs : List Holding) → find (names w) xs ≡ None → find (names w) (xs ++ ticket_of w ∷ []) ≡ Some (ticket_of w)
find_push_here w [] e = rw (eq-eqb w w refl)
find_push_here w (x ∷ xs) e = push_here_step w x xs (names w x) e (find_push_here w xs)

count_none_by : (w : ℕ) (x : Holding) (xs : List Holding) (b : Bool) → names w x ≡ b → cond b (Some x) (find (names w) xs) ≡ None → (find (names w) xs ≡ None → count_names w xs ≡ 0) → count_names w (x ∷ xs) ≡ 0
count_none_by w x xs true p e k = absurd (cc)
count_none_by w x xs false p e k = let zero_here : one w x.want ≡ 0 = (rw p) in omega (arith, sum_by-cons (λ (h : Holding). one w h.want) x xs, zero_here, k e)

pub count_none : (w : ℕ) (xs : List Holding) → find (names w) xs ≡ None → count_names w xs ≡ 0
count_none w [] e = refl
count_none w (x ∷ xs) e = count_none_by w x xs (names w x) refl e (count_none w xs)

pub tie_made : (limits : Limits) (s : State) (out : List Holding) (taken taken' : List ℕ) (host now v : ℕ) → Tied s out taken → IsMade v (want_step limits s 0 host now).reply → LeavesTaken taken taken' → Tied (want_step limits s 0 host now).state (out ++ ticket_of v ∷ []) taken'
tie_made limits s out taken taken' host now v k m tk =
    let w : ℕ = s.next_want in
    let made = made_want limits s 0 host now v m in
    let t = (want_step limits s 0 host now).state in
    let next : t.next_want ≡ w + 1 = made.1 in
    let more = λ (g : Weigh). adds_at_most g limits s 0 host now in
    let conn = want_conn limits s 0 host now in
    let none : find (names w) out ≡ None = k.out_new w (omega arith) in
    let P : ℕ → Type 0 = λ n. Tied t (out ++ ticket_of n ∷ []) taken' in
    subst P (sym made.0) (record {
      own = want_owns 0 limits s host now k.own;
      occ = λ u. elim (decide u w) [
        | inl e ↦ omega (arith, more (occ_of u), k.occ_new u (omega (arith, e)), ap (λ n. one u n) (sym e) ∙ one_same u)
        | inr n ↦ omega (arith, more (occ_of u), one_other u w n, k.occ u)
      ];
      dia = λ u. elim (decide u w) [
        | inl e ↦ omega (arith, more (dia_of u), k.dia_new u (omega (arith, e)), ap (λ n. one u n) (sym e) ∙ one_same u)
        | inr n ↦ omega (arith, more (dia_of u), one_other u w n, k.dia u)
      ];
      con = λ n. omega (arith, more (con_of n), k.con n);
      occ_new = λ u l. (let above : w + 1 ≤ u = rw next at l in omega (arith, more (occ_of u), one_other u w (λ e. omega (arith, e, above)), k.occ_new u (omega (arith, above))));
      dia_new = λ u l. (let above : w + 1 ≤ u = rw next at l in omega (arith, more (dia_of u), one_other u w (λ e. omega (arith, e, above)), k.dia_new u (omega (arith, above))));
      con_new = λ n l. omega (arith, more (con_of n), k.con_new n (rw conn at l));
      out_new = λ u l. (let above : w + 1 ≤ u = rw next at l in find_push_other u w out (λ e. omega (arith, e, above)) ∙ k.out_new u (omega (arith, above)));
      once = λ u. elim (decide u w) [
        | inl e ↦ omega (arith, sum_by_push (λ (h : Holding). one u h.want) out (ticket_of w), ap (λ n. one u n) (sym e) ∙ one_same u, count_none u out (let Q : ℕ → Type 0 = λ n. find (names n) out ≡ None in subst Q (sym e) none))
        | inr n ↦ omega (arith, sum_by_push (λ (h : Holding). one u h.want) out (ticket_of w), one_other u w n, k.once u)
      ];
      held = λ u. elim (decide u w) [
        | inl e ↦ (let Q : ℕ → Type 0 = λ n. weight (occ_of n) t ≤ bit (has_ticket n (out ++ ticket_of w ∷ [])) + bit (has_lease n (out ++ ticket_of w ∷ [])) in subst Q (sym e) (rw (find_push_here w out none) (omega (arith, more (occ_of w), k.occ_new w (omega arith), one_same w))))
        | inr n ↦ rw (find_push_other u w out n) (omega (arith, more (occ_of u), one_other u w n, k.held u))
      ];
      dials = λ u. ap (dials_of u) (want_dials limits s 0 host now) ∙ k.dials u ∙ elim (decide u w) [
        | inl e ↦ (let Q : ℕ → Type 0 = λ n. bit (has_dial n out) ≡ bit (has_dial n (out ++ ticket_of w ∷ [])) in subst Q (sym e) (rw (none, find_push_here w out none)))
        | inr n ↦ rw (find_push_other u w out n)
      ];
      taken_new = λ u l. (let above : w + 1 ≤ u = rw next at l in tk u (k.taken_new u (omega (arith, above))));
      untaken = λ u. elim (decide u w) [
        | inl e ↦ (λ h. let Q : ℕ → Type 0 = λ n. is_among n taken' ≡ false in subst Q (sym e) (tk w (k.taken_new w (omega arith))))
        | inr n ↦ (λ h. tk u (k.untaken u (rw (find_push_other u w out n) at h)))
      ];
    })

-- a caller's units are among the wants that its tokens name
abbrev pub In : ℕ → List ℕ → Type 0
In w xs = list_any (λ y. y == w) xs ≡ true

or_true : (a b : Bool) → b ≡ true → (a || b) ≡ true
or_true true b h = refl
or_true false b h = h

pub or_cases : (a b : Bool) → (a || b) ≡ true → (a ≡ true) ⊎ (b ≡ true)
or_cases true b h = inl refl
or_cases false b h = inr h

pub in_append : (w : ℕ) (xs ys : List ℕ) → In w (xs ++ ys) → In w xs ⊎ In w ys
in_append w [] ys h = inr h
in_append w (x ∷ xs) ys h = elim (or_cases (x == w) (list_any (λ y. y == w) (xs ++ ys)) h) [
  | inl e ↦ inl (rw e)
  | inr m ↦ elim (in_append w xs ys m) [ inl n ↦ inl (or_true (x == w) (list_any (λ y. y == w) xs) n) | inr n ↦ inr n ]
]

keep_step : {X : Type 0} (w : ℕ) (f : X → ℕ) (p : X → Bool) (x : X) (xs : List X) (b : Bool) → In w (map f (cond b (x ∷ filter p xs) (filter p xs))) → (In w (map f (filter p xs)) → list_any (λ x. f x == w) xs ≡ true) → ((f x == w) || list_any (λ x. f x == w) xs) ≡ true
keep_step w f p x xs true h k = elim (or_cases (f x == w) (list_any (λ y. y == w) (map f (filter p xs))) h) [ inl e ↦ rw e | inr m ↦ or_true (f x == w) (list_any (λ x. f x == w) xs) (k m) ]
keep_step w f p x xs false h k = or_true (f x == w) (list_any (λ x. f x == w) xs) (k h)

keep_in : {X : Type 0} (w : ℕ) (f : X → ℕ) (p : X → Bool) (xs : List X) → In w (map f (filter p xs)) → list_any (λ x. f x == w) xs ≡ true
keep_in w f p [] h = h
keep_in w f p (x ∷ xs) h = keep_step w f p x xs (p x) h (keep_in w f p xs)

weighs : {X : Type 0} (f : X → ℕ) (p : X → Bool) (xs : List X) → ((x : X) → p x ≡ true → 1 ≤ f x) → list_any p xs ≡ true → 1 ≤ sum_by f xs
weighs f p [] each h = absurd (cc)
weighs f p (x ∷ xs) each h = elim (or_cases (p x) (list_any p xs) h) [
  | inl e ↦ omega (arith, sum_by-cons f x xs, each x e)
  | inr m ↦ omega (arith, sum_by-cons f x xs, weighs f p xs each m)
]

out_cond : (w caller n c : ℕ) (b : Bool) (ys : List ℕ) (t : Bool) → In w (cons_option (cond b (Some n) None) ys) → (In w ys → t ≡ true) → ((n == w) || t) ≡ true
out_cond w caller n c true ys t h k = elim (or_cases (n == w) (list_any (λ y. y == w) ys) h) [ inl e ↦ rw e | inr m ↦ or_true (n == w) t (k m) ]
out_cond w caller n c false ys t h k = or_true (n == w) t (k h)

out_step : (w caller : ℕ) (place : Place) (xs : List ConnRow) → In w (cons_option (out_want caller place) (filter_map (λ (r : ConnRow). out_want caller r.place) xs)) → (In w (filter_map (λ (r : ConnRow). out_want caller r.place) xs) → list_any (is_with w) xs ≡ true) → (is_out_to w place || list_any (is_with w) xs) ≡ true
out_step w caller (Out n c) xs h k = out_cond w caller n c (c == caller) (filter_map (λ (r : ConnRow). out_want caller r.place) xs) (list_any (is_with w) xs) h k
out_step w caller (Idle a b) xs h k = k h

out_in : (w caller : ℕ) (xs : List ConnRow) → In w (filter_map (λ (r : ConnRow). out_want caller r.place) xs) → list_any (is_with w) xs ≡ true
out_in w caller [] h = h
out_in w caller (x ∷ xs) h = out_step w caller x.place xs h (out_in w caller xs)

one_at : (w n : ℕ) → (n == w) ≡ true → 1 ≤ one w n
one_at w n e = rw e (omega arith)

stage_by : (w : ℕ) (stage : Stage) (n : ℕ) → (n == w) ≡ true → 1 ≤ stage_weight (occ_of w) stage n
stage_by w Waiting n e = one_at w n e
stage_by w Granted n e = one_at w n e
stage_by w Dialing n e = one_at w n e

place_by : (w : ℕ) (place : Place) → is_out_to w place ≡ true → 1 ≤ place_weight (occ_of w) place
place_by w (Out n c) e = one_at w n e
place_by w (Idle a b) e = absurd (cc)

pub stage_at : (w : ℕ) (row : WantRow) → (row.want == w) ≡ true → 1 ≤ want_weight (occ_of w) row
stage_at w row e = stage_by w row.stage row.want e

pub place_at : (w : ℕ) (row : ConnRow) → is_with w row ≡ true → 1 ≤ conn_weight (occ_of w) row
place_at w row e = omega (arith, place_by w row.place e)

pub unit_weight : (s : State) (caller w : ℕ) → In w (map (λ (row : WantRow). row.want) (filter (λ (row : WantRow). row.caller == caller) s.wants) ++ map (λ (row : DialRow). row.want) (filter (λ (row : DialRow). row.caller == caller) s.dials) ++ filter_map (λ (row : ConnRow). out_want caller row.place) s.conns) → 1 ≤ weight (occ_of w) s + dials_of w s.dials
unfolding weight
unit_weight s caller w h = elim (in_append w (map (λ (row : WantRow). row.want) (filter (λ (row : WantRow). row.caller == caller) s.wants) ++ map (λ (row : DialRow). row.want) (filter (λ (row : DialRow). row.caller == caller) s.dials)) (filter_map (λ (row : ConnRow). out_want caller row.place) s.conns) h) [
  | inl a ↦ elim (in_append w (map (λ (row : WantRow). row.want) (filter (λ (row : WantRow). row.caller == caller) s.wants)) (map (λ (row : DialRow). row.want) (filter (λ (row : DialRow). row.caller == caller) s.dials)) a) [
    | inl b ↦ omega (arith, weighs (want_weight (occ_of w)) (λ (r : WantRow). r.want == w) s.wants (stage_at w) (keep_in w (λ (row : WantRow). row.want) (λ (row : WantRow). row.caller == caller) s.wants b))
    | inr b ↦ omega (arith, weighs (λ (r : DialRow). one w r.want) (λ (r : DialRow). r.want == w) s.dials (λ r e. one_at w r.want e) (keep_in w (λ (row : DialRow). row.want) (λ (row : DialRow). row.caller == caller) s.dials b))
  ]
  | inr b ↦ omega (arith, weighs (conn_weight (occ_of w)) (is_with w) s.conns (place_at w) (out_in w caller s.conns b))
]

-- a want whose rows weigh something is named by a token
none_named : (w : ℕ) (s : State) (out : List Holding) (taken : List ℕ) → Tied s out taken → 1 ≤ weight (occ_of w) s + dials_of w s.dials → find (names w) out ≡ None → ⊥
none_named w s out taken k h e =
    let a : weight (occ_of w) s ≤ 0 = (let l = k.held w in let m = rw e at l in omega (arith, m)) in
    let b : dials_of w s.dials ≡ 0 = (let l = k.dials w in rw e at l) in
    omega (arith, a, b, h)

-- as many different numbers as are named, at most
find_left_step : (v w : ℕ) (x : Holding) (xs : List Holding) (b : Bool) → (v ≡ w → ⊥) → names w x ≡ b → find (names v) (remove_first (names w) xs) ≡ find (names v) xs → find (names v) (cond b xs (x ∷ remove_first (names w) xs)) ≡ find (names v) (x ∷ xs)
find_left_step v w x xs true n p k =
    let is : x.want ≡ w = eqb-true x.want w p in
    let not_v : names v x ≡ false = ne_eqb x.want v (λ e. n (sym e ∙ is)) in rw not_v
find_left_step v w x xs false n p k = rw k

find_left : (v w : ℕ) (xs : List Holding) → (v ≡ w → ⊥) → find (names v) (remove_first (names w) xs) ≡ find (names v) xs
find_left v w [] n = refl
find_left v w (x ∷ xs) n = find_left_step v w x xs (names w x) n refl (find_left v w xs n)

differs : (x w : ℕ) (xs : List ℕ) → list_any (λ y. y == x) xs ≡ false → In w xs → w ≡ x → ⊥
differs x w xs e m same = let P : ℕ → Type 0 = λ n. list_any (λ y. y == n) xs ≡ true in let bad : list_any (λ y. y == x) xs ≡ true = subst P same m in cc

pigeon_found : (x : ℕ) (xs : List ℕ) (out : List Holding) (o : Option Holding) → find (names x) out ≡ o → list_any (λ y. y == x) xs ≡ false → ((w : ℕ) → In w (x ∷ xs) → find (names w) out ≡ None → ⊥) → ((o : List Holding) → ((w : ℕ) → In w xs → find (names w) o ≡ None → ⊥) → length (distinct xs) ≤ length o) → length (x ∷ distinct xs) ≤ length out
pigeon_found x xs out None f e h k = absurd (h x (rw (eq-eqb x x refl)) f)
pigeon_found x xs out (Some r) f e h k =
    let less : length (remove_first (names x) out) + 1 ≡ length out = removed_length (names x) out r f in
    let rest : length (distinct xs) ≤ length (remove_first (names x) out) = k (remove_first (names x) out) (λ w m n. h w (or_true (x == w) (list_any (λ y. y == w) xs) m) (sym (find_left w x out (λ same. differs x w xs e m same)) ∙ n)) in
    omega (arith, less, rest)

pigeon_step : (x : ℕ) (xs : List ℕ) (out : List Holding) (b : Bool) → list_any (λ y. y == x) xs ≡ b → ((w : ℕ) → In w (x ∷ xs) → find (names w) out ≡ None → ⊥) → ((o : List Holding) → ((w : ℕ) → In w xs → find (names w) o ≡ None → ⊥) → length (distinct xs) ≤ length o) → length (cond b (distinct xs) (x ∷ distinct xs)) ≤ length out
pigeon_step x xs out true e h k = k out (λ w m. h w (or_true (x == w) (list_any (λ y. y == w) xs) m))
pigeon_step x xs out false e h k = pigeon_found x xs out (find (names x) out) refl e h k

pub pigeon : (xs : List ℕ) (out : List Holding) → ((w : ℕ) → In w xs → find (names w) out ≡ None → ⊥) → length (distinct xs) ≤ length out
pigeon [] out h = omega arith
pigeon (x ∷ xs) out h = pigeon_step x xs out (list_any (λ y. y == x) xs) refl h (λ o g. pigeon xs o g)

pub few_units : (s : State) (out : List Holding) (taken : List ℕ) → Tied s out taken → length (units s 0) ≤ length out
unfolding units
few_units s out taken k = pigeon _ out (λ w m. none_named w s out taken k (unit_weight s 0 w m))

-- the distinct numbers of a list are in it
or_more : (a b : Bool) → b ≡ true → (a || b) ≡ true
or_more true b h = refl
or_more false b h = h

distinct_step : (w x : ℕ) (xs : List ℕ) (b : Bool) → In w (cond b (distinct xs) (x ∷ distinct xs)) → (In w (distinct xs) → In w xs) → In w (x ∷ xs)
distinct_step w x xs true h k = or_more (x == w) (list_any (λ y. y == w) xs) (k h)
distinct_step w x xs false h k = elim (or_cases (x == w) (list_any (λ y. y == w) (distinct xs)) h) [ inl e ↦ rw e refl | inr m ↦ or_more (x == w) (list_any (λ y. y == w) xs) (k m) ]

pub in_distinct : (w : ℕ) (xs : List ℕ) → In w (distinct xs) → In w xs
in_distinct w [] h = h
in_distinct w (x ∷ xs) h = distinct_step w x xs (list_any (λ y. y == x) xs) h (in_distinct w xs)

-- each unit of the one caller is a want that its tokens name
pub units_named : (s : State) (out : List Holding) (taken : List ℕ) (w : ℕ) → Tied s out taken → In w (units s 0) → find (names w) out ≡ None → ⊥
unfolding units
units_named s out taken w k m = none_named w s out taken k (unit_weight s 0 w (in_distinct w _ m))

-- a connection whose row is found by its want is found by its number
weighs_among : (n : ℕ) (r : ConnRow) (xs : List ConnRow) → has_number n r ≡ true → Among r xs → 1 ≤ sum_by (conn_weight (con_of n)) xs
weighs_among n r [] q m = absurd m
weighs_among n r (x ∷ xs) q (inl e) = let here : 1 ≤ conn_weight (con_of n) x = (let at : has_number n x ≡ true = rw e q in omega (arith, one_at n x.conn at)) in omega (arith, sum_by-cons (conn_weight (con_of n)) x xs, here)
weighs_among n r (x ∷ xs) q (inr m) = omega (arith, sum_by-cons (conn_weight (con_of n)) x xs, weighs_among n r xs q m)

by_number_step : (n : ℕ) (p : ConnRow → Bool) (x r : ConnRow) (xs : List ConnRow) (b c : Bool) → p x ≡ b → has_number n x ≡ c → has_number n r ≡ true → cond b (Some x) (find p xs) ≡ Some r → sum_by (conn_weight (con_of n)) (x ∷ xs) ≤ 1 → (find p xs ≡ Some r → sum_by (conn_weight (con_of n)) xs ≤ 1 → find (has_number n) xs ≡ Some r) → cond c (Some x) (find (has_number n) xs) ≡ Some r
by_number_step n p x r xs true true e f q g l k = g
by_number_step n p x r xs true false e f q g l k = let same : x ≡ r = cc in let bad : has_number n x ≡ true = (rw same q) in absurd (cc)
by_number_step n p x r xs false false e f q g l k = k g (omega (arith, sum_by-cons (conn_weight (con_of n)) x xs, l))
by_number_step n p x r xs false true e f q g l k =
    let mine : 1 ≤ conn_weight (con_of n) x = omega (arith, one_at n x.conn f) in
    let theirs : 1 ≤ sum_by (conn_weight (con_of n)) xs = weighs_among n r xs q (found_among p r xs g) in
    absurd (omega (arith, sum_by-cons (conn_weight (con_of n)) x xs, mine, theirs, l))

pub by_number : (n : ℕ) (p : ConnRow → Bool) (r : ConnRow) (xs : List ConnRow) → has_number n r ≡ true → find p xs ≡ Some r → sum_by (conn_weight (con_of n)) xs ≤ 1 → find (has_number n) xs ≡ Some r
by_number n p r [] q g l = absurd (cc)
by_number n p r (x ∷ xs) q g l = by_number_step n p x r xs (p x) (has_number n x) refl refl q g l (λ e m. by_number n p r xs q e m)

pub with_number : (s : State) (out : List Holding) (taken : List ℕ) (w : ℕ) (row : ConnRow) → Tied s out taken → find (is_with w) s.conns ≡ Some row → find (has_number row.conn) s.conns ≡ Some row
unfolding weight
with_number s out taken w row k f = by_number row.conn (is_with w) row s.conns (eq-eqb row.conn row.conn refl) f (omega (arith, k.con row.conn))

-- with no token out no want, no dial and no connection that is out is left
no_wants : (xs : List WantRow) → ((w : ℕ) → sum_by (want_weight (occ_of w)) xs ≤ 0) → xs ≡ []
no_wants [] h = refl
no_wants (x ∷ xs) h = absurd (omega (arith, h x.want, sum_by-cons (want_weight (occ_of x.want)) x xs, stage_at x.want x (eq-eqb x.want x.want refl)))

no_dials : (xs : List DialRow) → ((w : ℕ) → dials_of w xs ≡ 0) → xs ≡ []
no_dials [] h = refl
no_dials (x ∷ xs) h = absurd (omega (arith, h x.want, sum_by-cons (λ (r : DialRow). one x.want r.want) x xs, one_same x.want))

idle_place : (place : Place) → ((w : ℕ) → place_weight (occ_of w) place ≤ 0) → is_idle place ≡ true
idle_place (Out w c) h = absurd (omega (arith, h w, one_same w))
idle_place (Idle a b) h = refl

all_idle : (xs : List ConnRow) → ((w : ℕ) → sum_by (conn_weight (occ_of w)) xs ≤ 0) → list_all rests xs ≡ true
all_idle [] h = refl
all_idle (x ∷ xs) h = rw (idle_place x.place (λ w. omega (arith, h w, sum_by-cons (conn_weight (occ_of w)) x xs))) (all_idle xs (λ w. omega (arith, h w, sum_by-cons (conn_weight (occ_of w)) x xs)))

pub quiet_of : (s : State) → ((w : ℕ) → weight (occ_of w) s ≤ 0) → ((w : ℕ) → dials_of w s.dials ≡ 0) → IsQuiet s
unfolding weight
quiet_of s h d = record {
  wants = no_wants s.wants (λ w. omega (arith, h w));
  dials = no_dials s.dials d;
  conns = all_idle s.conns (λ w. omega (arith, h w));
}

pub quiet : (s : State) (out : List Holding) (taken : List ℕ) → Tied s out taken → out ≡ [] → IsQuiet s
quiet s out taken k e = quiet_of s (λ w. (let l = k.held w in rw e at l)) (λ w. (let l = k.dials w in rw e at l))
