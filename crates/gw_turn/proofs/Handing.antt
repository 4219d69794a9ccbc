-- A split, a join and the end keep to the rule of the turn.
use Rattle.std.proofs.Common.{◌≡◌, ◌≢◌, ℕ, ◌+◌, ◌<◌, ◌≤◌, ◌⊎◌, inl, inr, Bool, true, false, List, [], ◌∷◌, ◌++◌, length, set, refl, sym, ap, ◌∙◌, subst, ⊎_elim, arith, cond, nat_lt, append-nil, length-append, ltb-true, ltb-false}
use Rattle.std.specs.List.{sum_by}
use Rattle.std.proofs.lemmas.List.Sums.{sum_by-cons, sum_by-append}
use mathlib.Core.Option.{some, some-injective}
use lib.ListN.{get_elem?}
use Rattle.atomic_table.specs.Table.{Splits, Joins}
use Rattle.atomic_table.proofs.Lists.{at_set, at_snoc, set_here, set_else, at_longer}
use Rattle.gw_pool.specs.declared.limits.Limits.{Limits}
use Rattle.gw_pool.specs.declared.entry.Entry.{Entry}
use Rattle.gw_pool.specs.History.{mine}
use Rattle.gw_pool.specs.Ties.{Among, one, bit}
use Rattle.gw_pool.proofs.Ties.{decide}
use Rattle.gw_turn.specs.declared.view.Member.{Member}
use Rattle.gw_turn.specs.declared.view.PassView.{PassView}
use Rattle.gw_turn.specs.Turn.{Begins, members_of, spent, begun, total, turns, size, counts, IsKnown, Fits, IsKept}
use Rattle.gw_turn.specs.Steps.{Others, split_left, split_right, right_of, longer, joined}
use Rattle.gw_turn.proofs.Sums.{total_set, total_snoc, there_below}
use Rattle.gw_turn.proofs.Views.{live_members, knows_more}

off : {X : Type 0} (b : Bool) → b ≡ true → b ≡ false → X
off b e f = absurd (cc)

bit_off : (b : Bool) → b ≡ false → bit b ≡ 0
bit_off true e = absurd (cc)
bit_off false e = refl

-- a view that fits knows of those that it speaks of
sum_members : (f : Member → ℕ) (v : PassView) → v.live ≡ true → sum_by f (members_of v) ≡ f v.own + sum_by f v.joined
sum_members f v live = ap (λ l. sum_by f l) (live_members v live) ∙ sum_by-cons f v.own v.joined

pub size_is : (v : PassView) → v.live ≡ true → size v ≡ length v.joined + 1
size_is v live = ap (λ l. length l) (live_members v live) ∙ omega arith

among_append_l : (m : Member) (xs ys : List Member) → Among m xs → Among m (xs ++ ys)
among_append_l m [] ys a = absurd a
among_append_l m (x ∷ xs) ys (inl e) = inl e
among_append_l m (x ∷ xs) ys (inr a) = inr (among_append_l m xs ys a)

among_either : {X : Type 0} (m : X) (xs ys : List X) → Among m (xs ++ ys) → Among m xs ⊎ Among m ys
among_either m [] ys a = inr a
among_either m (x ∷ xs) ys (inl e) = inl (inl e)
among_either m (x ∷ xs) ys (inr a) = elim (among_either m xs ys a) [ inl b ↦ inl (inr b) | inr b ↦ inr b ]

in_joined : (m : Member) (v : PassView) → v.live ≡ true → Among m v.joined → Among m (members_of v)
in_joined m v live a = subst (λ l. Among m l) (sym (live_members v live)) (inr a)

is_own : (v : PassView) → v.live ≡ true → Among v.own (members_of v)
is_own v live = subst (λ l. Among v.own l) (sym (live_members v live)) (inl refl)

-- a split
splits_to : (limits : Limits) (id : ℕ) (v : PassView) (m : Member) (ms : List Member) → v.live ≡ true → v.turn ≡ false → v.joined ≡ m ∷ ms → Splits (IsKept limits) id v (split_left v) (begun v.limits m ms)
splits_to limits id v m ms live idle is s kept at =
    let left = split_left v in
    let right = begun v.limits m ms in
    let middle : List PassView = set s.views id left in
    let views : List PassView = middle ++ right ∷ [] in
    let fits = kept.each id v at in
    let same : total turns views ≡ total turns s.views = (let a = total_set turns s.views id v left at in let b = total_snoc turns middle right in omega (arith, a, b)) in
    let of_joined : (x : Member) → Among x (m ∷ ms) → Among x (members_of v) = λ x a. in_joined x v live (subst (λ l. Among x l) (sym is) a) in
    record {
      two_words = kept.two_words;
      one_slot = kept.one_slot;
      few = kept.few;
      history = kept.history;
      taken = kept.taken;
      legal = kept.legal;
      callers = kept.callers;
      fresh = kept.fresh;
      count = kept.count;
      turn = kept.turn ∙ sym same;
      one_turn = (let few_turns = kept.one_turn in omega (arith, same, few_turns));
      home = λ e. kept.home (sym same ∙ e);
      numbers = λ n.
          (let a = total_set (counts n) s.views id v left at in
          let b = total_snoc (counts n) middle right in
          let f : Member → ℕ = λ (x : Member). one n x.number in
          let whole = sum_members f v live in
          let l = sum_members f left live in
          let r = sum_by-cons f m ms in
          let j : sum_by f v.joined ≡ sum_by f (m ∷ ms) = ap (λ l. sum_by f l) is in
          let all = kept.numbers n in
          omega (arith, a, b, whole, l, r, j, all));
      sizes =
          (let a = total_set size s.views id v left at in
          let b = total_snoc size middle right in
          let whole = size_is v live in
          let l = size_is left live in
          let j : length v.joined ≡ length (m ∷ ms) = ap (λ l. length l) is in
          let all = kept.sizes in
          omega (arith, a, b, whole, l, j, all));
      longest = ⊎_elim
          (λ (e : kept.longest.0 ≡ id). (id, left, at_longer middle (right ∷ []) id left (set_here s.views id left (there_below s.views id v at)), ap (λ (x : PassView). x.own.seen) (some-injective v kept.longest.1 (sym at ∙ subst (λ i. get_elem? s.views i ≡ some kept.longest.1) e kept.longest.2)) ∙ kept.longest.3))
          (λ (ne : kept.longest.0 ≡ id → ⊥). (kept.longest.0, kept.longest.1, at_longer middle (right ∷ []) kept.longest.0 kept.longest.1 (set_else s.views id kept.longest.0 left ne ∙ kept.longest.2), kept.longest.3))
          (decide kept.longest.0 id);
      each = λ j u there. ⊎_elim
          (λ (e : get_elem? middle j ≡ some u). ⊎_elim
          (λ (own : (j ≡ id) × (left ≡ u)). subst (Fits limits kept.history kept.taken) own.1 (record {
            gone = λ f. off v.live live f;
            same_limits = fits.same_limits;
            members = λ x a. fits.members x (elim (subst (λ l. Among x l) (live_members left live) a) [ inl e ↦ subst (λ y. Among y (members_of v)) e (is_own v live) | inr b ↦ absurd b ]);
            past = fits.past;
            holds = fits.holds;
          }))
          (λ (other : (j ≢ id) × (get_elem? s.views j ≡ some u)). kept.each j u other.1)
          (at_set s.views id j left u e))
          (λ (e : right ≡ u). subst (Fits limits kept.history kept.taken) e (record {
            gone = λ f. absurd (cc);
            same_limits = λ _. fits.same_limits live;
            members = λ x a. fits.members x (of_joined x a);
            past = λ x a. absurd a;
            holds = λ f. absurd (cc);
          }))
          (at_snoc middle right u j there);
    }

pub splits : (limits : Limits) (id : ℕ) (v : PassView) → v.live ≡ true → v.turn ≡ false → Others v → Splits (IsKept limits) id v (split_left v) (split_right v)
splits limits id v live idle more = subst (λ w. Splits (IsKept limits) id v (split_left v) w) (sym (ap (λ l. right_of v l) more.2)) (splits_to limits id v more.0 more.1 live idle more.2)

-- of two beginnings the longer
longer_by : (xs ys : List Entry) (b : Bool) → nat_lt (length xs) (length ys) ≡ b → ((cond b ys xs ≡ xs) × (length ys ≤ length xs)) ⊎ ((cond b ys xs ≡ ys) × (length xs ≤ length ys))
longer_by xs ys true e = inr (refl, (let lt : length xs < length ys = ltb-true (length xs) (length ys) e in omega (arith, lt)))
longer_by xs ys false e = inl (refl, ltb-false (length xs) (length ys) e)

longer_is : (xs ys : List Entry) → ((longer xs ys ≡ xs) × (length ys ≤ length xs)) ⊎ ((longer xs ys ≡ ys) × (length xs ≤ length ys))
longer_is xs ys = longer_by xs ys (nat_lt (length xs) (length ys)) refl

-- a pass that has seen more
seen_more : (limits : Limits) (h : List Entry) (t : List ℕ) (ys b : List Entry) (m : Member) → ys ++ b ≡ h → IsKnown limits h t m → IsKnown limits h t (record m { seen = longer m.seen ys })
seen_more limits h t ys b m q k = elim (longer_is m.seen ys) [
  | inl e ↦ subst (λ l. IsKnown limits h t (record m { seen = l })) (sym e.0) k
  | inr e ↦ subst (λ l. IsKnown limits h t (record m { seen = l })) (sym e.0) (record {
    below = k.below;
    begins = (b, q);
    own = k.own;
    knows = knows_more m.seen ys k.begins.0 b m.number m.mine (k.begins.1 ∙ sym q) e.1 k.knows (ap (λ l. mine l m.number) q ∙ k.own);
    ties = k.ties;
  })
]

-- a beginning as long as the whole is it
pub whole_of : (xs a h : List Entry) → xs ++ a ≡ h → length h ≤ length xs → xs ≡ h
whole_of xs a h e l = sym (append-nil xs) ∙ ap (λ t. xs ++ t) (sym (none_left a (let n : length (xs ++ a) ≡ length h = ap length e in omega (arith, n, length-append xs a, l)))) ∙ e
  where
    none_left : (t : List Entry) → length t ≡ 0 → t ≡ []
    none_left [] e = refl
    none_left (x ∷ t) e = absurd (omega arith)

pub begins_short : (xs a h : List Entry) → xs ++ a ≡ h → length xs ≤ length h
begins_short xs a h e = let n : length (xs ++ a) ≡ length h = ap length e in omega (arith, n, length-append xs a)

longer_left : (h xs ys b : List Entry) → xs ≡ h → ys ++ b ≡ h → longer xs ys ≡ h
longer_left h xs ys b e q = elim (longer_is xs ys) [ inl l ↦ l.0 ∙ e | inr l ↦ l.0 ∙ whole_of ys b h q (let n : length xs ≡ length h = ap length e in omega (arith, n, l.1)) ]

longer_right : (h xs ys a : List Entry) → ys ≡ h → xs ++ a ≡ h → longer xs ys ≡ h
longer_right h xs ys a e p = elim (longer_is xs ys) [ inr l ↦ l.0 ∙ e | inl l ↦ l.0 ∙ whole_of xs a h p (let n : length ys ≡ length h = ap length e in omega (arith, n, l.1)) ]

-- the histories that were seen when others were joined
past_both : {history : List Entry} (seen : List Entry) (xs ys : List (List Entry)) → Begins history seen → ((x : List Entry) → Among x xs → Begins history x) → ((x : List Entry) → Among x ys → Begins history x) → (x : List Entry) → Among x (seen ∷ (xs ++ ys)) → Begins history x
past_both {history = history} seen xs ys b f g x (inl e) = subst (λ h. Begins history h) e b
past_both seen xs ys b f g x (inr a) = elim (among_either x xs ys a) [ inl p ↦ f x p | inr p ↦ g x p ]

-- a join
pub joins : (limits : Limits) (id : ℕ) (v : PassView) (other : ℕ) (w : PassView) → v.live ≡ true → w.live ≡ true → v.turn ≡ false → w.turn ≡ false → Joins (IsKept limits) id v other w (joined v w) spent
joins limits id v other w live live' idle idle' s kept at apart there =
    let both = joined v w in
    let middle : List PassView = set s.views id both in
    let views : List PassView = set middle other spent in
    let beside : get_elem? s.views other ≡ some w = ⊎_elim
    (λ (own : (other ≡ id) × (both ≡ w)). absurd (apart own.0))
    (λ (e : (other ≢ id) × (get_elem? s.views other ≡ some w)). e.1)
    (at_set s.views id other both w there) in
    let mine_fits = kept.each id v at in
    let their_fits = kept.each other w beside in
    let mine_own = mine_fits.members v.own (is_own v live) in
    let their_own = their_fits.members w.own (is_own w live') in
    let same : total turns views ≡ total turns s.views = (let a = total_set turns s.views id v both at in let b = total_set turns middle other w spent there in let c = bit_off w.turn idle' in omega (arith, a, b, c)) in
    record {
      two_words = kept.two_words;
      one_slot = kept.one_slot;
      few = kept.few;
      history = kept.history;
      taken = kept.taken;
      legal = kept.legal;
      callers = kept.callers;
      fresh = kept.fresh;
      count = kept.count;
      turn = kept.turn ∙ sym same;
      one_turn = (let few_turns = kept.one_turn in omega (arith, same, few_turns));
      home = λ e. kept.home (sym same ∙ e);
      numbers = λ n.
          (let a = total_set (counts n) s.views id v both at in
          let b = total_set (counts n) middle other w spent there in
          let f : Member → ℕ = λ (x : Member). one n x.number in
          let whole = sum_members f both live in
          let l = sum_members f v live in
          let r = sum_members f w live' in
          let j = sum_by-append f v.joined (w.own ∷ w.joined) in
          let k = sum_by-cons f w.own w.joined in
          let all = kept.numbers n in
          omega (arith, a, b, whole, l, r, j, k, all));
      sizes =
          (let a = total_set size s.views id v both at in
          let b = total_set size middle other w spent there in
          let whole = size_is both live in
          let l = size_is v live in
          let r = size_is w live' in
          let j = length-append v.joined (w.own ∷ w.joined) in
          let all = kept.sizes in
          omega (arith, a, b, whole, l, r, j, all));
      longest = longest_of at beside mine_own.begins their_own.begins kept.longest.0 kept.longest.1 kept.longest.2 kept.longest.3;
      each = λ j u found. ⊎_elim
          (λ (gone : (j ≡ other) × (spent ≡ u)). subst (Fits limits kept.history kept.taken) gone.1 (record {
            gone = λ _. refl;
            same_limits = λ f. absurd (cc);
            members = λ x a. absurd a;
            past = λ x a. absurd a;
            holds = λ f. absurd (cc);
          }))
          (λ (e : (j ≢ other) × (get_elem? middle j ≡ some u)). ⊎_elim
          (λ (own : (j ≡ id) × (both ≡ u)). subst (Fits limits kept.history kept.taken) own.1 (record {
            gone = λ f. off v.live live f;
            same_limits = mine_fits.same_limits;
            members = λ x a. elim (subst (λ l. Among x l) (live_members both live) a) [
              | inl f ↦ subst (λ y. IsKnown limits kept.history kept.taken y) f (seen_more limits kept.history kept.taken w.own.seen their_own.begins.0 v.own their_own.begins.1 mine_own)
              | inr b ↦ elim (among_either x v.joined (w.own ∷ w.joined) b) [ inl f ↦ mine_fits.members x (in_joined x v live f) | inr f ↦ their_fits.members x (subst (λ l. Among x l) (sym (live_members w live')) f) ]
            ];
            past = past_both v.own.seen v.past w.past mine_own.begins mine_fits.past their_fits.past;
            holds = λ f. off v.turn f idle;
          }))
          (λ (else : (j ≢ id) × (get_elem? s.views j ≡ some u)). kept.each j u else.1)
          (at_set s.views id j both u e.1))
          (at_set middle other j spent u found);
    }
  where
    longest_of : get_elem? s.views id ≡ some v → get_elem? s.views other ≡ some w → ((o : List Entry) × (v.own.seen ++ o ≡ kept.history)) → ((o : List Entry) × (w.own.seen ++ o ≡ kept.history)) → (k : ℕ) (u : PassView) → get_elem? s.views k ≡ some u → u.own.seen ≡ kept.history
        → (i : ℕ) × (x : PassView) × (get_elem? (set (set s.views id (joined v w)) other spent) i ≡ some x) × (x.own.seen ≡ kept.history)
    longest_of at beside p q k u found full =
        let here : get_elem? (set (set s.views id (joined v w)) other spent) id ≡ some (joined v w) = set_else (set s.views id (joined v w)) other id spent (λ e. apart (sym e)) ∙ set_here s.views id (joined v w) (there_below s.views id v at) in
        ⊎_elim
        (λ (e : k ≡ id). (id, joined v w, here, longer_left kept.history v.own.seen w.own.seen q.0 (ap (λ (x : PassView). x.own.seen) (some-injective v u (sym at ∙ subst (λ i. get_elem? s.views i ≡ some u) e found)) ∙ full) q.1))
        (λ (ne : k ≡ id → ⊥). ⊎_elim
        (λ (e : k ≡ other). (id, joined v w, here, longer_right kept.history v.own.seen w.own.seen p.0 (ap (λ (x : PassView). x.own.seen) (some-injective w u (sym beside ∙ subst (λ i. get_elem? s.views i ≡ some u) e found)) ∙ full) p.1))
        (λ (ne' : k ≡ other → ⊥). (k, u, set_else (set s.views id (joined v w)) other k spent ne' ∙ set_else s.views id k (joined v w) ne ∙ found, full))
        (decide k other))
        (decide k id)
