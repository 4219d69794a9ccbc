-- The end: one pass is left.
use Rattle.std.proofs.Common.{◌≡◌, ◌≢◌, ℕ, ◌+◌, ◌<◌, ◌≤◌, ◌==◌, inl, inr, Bool, true, false, List, [], ◌∷◌, length, slice_index, refl, sym, ap, ◌∙◌, subst, ⊎_elim, arith, cond, nat_lt, Some, lt-ltb}
use Rattle.std.specs.List.{sum_by, All}
use Rattle.std.proofs.lemmas.List.Sums.{sum_by-cons}
use Rattle.std.proofs.lemmas.List.Elements.{All-nil, All-cons, All-head, All-tail}
use mathlib.Core.Option.{some, some-injective}
use lib.ListN.{get_elem?}
use prog.Atomic.{either}
use Rattle.atomic_table.specs.Table.{takes, Allows}
use Rattle.atomic_table.proofs.Lists.{exchanged}
use Rattle.gw_pool.specs.declared.limits.Limits.{Limits}
use Rattle.gw_pool.specs.declared.entry.Entry.{Entry}
use Rattle.gw_pool.specs.History.{AreBelow, after}
use Rattle.gw_pool.specs.Core.{IsQuiet}
use Rattle.gw_pool.specs.Laws.{is_number}
use Rattle.gw_pool.specs.Ties.{Among, one, bit}
use Rattle.gw_pool.proofs.Ties.{decide, one_other}
use Rattle.gw_pool.proofs.TieWant.{quiet_of}
use Rattle.gw_turn.specs.declared.view.Member.{Member}
use Rattle.gw_turn.specs.declared.view.PassView.{PassView}
use Rattle.gw_pool.specs.Owner.{made_by, owners_after, owners_from, owner}
use Rattle.gw_turn.specs.Tie.{Ties}
use Rattle.gw_turn.specs.Turn.{TurnState, Begins, members_of, spent, total, turns, size, counts, core_at, IsKept}
use Rattle.gw_turn.specs.Steps.{PassMe, took, Ends, IsIn}
use Rattle.gw_turn.proofs.Sums.{total_two, total_alone}
use Rattle.gw_turn.proofs.Views.{live_members}
use Rattle.gw_turn.proofs.Handing.{size_is, whole_of}
use Rattle.gw_turn.proofs.Keeping.{Leads, takes_free, met}

-- the owner of each want is a caller of the pool
owner_below_by : (n : ℕ) (b : Bool) (c d : ℕ) → c < n → d < n → cond b c d < n
owner_below_by n true c d p q = p
owner_below_by n false c d p q = q

owners_below : (n : ℕ) (by : ℕ → ℕ) (h : List Entry) → ((w : ℕ) → by w < n) → AreBelow n h → (w : ℕ) → owners_from by h w < n
owners_below n by [] b all w = b w
owners_below n by (e ∷ h) b all w = owners_below n (owners_after by e) h (λ v. owner_below_by n (is_number v (made_by e.call e.reply)) e.caller (by v) (All-head (λ entry. entry.caller < n) e h all) (b v)) (All-tail (λ entry. entry.caller < n) e h all) w

pub owner_below : (n : ℕ) (h : List Entry) → 0 < n → AreBelow n h → (w : ℕ) → owner h w < n
unfolding owner
owner_below n h some_pass all w = owners_below n (λ want. 0) h (λ v. some_pass) all w

-- the others are spent
gone_by : (v : PassView) (b : Bool) → v.live ≡ b → size v ≡ 0 → b ≡ false
gone_by v true e z = absurd (let s = size_is v e in omega (arith, s, z))
gone_by v false e z = refl

others_spent : (limits : Limits) (s : TurnState) (kept : IsKept limits s) (id : ℕ) (v : PassView) → get_elem? s.views id ≡ some v → size v ≡ limits.passes → (j : ℕ) (u : PassView) → j ≢ id → get_elem? s.views j ≡ some u → u ≡ spent
others_spent limits s kept id v at all j u ne there =
    let two = total_two size s.views id j v u ne at there in
    let sizes = kept.sizes in
    (kept.each j u there).gone (gone_by u u.live refl (omega (arith, two, sizes, all)))

-- a number that counts in a list is a member's
member_step : (n : ℕ) (m : Member) (ms : List Member) → 1 ≤ sum_by (λ (x : Member). one n x.number) (m ∷ ms) → (1 ≤ sum_by (λ (x : Member). one n x.number) ms → (x : Member) × Among x ms × (x.number ≡ n)) → (x : Member) × Among x (m ∷ ms) × (x.number ≡ n)
member_step n m ms h k = elim (decide m.number n) [
  | inl e ↦ (m, inl refl, e)
  | inr ne ↦ (let rest = k (omega (arith, sum_by-cons (λ (x : Member). one n x.number) m ms, one_other n m.number (λ e. ne (sym e)), h)) in (rest.0, inr rest.1, rest.2))
]

member_of : (n : ℕ) (ms : List Member) → 1 ≤ sum_by (λ (x : Member). one n x.number) ms → (x : Member) × Among x ms × (x.number ≡ n)
member_of n [] h = absurd (omega arith)
member_of n (m ∷ ms) h = member_step n m ms h (member_of n ms)

below_bit : (n passes : ℕ) → n < passes → bit (nat_lt n passes) ≡ 1
below_bit n passes l = rw (lt-ltb n passes l) refl

-- each pass's number stands in the one view
pub has_number : (limits : Limits) (s : TurnState) (kept : IsKept limits s) (id : ℕ) (v : PassView) → get_elem? s.views id ≡ some v → size v ≡ limits.passes → (n : ℕ) → n < limits.passes → (x : Member) × Among x (members_of v) × (x.number ≡ n)
has_number limits s kept id v at all n l =
    let alone = total_alone (counts n) s.views id v at (λ j u ne there. ap (counts n) (others_spent limits s kept id v at all j u ne there)) in
    let is = kept.numbers n in
    member_of n (members_of v) (omega (arith, alone, is, below_bit n limits.passes l))

-- all tokens are spent
abbrev pub AllSpent : PassView → Type 0
AllSpent v = (m : Member) → Among m (members_of v) → m.out ≡ []

quiet : (limits : Limits) (s : TurnState) (kept : IsKept limits s) (id : ℕ) (v : PassView) → get_elem? s.views id ≡ some v → size v ≡ limits.passes → 0 < limits.passes → AllSpent v → IsQuiet (after limits kept.history)
quiet limits s kept id v at all some_pass none_out =
    let ties : (w : ℕ) → (x : Member) × (owner kept.history w ≡ x.number) × (x.out ≡ []) × Ties (owner kept.history) x.number (after limits kept.history) x.out kept.taken = λ w.
    let found = has_number limits s kept id v at all (owner kept.history w) (owner_below limits.passes kept.history some_pass kept.callers w) in
    (found.0, sym found.2, none_out found.0 found.1, ((kept.each id v at).members found.0 found.1).ties) in
    quiet_of (after limits kept.history)
    (λ w. let t = ties w in let l = t.3.held w t.1 in rw t.2 at l)
    (λ w. let t = ties w in let l = t.3.dials w t.1 in rw t.2 at l)

joined_in : (journal : List Entry) (ms : List Member) → ((m : Member) → Among m ms → IsIn journal m) → All (IsIn journal) ms
joined_in journal [] f = All-nil (IsIn journal)
joined_in journal (m ∷ ms) f = All-cons (IsIn journal) m ms (f m (inl refl)) (joined_in journal ms (λ x a. f x (inr a)))

past_in : (journal : List Entry) (xs : List (List Entry)) → ((x : List Entry) → Among x xs → Begins journal x) → All (Begins journal) xs
past_in journal [] f = All-nil (Begins journal)
past_in journal (x ∷ xs) f = All-cons (Begins journal) x xs (f x (inl refl)) (past_in journal xs (λ y a. f y (inr a)))

spent_joined : (ms : List Member) → All (λ m. m.out ≡ []) ms → (m : Member) → Among m ms → m.out ≡ []
spent_joined [] all m a = absurd a
spent_joined (x ∷ xs) all m (inl e) = ap (λ (y : Member). y.out) (sym e) ∙ All-head (λ m. m.out ≡ []) x xs all
spent_joined (x ∷ xs) all m (inr a) = spent_joined xs (All-tail (λ m. m.out ≡ []) x xs all) m a

pub all_spent : (v : PassView) → v.live ≡ true → v.own.out ≡ [] → All (λ m. m.out ≡ []) v.joined → AllSpent v
all_spent v live own all m a = elim (subst (λ l. Among m l) (live_members v live) a) [
  | inl e ↦ ap (λ (y : Member). y.out) (sym e) ∙ own
  | inr b ↦ spent_joined v.joined all m b
]

-- the one pass that is left has seen everything
seen_all : (limits : Limits) (s : TurnState) (kept : IsKept limits s) (id : ℕ) (v : PassView) → get_elem? s.views id ≡ some v → v.live ≡ true → ((j : ℕ) (u : PassView) → j ≢ id → get_elem? s.views j ≡ some u → u ≡ spent) → v.own.seen ≡ kept.history
seen_all limits s kept id v at live others =
    let u = kept.longest.1 in
    let own = (kept.each id v at).members v.own (subst (λ l. Among v.own l) (sym (live_members v live)) (inl refl)) in
    ⊎_elim
    (λ (e : kept.longest.0 ≡ id). ap (λ (x : PassView). x.own.seen) (some-injective v u (sym at ∙ subst (λ i. get_elem? s.views i ≡ some u) e kept.longest.2)) ∙ kept.longest.3)
    (λ (ne : kept.longest.0 ≡ id → ⊥).
    let none_yet : [] ≡ kept.history = ap (λ (x : PassView). x.own.seen) (sym (others kept.longest.0 u ne kept.longest.2)) ∙ kept.longest.3 in
    whole_of v.own.seen own.begins.0 kept.history own.begins.1 (let l : 0 ≡ length kept.history = ap (λ (h : List Entry). length h) none_yet in omega (arith, l)))
    (decide kept.longest.0 id)

-- the last step but the release
pub ends : (limits : Limits) (slots id : ℕ) (me : PassMe) → me.0.live ≡ true → me.0.turn ≡ false → length me.0.joined + 1 ≡ me.0.limits.passes → AllSpent me.0
    → Allows (IsKept limits) slots id me 0 (λ n. either (n == 0) 1 n) (Ends me)
ends limits slots id me live idle all none_out s kept slot at small =
    let v = me.0 in
    let n : ℕ = slice_index s.words 0 in
    let core = core_at limits kept.history kept.taken in
    let fits = kept.each id v at in
    let whole : size v ≡ limits.passes = size_is v live ∙ all ∙ ap (λ (l : Limits). l.passes) (fits.same_limits live) in
    let others = others_spent limits s kept id v at whole in
    let alone = total_alone turns s.views id v at (λ j u ne there. ap turns (others j u ne there)) in
    let zero_turns : total turns s.views ≡ 0 = alone ∙ ap bit idle in
    let free : n ≡ 0 = kept.turn ∙ zero_turns in
    let own = fits.members v.own (subst (λ l. Among v.own l) (sym (live_members v live)) (inl refl)) in
    let below = own.below in
    exchanged n 0 1 (Leads limits id me s (Ends me n))
    (λ _. (
      took core v,
      takes 0 (Some core),
      kept.home zero_turns,
      takes_free limits id me s kept at live idle zero_turns,
      record {
        free = free;
        met = record { core = core; view = refl; slots = refl; meeting = met limits s kept id v at live };
        whole = seen_all limits s kept id v at live others;
        fellows = joined_in kept.history v.joined (λ m a. let k = fits.members m (subst (λ l. Among m l) (sym (live_members v live)) (inr a)) in (k.own, k.begins));
        past = past_in kept.history v.past fits.past;
        quiet = quiet limits s kept id v at whole (omega (arith, below)) none_out;
      },
    ))
    (λ busy. absurd (busy free))
