-- Each kind of step keeps the rule of the turn.
use Rattle.std.proofs.Common.{◌≡◌, ◌≢◌, ℕ, ◌+◌, ◌<◌, ◌≤◌, ◌==◌, ◌⊎◌, inl, inr, Bool, true, false, List, [], ◌∷◌, ◌++◌, length, set, slice_index, refl, sym, ap, ◌∙◌, subst, ⊎_elim, arith, length-set, append_assoc, append-nil, Option, Some, None}
use Rattle.std.specs.List.{sum_by}
use mathlib.Core.Option.{some, none}
use lib.ListN.{get_elem?}
use prog.Atomic.{either}
use Rattle.atomic_table.specs.Table.{Act, keeps, takes, gives, Valid, carried_after, stepped, Allows}
use Rattle.atomic_table.proofs.Lists.{at_set, set_here, set_else, set_again, exchanged}
use Rattle.gw_pool.specs.declared.limits.Limits.{Limits}
use Rattle.gw_pool.specs.declared.entry.Entry.{Entry}
use Rattle.gw_pool.specs.declared.holding.Holding.{Holding}
use Rattle.gw_pool.specs.History.{IsLegal, AreBelow, after, mine}
use Rattle.gw_pool.specs.Core.{CoreView}
use Rattle.gw_pool.specs.Ties.{Among, one, bit}
use Rattle.gw_turn.specs.declared.view.Member.{Member}
use Rattle.gw_turn.specs.declared.view.PassView.{PassView}
use Rattle.gw_pool.specs.Owner.{owner}
use Rattle.gw_turn.specs.Tie.{Fresh}
use Rattle.gw_turn.specs.Meeting.{Meeting, Entering, Leaving}
use Rattle.gw_turn.specs.Turn.{TurnState, Begins, members_of, total, turns, size, counts, core_at, IsKnown, Fits, IsKept}
use Rattle.gw_turn.specs.Steps.{lent_of, core_of, took, counted, released, PassMe, Tries}
use Rattle.gw_turn.proofs.Sums.{total_set, total_at, total_two, there_below, words_turn, words_count, count_turn, count_count}
use Rattle.gw_turn.proofs.Views.{live_members, joined_other, other_view, none_since}
use Rattle.gw_turn.proofs.Moving.{spared}
use Rattle.gw_pool.proofs.Mades.{mine_push}

-- what a step of one pass asks of the new state
record Change (limits : Limits) (s : TurnState) (kept : IsKept limits s) (id : ℕ) (v w : PassView) (words : List ℕ) (homes : List (mathlib.Core.Option.Option (Option CoreView))) (history : List Entry) (taken : List ℕ) : Type 0 where
  live : v.live ≡ true
  live' : w.live ≡ true
  limits_are : w.limits ≡ v.limits
  number : w.own.number ≡ v.own.number
  joined : w.joined ≡ v.joined
  past : w.past ≡ v.past
  two_words : 2 ≤ length words
  one_slot : 1 ≤ length homes
  legal : IsLegal limits history
  callers : AreBelow limits.passes history
  fresh : Fresh (after limits history) taken
  count : slice_index words 1 ≡ length history
  turn : slice_index words 0 ≡ total turns (set s.views id w)
  one_turn : total turns (set s.views id w) ≤ 1
  home : total turns (set s.views id w) ≡ 0 → get_elem? homes 0 ≡ some (some (Some (core_at limits history taken)))
  more : (since : List Entry) × (kept.history ++ since ≡ history)
  long : (w.own.seen ≡ history) ⊎ ((w.own.seen ≡ v.own.seen) × (history ≡ kept.history))
  own : IsKnown limits history taken w.own
  sole : (j : ℕ) (u : PassView) → j ≢ id → get_elem? s.views j ≡ some u → u.turn ≡ false
  others : (m : Member) → (m.number ≡ v.own.number → ⊥) → IsKnown limits kept.history kept.taken m → IsKnown limits history taken m
  holds : w.turn ≡ true → (w.journal ≡ history) × (w.taken ≡ taken)

bit_few : (b : Bool) → bit b ≤ 1
bit_few true = omega arith
bit_few false = omega arith

pub few : (limits : Limits) (s : TurnState) → IsKept limits s → (n : ℕ) → total (counts n) s.views ≤ 1
few limits s kept n = let all = kept.numbers n in omega (arith, all, bit_few (Rattle.std.specs.Prelude.nat_lt n limits.passes))

same_members : (f : Member → ℕ) (v w : PassView) → v.live ≡ true → w.live ≡ true → f w.own ≡ f v.own → w.joined ≡ v.joined → sum_by f (members_of w) ≡ sum_by f (members_of v)
same_members f v w a b e j = rw (live_members v a, live_members w b, j) (own_first f v w v.joined e)
  where
    own_first : (f : Member → ℕ) (v w : PassView) (ms : List Member) → f w.own ≡ f v.own → sum_by f (w.own ∷ ms) ≡ sum_by f (v.own ∷ ms)
    own_first f v w ms e = rw e refl

same_size : (v w : PassView) → v.live ≡ true → w.live ≡ true → w.joined ≡ v.joined → size w ≡ size v
same_size v w a b j = rw (live_members v a, live_members w b, j) refl

begins_on : (history since whole seen : List Entry) → history ++ since ≡ whole → Begins history seen → Begins whole seen
begins_on history since whole seen e b = (b.0 ++ since, sym (append_assoc seen b.0 since) ∙ ap (λ l. l ++ since) b.1 ∙ e)

known_at : (limits : Limits) (history : List Entry) (taken : List ℕ) (m n : Member) → m ≡ n → IsKnown limits history taken m → IsKnown limits history taken n
known_at limits history taken m n e k = rw (sym e) k

changed_at : (limits : Limits) (s : TurnState) (kept : IsKept limits s) (id : ℕ) (v w : PassView) (words : List ℕ) (homes : List (mathlib.Core.Option.Option (Option CoreView))) (history : List Entry) (taken : List ℕ)
    → get_elem? s.views id ≡ some v → Change limits s kept id v w words homes history taken → IsKept limits (record { words = words; homes = homes; views = set s.views id w })
changed_at limits s kept id v w words homes history taken at c = record {
  two_words = c.two_words;
  one_slot = c.one_slot;
  few = kept.few;
  history = history;
  taken = taken;
  legal = c.legal;
  callers = c.callers;
  fresh = c.fresh;
  count = c.count;
  turn = c.turn;
  one_turn = c.one_turn;
  home = c.home;
  numbers = λ n. (let all = kept.numbers n in let now = total_set (counts n) s.views id v w at in let same = same_members (λ (m : Member). one n m.number) v w c.live c.live' (ap (one n) c.number) c.joined in omega (arith, all, now, same));
  sizes = (let all = kept.sizes in let now = total_set size s.views id v w at in let same = same_size v w c.live c.live' c.joined in omega (arith, all, now, same));
  longest = ⊎_elim
      (λ (e : w.own.seen ≡ history). (id, w, set_here s.views id w (there_below s.views id v at), e))
      (λ (e : (w.own.seen ≡ v.own.seen) × (history ≡ kept.history)). longest_at kept.longest.0 kept.longest.1 kept.longest.2 kept.longest.3 e)
      c.long;
  each = λ j u there. ⊎_elim
      (λ (own : (j ≡ id) × (w ≡ u)). subst (Fits limits history taken) own.1 (record {
        gone = λ e. absurd (let l = c.live' in cc);
        same_limits = λ e. c.limits_are ∙ (kept.each id v at).same_limits c.live;
        members = λ m a. ⊎_elim
            (λ (e : w.own ≡ m). known_at limits history taken w.own m e c.own)
            (λ (a : Among m w.joined).
            let b : Among m v.joined = subst (λ l. Among m l) c.joined a in
            c.others m (joined_other s.views id v m (few limits s kept) at c.live b) ((kept.each id v at).members m (subst (λ l. Among m l) (sym (live_members v c.live)) (inr b))))
            (subst (λ l. Among m l) (live_members w c.live') a);
        past = λ x a. begins_on kept.history c.more.0 history x c.more.1 ((kept.each id v at).past x (subst (λ l. Among x l) c.past a));
        holds = c.holds;
      }))
      (λ (other : (j ≢ id) × (get_elem? s.views j ≡ some u)).
      let fits = kept.each j u other.1 in
      record {
        gone = fits.gone;
        same_limits = fits.same_limits;
        members = λ m a. c.others m (other_view s.views id j v u m (few limits s kept) other.0 at other.1 c.live a) (fits.members m a);
        past = λ x a. begins_on kept.history c.more.0 history x c.more.1 (fits.past x a);
        holds = λ e. absurd (let free = c.sole j u other.0 other.1 in cc);
      })
      (at_set s.views id j w u there);
}
  where
    longest_at : (k : ℕ) (u : PassView) → get_elem? s.views k ≡ some u → u.own.seen ≡ kept.history → (w.own.seen ≡ v.own.seen) × (history ≡ kept.history) → (i : ℕ) × (x : PassView) × (get_elem? (set s.views id w) i ≡ some x) × (x.own.seen ≡ history)
    longest_at k u there full e = ⊎_elim
        (λ (same : k ≡ id). (id, w, set_here s.views id w (there_below s.views id v at), e.0 ∙ ap (λ (x : PassView). x.own.seen) (mathlib.Core.Option.some-injective v u (sym at ∙ subst (λ i. get_elem? s.views i ≡ some u) same there)) ∙ full ∙ sym e.1))
        (λ (ne : k ≡ id → ⊥). (k, u, set_else s.views id k w ne ∙ there, full ∙ sym e.1))
        (Rattle.gw_pool.proofs.Ties.decide k id)

-- one turn at most
sole_free : (s : TurnState) (id : ℕ) (v : PassView) → total turns s.views ≡ 0 → (j : ℕ) (u : PassView) → get_elem? s.views j ≡ some u → u.turn ≡ false
sole_free s id v zero_turns j u there = no_turn u.turn (let share = total_at turns s.views j u there in omega (arith, zero_turns, share))
  where
    no_turn : (b : Bool) → bit b ≤ 0 → b ≡ false
    no_turn true e = absurd (omega arith)
    no_turn false e = refl

bit_of : (b : Bool) → b ≡ true → bit b ≡ 1
bit_of true e = refl
bit_of false e = absurd (cc)

bit_off : (b : Bool) → b ≡ false → bit b ≡ 0
bit_off true e = absurd (cc)
bit_off false e = refl

sole_held : (s : TurnState) (id : ℕ) (v : PassView) → total turns s.views ≤ 1 → get_elem? s.views id ≡ some v → v.turn ≡ true → (j : ℕ) (u : PassView) → j ≢ id → get_elem? s.views j ≡ some u → u.turn ≡ false
sole_held s id v few at has j u ne there = no_turn u.turn (let two = total_two turns s.views id j v u ne at there in let mine = bit_of v.turn has in omega (arith, few, two, mine))
  where
    no_turn : (b : Bool) → bit b ≤ 0 → b ≡ false
    no_turn true e = absurd (omega arith)
    no_turn false e = refl

-- what a pass meets that takes the turn
pub met : (limits : Limits) (s : TurnState) (kept : IsKept limits s) (id : ℕ) (v : PassView) → get_elem? s.views id ≡ some v → v.live ≡ true → Meeting (lent_of v) (core_at limits kept.history kept.taken)
met limits s kept id v at live =
    let fits = kept.each id v at in
    let own = fits.members v.own (subst (λ l. Among v.own l) (sym (live_members v live)) (inl refl)) in
    record {
      same_limits = fits.same_limits live;
      others = own.begins.0;
      since = own.begins.1;
      foreign = none_since v.own.seen own.begins.0 v.own.number v.own.mine own.knows (ap (λ h. mine h v.own.number) own.begins.1 ∙ own.own);
      own = own.own;
      legal = kept.legal;
      callers = kept.callers;
      below = own.below;
      few = rw (fits.same_limits live) kept.few;
      fresh = kept.fresh;
      ties = own.ties;
    }

-- the turn is taken where it is free
pub takes_free : (limits : Limits) (id : ℕ) (me : PassMe) (s : TurnState) (kept : IsKept limits s) → get_elem? s.views id ≡ some me.0 → me.0.live ≡ true → me.0.turn ≡ false → total turns s.views ≡ 0
    → IsKept limits (stepped s 0 1 id me.1 (took (core_at limits kept.history kept.taken) me.0) (takes 0 (Some (core_at limits kept.history kept.taken))))
takes_free limits id me s kept at live idle zero_turns =
    let v = me.0 in
    let core = core_at limits kept.history kept.taken in
    let w = took core v in
    let now = total_set turns s.views id v w at in
    let was = bit_off v.turn idle in
    let fits = kept.each id v at in
    changed_at limits s kept id v w (set s.words 0 1) (set s.homes 0 none) kept.history kept.taken at (record {
      live = live;
      live' = live;
      limits_are = refl;
      number = refl;
      joined = refl;
      past = refl;
      two_words = rw (length-set s.words 0 1) kept.two_words;
      one_slot = rw (length-set s.homes 0 none) kept.one_slot;
      legal = kept.legal;
      callers = kept.callers;
      fresh = kept.fresh;
      count = words_count s.words 1 kept.two_words ∙ kept.count;
      turn = words_turn s.words 1 kept.two_words ∙ omega (arith, now, was, zero_turns);
      one_turn = omega (arith, now, was, zero_turns);
      home = λ e. absurd (omega (arith, now, was, zero_turns, e));
      more = ([], append-nil kept.history);
      long = inr (refl, refl);
      own = fits.members v.own (subst (λ l. Among v.own l) (sym (live_members v live)) (inl refl));
      sole = λ j u ne there. sole_free s id v zero_turns j u there;
      others = λ m ne k. k;
      holds = λ e. (refl, refl);
    })

-- what a compare-exchange of the turn leads to
abbrev pub Leads : Limits → ℕ → PassMe → TurnState → (PassMe → Type 0) → ℕ → Type 0
Leads limits id me s then n = (w : PassView) × (a : Act (Option CoreView)) × Valid s.homes me.1 a × IsKept limits (stepped s 0 n id me.1 w a) × then (w, carried_after me.1 a)

pub tries : (limits : Limits) (slots id : ℕ) (me : PassMe) → me.0.live ≡ true → me.0.turn ≡ false
    → Allows (IsKept limits) slots id me 0 (λ n. either (n == 0) 1 n) (Tries me)
tries limits slots id me live idle s kept _ at _ =
    let v = me.0 in
    let n : ℕ = slice_index s.words 0 in
    let core = core_at limits kept.history kept.taken in
    exchanged n 0 1 (Leads limits id me s (Tries me n))
    (λ free.
    let zero_turns : total turns s.views ≡ 0 = sym kept.turn ∙ free in (
      took core v,
      takes 0 (Some core),
      kept.home zero_turns,
      takes_free limits id me s kept at live idle zero_turns,
      record { had = λ e. record { core = core; view = refl; slots = refl; meeting = met limits s kept id v at live }; kept = λ ne. absurd (ne free) },
    ))
    (λ busy. (
      v,
      keeps,
      tt,
      subst (λ (t : List ℕ × List PassView). IsKept limits (record { words = t.0; homes = s.homes; views = t.1 }))
          (sym (ap (λ ws. (ws, set s.views id v)) (same_words s.words kept.two_words) ∙ ap (λ vs. (s.words, vs)) (set_again s.views id v at))) kept,
      record { had = λ e. absurd (busy e); kept = λ ne. refl },
    ))
  where
    same_words : (words : List ℕ) → 2 ≤ length words → set words 0 (slice_index words 0) ≡ words
    same_words [] e = absurd (omega arith)
    same_words (x ∷ xs) e = refl

-- the entries of another pass stay
foreign_push : (h : List Entry) (e : Entry) (c d : ℕ) → e.caller ≡ c → (d ≡ c → ⊥) → mine (h ++ e ∷ []) d ≡ mine h d
foreign_push h e c d by ne = mine_push h e d ∙ rw (Rattle.std.proofs.Common.ne_eqb e.caller d (λ same. ne (sym same ∙ by))) (append-nil (mine h d))

same_core : (core : CoreView) (limits : Limits) → core.limits ≡ limits → core ≡ core_at limits core.journal core.taken
same_core core limits e = ap (λ l. record core { limits = l }) e

-- what a pass with the turn says of the pool's state is so
held_core : (limits : Limits) (s : TurnState) (kept : IsKept limits s) (id : ℕ) (v : PassView) → get_elem? s.views id ≡ some v → v.live ≡ true → v.turn ≡ true → core_of v ≡ core_at limits kept.history kept.taken
held_core limits s kept id v at live has = let fits = kept.each id v at in let holds = fits.holds has in rw (fits.same_limits live, holds.0, holds.1) refl

entered_known : (limits : Limits) (h h' : List Entry) (t t' : List ℕ) (c : ℕ) (out out' : List Holding) (e : Entering c (core_at limits h t) (core_at limits h' t') out out') (m : Member)
    → (m.number ≡ c → ⊥) → IsKnown limits h t m → IsKnown limits h' t' m
entered_known limits h h' t t' c out out' e m ne k =
    let same : mine h' m.number ≡ mine h m.number = ap (λ l. mine l m.number) e.journal ∙ foreign_push h e.entry c m.number e.caller ne in
    record {
      below = k.below;
      begins = (k.begins.0 ++ e.entry ∷ [], sym (append_assoc m.seen k.begins.0 (e.entry ∷ [])) ∙ ap (λ l. l ++ e.entry ∷ []) k.begins.1 ∙ sym e.journal);
      own = same ∙ k.own;
      knows = k.knows;
      ties = spared (owner h) (owner h') c m.number (after limits h) (after limits h') t t' m.out ne e.leads.others k.ties;
    }

counts_core : (limits : Limits) (slots id : ℕ) (me : PassMe) (h' : List Entry) (t' : List ℕ) (out : List Holding) (count : ℕ) (s : TurnState) (kept : IsKept limits s) → get_elem? s.views id ≡ some me.0 → me.0.live ≡ true → me.0.turn ≡ true
    → Entering me.0.own.number (core_at limits kept.history kept.taken) (core_at limits h' t') me.0.own.out out → count ≡ length h'
    → IsKept limits (stepped s 1 count id me.1 (counted (core_at limits h' t') out me.0) keeps)
counts_core limits slots id me h' t' out count s kept at live has e is =
    let v = me.0 in
    let w = counted (core_at limits h' t') out v in
    let now = total_set turns s.views id v w at in
    let share = total_at turns s.views id v at in
    let mine_is = bit_of v.turn has in
    let fits = kept.each id v at in
    let own = fits.members v.own (subst (λ l. Among v.own l) (sym (live_members v live)) (inl refl)) in
    changed_at limits s kept id v w (set s.words 1 count) s.homes h' t' at (record {
      live = live;
      live' = live;
      limits_are = refl;
      number = refl;
      joined = refl;
      past = refl;
      two_words = rw (length-set s.words 1 count) kept.two_words;
      one_slot = kept.one_slot;
      legal = e.legal;
      callers = rw e.journal (Rattle.std.proofs.lemmas.List.Elements.All-push (λ entry. entry.caller < limits.passes) kept.history e.entry kept.callers (rw e.caller own.below));
      fresh = e.leads.fresh kept.fresh;
      count = count_count s.words count kept.two_words ∙ is;
      turn = count_turn s.words count kept.two_words ∙ kept.turn ∙ omega (arith, now);
      one_turn = (let few_turns = kept.one_turn in omega (arith, now, few_turns));
      home = λ none_has. absurd (omega (arith, now, share, mine_is, none_has));
      more = (e.entry ∷ [], sym e.journal);
      long = inl refl;
      own = record { below = own.below; begins = ([], append-nil h'); own = refl; knows = refl; ties = e.leads.own };
      sole = λ j u ne there. sole_held s id v kept.one_turn at has j u ne there;
      others = λ m ne k. entered_known limits kept.history h' kept.taken t' v.own.number v.own.out out e m ne k;
      holds = λ _. (refl, refl);
    })

pub counts_up : (limits : Limits) (slots id : ℕ) (me : PassMe) (core' : CoreView) (out : List Holding) (count : ℕ) → me.0.live ≡ true → me.0.turn ≡ true
    → Entering me.0.own.number (core_of me.0) core' me.0.own.out out → count ≡ length core'.journal
    → Allows (IsKept limits) slots id me 1 (λ _. count) (λ n now. now ≡ (counted core' out me.0, me.1))
counts_up limits slots id me core' out count live has e is s kept _ at _ =
    let held = held_core limits s kept id me.0 at live has in
    let e1 : Entering me.0.own.number (core_at limits kept.history kept.taken) core' me.0.own.out out = subst (λ c. Entering me.0.own.number c core' me.0.own.out out) held e in
    let same = same_core core' limits e1.limits in
    let e2 : Entering me.0.own.number (core_at limits kept.history kept.taken) (core_at limits core'.journal core'.taken) me.0.own.out out = subst (λ c. Entering me.0.own.number (core_at limits kept.history kept.taken) c me.0.own.out out) same e1 in
    (counted core' out me.0, keeps, tt, counts_core limits slots id me core'.journal core'.taken out count s kept at live has e2 is, refl)

left_known : (limits : Limits) (h : List Entry) (t t' : List ℕ) (c : ℕ) (out out' : List Holding) (e : Leaving c (core_at limits h t) (core_at limits h t') out out') (m : Member)
    → (m.number ≡ c → ⊥) → IsKnown limits h t m → IsKnown limits h t' m
left_known limits h t t' c out out' e m ne k = record {
  below = k.below;
  begins = k.begins;
  own = k.own;
  knows = k.knows;
  ties = spared (owner h) (owner h) c m.number (after limits h) (after limits h) t t' m.out ne e.leads.others k.ties;
}

releases_core : (limits : Limits) (slots id : ℕ) (v : PassView) (t' : List ℕ) (out : List Holding) (waits : ℕ) (s : TurnState) (kept : IsKept limits s) → get_elem? s.views id ≡ some v → v.live ≡ true → v.turn ≡ true
    → Leaving v.own.number (core_at limits kept.history kept.taken) (core_at limits kept.history t') v.own.out out
    → IsKept limits (stepped s 0 0 id ((0, Some (core_at limits kept.history t')) ∷ []) (released (core_at limits kept.history t') out waits v) gives)
releases_core limits slots id v t' out waits s kept at live has e =
    let h = kept.history in
    let core = core_at limits h t' in
    let w = released core out waits v in
    let now = total_set turns s.views id v w at in
    let share = total_at turns s.views id v at in
    let mine_is = bit_of v.turn has in
    let few_turns = kept.one_turn in
    let fits = kept.each id v at in
    let own = fits.members v.own (subst (λ l. Among v.own l) (sym (live_members v live)) (inl refl)) in
    let one_home = kept.one_slot in
    changed_at limits s kept id v w (set s.words 0 0) (set s.homes 0 (some (Some core))) h t' at (record {
      live = live;
      live' = live;
      limits_are = refl;
      number = refl;
      joined = refl;
      past = refl;
      two_words = rw (length-set s.words 0 0) kept.two_words;
      one_slot = rw (length-set s.homes 0 (some (Some core))) kept.one_slot;
      legal = kept.legal;
      callers = kept.callers;
      fresh = e.leads.fresh kept.fresh;
      count = words_count s.words 0 kept.two_words ∙ kept.count;
      turn = words_turn s.words 0 kept.two_words ∙ omega (arith, now, share, mine_is, few_turns);
      one_turn = omega (arith, now, share, mine_is, few_turns);
      home = λ _. set_here s.homes 0 (some (Some core)) (omega (arith, one_home));
      more = ([], append-nil h);
      long = inl refl;
      own = record { below = own.below; begins = ([], append-nil h); own = refl; knows = refl; ties = e.leads.own };
      sole = λ j u ne there. sole_held s id v kept.one_turn at has j u ne there;
      others = λ m ne k. left_known limits h kept.taken t' v.own.number v.own.out out e m ne k;
      holds = λ turn. absurd (cc);
    })

pub releases : (limits : Limits) (slots id : ℕ) (me : PassMe) (core' : CoreView) (out : List Holding) (waits : ℕ) → me.0.live ≡ true → me.0.turn ≡ true → me.1 ≡ (0, Some core') ∷ []
    → Leaving me.0.own.number (core_of me.0) core' me.0.own.out out
    → Allows (IsKept limits) slots id me 0 (λ _. 0) (λ n now. now ≡ (released core' out waits me.0, []))
releases limits slots id me core' out waits live has slot e s kept _ at _ =
    let v = me.0 in
    let held = held_core limits s kept id v at live has in
    let e1 : Leaving v.own.number (core_at limits kept.history kept.taken) core' v.own.out out = subst (λ c. Leaving v.own.number c core' v.own.out out) held e in
    let same : core' ≡ core_at limits kept.history core'.taken = same_core core' limits e1.limits ∙ ap (λ h. core_at limits h core'.taken) e1.journal in
    let e2 : Leaving v.own.number (core_at limits kept.history kept.taken) (core_at limits kept.history core'.taken) v.own.out out = subst (λ c. Leaving v.own.number (core_at limits kept.history kept.taken) c v.own.out out) same e1 in
    let done : IsKept limits (stepped s 0 0 id ((0, Some core') ∷ []) (released core' out waits v) gives) =
    subst (λ c. IsKept limits (stepped s 0 0 id ((0, Some c) ∷ []) (released c out waits v) gives)) (sym same) (releases_core limits slots id v core'.taken out waits s kept at live has e2) in
    (released core' out waits v, gives, tt, subst (λ c. IsKept limits (stepped s 0 0 id c (released core' out waits v) gives)) (sym slot) done, ap (λ c. (released core' out waits v, Rattle.atomic_table.specs.Table.rest c)) slot)
