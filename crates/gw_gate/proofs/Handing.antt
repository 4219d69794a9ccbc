-- A split, a join and the end keep to the rule of the gate.
use Rattle.std.proofs.Common.{◌≡◌, ◌≢◌, ℕ, ◌+◌, ◌<◌, Bool, true, false, true≢false, ◌||◌, List, [], ◌∷◌, ◌++◌, set, slice_index, min, refl, sym, ap, ◌∙◌, subst, ⊎_elim, arith}
use Rattle.std.proofs.lemmas.Bool.{or_cases}
use mathlib.Core.Option.{some, some-injective, some-ne-none}
use lib.ListN.{get_elem?}
use Rattle.atomic_table.specs.Table.{Splits, Joins}
use Rattle.atomic_table.proofs.Lists.{at_set, at_snoc}
use Rattle.gw_gate.specs.declared.view.GateView.{GateView}
use Rattle.gw_gate.specs.Gate.{IsShut, most_seats, spent, GateState, one_if, total, room_of, holding, counted, shutting, shut_in, Fits, IsKept}
use Rattle.gw_gate.specs.Steps.{split_left, split_right, joined}
use Rattle.gw_gate.proofs.Sums.{total_set, total_snoc, total_two, total_alone, one_if-le}
use Rattle.gw_gate.proofs.Words.{few, word_by_shut, shut_in_le}

off : {X : Type 0} → false ≡ true → X
off e = absurd (true≢false (sym e))

-- a view that fits fits beside others with the same bit and no more of them inside
refits : (before now : List GateView) (v : GateView) → shut_in now ≡ shut_in before → total holding now ≡ total holding before → Fits before v → Fits now v
refits before now v shut held fits = record { roomless = fits.roomless; seen = λ e. shut ∙ fits.seen e; drained = λ e. (shut ∙ (fits.drained e).0, held ∙ (fits.drained e).1) }

pub splits : (id : ℕ) (v : GateView) → 1 < v.room → Splits IsKept id v (split_left v) (split_right v)
splits id v room s kept at =
    let old = split_left v in
    let new = split_right v in
    let middle : List GateView = set s.views id old in
    let now : List GateView = middle ++ new ∷ [] in
    let word = kept.word in
    let rooms = kept.rooms in
    let r1 = total_set room_of s.views id v old at in
    let r2 = total_snoc room_of middle new in
    let c1 = total_set counted s.views id v old at in
    let c2 = total_snoc counted middle new in
    let s1 = total_set shutting s.views id v old at in
    let s2 = total_snoc shutting middle new in
    let h1 = total_set holding s.views id v old at in
    let h2 = total_snoc holding middle new in
    let shut : shut_in now ≡ shut_in s.views = omega arith in
    let held : total holding now ≡ total holding s.views = omega arith in
    let mine = kept.each id v at in
    let fits_old : Fits s.views old = record { roomless = λ none. absurd (omega arith); seen = mine.seen; drained = mine.drained } in
    let fits_new : Fits s.views new = record { roomless = λ none. absurd (omega arith); seen = mine.seen; drained = mine.drained } in
    record {
      one_word = kept.one_word;
      word = omega arith;
      rooms = omega arith;
      each = λ j u there. ⊎_elim
          (λ (e : get_elem? middle j ≡ some u). ⊎_elim
          (λ (own : (j ≡ id) × (old ≡ u)). subst (Fits now) own.1 (refits s.views now old shut held fits_old))
          (λ (other : (j ≢ id) × (get_elem? s.views j ≡ some u)). refits s.views now u shut held (kept.each j u other.1))
          (at_set s.views id j old u e))
          (λ (e : new ≡ u). subst (Fits now) e (refits s.views now new shut held fits_new))
          (at_snoc middle new u j there);
    }

one_if-or : (a b : Bool) → one_if (a || b) ≡ min 1 (one_if a + one_if b)
one_if-or true true = refl
one_if-or true false = refl
one_if-or false true = refl
one_if-or false false = refl

pub joins : (id : ℕ) (v : GateView) (other : ℕ) (w : GateView) → 0 < v.room → w.held ≡ false → w.undoing ≡ false → Joins IsKept id v other w (joined v w) spent
joins id v other w room out calm s kept at apart there =
    let both = joined v w in
    let middle : List GateView = set s.views id both in
    let now : List GateView = set middle other spent in
    let beside : get_elem? s.views other ≡ some w = ⊎_elim
    (λ (own : (other ≡ id) × (both ≡ w)). absurd (apart own.0))
    (λ (e : (other ≢ id) × (get_elem? s.views other ≡ some w)). e.1)
    (at_set s.views id other both w there) in
    let none_held : one_if w.held ≡ 0 = ap one_if out in
    let none_counted : counted w ≡ 0 = ap (λ h. one_if (h || w.undoing)) out ∙ ap one_if calm in
    let word = kept.word in
    let rooms = kept.rooms in
    let r1 = total_set room_of s.views id v both at in
    let r2 = total_set room_of middle other w spent there in
    let c1 = total_set counted s.views id v both at in
    let c2 = total_set counted middle other w spent there in
    let s1 = total_set shutting s.views id v both at in
    let s2 = total_set shutting middle other w spent there in
    let s3 = total_two shutting s.views id other v w apart at beside in
    let s4 = one_if-or v.shut w.shut in
    let h1 = total_set holding s.views id v both at in
    let h2 = total_set holding middle other w spent there in
    let shut : shut_in now ≡ shut_in s.views = omega arith in
    let held : total holding now ≡ total holding s.views = omega arith in
    let mine = kept.each id v at in
    let theirs = kept.each other w beside in
    let fits_both : Fits s.views both = record {
      roomless = λ none. absurd (omega arith);
      seen = λ e. ⊎_elim (λ (a : v.seen_shut ≡ true). mine.seen a) (λ (b : w.seen_shut ≡ true). theirs.seen b) (or_cases v.seen_shut w.seen_shut e);
      drained = λ e. ⊎_elim (λ (a : v.drained ≡ true). mine.drained a) (λ (b : w.drained ≡ true). theirs.drained b) (or_cases v.drained w.drained e);
    } in
    let fits_spent : Fits s.views spent = record { roomless = λ _. refl; seen = λ e. off e; drained = λ e. off e } in
    record {
      one_word = kept.one_word;
      word = omega arith;
      rooms = omega arith;
      each = λ j u found. ⊎_elim
          (λ (gone : (j ≡ other) × (spent ≡ u)). subst (Fits now) gone.1 (refits s.views now spent shut held fits_spent))
          (λ (e : (j ≢ other) × (get_elem? middle j ≡ some u)). ⊎_elim
          (λ (own : (j ≡ id) × (both ≡ u)). subst (Fits now) own.1 (refits s.views now both shut held fits_both))
          (λ (else : (j ≢ id) × (get_elem? s.views j ≡ some u)). refits s.views now u shut held (kept.each j u else.1))
          (at_set s.views id j both u e.1))
          (at_set middle other j spent u found);
    }

-- the last seat knows of the bit
pub alone_shut : (s : GateState) (id : ℕ) (v : GateView) → IsKept s → get_elem? s.views id ≡ some v → v.room ≡ most_seats → shut_in s.views ≡ one_if v.shut
alone_shut s id v kept at all =
    let top = one_if-le v.shut in
    let only = total_alone shutting s.views id v at (λ j u apart there.
    let rooms = kept.rooms in
    let both = total_two room_of s.views id j v u apart at there in
    let none : u.room ≡ 0 = omega arith in
    ap shutting ((kept.each j u there).roomless none)) in
    omega arith

pub alone_word : (s : GateState) (id : ℕ) (v : GateView) → IsKept s → get_elem? s.views id ≡ some v → v.room ≡ most_seats
    → ((IsShut (slice_index s.words 0) → v.shut ≡ true) × (v.shut ≡ true → IsShut (slice_index s.words 0))) × (v.seen_shut ≡ true → v.shut ≡ true)
alone_word s id v kept at all =
    let is = alone_shut s id v kept at all in
    let by_bit : shut_in s.views ≡ 1 → v.shut ≡ true = λ e. is_one v.shut (sym is ∙ e) in
    let word = kept.word in
    let small = few s kept in
    let top = shut_in_le s.views in
    (((λ shut. by_bit (omega arith)), (λ e. word_by_shut s kept (is ∙ ap one_if e))), (λ seen. by_bit ((kept.each id v at).seen seen)))
  where
    is_one : (b : Bool) → one_if b ≡ 1 → b ≡ true
    is_one true e = refl
    is_one false e = absurd (omega arith)

first_of : (words : List ℕ) (word : ℕ) → get_elem? words 0 ≡ some word → slice_index words 0 ≡ word
first_of [] word at = absurd (some-ne-none word (sym at))
first_of (x ∷ xs) word at = some-injective x word at

-- the same of the words that the end leaves
pub last_word : (s : GateState) (id : ℕ) (v : GateView) (words : List ℕ) (word : ℕ) → IsKept s → get_elem? s.views id ≡ some v → s.words ≡ words → get_elem? words 0 ≡ some word → v.room ≡ most_seats
    → ((IsShut word → v.shut ≡ true) × (v.shut ≡ true → IsShut word)) × (v.seen_shut ≡ true → v.shut ≡ true)
last_word s id v words word kept at same found all =
    let is : slice_index s.words 0 ≡ word = ap (λ l. slice_index l 0) same ∙ first_of words word found in
    let P : ℕ → Type 0 = λ n. ((IsShut n → v.shut ≡ true) × (v.shut ≡ true → IsShut n)) × (v.seen_shut ≡ true → v.shut ≡ true) in
    subst P is (alone_word s id v kept at all)
