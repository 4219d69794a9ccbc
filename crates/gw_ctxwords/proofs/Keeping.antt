-- Each kind of step on a word keeps the rule of the contexts.
use Rattle.std.proofs.Common.{◌≡◌, ◌≢◌, ◌⊎◌, ℕ, ◌<◌, List, [], ◌∷◌, ◌++◌, length, set, slice_index, eqb, refl, sym, ap, ◌∙◌, subst, ⊎_elim, inl, inr, arith, length-set, get_or-set_same, eq-eqb, ne_eqb}
use Rattle.std.proofs.lemmas.Bool.{cases_eq}
use Rattle.std.proofs.lemmas.List.{get_or-set_other}
use Rattle.std.proofs.lemmas.List.Elements.{Contains-append_left, Contains-push}
use Rattle.std.specs.List.{Contains}
use mathlib.Core.Option.{some, some-injective}
use lib.ListN.{get_elem?}
use prog.Atomic.{either}
use Rattle.atomic_table.specs.Table.{keeps, stepped, Allows}
use Rattle.atomic_table.proofs.Lists.{at_set, set_here, set_else}
use Rattle.gw_context.specs.declared.parts.Cause.{Cause}
use Rattle.gw_ctxwords.specs.declared.nodes.NodeSpec.{NodeSpec}
use Rattle.gw_ctxwords.specs.declared.view.CtxView.{CtxView}
use Rattle.gw_ctxwords.specs.Nodes.{Under}
use Rattle.gw_ctxwords.specs.Words.{live_word, word_of, cause_of}
use Rattle.gw_ctxwords.specs.Rule.{CtxState, word_at, Fits, Caused, IsKept}
use Rattle.gw_ctxwords.specs.Steps.{loaded, heard, cancelled, SeatMe, Finds, Loads, Cancels, Settles}
use Rattle.gw_ctxwords.proofs.Codes.{cause_in, same_cause, word_in, not_live}
use Rattle.gw_ctxwords.proofs.Members.{at_below, pushed_in}
use Rattle.gw_ctxwords.proofs.Rooms.{rooms_set}
use Rattle.gw_ctxwords.proofs.Trees.{under_trans}

-- a view keeps what an older one has set
abbrev pub KeepsCancels : CtxView → CtxView → Type 0
KeepsCancels v w = (node : ℕ) (cause : Cause) → Contains v.cancels (node, cause) → Contains w.cancels (node, cause)

-- a cause stays where one view grows
pub caused_set : (nodes : List NodeSpec) (views : List CtxView) (node word id : ℕ) (v w : CtxView) → get_elem? views id ≡ some v → KeepsCancels v w → Caused nodes views node word
    → Caused nodes (set views id w) node word
caused_set nodes views node word id v w at grows was = ⊎_elim
    (λ (same : was.number ≡ id).
    let own : was.view ≡ v = some-injective was.view v (sym was.at ∙ ap (λ k. get_elem? views k) same ∙ at) in
    let had : Contains v.cancels (was.above, was.cause) = subst (λ (u : CtxView). Contains u.cancels (was.above, was.cause)) own was.cancel in
    record { cause = was.cause; word_is = was.word_is; above = was.above; under = was.under; number = id; view = w; at = set_here views id w (at_below views id v at); cancel = grows was.above was.cause had })
    (λ (other : was.number ≡ id → ⊥).
    record { cause = was.cause; word_is = was.word_is; above = was.above; under = was.under; number = was.number; view = was.view; at = set_else views id was.number w other ∙ was.at; cancel = was.cancel })
    (cases_eq was.number id)

-- a word that says a cause goes on saying it
word_stays : (words : List ℕ) (i n j : ℕ) (c : Cause) → i < length words → (slice_index words i ≢ live_word → n ≡ slice_index words i) → slice_index words j ≡ word_of c → slice_index (set words i n) j ≡ word_of c
word_stays words i n j c inside stays is = ⊎_elim
    (λ (same : j ≡ i).
    let here : slice_index words i ≡ word_of c = ap (λ k. slice_index words k) (sym same) ∙ is in
    ap (λ k. slice_index (set words i n) k) same ∙ get_or-set_same words i n 0 inside ∙ stays (not_live _ c here) ∙ here)
    (λ (other : j ≡ i → ⊥). get_or-set_other words i j n 0 other ∙ is)
    (cases_eq j i)

-- what a step on the word of node i asks of its seat's new view
record Moves (nodes : List NodeSpec) (s : CtxState) (i id : ℕ) (v w : CtxView) (n : ℕ) : Type 0 where
  room : w.room ≡ v.room
  some_room : 0 < v.room
  inside : i < length nodes
  stays : word_at s i ≢ live_word → n ≡ word_at s i
  ended : (j : ℕ) (c : Cause) → Contains w.ended (j, c) → Contains v.ended (j, c) ⊎ ((j ≡ i) × (n ≡ word_of c))
  cancels : KeepsCancels v w
  known : (j : ℕ) (c : Cause) → Contains w.cancels (j, c) → Contains w.ended (j, c)
  caused : n ≢ live_word → Caused nodes (set s.views id w) i n

kept_at : (nodes : List NodeSpec) (s : CtxState) (i id : ℕ) (v w : CtxView) (n : ℕ) (c : List (ℕ × Unit {0})) → IsKept nodes s → get_elem? s.views id ≡ some v → Moves nodes s i id v w n
    → IsKept nodes (stepped s i n id c w keeps)
kept_at nodes s i id v w n carried kept at moves =
    let inside : i < length s.words = let count = kept.count in let lt = moves.inside in omega arith in
    let sums = rooms_set s.views id v w at in
    let was = kept.rooms in
    let same = moves.room in
    let stays : (j : ℕ) (c : Cause) → slice_index s.words j ≡ word_of c → slice_index (set s.words i n) j ≡ word_of c = λ j c is. word_stays s.words i n j c inside moves.stays is in
    let here : slice_index (set s.words i n) i ≡ n = get_or-set_same s.words i n 0 inside in
    record {
      count = length-set s.words i n ∙ kept.count;
      rooms = omega arith;
      each = λ number u there. ⊎_elim
          (λ (own : (number ≡ id) × (w ≡ u)). subst (Fits nodes (set s.words i n)) own.1 (record {
            roomless = λ none. absurd (let some = moves.some_room in omega arith);
            ended = λ j c has. ⊎_elim
                (λ (old : Contains v.ended (j, c)). let fits = (kept.each id v at).ended j c old in (fits.0, stays j c fits.1))
                (λ (new : (j ≡ i) × (n ≡ word_of c)).
                let lt = moves.inside in let is = new.0 in let spot : j < length nodes = omega arith in
                (spot, ap (λ k. slice_index (set s.words i n) k) new.0 ∙ here ∙ new.1))
                (moves.ended j c has);
            known = moves.known;
          }))
          (λ (other : (number ≢ id) × (get_elem? s.views number ≡ some u)).
          let fits = kept.each number u other.1 in
          record { roomless = fits.roomless; ended = λ j c has. let is = fits.ended j c has in (is.0, stays j c is.1); known = fits.known })
          (at_set s.views id number w u there);
      caused = λ j lt ne. ⊎_elim
          (λ (same : j ≡ i).
          let is : slice_index (set s.words i n) j ≡ n = ap (λ k. slice_index (set s.words i n) k) same ∙ here in
          subst (λ (x : ℕ × ℕ). Caused nodes (set s.views id w) x.0 x.1) (λ k. (sym same k, sym is k)) (moves.caused (λ e. ne (is ∙ e))))
          (λ (other : j ≡ i → ⊥).
          let is : slice_index (set s.words i n) j ≡ slice_index s.words j = get_or-set_other s.words i j n 0 other in
          subst (Caused nodes (set s.views id w) j) (sym is) (caused_set nodes s.views j (word_at s j) id v w at moves.cancels (kept.caused j lt (λ e. ne (is ∙ e)))))
          (cases_eq j i);
    }

finds_at : (nodes : List NodeSpec) (s : CtxState) (i id : ℕ) (v : CtxView) → IsKept nodes s → get_elem? s.views id ≡ some v → i < length nodes → Finds i v (word_at s i)
finds_at nodes s i id v kept at inside = record {
  known = λ c has. ((kept.each id v at).ended i c has).1;
  coded = λ ne. let by = kept.caused i inside ne in word_in (word_at s i) by.cause by.word_is;
}

-- a step that finds a node ended and leaves its word
finds_ended : (nodes : List NodeSpec) (s : CtxState) (i id : ℕ) (v w : CtxView) → IsKept nodes s → get_elem? s.views id ≡ some v → i < length nodes → 0 < v.room → word_at s i ≢ live_word
    → w.room ≡ v.room → w.ended ≡ v.ended ++ (i, cause_of (word_at s i)) ∷ [] → w.cancels ≡ v.cancels → Moves nodes s i id v w (word_at s i)
finds_ended nodes s i id v w kept at inside room ended same more cancels =
    let n : ℕ = word_at s i in
    let coded = (finds_at nodes s i id v kept at inside).coded ended in
    let grows : KeepsCancels v w = λ j c has. subst (λ (l : List (ℕ × Cause)). Contains l (j, c)) (sym cancels) has in
    record {
      room = same;
      some_room = room;
      inside = inside;
      stays = λ _. refl;
      ended = λ j c has. ⊎_elim
          (λ (old : Contains v.ended (j, c)). inl old)
          (λ (new : (i, cause_of n) ≡ (j, c)). inr (sym (ap (λ (p : ℕ × Cause). p.0) new), coded ∙ ap (λ (p : ℕ × Cause). word_of p.1) new))
          (pushed_in v.ended (i, cause_of n) (j, c) (subst (λ (l : List (ℕ × Cause)). Contains l (j, c)) more has));
      cancels = grows;
      known = λ j c has.
          let had = subst (λ (l : List (ℕ × Cause)). Contains l (j, c)) cancels has in
          subst (λ (l : List (ℕ × Cause)). Contains l (j, c)) (sym more) (Contains-append_left v.ended ((i, cause_of n) ∷ []) (j, c) ((kept.each id v at).known j c had));
      caused = λ ne. caused_set nodes s.views i n id v w at grows (kept.caused i inside ne);
    }

-- a load of a live word
finds_live : (nodes : List NodeSpec) (s : CtxState) (i id : ℕ) (v w : CtxView) → IsKept nodes s → get_elem? s.views id ≡ some v → i < length nodes → 0 < v.room → word_at s i ≡ live_word
    → w.room ≡ v.room → w.ended ≡ v.ended → w.cancels ≡ v.cancels → Moves nodes s i id v w (word_at s i)
finds_live nodes s i id v w kept at inside room live same ended cancels =
    let grows : KeepsCancels v w = λ j c has. subst (λ (l : List (ℕ × Cause)). Contains l (j, c)) (sym cancels) has in
    record {
      room = same;
      some_room = room;
      inside = inside;
      stays = λ _. refl;
      ended = λ j c has. inl (subst (λ (l : List (ℕ × Cause)). Contains l (j, c)) ended has);
      cancels = grows;
      known = λ j c has.
          let had = subst (λ (l : List (ℕ × Cause)). Contains l (j, c)) cancels has in
          subst (λ (l : List (ℕ × Cause)). Contains l (j, c)) (sym ended) ((kept.each id v at).known j c had);
      caused = λ ne. absurd (ne live);
    }

pub loads : (nodes : List NodeSpec) (slots i id : ℕ) (me : SeatMe) → i < length nodes → 0 < me.0.room → Allows (IsKept nodes) slots id me i (λ n. n) (Loads i me)
loads nodes slots i id me inside room s kept _ at _ =
    let v = me.0 in
    let n : ℕ = word_at s i in
    let finds = finds_at nodes s i id v kept at inside in
    ⊎_elim
    (λ (live : n ≡ live_word).
    let w = loaded i n v in (
      w,
      keeps,
      tt,
      kept_at nodes s i id v w n me.1 kept at (finds_live nodes s i id v w kept at inside room live refl refl refl),
      record { live = λ _. refl; ended = λ ne. absurd (ne live); finds = finds; slots = refl },
    ))
    (λ (ended : n ≡ live_word → ⊥).
    let w = heard i (cause_of n) (loaded i n v) in (
      w,
      keeps,
      tt,
      kept_at nodes s i id v w n me.1 kept at (finds_ended nodes s i id v w kept at inside room ended refl refl refl),
      record { live = λ is. absurd (ended is); ended = λ _. refl; finds = finds; slots = refl },
    ))
    (cases_eq n live_word)

-- a compare_exchange that ends a live node
pub cancels : (nodes : List NodeSpec) (slots i id : ℕ) (me : SeatMe) (c : Cause) → i < length nodes → 0 < me.0.room
    → Allows (IsKept nodes) slots id me i (λ n. either (eqb n 0) (word_of c) n) (Cancels i c me)
cancels nodes slots i id me c inside room s kept _ at _ =
    let v = me.0 in
    let n : ℕ = word_at s i in
    let finds = finds_at nodes s i id v kept at inside in
    ⊎_elim
    (λ (live : n ≡ live_word).
    let w = cancelled i c v in
    let moves : Moves nodes s i id v w (word_of c) = record {
      room = refl;
      some_room = room;
      inside = inside;
      stays = λ ne. absurd (ne live);
      ended = λ j d has. ⊎_elim (λ (old : Contains v.ended (j, d)). inl old)
          (λ (new : (i, c) ≡ (j, d)). inr (sym (ap (λ (p : ℕ × Cause). p.0) new), ap (λ (p : ℕ × Cause). word_of p.1) new))
          (pushed_in v.ended (i, c) (j, d) has);
      cancels = λ j d has. Contains-append_left v.cancels ((i, c) ∷ []) (j, d) has;
      known = λ j d has. ⊎_elim
          (λ (old : Contains v.cancels (j, d)). Contains-append_left v.ended ((i, c) ∷ []) (j, d) ((kept.each id v at).known j d old))
          (λ (new : (i, c) ≡ (j, d)). subst (λ (p : ℕ × Cause). Contains w.ended p) new (Contains-push v.ended (i, c)))
          (pushed_in v.cancels (i, c) (j, d) has);
      caused = λ _. record { cause = c; word_is = refl; above = i; under = (0, refl); number = id; view = w; at = set_here s.views id w (at_below s.views id v at); cancel = Contains-push v.cancels (i, c) };
    } in (
      w,
      keeps,
      tt,
      subst (λ b. IsKept nodes (stepped s i (either b (word_of c) n) id me.1 w keeps)) (sym (eq-eqb n 0 live)) (kept_at nodes s i id v w (word_of c) me.1 kept at moves),
      record { live = λ _. refl; ended = λ ne. absurd (ne live); finds = finds; slots = refl },
    ))
    (λ (ended : n ≡ live_word → ⊥).
    let w = heard i (cause_of n) v in (
      w,
      keeps,
      tt,
      subst (λ b. IsKept nodes (stepped s i (either b (word_of c) n) id me.1 w keeps)) (sym (ne_eqb n 0 ended)) (kept_at nodes s i id v w n me.1 kept at (finds_ended nodes s i id v w kept at inside room ended refl refl refl)),
      record { live = λ is. absurd (ended is); ended = λ _. refl; finds = finds; slots = refl },
    ))
    (cases_eq n live_word)

-- a compare_exchange that ends a live node for the cause of one above it
pub settles : (nodes : List NodeSpec) (slots i id : ℕ) (me : SeatMe) (above : ℕ) (c : Cause) → i < length nodes → 0 < me.0.room → Under nodes above i → Contains me.0.ended (above, c)
    → Allows (IsKept nodes) slots id me i (λ n. either (eqb n 0) (word_of c) n) (Settles i c me)
settles nodes slots i id me above c inside room under knows s kept _ at _ =
    let v = me.0 in
    let n : ℕ = word_at s i in
    let finds = finds_at nodes s i id v kept at inside in
    let fits = kept.each id v at in
    let there = fits.ended above c knows in
    ⊎_elim
    (λ (live : n ≡ live_word).
    let w = heard i c v in
    let by = kept.caused above there.0 (not_live _ c there.1) in
    let same : by.cause ≡ c = same_cause (word_at s above) by.cause c by.word_is there.1 in
    let set_here_too : Caused nodes s.views i (word_of c) = record { cause = by.cause; word_is = ap word_of (sym same); above = by.above; under = under_trans nodes i above by.above under by.under; number = by.number; view = by.view; at = by.at; cancel = by.cancel } in
    let moves : Moves nodes s i id v w (word_of c) = record {
      room = refl;
      some_room = room;
      inside = inside;
      stays = λ ne. absurd (ne live);
      ended = λ j d has. ⊎_elim (λ (old : Contains v.ended (j, d)). inl old)
          (λ (new : (i, c) ≡ (j, d)). inr (sym (ap (λ (p : ℕ × Cause). p.0) new), ap (λ (p : ℕ × Cause). word_of p.1) new))
          (pushed_in v.ended (i, c) (j, d) has);
      cancels = λ j d has. has;
      known = λ j d has. Contains-append_left v.ended ((i, c) ∷ []) (j, d) (fits.known j d has);
      caused = λ _. caused_set nodes s.views i (word_of c) id v w at (λ j d has. has) set_here_too;
    } in (
      w,
      keeps,
      tt,
      subst (λ b. IsKept nodes (stepped s i (either b (word_of c) n) id me.1 w keeps)) (sym (eq-eqb n 0 live)) (kept_at nodes s i id v w (word_of c) me.1 kept at moves),
      record { live = λ _. refl; ended = λ ne. absurd (ne live); finds = finds; slots = refl },
    ))
    (λ (ended : n ≡ live_word → ⊥).
    let w = heard i (cause_of n) v in (
      w,
      keeps,
      tt,
      subst (λ b. IsKept nodes (stepped s i (either b (word_of c) n) id me.1 w keeps)) (sym (ne_eqb n 0 ended)) (kept_at nodes s i id v w n me.1 kept at (finds_ended nodes s i id v w kept at inside room ended refl refl refl)),
      record { live = λ is. absurd (ended is); ended = λ _. refl; finds = finds; slots = refl },
    ))
    (cases_eq n live_word)

-- the same by the word that is written
pub cancels_by : (nodes : List NodeSpec) (slots i id : ℕ) (me : SeatMe) (c : Cause) (new : ℕ) → new ≡ word_of c → i < length nodes → 0 < me.0.room
    → Allows (IsKept nodes) slots id me i (λ n. either (eqb n 0) new n) (Cancels i (cause_of new) me)
cancels_by nodes slots i id me c new is inside room =
    subst (λ (p : ℕ × Cause). Allows (IsKept nodes) slots id me i (λ n. either (eqb n 0) p.0 n) (Cancels i p.1 me)) (λ k. (sym is k, sym (cause_in new c is) k)) (cancels nodes slots i id me c inside room)

pub settles_by : (nodes : List NodeSpec) (slots i id : ℕ) (me : SeatMe) (above : ℕ) (c : Cause) (new : ℕ) → new ≡ word_of c → i < length nodes → 0 < me.0.room → Under nodes above i → Contains me.0.ended (above, c)
    → Allows (IsKept nodes) slots id me i (λ n. either (eqb n 0) new n) (Settles i (cause_of new) me)
settles_by nodes slots i id me above c new is inside room under knows =
    subst (λ (p : ℕ × Cause). Allows (IsKept nodes) slots id me i (λ n. either (eqb n 0) p.0 n) (Settles i p.1 me)) (λ k. (sym is k, sym (cause_in new c is) k)) (settles nodes slots i id me above c inside room under knows)
