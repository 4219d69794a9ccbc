-- A new table, a split and a join keep the rule of the contexts.
use Rattle.std.proofs.Common.{◌≡◌, ◌≢◌, ℕ, zero, suc, ◌<◌, List, [], ◌∷◌, length, set, slice_index, replicate, refl, sym, ap, ◌∙◌, subst, ⊎_elim, arith}
use Rattle.std.proofs.lemmas.Bool.{cases_eq}
use Rattle.std.proofs.lemmas.List.{get_or-replicate, length-replicate}
use Rattle.std.proofs.lemmas.List.Elements.{Contains-append_left, Contains-append_right, Contains-append_cases}
use Rattle.std.specs.List.{Contains}
use mathlib.Core.Option.{some, some-injective, some-ne-none}
use lib.ListN.{get_elem?}
use Rattle.atomic_table.specs.Table.{Splits, Joins, opening}
use Rattle.atomic_table.proofs.Lists.{at_set, at_snoc, at_longer, set_here, set_else}
use Rattle.gw_ctxwords.specs.declared.nodes.NodeSpec.{NodeSpec}
use Rattle.gw_ctxwords.specs.declared.view.CtxView.{CtxView}
use Rattle.gw_ctxwords.specs.Rule.{spent, first_view, word_at, Fits, Caused, IsKept}
use Rattle.gw_ctxwords.specs.Steps.{split_left, split_right, joined}
use Rattle.gw_ctxwords.proofs.Members.{at_below, none_in}
use Rattle.gw_ctxwords.proofs.Rooms.{rooms_set, rooms_snoc}
use Rattle.gw_ctxwords.proofs.Keeping.{caused_set}

first_fits : (nodes : List NodeSpec) (words : List ℕ) → Fits nodes words first_view
first_fits nodes words = record { roomless = λ none. absurd (omega arith); ended = λ j c has. absurd (none_in (j, c) has); known = λ j c has. absurd (none_in (j, c) has) }

-- all words live, and one seat
pub opens : (nodes : List NodeSpec) (words : List ℕ) → words ≡ replicate (length nodes) 0 → IsKept nodes (opening words [] first_view)
opens nodes words are = record {
  count = ap (λ (l : List ℕ). length l) are ∙ length-replicate (length nodes) 0;
  rooms = refl;
  each = each_first;
  caused = λ node lt ne. absurd (ne (ap (λ (l : List ℕ). slice_index l node) are ∙ get_or-replicate (length nodes) node 0 0 lt));
}
  where
    each_first : (number : ℕ) (v : CtxView) → get_elem? (first_view ∷ []) number ≡ some v → Fits nodes words v
    each_first zero v at = subst (Fits nodes words) (some-injective first_view v at) (first_fits nodes words)
    each_first (suc number) v at = absurd (some-ne-none v (sym at))

pub splits : (nodes : List NodeSpec) (id : ℕ) (v : CtxView) → 1 < v.room → Splits (IsKept nodes) id v (split_left v) (split_right v)
splits nodes id v room s kept at =
    let old = split_left v in
    let new = split_right v in
    let middle : List CtxView = set s.views id old in
    let rooms = kept.rooms in
    let r1 = rooms_set s.views id v old at in
    let r2 = rooms_snoc middle new in
    let mine = kept.each id v at in
    let fits_old : Fits nodes s.words old = record { roomless = λ none. absurd (omega arith); ended = mine.ended; known = mine.known } in
    let fits_new : Fits nodes s.words new = record { roomless = λ none. absurd (omega arith); ended = mine.ended; known = λ j c has. absurd (none_in (j, c) has) } in
    record {
      count = kept.count;
      rooms = omega arith;
      each = λ number u there. ⊎_elim
          (λ (e : get_elem? middle number ≡ some u). ⊎_elim
          (λ (own : (number ≡ id) × (old ≡ u)). subst (Fits nodes s.words) own.1 fits_old)
          (λ (other : (number ≢ id) × (get_elem? s.views number ≡ some u)). kept.each number u other.1)
          (at_set s.views id number old u e))
          (λ (e : new ≡ u). subst (Fits nodes s.words) e fits_new)
          (at_snoc middle new u number there);
      caused = λ node lt ne.
          let was = caused_set nodes s.views node (word_at s node) id v old at (λ j c has. has) (kept.caused node lt ne) in
          record { cause = was.cause; word_is = was.word_is; above = was.above; under = was.under; number = was.number; view = was.view; at = at_longer middle (new ∷ []) was.number was.view was.at; cancel = was.cancel };
    }

-- a cause stays where one view goes over into another
caused_join : (nodes : List NodeSpec) (views : List CtxView) (node word id other : ℕ) (v w : CtxView) → get_elem? views id ≡ some v → other ≢ id → get_elem? views other ≡ some w → Caused nodes views node word
    → Caused nodes (set (set views id (joined v w)) other spent) node word
caused_join nodes views node word id other v w at apart beside was =
    let both = joined v w in
    let mine : get_elem? (set (set views id both) other spent) id ≡ some both =
    set_else (set views id both) other id spent (λ e. apart (sym e)) ∙ set_here views id both (at_below views id v at) in
    ⊎_elim
    (λ (same : was.number ≡ id).
    let own : was.view ≡ v = some-injective was.view v (sym was.at ∙ ap (λ k. get_elem? views k) same ∙ at) in
    let had : Contains v.cancels (was.above, was.cause) = subst (λ (u : CtxView). Contains u.cancels (was.above, was.cause)) own was.cancel in
    record { cause = was.cause; word_is = was.word_is; above = was.above; under = was.under; number = id; view = both; at = mine; cancel = Contains-append_left v.cancels w.cancels (was.above, was.cause) had })
    (λ (not_own : was.number ≡ id → ⊥). ⊎_elim
    (λ (same : was.number ≡ other).
    let theirs : was.view ≡ w = some-injective was.view w (sym was.at ∙ ap (λ k. get_elem? views k) same ∙ beside) in
    let had : Contains w.cancels (was.above, was.cause) = subst (λ (u : CtxView). Contains u.cancels (was.above, was.cause)) theirs was.cancel in
    record { cause = was.cause; word_is = was.word_is; above = was.above; under = was.under; number = id; view = both; at = mine; cancel = Contains-append_right v.cancels w.cancels (was.above, was.cause) had })
    (λ (not_theirs : was.number ≡ other → ⊥).
    record {
      cause = was.cause;
      word_is = was.word_is;
      above = was.above;
      under = was.under;
      number = was.number;
      view = was.view;
      at = set_else (set views id both) other was.number spent not_theirs ∙ set_else views id was.number both not_own ∙ was.at;
      cancel = was.cancel;
    })
    (cases_eq was.number other))
    (cases_eq was.number id)

pub joins : (nodes : List NodeSpec) (id : ℕ) (v : CtxView) (other : ℕ) (w : CtxView) → 0 < v.room → Joins (IsKept nodes) id v other w (joined v w) spent
joins nodes id v other w room s kept at apart there =
    let both = joined v w in
    let middle : List CtxView = set s.views id both in
    let beside : get_elem? s.views other ≡ some w = ⊎_elim
    (λ (own : (other ≡ id) × (both ≡ w)). absurd (apart own.0))
    (λ (e : (other ≢ id) × (get_elem? s.views other ≡ some w)). e.1)
    (at_set s.views id other both w there) in
    let rooms = kept.rooms in
    let r1 = rooms_set s.views id v both at in
    let r2 = rooms_set middle other w spent there in
    let mine = kept.each id v at in
    let theirs = kept.each other w beside in
    let fits_both : Fits nodes s.words both = record {
      roomless = λ none. absurd (omega arith);
      ended = λ j c has. ⊎_elim (λ (a : Contains v.ended (j, c)). mine.ended j c a) (λ (b : Contains w.ended (j, c)). theirs.ended j c b) (Contains-append_cases v.ended w.ended (j, c) has);
      known = λ j c has. ⊎_elim
          (λ (a : Contains v.cancels (j, c)). Contains-append_left v.ended w.ended (j, c) (mine.known j c a))
          (λ (b : Contains w.cancels (j, c)). Contains-append_right v.ended w.ended (j, c) (theirs.known j c b))
          (Contains-append_cases v.cancels w.cancels (j, c) has);
    } in
    let fits_spent : Fits nodes s.words spent = record { roomless = λ _. refl; ended = λ j c has. absurd (none_in (j, c) has); known = λ j c has. absurd (none_in (j, c) has) } in
    record {
      count = kept.count;
      rooms = omega arith;
      each = λ number u found. ⊎_elim
          (λ (gone : (number ≡ other) × (spent ≡ u)). subst (Fits nodes s.words) gone.1 fits_spent)
          (λ (e : (number ≢ other) × (get_elem? middle number ≡ some u)). ⊎_elim
          (λ (own : (number ≡ id) × (both ≡ u)). subst (Fits nodes s.words) own.1 fits_both)
          (λ (else : (number ≢ id) × (get_elem? s.views number ≡ some u)). kept.each number u else.1)
          (at_set s.views id number both u e.1))
          (at_set middle other number spent u found);
      caused = λ node lt ne. caused_join nodes s.views node (word_at s node) id other v w at apart beside (kept.caused node lt ne);
    }
