-- What the last seat knows.
use Rattle.std.proofs.Common.{◌≡◌, ◌≢◌, ℕ, ◌<◌, true, List, [], ◌∷◌, Option, Some, None, length, slice_index, sym, ap, ◌∙◌, subst, ⊎_elim, arith}
use Rattle.std.proofs.lemmas.Bool.{cases_eq}
use Rattle.std.specs.List.{Contains}
use mathlib.Core.Option.{some, some-injective, some-ne-none}
use lib.ListN.{get_elem?}
use Rattle.gw_context.specs.declared.parts.Cause.{Cause}
use Rattle.gw_ctxwords.specs.declared.nodes.NodeSpec.{NodeSpec}
use Rattle.gw_ctxwords.specs.declared.view.CtxView.{CtxView}
use Rattle.gw_ctxwords.specs.Nodes.{Under, is_forest}
use Rattle.gw_ctxwords.specs.Words.{live_word, word_of, cause_of}
use Rattle.gw_ctxwords.specs.Calls.{Closes}
use Rattle.gw_ctxwords.specs.Rule.{most_seats, CtxState, word_at, Caused, IsKept}
use Rattle.gw_ctxwords.proofs.Codes.{cause_in, same_cause, word_in, not_live}
use Rattle.gw_ctxwords.proofs.Members.{none_in}
use Rattle.gw_ctxwords.proofs.Rooms.{rooms_two}
use Rattle.gw_ctxwords.proofs.Trees.{under_root, some_node}

-- a cause that some seat set was set by the last one, which all others were joined into
set_by_last : (nodes : List NodeSpec) (s : CtxState) (id : ℕ) (v : CtxView) (node word : ℕ) → IsKept nodes s → get_elem? s.views id ≡ some v → v.room ≡ most_seats
    → (by : Caused nodes s.views node word) → Contains v.cancels (by.above, by.cause)
set_by_last nodes s id v node word kept at all by = ⊎_elim
    (λ (same : by.number ≡ id).
    let own : by.view ≡ v = some-injective by.view v (sym by.at ∙ ap (λ k. get_elem? s.views k) same ∙ at) in
    subst (λ (u : CtxView). Contains u.cancels (by.above, by.cause)) own by.cancel)
    (λ (other : by.number ≡ id → ⊥).
    let rooms = kept.rooms in
    let two = rooms_two s.views id by.number v by.view other at by.at in
    let none : by.view.room ≡ 0 = omega arith in
    absurd (none_in (by.above, by.cause) (subst (λ (u : CtxView). Contains u.cancels (by.above, by.cause)) ((kept.each by.number by.view by.at).roomless none) by.cancel)))
    (cases_eq by.number id)

-- what the word of node 0 tells in the end
pub record Told (nodes : List NodeSpec) (v : CtxView) (word : ℕ) : Type 0 where
  pub set : (c : Cause) → word ≡ word_of c → Contains v.cancels (0, c)
  pub found : (c : Cause) → Contains v.ended (0, c) → word ≡ word_of c
  pub known : (c : Cause) → Contains v.cancels (0, c) → word ≡ word_of c
  pub coded : word ≢ live_word → word ≡ word_of (cause_of word)
  pub caused : (node : ℕ) (c : Cause) → Contains v.ended (node, c) → (above : ℕ) × Under nodes above node × Contains v.cancels (above, c)

told_at : (nodes : List NodeSpec) (s : CtxState) (id : ℕ) (v : CtxView) → IsKept nodes s → get_elem? s.views id ≡ some v → v.room ≡ most_seats → 0 < length nodes → Told nodes v (word_at s 0)
told_at nodes s id v kept at all some_node =
    let fits = kept.each id v at in
    record {
      set = λ c is.
          let by = kept.caused 0 some_node (not_live (word_at s 0) c is) in
          let has = set_by_last nodes s id v 0 (word_at s 0) kept at all by in
          subst (λ (p : ℕ × Cause). Contains v.cancels p) (λ k. (under_root nodes by.above by.under k, same_cause (word_at s 0) by.cause c by.word_is is k)) has;
      found = λ c has. (fits.ended 0 c has).1;
      known = λ c has. (fits.ended 0 c (fits.known 0 c has)).1;
      coded = λ ne. let by = kept.caused 0 some_node ne in word_in (word_at s 0) by.cause by.word_is;
      caused = λ node c has.
          let there = fits.ended node c has in
          let by = kept.caused node there.0 (not_live (word_at s node) c there.1) in
          let mine = set_by_last nodes s id v node (word_at s node) kept at all by in
          (by.above, by.under, subst (λ (d : Cause). Contains v.cancels (by.above, d)) (same_cause (word_at s node) by.cause c by.word_is there.1) mine);
    }

some_or : Cause → Option Cause → Cause
some_or other (Some cause) = cause
some_or other None = other

same_some : (c d : Cause) → Some c ≡ Some d → c ≡ d
unfolding some_or
same_some c d e = ap (some_or c) e

none-ne-some : (c : Cause) → None ≡ Some c → ⊥
none-ne-some c e = cc

first_of : (words : List ℕ) (word : ℕ) → get_elem? words 0 ≡ some word → slice_index words 0 ≡ word
first_of [] word at = absurd (some-ne-none word (sym at))
first_of (x ∷ xs) word at = some-injective x word at

-- the same of the words that the end leaves, and of the nodes and the view as callers see them
pub last_word : (key inner nodes : List NodeSpec) (s : CtxState) (id : ℕ) (u v : CtxView) (words : List ℕ) (word : ℕ) → IsKept key s → get_elem? s.views id ≡ some u → s.words ≡ words → get_elem? words 0 ≡ some word
    → key ≡ inner → is_forest inner ≡ true → inner ≡ nodes → u ≡ v → v.room ≡ most_seats → Told nodes v word
last_word key inner nodes s id u v words word kept at same found key_is forest nodes_are view_is all =
    let is : word_at s 0 ≡ word = ap (λ (l : List ℕ). slice_index l 0) same ∙ first_of words word found in
    let some : 0 < length key = subst (λ (l : List NodeSpec). 0 < length l) (sym key_is) (some_node inner forest) in
    let told : Told key u word = subst (Told key u) is (told_at key s id u kept at (ap (λ (w : CtxView). w.room) view_is ∙ all) some) in
    subst (λ (p : List NodeSpec × CtxView). Told p.0 p.1 word) (λ k. ((key_is ∙ nodes_are) k, view_is k)) told

pub closes_live : (nodes : List NodeSpec) (v : CtxView) (word : ℕ) → Told nodes v word → word ≡ live_word → Closes nodes v None
closes_live nodes v word told live = record {
  set = λ c. ((λ e. absurd (none-ne-some c e)), (λ has. absurd (not_live word c (told.known c has) live)));
  found = λ c has. absurd (not_live word c (told.found c has) live);
  caused = told.caused;
}

pub closes_ended : (nodes : List NodeSpec) (v : CtxView) (word : ℕ) (cause : Cause) → cause ≡ cause_of word → Told nodes v word → word ≢ live_word → Closes nodes v (Some cause)
closes_ended nodes v word cause is told ended =
    let coded = told.coded ended in
    let gives : (c : Cause) → word ≡ word_of c → Some cause ≡ Some c = λ c by. ap (λ (d : Cause). Some d) (is ∙ cause_in word c by) in
    record {
      set = λ c. ((λ e. told.set c (coded ∙ ap word_of (sym is ∙ same_some cause c e))), (λ has. gives c (told.known c has)));
      found = λ c has. gives c (told.found c has);
      caused = told.caused;
    }
