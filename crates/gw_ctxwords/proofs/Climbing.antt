-- The way up, step by step.
use Rattle.std.proofs.Common.{◌≡◌, ◌≢◌, ℕ, zero, suc, ◌<◌, true, List, [], ◌∷◌, ◌++◌, length, Option, Some, None, refl, sym, ap, ◌∙◌, subst, inl, inr, arith, append_assoc, append-nil}
use Rattle.std.specs.List.{Contains}
use Rattle.std.proofs.lemmas.List.Elements.{Contains-push, Contains-append_right}
use Rattle.gw_context.specs.declared.parts.Cause.{Cause}
use Rattle.gw_ctxwords.specs.declared.nodes.NodeSpec.{NodeSpec}
use Rattle.gw_ctxwords.specs.declared.view.CtxView.{CtxView}
use Rattle.gw_ctxwords.specs.declared.answers.Looked.{Looked}
use Rattle.gw_ctxwords.specs.declared.answers.Looked.TheVariants.{Live, Ended}
use Rattle.gw_ctxwords.specs.Nodes.{IsTied, parent_of, Climbs, Under, passed, is_forest}
use Rattle.gw_ctxwords.specs.Words.{live_word, word_of, cause_of}
use Rattle.gw_ctxwords.specs.Steps.{loaded, heard, SeatMe, Loads}
use Rattle.gw_ctxwords.specs.Calls.{Climbed, Knows, LookedAt, Learns, all_live}
use Rattle.gw_ctxwords.proofs.Codes.{cause_in, not_live}
use Rattle.gw_ctxwords.proofs.Trees.{few_steps}

-- the node itself has ended
pub climbed_here : (nodes : List NodeSpec) (node n : ℕ) (before now : SeatMe) → Loads node before n now → n ≢ live_word → Climbed nodes node before.0 now.0 (Some (node, cause_of n))
climbed_here nodes node n before now loads ended =
    let coded = loads.finds.coded ended in
    (0, refl, omega arith, loads.ended ended ∙ ap (λ k. record before.0 { reads = before.0.reads ++ (node, k) ∷ []; ended = before.0.ended ++ (node, cause_of n) ∷ [] }) coded)

-- the node is the last one of the way
pub climbed_top : (nodes : List NodeSpec) (node n : ℕ) (before now : SeatMe) → Loads node before n now → n ≡ live_word → ¬ (IsTied nodes node) → Climbed nodes node before.0 now.0 None
climbed_top nodes node n before now loads live top =
    (0, node, refl, top, omega arith, loads.live live ∙ ap (λ k. record before.0 { reads = before.0.reads ++ (node, k) ∷ [] }) live)

-- a way up by one step more
pub climbed_on : (nodes : List NodeSpec) (node n parent : ℕ) (before : SeatMe) (mid : SeatMe) (now : CtxView) (found : Option (ℕ × Cause)) → is_forest nodes ≡ true → node < length nodes
    → Loads node before n mid → n ≡ live_word → IsTied nodes node → parent ≡ parent_of nodes node → Climbed nodes parent mid.0 now found → Climbed nodes node before.0 now found
climbed_on nodes node n parent before mid now found forest inside loads live tied is climbed =
    go found (subst (λ (v : CtxView). Climbed nodes (parent_of nodes node) v now found) first (subst (λ k. Climbed nodes k mid.0 now found) is climbed))
  where
    first : mid.0 ≡ loaded node live_word before.0
    first = loads.live live ∙ ap (λ k. loaded node k before.0) live

    go : (r : Option (ℕ × Cause)) → Climbed nodes (parent_of nodes node) (loaded node live_word before.0) now r → Climbed nodes node before.0 now r
    go None (steps, top, climb, untied, few, same) = let all : Climbs nodes (suc steps) node top = (tied, climb) in (
      suc steps,
      top,
      all,
      untied,
      few_steps nodes (suc steps) node top forest inside all,
      same ∙ ap (λ (l : List (ℕ × ℕ)). record before.0 { reads = l }) (append_assoc before.0.reads ((node, live_word) ∷ []) (all_live (passed nodes (suc steps) (parent_of nodes node)))),
    )
    go (Some at) (steps, climb, few, same) = let all : Climbs nodes (suc steps) node at.0 = (tied, climb) in (
      suc steps,
      all,
      few_steps nodes (suc steps) node at.0 forest inside all,
      same ∙ ap (λ (l : List (ℕ × ℕ)). record before.0 { reads = l; ended = before.0.ended ++ at ∷ [] })
          (append_assoc before.0.reads ((node, live_word) ∷ []) (all_live (passed nodes steps (parent_of nodes node)) ++ (at.0, word_of at.1) ∷ [])),
    )

-- what a seat knows of the node it finds there
pub knows_here : (node n : ℕ) (before now : SeatMe) → Loads node before n now → Knows node before.0 (Some (node, cause_of n))
knows_here node n before now loads cause has = ap (λ (c : Cause). Some (node, c)) (cause_in n cause (loads.finds.known cause has))

pub knows_none : (node n : ℕ) (before now : SeatMe) (cause : Cause) → Loads node before n now → n ≡ live_word → Contains before.0.ended (node, cause) → ⊥
knows_none node n before now cause loads live has = not_live n cause (loads.finds.known cause has) live

-- what was found ended is known from then on
pub found_in : (nodes : List NodeSpec) (node : ℕ) (before now : CtxView) (found : ℕ × Cause) → Climbed nodes node before now (Some found) → Contains now.ended found
found_in nodes node before now found (steps, climb, few, same) = subst (λ (v : CtxView). Contains v.ended found) (sym same) (Contains-push before.ended found)

pair_in : ℕ × Cause → Option (ℕ × Cause) → ℕ × Cause
pair_in other (Some found) = found
pair_in other None = other

pub same_pair : (p q : ℕ × Cause) → Some p ≡ Some q → p ≡ q
unfolding pair_in
same_pair p q e = ap (pair_in p) e

cause_told : Cause → Looked → Cause
cause_told other (Ended cause) = cause
cause_told other Live = other

pub same_told : (c d : Cause) → Ended c ≡ Ended d → c ≡ d
unfolding cause_told
same_told c d e = ap (cause_told c) e

-- a live word of each node that is passed
passed_live : (nodes : List NodeSpec) (steps node top : ℕ) → Climbs nodes steps node top → ¬ (IsTied nodes top) → (more above : ℕ) → Climbs nodes more node above → Contains (all_live (passed nodes (suc steps) node)) (above, live_word)
passed_live nodes steps node top climb untied zero above is = (0, omega arith, ap (λ k. (k, live_word)) is)
passed_live nodes zero node top climb untied (suc more) above way = absurd (untied (subst (IsTied nodes) climb way.0))
passed_live nodes (suc steps) node top climb untied (suc more) above way =
    let later = passed_live nodes steps (parent_of nodes node) top climb.1 untied more above way.1 in
    Contains-append_right ((node, live_word) ∷ []) (all_live (passed nodes (suc steps) (parent_of nodes node))) (above, live_word) later

pub whole_way : (nodes : List NodeSpec) (node : ℕ) (before now : CtxView) → Climbed nodes node before now None
    → (more : List (ℕ × ℕ)) × (now.reads ≡ before.reads ++ more) × ((above : ℕ) → Under nodes above node → Contains more (above, live_word))
whole_way nodes node before now (steps, top, climb, untied, few, same) =
    (all_live (passed nodes (suc steps) node), ap (λ (v : CtxView). v.reads) same, (λ above under. passed_live nodes steps node top climb untied under.0 above under.1))

-- the answers of a look, with the nodes and the view as callers see them
pub looked_own : (nodes here : List NodeSpec) (node above : ℕ) (v u now : CtxView) (cause : Cause) → nodes ≡ here → v ≡ u → above ≡ node → Climbed nodes node v now (Some (above, cause)) → LookedAt here node u now (Ended cause)
looked_own nodes here node above v u now cause are is own climbed =
    let looked : LookedAt nodes node v now (Ended cause) = (above, cause, now, climbed, inl (own, refl, refl)) in
    subst (λ (p : List NodeSpec × CtxView). LookedAt p.0 node p.1 now (Ended cause)) (λ k. (are k, is k)) looked

pub looked_settled : (nodes here : List NodeSpec) (node above : ℕ) (v u mid now : CtxView) (first cause : Cause) → nodes ≡ here → v ≡ u → above ≢ node → Climbed nodes node v mid (Some (above, first)) → now ≡ heard node cause mid
    → LookedAt here node u now (Ended cause)
looked_settled nodes here node above v u mid now first cause are is other climbed settled =
    let looked : LookedAt nodes node v now (Ended cause) = (above, first, mid, climbed, inr (other, settled)) in
    subst (λ (p : List NodeSpec × CtxView). LookedAt p.0 node p.1 now (Ended cause)) (λ k. (are k, is k)) looked

pub own_told : (nodes : List NodeSpec) (node above : ℕ) (v now : CtxView) (first cause : Cause) → Climbed nodes node v now (Some (above, first)) → above ≡ node → Ended first ≡ Ended cause → Contains now.ended (node, cause)
own_told nodes node above v now first cause climbed own same =
    subst (λ (p : ℕ × Cause). Contains now.ended p) (λ k. (own k, same_told first cause same k)) (found_in nodes node v now (above, first) climbed)

pub settled_told : (node : ℕ) (mid now : CtxView) (first cause : Cause) → now ≡ heard node first mid → Ended first ≡ Ended cause → Contains now.ended (node, cause)
settled_told node mid now first cause settled same =
    subst (λ (p : List (ℕ × Cause) × Cause). Contains p.0 (node, p.1)) (λ k. ((sym settled k).ended, same_told first cause same k)) (Contains-push mid.ended (node, first))

pub own_known : (node above : ℕ) (v u : CtxView) (first cause : Cause) → v ≡ u → Knows node v (Some (above, first)) → Contains u.ended (node, cause) → Ended first ≡ Ended cause
own_known node above v u first cause is knows has =
    let found = same_pair (above, first) (node, cause) (knows cause (subst (λ (w : CtxView). Contains w.ended (node, cause)) (sym is) has)) in
    ap (λ (p : ℕ × Cause). Ended p.1) found

pub settled_known : (node above : ℕ) (v u : CtxView) (first cause : Cause) → v ≡ u → above ≢ node → Knows node v (Some (above, first)) → Contains u.ended (node, cause) → ⊥
settled_known node above v u first cause is other knows has =
    let found = same_pair (above, first) (node, cause) (knows cause (subst (λ (w : CtxView). Contains w.ended (node, cause)) (sym is) has)) in
    other (ap (λ (p : ℕ × Cause). p.0) found)

pub none_known : (node : ℕ) (v u : CtxView) (cause : Cause) → v ≡ u → Knows node v None → Contains u.ended (node, cause) → ⊥
none_known node v u cause is knows has = missing (knows cause (subst (λ (w : CtxView). Contains w.ended (node, cause)) (sym is) has))
  where
    missing : {p : ℕ × Cause} → None ≡ Some p → ⊥
    missing e = cc

-- what a settled cause rests on
pub settle_rests : (nodes here : List NodeSpec) (node : ℕ) (v now : CtxView) (found : ℕ × Cause) → nodes ≡ here → Climbed nodes node v now (Some found) → Under here found.0 node × Contains now.ended found
settle_rests nodes here node v now found are climbed =
    (subst (λ (l : List NodeSpec). Under l found.0 node) are (climbed.0, climbed.1), found_in nodes node v now found climbed)

-- what a look leaves as it was
climb_learns : (nodes : List NodeSpec) (node : ℕ) (v now : CtxView) (found : Option (ℕ × Cause)) → Climbed nodes node v now found → Learns v now
climb_learns nodes node v now None (steps, top, climb, untied, few, same) =
    record {
      room = ap (λ (w : CtxView). w.room) same;
      cancels = ap (λ (w : CtxView). w.cancels) same;
      ended = ([], ap (λ (w : CtxView). w.ended) same ∙ sym (append-nil v.ended));
      reads = (all_live (passed nodes (suc steps) node), ap (λ (w : CtxView). w.reads) same);
    }
climb_learns nodes node v now (Some found) (steps, climb, few, same) =
    record {
      room = ap (λ (w : CtxView). w.room) same;
      cancels = ap (λ (w : CtxView). w.cancels) same;
      ended = (found ∷ [], ap (λ (w : CtxView). w.ended) same);
      reads = (all_live (passed nodes steps node) ++ (found.0, word_of found.1) ∷ [], ap (λ (w : CtxView). w.reads) same);
    }

pub climbed_learns : (nodes : List NodeSpec) (node : ℕ) (v u now : CtxView) (found : Option (ℕ × Cause)) → v ≡ u → Climbed nodes node v now found → Learns u now
climbed_learns nodes node v u now found is climbed = subst (λ (w : CtxView). Learns w now) is (climb_learns nodes node v now found climbed)

pub settled_learns : (nodes : List NodeSpec) (node : ℕ) (v u mid now : CtxView) (found : Option (ℕ × Cause)) (cause : Cause) → v ≡ u → Climbed nodes node v mid found → now ≡ heard node cause mid → Learns u now
settled_learns nodes node v u mid now found cause is climbed settled =
    let before = climbed_learns nodes node v u mid found is climbed in
    record {
      room = ap (λ (w : CtxView). w.room) settled ∙ before.room;
      cancels = ap (λ (w : CtxView). w.cancels) settled ∙ before.cancels;
      ended = (
        before.ended.0 ++ (node, cause) ∷ [],
        ap (λ (w : CtxView). w.ended) settled ∙ ap (λ (l : List (ℕ × Cause)). l ++ (node, cause) ∷ []) before.ended.1 ∙ append_assoc u.ended before.ended.0 ((node, cause) ∷ []),
      );
      reads = (before.reads.0, ap (λ (w : CtxView). w.reads) settled ∙ before.reads.1);
    }
