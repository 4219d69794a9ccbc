-- The pass down the list: how far it has come, and what it does.
use Rattle.std.proofs.Common.{◌≡◌, ℕ, ◌+◌, ◌<◌, ◌≤◌, ◌≢◌, Bool, true, false, ◌&&◌, ◌||◌, ◌⊎◌, inl, inr, List, length, set, Option, Some, None, is_some, is_none, refl, ◌∙◌, arith, below_more, get_or-set_same, get_or-set_other}
use Rattle.std.proofs.Math.ListN.{length-set}
use Rattle.gw_context.specs.declared.parts.Cause.{Cause}
use Rattle.gw_context.specs.declared.parts.Node.{Node}
use Rattle.gw_context.specs.Node.{root, node_at, IsLive, IsTied, ended, Fate, Ends, IsLinked}
use Rattle.gw_context.specs.Pass.{hangs, ended_if}

-- the pass has come to the place i
pub record Passing (cause : Cause) (IsMember : ℕ → Type 0) (before now : List Node) (i : ℕ) : Type 0 where
  pub count : length now ≡ length before
  pub done : (j : ℕ) → j < i → Fate cause (IsMember j) (node_at before j) (node_at now j)
  pub rest : (j : ℕ) → i ≤ j → node_at now j ≡ node_at before j

-- a node is a member where it begins to end or where it is tied to a member
pub record Spreads (IsMember : ℕ → Type 0) (before : List Node) (i : ℕ) (begins : Bool) : Type 0 where
  pub here : begins ≡ true → IsMember i
  pub below : IsTied (node_at before i) → IsMember (node_at before i).parent → IsMember i
  pub why : IsMember i → (begins ≡ true) ⊎ (IsTied (node_at before i) × IsMember (node_at before i).parent)

pub option_cases : {A : Type 0} (o : Option A) → (o ≡ None) ⊎ ((x : A) × (o ≡ Some x))
option_cases None = inl refl
option_cases (Some x) = inr (x, refl)

pub bool_cases : (b : Bool) → (b ≡ true) ⊎ (b ≡ false)
bool_cases true = inl refl
bool_cases false = inr refl

hit_ends : (is_hit : Bool) (cause : Cause) (node : Node) → (is_none node.cause && is_hit) ≡ true → ended_if is_hit cause node ≡ ended cause node
hit_ends is_hit cause node e = rw e

miss_keeps : (is_hit : Bool) (cause : Cause) (node : Node) → (is_none node.cause && is_hit) ≡ false → ended_if is_hit cause node ≡ node
miss_keeps is_hit cause node e = rw e

-- where the node is not live
ended_stays : (is_hit : Bool) (cause old : Cause) (node : Node) (P : Type 0) → node.cause ≡ Some old → Fate cause P node (ended_if is_hit cause node)
ended_stays is_hit cause old node P e =
    let quiet : (is_none node.cause && is_hit) ≡ false = rw e in
    inr (λ p. absurd (let l : node.cause ≡ None = p.1 in cc), miss_keeps is_hit cause node quiet)

-- where the node is live
live_ends : (is_hit : Bool) (cause : Cause) (node : Node) (P : Type 0) → node.cause ≡ None → is_hit ≡ true → P → Fate cause P node (ended_if is_hit cause node)
live_ends is_hit cause node P live hit p =
    let loud : (is_none node.cause && is_hit) ≡ true = rw (live, hit) in
    inl (p, live, hit_ends is_hit cause node loud)

live_stays : (is_hit : Bool) (cause : Cause) (node : Node) (P : Type 0) → node.cause ≡ None → is_hit ≡ false → ¬ P → Fate cause P node (ended_if is_hit cause node)
live_stays is_hit cause node P live miss not_p =
    let quiet : (is_none node.cause && is_hit) ≡ false = rw (live, miss) in
    inr (λ p. not_p p.0, miss_keeps is_hit cause node quiet)

fate_of : (cause : Cause) (node above above_now : Node) (begins : Bool) (P Q : Type 0) → (begins ≡ true → P) → (IsTied node → Q → P) → (P → (begins ≡ true) ⊎ (IsTied node × Q)) → (IsTied node → Fate cause Q above above_now) → (IsTied node → IsLive node → IsLive above) → Fate cause P node (ended_if (begins || (node.tied && is_some above_now.cause)) cause node)
fate_of cause node above above_now begins P Q here below why parent joint =
    let hit : Bool = begins || (node.tied && is_some above_now.cause) in
    elim (option_cases node.cause) [
      | inl live ↦ elim (bool_cases begins) [
        | inl b ↦ live_ends hit cause node P live (rw b) (here b)
        | inr b ↦ elim (bool_cases node.tied) [
          | inl t ↦ elim (parent t) [
            | inl q ↦
                let s : is_some above_now.cause ≡ true = rw (q.2) in
                live_ends hit cause node P live (rw (b, t, s)) (below t q.0)
            | inr q ↦
                let l : above.cause ≡ None = joint t live in
                let s : is_some above_now.cause ≡ false = rw (q.1, l) in
                live_stays hit cause node P live (rw (b, t, s)) (λ p. elim (why p) [ inl e ↦ absurd (cc) | inr r ↦ q.0 (r.1, l) ])
          ]
          | inr t ↦ live_stays hit cause node P live (rw (b, t)) (λ p. elim (why p) [ inl e ↦ absurd (cc) | inr r ↦ let u : node.tied ≡ true = r.0 in absurd (cc) ])
        ]
      ]
      | inr x ↦ ended_stays hit cause x.0 node P x.1
    ]

-- one step of the pass
pub pass_step : (cause : Cause) (IsMember : ℕ → Type 0) (before now : List Node) (i : ℕ) (begins : Bool) → i < length before → IsLinked before → Spreads IsMember before i begins → Passing cause IsMember before now i → Passing cause IsMember before (set now i (ended_if (begins || hangs now (node_at now i)) cause (node_at now i))) (i + 1)
pass_step cause IsMember before now i begins inside linked spreads passing =
    let settled : Node = ended_if (begins || hangs now (node_at now i)) cause (node_at now i) in
    let within : i < length now = omega (arith, passing.count) in
    let same : node_at now i ≡ node_at before i = passing.rest i (omega arith) in
    let node : Node = node_at before i in
    let fate : Fate cause (IsMember i) node (ended_if (begins || hangs now node) cause node) =
    fate_of cause node (node_at before node.parent) (node_at now node.parent) begins (IsMember i) (IsMember node.parent) spreads.here spreads.below spreads.why (λ t. passing.done node.parent (linked.lower i t)) (linked.joint i) in
    let P : ℕ → Type 0 = λ j. Fate cause (IsMember j) (node_at before j) (node_at (set now i settled) j) in
    record {
      count = length-set now i settled ∙ passing.count;
      done = below_more P i (λ j h. let ne : j ≢ i = omega arith in let e : node_at (set now i settled) j ≡ node_at now j = get_or-set_other now i j settled root ne in rw e (passing.done j h)) (let e : node_at (set now i settled) i ≡ settled = get_or-set_same now i settled root within in rw (e, same) fate);
      rest = λ j h. let ne : j ≢ i = omega arith in get_or-set_other now i j settled root ne ∙ passing.rest j (omega arith);
    }

-- the pass has come to the end
pub passed : (cause : Cause) (IsMember : ℕ → Type 0) (before now : List Node) (i : ℕ) → length before ≤ i → Passing cause IsMember before now i → Ends cause IsMember before now
passed cause IsMember before now i e passing =
    record { count = passing.count; each = λ j h. passing.done j (omega arith) }
