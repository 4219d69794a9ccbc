-- What a look of a worker does.
use Rattle.std.proofs.Common.{ℕ, zero, suc, ◌≡◌, ◌≢◌, ◌≤◌, ◌<◌, ◌+◌, ◌⊎◌, if◌then◌else◌, Bool, true, false, List, [], ◌∷◌, ◌++◌, length, Option, Some, None, refl, ap, sym, subst, ◌∙◌, arith, inl, inr, append-nil}
use Rattle.std.specs.Prelude.{IfSome}
use Rattle.std.proofs.lemmas.Bool.{cases_lt, eq-eqb, le-leb, leb-true}
use Rattle.std.proofs.lemmas.List.{get_or_past}
use Rattle.std.proofs.lemmas.List.Elements.{All-cons, All-nil}
use Rattle.gw_wire.specs.Causes.{Rose}
use Rattle.gw_context.specs.declared.parts.Cause.{Cause}
use Rattle.gw_context.specs.declared.parts.Cause.TheVariants.{Canceled, DeadlineExceeded}
use Rattle.gw_context.specs.declared.parts.Node.{Node}
use Rattle.gw_context.specs.Node.{Climbs, Ends, Fate, IsLive, IsUnderDue, is_due, node_at, root}
use Rattle.gw_context.specs.Tree.{Advanced, TreeView, added, timed_child_of}
use Rattle.gw_ctxwords.specs.Calls as ctx
use Rattle.gw_ctxwords.specs.declared.answers.Looked.TheVariants as looked
use Rattle.gw_ctxwords.specs.declared.nodes.NodeSpec.{NodeSpec}
use Rattle.gw_ctxwords.specs.declared.view.CtxView.{CtxView}
use Rattle.gw_gate.specs.Seat as gate
use Rattle.gw_stream.specs.Guard.{CancelsOnlyBase, GuardGoes, GuardView, IsBefore, IsDue, IsPast, ShutGoes}
use Rattle.gw_transport.specs.Watch.{CtxStep, FirstDeadlineIsLeast, GateStep, IsLeast, IsRunning, is_no_later, seats_of, times_found, watched}

-- ---- the tree

-- a node but for its cause
record Kept (x y : Node) : Type 0 where
  pub parent : y.parent ≡ x.parent
  pub tied : y.tied ≡ x.tied
  pub deadline : y.deadline ≡ x.deadline

same_kept : (x y : Node) → y ≡ x → Kept x y
same_kept x y e = record { parent = ap (λ n. n.parent) e; tied = ap (λ n. n.tied) e; deadline = ap (λ n. n.deadline) e }

fate_kept : (cause : Cause) (P : Type 0) (x y : Node) → Fate cause P x y → Kept x y
fate_kept cause P x y (inl k) = record { parent = ap (λ n. n.parent) k.2; tied = ap (λ n. n.tied) k.2; deadline = ap (λ n. n.deadline) k.2 }
fate_kept cause P x y (inr k) = same_kept x y k.1

node_kept : (cause : Cause) (P : ℕ → Type 0) (before now : List Node) (i : ℕ) → Ends cause P before now → Kept (node_at before i) (node_at now i)
node_kept cause P before now i e =
    elim (cases_lt i (length before)) [
      | inl h ↦ fate_kept cause (P i) (node_at before i) (node_at now i) (e.each i h)
      | inr h ↦ same_kept (node_at before i) (node_at now i) (get_or_past now i root (let c = e.count in omega arith) ∙ sym (get_or_past before i root h))
    ]

climbs_kept : (cause : Cause) (P : ℕ → Type 0) (before now : List Node) (steps m n : ℕ) → Ends cause P before now → Climbs now steps m n → Climbs before steps m n
climbs_kept cause P before now zero m n e c = c
climbs_kept cause P before now (suc steps) m n e c =
    let k = node_kept cause P before now m e in
    (sym k.tied ∙ c.0, subst (λ (p : ℕ). Climbs before steps p n) k.parent (climbs_kept cause P before now steps (node_at now m).parent n e c.1))

pub least_kept : (moment : ℕ) (old new : TreeView) (node : ℕ) → Advanced moment old new → IsLeast old.nodes node → IsLeast new.nodes node
least_kept moment old new node a least above u =
    let P = IsUnderDue old.nodes moment in
    let here = node_kept DeadlineExceeded P old.nodes new.nodes node a.ends in
    let there = node_kept DeadlineExceeded P old.nodes new.nodes above a.ends in
    ap (λ d. is_no_later d (node_at new.nodes above).deadline) here.deadline ∙ ap (λ d. is_no_later (node_at old.nodes node).deadline d) there.deadline
    ∙ least above (u.0, climbs_kept DeadlineExceeded P old.nodes new.nodes u.0 node above a.ends u.1)

due_of : (x y : Option ℕ) (last : ℕ) → is_no_later x y ≡ true → is_due last y ≡ true → IsDue x last
due_of x None last a b = cc
due_of None (Some t) last a b = cc
due_of (Some d) (Some t) last a b = (let p = leb-true d t a in let q = leb-true t last b in omega arith)

is_exceeded : (cause : Option Cause) (c : Cause) → cause ≡ Some c → cause ≢ Some Canceled → cause ≡ Some DeadlineExceeded
is_exceeded cause Canceled e not = absurd (not e)
is_exceeded cause DeadlineExceeded e not = e

running_by : (x y : Node) (P : Type 0) → Fate DeadlineExceeded P x y → x.cause ≢ Some Canceled → y.cause ≢ Some Canceled
running_by x y P (inl k) r e = (let bad : Some DeadlineExceeded ≡ Some Canceled = sym (ap (λ n. n.cause) k.2) ∙ e in cc)
running_by x y P (inr k) r e = r (sym (ap (λ n. n.cause) k.1) ∙ e)

running_kept : (moment : ℕ) (old new : TreeView) (node : ℕ) → node < length old.nodes → Advanced moment old new → IsRunning old node → IsRunning new node
running_kept moment old new node inside a r =
    running_by (node_at old.nodes node) (node_at new.nodes node) (IsUnderDue old.nodes moment node) (a.ends.each node inside) r

-- a node that ended is late
pub ended_due : (moment : ℕ) (old new : TreeView) (node : ℕ) (c : Cause) → old.last ≤ moment → node < length old.nodes → Advanced moment old new → IsLeast old.nodes node → IsRunning old node
    → (node_at new.nodes node).cause ≡ Some c → ((n : ℕ) → (node_at new.nodes n).cause ≡ Some DeadlineExceeded → IsUnderDue new.nodes new.last n)
    → IsDue (node_at old.nodes node).deadline moment
ended_due moment old new node c le inside a least running e law =
    let u = law node (is_exceeded (node_at new.nodes node).cause c e (running_kept moment old new node inside a running)) in
    let d = due_of (node_at new.nodes node).deadline (node_at new.nodes u.0).deadline new.last (least_kept moment old new node a least u.0 u.2) u.1 in
    let here = node_kept DeadlineExceeded (IsUnderDue old.nodes moment) old.nodes new.nodes node a.ends in
    let last : new.last ≡ moment = (let m = a.last in omega arith) in
    let F : Option ℕ → ℕ → Type 0 = λ o m. IsDue o m in
    subst (λ (m : ℕ). F (node_at old.nodes node).deadline m) last (subst (λ (o : Option ℕ). F o new.last) here.deadline d)

before_of : (x : Option ℕ) (last moment : ℕ) → moment ≤ last → IfSome x (λ d. last < d) → IsBefore x moment
before_of None last moment le k = tt
before_of (Some d) last moment le k = (let q = k in omega arith)

-- a live node's deadline is to come
pub live_before : (moment : ℕ) (old new : TreeView) (node : ℕ) → Advanced moment old new → (node_at new.nodes node).cause ≡ None
    → ((n : ℕ) → IsLive (node_at new.nodes n) → IfSome (node_at new.nodes n).deadline (λ d. new.last < d)) → IsBefore (node_at old.nodes node).deadline moment
live_before moment old new node a live law =
    let here = node_kept DeadlineExceeded (IsUnderDue old.nodes moment) old.nodes new.nodes node a.ends in
    subst (λ (o : Option ℕ). IsBefore o moment) here.deadline (before_of (node_at new.nodes node).deadline new.last moment (let m = a.last in omega arith) (law node live))

-- ---- the first node under a root

no_later_same : (at : ℕ) → is_no_later (Some at) (Some at) ≡ true
no_later_same at = le-leb at at (omega arith)

abbrev timed_alone : ℕ → ℕ → List Node
timed_alone last at = root ∷ timed_child_of (record { last = last; nodes = root ∷ [] }) 0 at ∷ []

above_first : (last at above steps : ℕ) → Climbs (timed_alone last at) steps 1 above
    → is_no_later (node_at (timed_alone last at) 1).deadline (node_at (timed_alone last at) above).deadline ≡ true
above_first last at above zero c =
    let P : ℕ → Type 0 = λ i. is_no_later (Some at) (node_at (timed_alone last at) i).deadline ≡ true in subst P c (no_later_same at)
above_first last at above (suc zero) c =
    let P : ℕ → Type 0 = λ i. is_no_later (Some at) (node_at (timed_alone last at) i).deadline ≡ true in subst P c.1 refl
above_first last at above (suc (suc steps)) c = absurd (let bad : false ≡ true = c.1.0 in cc)

born_running : (last at : ℕ) (due : Bool) → (if due then Some DeadlineExceeded else None) ≢ Some Canceled
born_running last at true e = cc
born_running last at false e = cc

first_by : (nodes : List Node) (last at : ℕ) → nodes ≡ root ∷ []
    → IsRunning (added (record { last = last; nodes = nodes }) (timed_child_of (record { last = last; nodes = nodes }) 0 at)) 1
    × IsLeast (added (record { last = last; nodes = nodes }) (timed_child_of (record { last = last; nodes = nodes }) 0 at)).nodes 1
first_by nodes last at e =
    let tree : List Node → TreeView = λ l. record { last = last; nodes = l } in
    let made : List Node → TreeView = λ l. added (tree l) (timed_child_of (tree l) 0 at) in
    let T : List Node → Type 0 = λ l. IsRunning (made l) 1 × IsLeast (made l).nodes 1 in
    subst T (sym e) (born_running last at (is_due last (Some at)), λ above u. above_first last at above u.0 u.1)

pub first_least : FirstDeadlineIsLeast
first_least tree at e = first_by tree.nodes tree.last at e

-- ---- the words

times_add : (node : ℕ) (xs ys : List (ℕ × Cause)) → times_found node (xs ++ ys) ≡ times_found node xs + times_found node ys
times_add node [] ys = omega arith
times_add node (x ∷ xs) ys = (let rest = times_add node xs ys in omega arith)

found_once : (node : ℕ) (cause : Cause) → times_found node ((node, cause) ∷ []) ≡ 1
found_once node cause = rw (eq-eqb node node refl) refl

more_found : (node : ℕ) (before now more : List (ℕ × Cause)) → now ≡ before ++ more → times_found node before ≤ times_found node now
more_found node before now more e = (let a = ap (times_found node) e ∙ times_add node before more in omega arith)

once_more : (node : ℕ) (cause : Cause) (before now : List (ℕ × Cause)) → now ≡ before ++ (node, cause) ∷ [] → times_found node before + 1 ≤ times_found node now
once_more node cause before now e = (let a = ap (times_found node) e ∙ times_add node before ((node, cause) ∷ []) in let b = found_once node cause in omega arith)

settled_more : (node : ℕ) (before found now : CtxView) (above : ℕ) (first cause : Cause) → found.ended ≡ before.ended ++ (above, first) ∷ []
    → ctx.Settled node above first found now cause → times_found node before.ended + 1 ≤ times_found node now.ended
settled_more node before found now above first cause e (inl k) =
    once_more node first before.ended now.ended (ap (λ v. v.ended) k.2 ∙ e ∙ ap (λ n. before.ended ++ (n, first) ∷ []) k.0)
settled_more node before found now above first cause e (inr k) =
    let a = more_found node before.ended found.ended ((above, first) ∷ []) e in
    let b = once_more node cause found.ended now.ended (ap (λ v. v.ended) k.1) in
    omega arith

ended_more : (nodes : List NodeSpec) (node : ℕ) (before now : CtxView) (cause : Cause) → ctx.LookedAt nodes node before now (looked.Ended cause)
    → times_found node before.ended + 1 ≤ times_found node now.ended
ended_more nodes node before now cause l = settled_more node before l.2 now l.0 l.1 cause (ap (λ v. v.ended) l.3.3) l.4

-- the own word was read ended
pub found_rose : (start before now : CtxView) (nodes : List NodeSpec) (node : ℕ) (cause : Cause) → ((more : List (ℕ × Cause)) × (before.ended ≡ start.ended ++ more))
    → ctx.LookedAt nodes node before now (looked.Ended cause) → Rose (times_found node start.ended) (times_found node now.ended)
found_rose start before now nodes node cause m l =
    let a = more_found node start.ended before.ended m.0 m.1 in
    let b = ended_more nodes node before now cause l in
    omega arith

-- ---- a look

base_goes : (old new : GuardView) (moment : ℕ) (mid : CtxView) → new.words.view.cancels ≡ mid.cancels
    → (mid.cancels ≡ old.words.view.cancels) ⊎ ((mid.cancels ≡ old.words.view.cancels ++ (0, Canceled) ∷ []) × IsPast new moment) → CancelsOnlyBase old new moment
base_goes old new moment mid same (inl none) = record {
  more = [];
  cancels = same ∙ none ∙ sym (append-nil old.words.view.cancels);
  base = All-nil (λ (set : ℕ × Cause). set ≡ (0, Canceled));
  past = inl refl;
}
base_goes old new moment mid same (inr k) = record {
  more = (0, Canceled) ∷ [];
  cancels = same ∙ k.0;
  base = All-cons (λ (set : ℕ × Cause). set ≡ (0, Canceled)) (0, Canceled) [] refl (All-nil (λ (set : ℕ × Cause). set ≡ (0, Canceled)));
  past = inr k.1;
}

shut_goes : (old new : GuardView) (moment : ℕ) → old.last ≤ moment → (new.shut_at ≡ old.shut_at) ⊎ ((old.shut_at ≡ None) × (new.shut_at ≡ Some moment) × (new.gate.view.seen_shut ≡ true))
    → ShutGoes old new moment
shut_goes old new moment le (inl same) = inl same
shut_goes old new moment le (inr k) = inr (k.0, (moment, k.1, le, omega arith, k.2))

-- what a look does, whatever it answers
pub look_goes : (old new : TreeView) (node : ℕ) (words mid later : ctx.SeatState) (own : ℕ) (g h : gate.SeatState) (grace : ℕ) (noted noting : Option ℕ) (moment : ℕ)
    → old.last ≤ moment → Advanced moment old new → GateStep g h noted noting moment → CtxStep words mid noting grace moment
    → later ≡ ctx.with_view mid later.view → ctx.Learns mid.view later.view
    → GuardGoes (watched old node (seats_of words own g) grace noted) (watched new node (seats_of later own h) grace noting) moment
look_goes old new node words mid later own g h grace noted noting moment le a gates steps same learns =
    let from = watched old node (seats_of words own g) grace noted in
    let to = watched new node (seats_of later own h) grace noting in
    let here = node_kept DeadlineExceeded (IsUnderDue old.nodes moment) old.nodes new.nodes node a.ends in
    record {
      tree = inr (moment, omega arith, a);
      node = refl;
      deadline = here.deadline;
      table = ap (λ s. s.table) same ∙ steps.table;
      places = learns.room ∙ steps.room;
      base = base_goes from to moment mid.view learns.cancels steps.cancels;
      own = refl;
      gate = gates.name;
      room = gates.room;
      held = gates.held;
      shut = gates.shut;
      seen_shut = gates.seen_shut;
      grace = refl;
      shut_at = shut_goes from to moment le gates.notes;
      last = (let m = a.last in omega arith);
      seen = (let m = a.last in omega arith);
      cancels = (let x = more_found own words.view.ended mid.view.ended steps.found.0 steps.found.1 in
          let y = more_found own mid.view.ended later.view.ended learns.ended.0 learns.ended.1 in omega arith);
    }
