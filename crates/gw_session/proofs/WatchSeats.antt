-- What the looks of a watch leave of a worker's seats and of the tree of deadlines.
use Rattle.std.proofs.Common.{ℕ, zero, suc, ◌≡◌, ◌≤◌, ◌<◌, true, false, List, length, sym, subst, ap, ◌∙◌, arith, inl, inr}
use Rattle.gw_wire.specs.Causes.{Rose}
use Rattle.gw_context.specs.declared.parts.Cause.TheVariants.{DeadlineExceeded}
use Rattle.gw_context.specs.declared.parts.Node.{Node}
use Rattle.gw_context.specs.Node.{Climbs, Fate, IsUnderDue, is_due, node_at, root}
use Rattle.gw_context.specs.Tree.{TreeView}
use Rattle.gw_stream.specs.Guard as guard
use Rattle.gw_stream.specs.Guard.{GuardGoes, GuardView, TreeGoes}
use Rattle.gw_transport.specs.Watch.{IsLeast, IsRunning, times_found}
use Rattle.gw_session.specs.declared.client.Client.{Client}
use Rattle.gw_session.specs.Seats.{CancelsOnlyBase, IsPast, Seats, SeatsGo, seats}
use Rattle.gw_session.specs.Stand.{Spot}
use Rattle.gw_session.specs.TripSteps.{IsTimed, IsTimedClient, deadline_of}

-- ---- the seats

-- what looks leave of a worker's seats, and that a rise of the count is one of what was found of the own node
pub record Looks (f g : GuardView) (old new : Seats) (p : Spot) (moment : ℕ) : Type 0 where
  pub seats : SeatsGo old new p.own p.table.grace_ms f.last moment false
  pub held : new.gate.view.held ≡ old.gate.view.held
  pub found : Rose f.cancels g.cancels → Rose (times_found p.own old.words.view.ended) (times_found p.own new.words.view.ended)

abbrev seats_in : GuardView → Seats
seats_in f = seats f.gate f.words f.shut_at

past_in : (f g : GuardView) (moment : ℕ) → g.grace ≡ f.grace → guard.IsPast g moment → IsPast (seats_in g) f.grace moment
past_in f g moment e past = (past.0, past.1, (let le = past.2 in omega arith))

base_in : (f g : GuardView) (moment : ℕ) → g.grace ≡ f.grace → guard.CancelsOnlyBase f g moment → CancelsOnlyBase (seats_in f) (seats_in g) f.grace moment
base_in f g moment e b = record {
  more = b.more;
  cancels = b.cancels;
  base = b.base;
  past = elim b.past [
    | inl none ↦ inl none
    | inr past ↦ inr (past_in f g moment e past)
  ];
}

abbrev found_in : GuardView → Type 0
found_in f = f.cancels ≡ times_found f.own f.words.view.ended

same_found : (f g : GuardView) → g.own ≡ f.own → found_in g → g.cancels ≡ times_found f.own g.words.view.ended
same_found f g own e = e ∙ ap (λ n. times_found n g.words.view.ended) own

seats_go : (f g : GuardView) (moment : ℕ) → found_in f → found_in g → GuardGoes f g moment → SeatsGo (seats_in f) (seats_in g) f.own f.grace f.last moment false
seats_go f g moment a b k = record {
  name = k.gate;
  room = k.room;
  shut = λ e. inl (sym k.shut ∙ e);
  seen_shut = k.seen_shut;
  told = λ e. cc;
  noted = k.shut_at;
  table = k.table;
  places = k.places;
  base = base_in f g moment k.grace k.base;
  found = (let c = k.cancels in let d = same_found f g k.own b in omega arith);
}

rose_as : (a b c d : ℕ) → a ≡ c → b ≡ d → Rose a b → Rose c d
rose_as a b c d e f rose = subst (λ (n : ℕ). Rose c n) f (subst (λ (n : ℕ). Rose n b) e rose)

pub watch_goes : (f g : GuardView) (p : Spot) (moment : ℕ) → f.own ≡ p.own → f.grace ≡ p.table.grace_ms → found_in f → found_in g → GuardGoes f g moment
    → Looks f g (seats_in f) (seats_in g) p moment
watch_goes f g p moment own grace a b k = record {
  seats = subst (λ (n : ℕ). SeatsGo (seats_in f) (seats_in g) n p.table.grace_ms f.last moment false) own
      (subst (λ (n : ℕ). SeatsGo (seats_in f) (seats_in g) f.own n f.last moment false) grace (seats_go f g moment a b k));
  held = k.held;
  found = rose_as f.cancels g.cancels (times_found p.own f.words.view.ended) (times_found p.own g.words.view.ended)
      (a ∙ ap (λ n. times_found n f.words.view.ended) own) (b ∙ ap (λ n. times_found n g.words.view.ended) (k.own ∙ own));
}

-- ---- the tree

not_due : (nodes : List Node) (moment d steps : ℕ) → node_at nodes 0 ≡ root → is_due moment (node_at nodes d).deadline ≡ true → Climbs nodes steps 0 d → ⊥
not_due nodes moment d zero first due c =
    let P : ℕ → Type 0 = λ i. is_due moment (node_at nodes i).deadline ≡ true in
    let yes : is_due moment (node_at nodes 0).deadline ≡ true = subst P (sym c) due in
    let no : is_due moment (node_at nodes 0).deadline ≡ false = ap (λ (n : Node). is_due moment n.deadline) first in
    cc
not_due nodes moment d (suc steps) first due c =
    let yes : (node_at nodes 0).tied ≡ true = c.0 in
    let no : (node_at nodes 0).tied ≡ false = ap (λ (n : Node). n.tied) first in
    cc

root_by : (before now : List Node) (moment : ℕ) → node_at before 0 ≡ root → Fate DeadlineExceeded (IsUnderDue before moment 0) (node_at before 0) (node_at now 0)
    → node_at now 0 ≡ root
root_by before now moment first (inl k) = (let u = k.0 in absurd (not_due before moment u.0 u.2.0 first u.1 u.2.1))
root_by before now moment first (inr k) = k.1 ∙ first

root_stays : (old new : TreeView) (moment : ℕ) → 0 < length old.nodes → node_at old.nodes 0 ≡ root → TreeGoes old new moment → node_at new.nodes 0 ≡ root
root_stays old new moment some first (inl same) = ap (λ (t : TreeView). node_at t.nodes 0) same ∙ first
root_stays old new moment some first (inr k) = root_by old.nodes new.nodes k.0 first (k.2.ends.each 0 some)

-- the client of a watch whose node and tree these are
tree_told : (x y : TreeView) (moment : ℕ) → TreeGoes x y moment → x.last ≤ y.last
tree_told x y moment (inl same) = (let a = ap (λ (t : TreeView). t.last) same in omega arith)
tree_told x y moment (inr t) = (let a = t.2.last in omega (arith, a))

pub timed_client : {C : Type 0} (f g : GuardView) (old new : Client C) (moment : ℕ) → GuardGoes f g moment → IsTimed f.tree f.node
    → g.node < length g.tree.nodes → IsRunning g.tree g.node → IsLeast g.tree.nodes g.node
    → f.deadline ≡ deadline_of f.tree f.node → g.deadline ≡ deadline_of g.tree g.node → g.last ≡ g.tree.last
    → old.tree ≡ f.tree → new.tree ≡ g.tree → new.peer ≡ old.peer → new.table ≡ old.table → new.requests ≡ old.requests
    → IsTimedClient old new f.node moment
timed_client {C} f g old new moment k timed inside running least before after last was is peer table requests =
    let some : 0 < length f.tree.nodes = (let h = timed.inside in omega arith) in
    let first = root_stays f.tree g.tree moment some timed.first k.tree in
    let there : IsTimed g.tree g.node = record { inside = inside; running = running; least = least; first = first } in
    let here : IsTimed g.tree f.node = subst (λ (n : ℕ). IsTimed g.tree n) k.node there in
    record {
      peer = peer;
      table = table;
      requests = requests;
      timed = subst (λ (t : TreeView). IsTimed t f.node) (sym is) here;
      deadline = ap (λ (t : TreeView). deadline_of t f.node) is ∙ ap (deadline_of g.tree) (sym k.node) ∙ sym after ∙ k.deadline ∙ before
          ∙ sym (ap (λ (t : TreeView). deadline_of t f.node) was);
      told = (let a = ap (λ (t : TreeView). t.last) was in let b = ap (λ (t : TreeView). t.last) is in let d = tree_told f.tree g.tree moment k.tree in omega arith);
      last = (let a = ap (λ (t : TreeView). t.last) is in let b = k.seen in omega arith);
    }
