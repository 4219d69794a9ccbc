-- A call of a pass, from the turn that it began to what it knows after.
use Rattle.std.proofs.Common.{◌≡◌, ◌∙◌, ℕ, ◌<◌, sym, ap, subst, arith, List, [], ◌∷◌, Option, length}
use Rattle.atomic_table.specs.Seated.{TableId}
use Rattle.gw_pool.specs.declared.holding.Holding.{Holding}
use Rattle.gw_pool.specs.Core.{CoreView, state_at}
use Rattle.gw_pool.specs.Machine.{units}
use Rattle.gw_pool.specs.Tokens.{TokensView}
use Rattle.gw_turn.specs.declared.view.PassView.{PassView}
use Rattle.gw_pool.specs.Owner.{owner}
use Rattle.gw_turn.specs.Meeting.{Meeting, Entering, Leaving, known}
use Rattle.gw_turn.specs.Pass.{PassState, state_of, IsPass}
use Rattle.gw_turn.specs.Steps.{lent_of, core_of, took, released, slot_core}
use Rattle.gw_turn.proofs.Callers.{few_units}
use Rattle.gw_turn.proofs.CoreCalls.{owned}
use Rattle.gw_turn.proofs.Leaving.{took_core, view_same}

pub record Begun (p : PassState) (w : PassView) (core : CoreView) (out : List Holding) (waits number : ℕ) : Type 0 where
  pub view : PassView
  pub lent_is : p.lent ≡ lent_of view
  pub turn : w ≡ took core view
  pub meeting : Meeting p.lent core
  pub same_number : number ≡ p.lent.number
  pub same_out : out ≡ p.lent.out
  pub same_waits : waits ≡ p.lent.waits

pub begun : (table : TableId) (views : List PassView) (p : PassState) (w : PassView) (slot : List (ℕ × Option CoreView)) (core : CoreView) (out : TokensView) (waits number : ℕ) → state_of table views ≡ p → IsPass views out waits number → slot_core slot ≡ core
    → ((v : PassView) × (views ≡ v ∷ []) × (w ≡ took (slot_core slot) v) × Meeting (lent_of v) (slot_core slot)) → Begun p w core out.out waits number
begun table views p w slot core out waits number is pass at_core (v, at, turn, meeting) =
    let same : pass.view ≡ v = view_same pass.view v views pass.is_view at in
    let lent_is : p.lent ≡ lent_of v = ap (λ (x : PassState). x.lent) (sym is ∙ ap (λ vs. state_of table vs) at) in
    record {
      view = v;
      lent_is = lent_is;
      turn = turn ∙ ap (λ k. took k v) at_core;
      meeting = subst (λ l. Meeting l core) (sym lent_is) (subst (Meeting (lent_of v)) at_core meeting);
      same_number = sym pass.same_number ∙ ap (λ (x : PassView). x.own.number) same ∙ ap (λ l. l.number) (sym lent_is);
      same_out = sym pass.same_out ∙ ap (λ (x : PassView). x.own.out) same ∙ ap (λ l. l.out) (sym lent_is);
      same_waits = sym pass.same_waits ∙ ap (λ (x : PassView). x.waits) same ∙ ap (λ l. l.waits) (sym lent_is);
    }

-- the state that a pass with the turn speaks of is the one that it met
spoken : (p : PassState) (w : PassView) (core : CoreView) (out : List Holding) (waits number : ℕ) (b : Begun p w core out waits number) → core_of w ≡ core
spoken p w core out waits number b = ap core_of b.turn ∙ took_core b.view core (subst (λ l. Meeting l core) b.lent_is b.meeting)

pub enters : (p : PassState) (w : PassView) (core core' : CoreView) (out out' : List Holding) (waits number : ℕ) → Begun p w core out waits number → Entering p.lent.number core core' p.lent.out out' → Entering w.own.number (core_of w) core' w.own.out out'
enters p w core core' out out' waits number b e =
    let n : w.own.number ≡ p.lent.number = ap (λ (x : PassView). x.own.number) b.turn ∙ ap (λ l. l.number) (sym b.lent_is) in
    let o : w.own.out ≡ p.lent.out = ap (λ (x : PassView). x.own.out) b.turn ∙ ap (λ l. l.out) (sym b.lent_is) in
    rw (n, o, spoken p w core out waits number b) e

pub leaves : (p : PassState) (w : PassView) (core core' : CoreView) (out out' : List Holding) (waits number : ℕ) → Begun p w core out waits number → Leaving p.lent.number core core' p.lent.out out' → Leaving w.own.number (core_of w) core' w.own.out out'
leaves p w core core' out out' waits number b e =
    let n : w.own.number ≡ p.lent.number = ap (λ (x : PassView). x.own.number) b.turn ∙ ap (λ l. l.number) (sym b.lent_is) in
    let o : w.own.out ≡ p.lent.out = ap (λ (x : PassView). x.own.out) b.turn ∙ ap (λ l. l.out) (sym b.lent_is) in
    rw (n, o, spoken p w core out waits number b) e

-- what the pass knows then
pub knows : (p : PassState) (w : PassView) (core core' : CoreView) (out out' : List Holding) (waits waits' number : ℕ) (table : TableId) (views : List PassView) → Begun p w core out waits number → views ≡ released core' out' waits' w ∷ []
    → known p.lent core' out' waits' ≡ (state_of table views).lent
knows p w core core' out out' waits waits' number table views b e =
    ap (λ l. known l core' out' waits') b.lent_is ∙ sym (ap (λ vs. (state_of table vs).lent) e ∙ ap (λ x. lent_of (released core' out' waits' x)) b.turn)

-- the own units are few
pub few : (p : PassState) (w : PassView) (core : CoreView) (out : List Holding) (waits number : ℕ) → Begun p w core out waits number → length p.lent.out < p.lent.limits.per_pass → length (units (state_at core) number) < core.limits.per_pass
few p w core out waits number b h =
    let units_few = few_units (owner core.journal) p.lent.number (state_at core) p.lent.out core.taken (owned p.lent core b.meeting) b.meeting.ties in
    let room : p.lent.limits.per_pass ≡ core.limits.per_pass = ap (λ l. l.per_pass) b.meeting.same_limits in
    rw b.same_number (omega (arith, units_few, room, h))

pub becomes : (p : PassState) (w : PassView) (core core' : CoreView) (out out' o : List Holding) (waits waits' v number : ℕ) (table : TableId) (views : List PassView) → Begun p w core out waits number → views ≡ released core' out' waits' w ∷ [] → out' ≡ o → waits' ≡ v
    → known p.lent core' o v ≡ (state_of table views).lent
becomes p w core core' out out' o waits waits' v number table views b e f h =
    ap (λ x. known p.lent core' x v) (sym f) ∙ ap (λ x. known p.lent core' out' x) (sym h) ∙ knows p w core core' out out' waits waits' number table views b e
