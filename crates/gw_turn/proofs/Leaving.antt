-- A turn that ends as it began.
use Rattle.std.proofs.Common.{◌≡◌, ◌∙◌, ℕ, refl, sym, ap, List, [], ◌∷◌, ◌++◌, length, drop, Option, Some, append-nil}
use Rattle.std.proofs.Math.Seq.{drop-length}
use Rattle.atomic_table.specs.Seated.{TableId}
use Rattle.atomic_table.specs.Table.{rest}
use Rattle.gw_pool.specs.History.{mine}
use Rattle.gw_pool.specs.Owner.{made_in}
use Rattle.gw_turn.specs.Pass.{state_of}
use Rattle.gw_pool.specs.declared.holding.Holding.{Holding}
use Rattle.gw_pool.specs.Core.{CoreView}
use Rattle.gw_turn.specs.declared.view.PassView.{PassView}
use Rattle.gw_turn.specs.Meeting.{Meeting, Entering, Leaving}
use Rattle.gw_turn.specs.Steps.{lent_of, core_of, took, released, slot_core}
use Rattle.gw_turn.proofs.CoreCalls.{leaving_same}

-- the state that a pass with the turn speaks of is the one that it met
pub took_core : (v : PassView) (core : CoreView) → Meeting (lent_of v) core → core_of (took core v) ≡ core
took_core v core m = ap (λ l. record core { limits = l }) m.same_limits

pub leave_took : (v w : PassView) (core core' : CoreView) (out : List Holding) → w ≡ took core v → Meeting (lent_of v) core → Leaving v.own.number core core' v.own.out out → Leaving w.own.number (core_of w) core' w.own.out out
leave_took v w core core' out e m k = rw (e, took_core v core m) k

pub enter_took : (v w : PassView) (core core' : CoreView) (out : List Holding) → w ≡ took core v → Meeting (lent_of v) core → Entering v.own.number core core' v.own.out out → Entering w.own.number (core_of w) core' w.own.out out
enter_took v w core core' out e m k = rw (e, took_core v core m) k

pub leave_same : (v w : PassView) (core core' : CoreView) (out : List Holding) → w ≡ took core v → Meeting (lent_of v) core → core' ≡ core → out ≡ v.own.out → Leaving w.own.number (core_of w) core' w.own.out out
leave_same v w core core' out e m same o = leave_took v w core core' out e m (rw o (leaving_same (lent_of v) core core' m same))

pub slot_same : (a b : CoreView) (xs slots : List (ℕ × Option CoreView)) → slots ≡ (0, Some a) ∷ [] → slots ≡ (0, Some b) ∷ xs → a ≡ b
slot_same a b xs slots e f = sym (ap slot_core e) ∙ ap slot_core f

-- the pool's state in the slot of a seat that has the turn
pub slot_out : (m : List (ℕ × Option CoreView)) → m ≡ (0, Some (slot_core m)) ∷ [] → (x : Option CoreView) × (m ≡ (0, x) ∷ rest m)
slot_out m e = (Some (slot_core m), e ∙ ap (λ l. (0, Some (slot_core m)) ∷ rest l) (sym e))

pub slot_is : (m : List (ℕ × Option CoreView)) (x : Option CoreView) (core : CoreView) → m ≡ (0, x) ∷ rest m → x ≡ Some core → slot_core m ≡ core
slot_is m x core e f = ap slot_core (e ∙ ap (λ y. (0, y) ∷ rest m) f)

pub view_same : (v w : PassView) (views : List PassView) → views ≡ v ∷ [] → views ≡ w ∷ [] → v ≡ w
view_same v w views e f = let both = sym e ∙ f in cc

-- a turn that ends as it began leaves a pass what it was, where it had seen everything
none_fresh : (fresh : List ℕ) (own : List Rattle.gw_pool.specs.declared.entry.Entry.Entry) → fresh ++ made_in (drop (length own) own) ≡ fresh
none_fresh fresh own = ap (λ h. fresh ++ made_in h) (drop-length own) ∙ append-nil fresh

lent_back : (v : PassView) (core : CoreView) (out : List Holding) (waits : ℕ) → Meeting (lent_of v) core → v.own.seen ≡ core.journal → out ≡ v.own.out → waits ≡ v.waits → lent_of (released core out waits v) ≡ lent_of v
lent_back v core out waits m whole o ws =
    let own : mine v.own.seen v.own.number ≡ v.own.mine = rw whole m.own in
    rw (← whole, o, ws, own, none_fresh v.fresh v.own.mine) refl

pub state_back : (table : TableId) (v w : PassView) (core core' : CoreView) (out : List Holding) (waits : ℕ) → w ≡ took core v → core' ≡ core → Meeting (lent_of v) core → v.own.seen ≡ core.journal → out ≡ v.own.out → waits ≡ v.waits
    → state_of table (released core' out waits w ∷ []) ≡ state_of table (v ∷ [])
state_back table v w core core' out waits e same m whole o ws =
    rw (e, same) (ap (λ l. record { pool = table; lent = l; joined = v.joined; past = v.past }) (lent_back v core out waits m whole o ws))
