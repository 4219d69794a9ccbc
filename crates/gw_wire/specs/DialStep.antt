use Rattle.std.specs.Prelude.{◌≤◌, ℕ, ◌≡◌, List, [], ◌∷◌, Contains}
use Rattle.gw_wire.specs.declared.values.Act.{Act}
use Rattle.gw_wire.specs.declared.values.Act.TheVariants.{Dialed, DialFailed}
use Rattle.gw_wire.specs.declared.values.Addr.{Addr}
use Rattle.gw_wire.specs.declared.traits.Dial.{Dial}
use Rattle.gw_wire.specs.declared.traits.Dial.TheVariants.{Conn, Failed}
use Rattle.gw_wire.specs.Causes.{Rose}
use Rattle.gw_wire.specs.Acts.{Appends}
use Rattle.gw_wire.specs.Link.{LinkView}
use Rattle.gw_wire.specs.Wire.{WireView, Later}

-- the address that a dial to one address may reach: itself, or one of the group that it stands for
abbrev pub IsOneOf : List Addr → Addr → Addr → Type 0
IsOneOf [] address reached = reached ≡ address
IsOneOf (member ∷ members) address reached = Contains (member ∷ members) reached

abbrev pub Reaches : WireView → Addr → Addr → Type 0
Reaches wire address reached = IsOneOf (wire.groups address) address reached

-- when each answer of a dial may come
abbrev pub DialCause : {C : Type 0} → WireView → WireView → Dial C → Type 0
DialCause old new (Conn backend) = Unit {0}
DialCause old new Failed = Rose old.dial_faults new.dial_faults

-- the act of a dial to a host that reached this address
abbrev pub dial_act : {C : Type 0} → (C → LinkView) → ℕ → Addr → Dial C → Act
dial_act link host reached (Conn backend) = Dialed host reached (link backend).number
dial_act link host reached Failed = DialFailed host reached

-- a host was dialed at an address
pub record DialStep {C : Type 0} (link : C → LinkView) (old new : WireView) (host : ℕ) (address : Addr) (result : Dial C) : Type 0 where
  pub later : Later old new
  pub cause : DialCause old new result
  pub log : (reached : Addr) × Reaches old address reached × Appends old.log new.log (dial_act link host reached result)
  pub moment : new.moment ≡ old.moment
  pub begun : new.first ≤ new.moment
  pub asked : new.asked ≡ old.asked
  pub aged : new.aged ≡ old.aged
