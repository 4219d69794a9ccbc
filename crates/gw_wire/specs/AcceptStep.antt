use Rattle.std.specs.Prelude.{◌≤◌, ◌≡◌, true, List, [], ◌∷◌}
use Rattle.gw_wire.specs.declared.values.Act.{Act}
use Rattle.gw_wire.specs.declared.values.Act.TheVariants.{Accepted, AcceptFailed}
use Rattle.gw_wire.specs.declared.values.Act.TheVariants.{Ended as ListenerEnded}
use Rattle.gw_wire.specs.declared.traits.Accept.{Accept}
use Rattle.gw_wire.specs.declared.traits.Accept.TheVariants.{Conn, Ended, Tick, Failed}
use Rattle.gw_wire.specs.Causes.{Rose}
use Rattle.gw_wire.specs.Acts.{Logs}
use Rattle.gw_wire.specs.Link.{LinkView}
use Rattle.gw_wire.specs.Visible.{AreVisible}
use Rattle.gw_wire.specs.Wire.{WireView, Later}

-- when each answer of an accept may come; a peer's text is visible ASCII
abbrev pub AcceptCause : {C : Type 0} → WireView → WireView → Accept C → Type 0
AcceptCause old new (Conn client peer) = AreVisible peer
AcceptCause old new Ended = new.ended ≡ true
AcceptCause old new Tick = Rose old.ticks new.ticks
AcceptCause old new Failed = Rose old.accept_faults new.accept_faults

-- what an accept logs
abbrev pub accept_acts : {C : Type 0} → (C → LinkView) → Accept C → List Act
accept_acts link (Conn client peer) = Accepted (link client).number peer ∷ []
accept_acts link Ended = ListenerEnded ∷ []
accept_acts link Tick = []
accept_acts link Failed = AcceptFailed ∷ []

-- a client was accepted, or not: once the listener has ended, every accept says so again
pub record AcceptStep {C : Type 0} (link : C → LinkView) (old new : WireView) (result : Accept C) : Type 0 where
  pub later : Later old new
  pub cause : AcceptCause old new result
  pub over : old.ended ≡ true → result ≡ Ended
  pub log : Logs old.log new.log (accept_acts link result)
  pub moment : new.moment ≡ old.moment
  pub begun : new.first ≤ new.moment
  pub asked : new.asked ≡ old.asked
  pub aged : new.aged ≡ old.aged
