-- What stays and what never falls, call after call.
use Rattle.std.proofs.Common.{ℕ, ◌≤◌, ◌++◌, List, [], ◌∷◌, refl, ◌∙◌, arith}
use Rattle.gw_wire.specs.Link.{LinkView, LinkLater}
use Rattle.gw_wire.specs.Moments.{Rises}
use Rattle.gw_wire.specs.Wire.{WireView, Later}

pub later_same : (wire : WireView) → Later wire wire
later_same wire = record {
  accept_faults = omega arith;
  dial_faults = omega arith;
  ticks = omega arith;
  rests = omega arith;
  moment = omega arith;
  first = refl;
  ended = λ e. e;
  groups = refl;
}

pub later_then : (a b c : WireView) → Later a b → Later b c → Later a c
later_then a b c p q = record {
  accept_faults = omega arith;
  dial_faults = omega arith;
  ticks = omega arith;
  rests = omega arith;
  moment = omega arith;
  first = q.first ∙ p.first;
  ended = λ e. q.ended (p.ended e);
  groups = q.groups ∙ p.groups;
}

pub link_same : (link : LinkView) → LinkLater link link
link_same link = record { number = refl; faults = omega arith; ends = omega arith }

pub link_then : (a b c : LinkView) → LinkLater a b → LinkLater b c → LinkLater a c
link_then a b c p q = record { number = q.number ∙ p.number; faults = omega arith; ends = omega arith }

-- moments that rise from a later beginning, to an earlier end, and one row behind another
pub rises_from : (a b c : ℕ) (moments : List ℕ) → a ≤ b → Rises b moments c → Rises a moments c
rises_from a b c [] le r = omega arith
rises_from a b c (m ∷ moments) le r = (let f = r.0 in omega arith, r.1)

pub rises_to : (a b c : ℕ) (moments : List ℕ) → Rises a moments b → b ≤ c → Rises a moments c
rises_to a b c [] r le = omega arith
rises_to a b c (m ∷ moments) r le = (r.0, rises_to m b c moments r.1 le)

pub rises_then : (a b c : ℕ) (moments more : List ℕ) → Rises a moments b → Rises b more c → Rises a (moments ++ more) c
rises_then a b c [] more r s = rises_from a b c more r s
rises_then a b c (m ∷ moments) more r s = (r.0, rises_then m b c moments more r.1 s)
