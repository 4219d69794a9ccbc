-- What the workers of a run share, and the places at which they work.
use Rattle.std.specs.Prelude.{ℕ, suc, ◌≡◌, ◌<◌, List, [], ◌∷◌, length, sum_by}
use Rattle.gw_ctxwords.specs.Rule.{spent as unused_words}
use Rattle.gw_gate.specs.Gate.{spent as unused_gate}
use Rattle.gw_pool.specs.declared.limits.Limits.{Limits}
use Rattle.gw_stream.specs.Outbox.{out_size}
use Rattle.gw_turn.specs.Pass.{fresh_pass}
use Rattle.gw_top.specs.declared.house.House.{House}
use Rattle.gw_top.specs.declared.house.Place.{Place}
use Rattle.gw_top.specs.Run.{own_node}

-- The place of the worker of this number, where nobody has worked yet: its pass was asked nothing, its seats have found an
-- open gate and live contexts, and among these is its node.
pub record IsPlace {C : Type 0} (house : House C) (limits : Limits) (n : ℕ) (place : Place) : Type 0 where
  pub pass : place.pass ≡ fresh_pass house.pool limits n
  pub gate : place.gate_seat.name.gate ≡ house.gate
  pub unshut : place.gate_seat.view ≡ record unused_gate { room = place.gate_seat.view.room }
  pub words : place.ctx_seat.table ≡ house.ctx.id
  pub live : place.ctx_seat.view ≡ record unused_words { room = place.ctx_seat.view.room }
  pub node : own_node n < length house.ctx.nodes
  pub room : place.buffers.out.size ≡ out_size

-- the places of the workers that are numbered from n on
abbrev pub ArePlaces : {C : Type 0} → House C → Limits → ℕ → List Place → Type 0
ArePlaces house limits n [] = Unit {0}
ArePlaces house limits n (place ∷ places) = IsPlace house limits n place × ArePlaces house limits (suc n) places

-- how many seats their seats stand for
abbrev pub gate_rooms : List Place → ℕ
gate_rooms places = sum_by (λ (p : Place). p.gate_seat.view.room) places

abbrev pub ctx_rooms : List Place → ℕ
ctx_rooms places = sum_by (λ (p : Place). p.ctx_seat.view.room) places
