-- The places of the workers of a run, and the workers at them, over plain variables.
use Rattle.std.proofs.Common.{ℕ, suc, ◌≡◌, ◌<◌, ◌≤◌, ◌+◌, ◌-◌, List, [], ◌∷◌, ◌++◌, length, length-append, replicate, true, refl, ap, sym, subst, ◌∙◌, arith, append_assoc, append-nil, add-one}
use Rattle.std.specs.Prelude.{IsTrue}
use Rattle.std.specs.List.{remove, slice_index_or}
use Rattle.std.proofs.lemmas.List.Sums.{sum_by_push}
use Rattle.atomic_table.specs.Seated.{TableId}
use Rattle.gw_ctxwords.specs.declared.nodes.NodeSpec.{NodeSpec}
use Rattle.gw_ctxwords.specs.Nodes.{is_forest}
use Rattle.gw_ctxwords.specs.declared.view.CtxView.{CtxView}
use Rattle.gw_ctxwords.specs.Calls.{SeatState as CtxState, with_view as with_ctx_view}
use Rattle.gw_ctxwords.specs.Rule.{spent as unused_words}
use Rattle.gw_ctxwords.specs.Steps.{split_left as ctx_left}
use Rattle.gw_gate.specs.declared.view.GateView.{GateView}
use Rattle.gw_gate.specs.Gate.{spent as unused_gate}
use Rattle.gw_gate.specs.Seat.{SeatState as GateState, with_view as with_gate_view}
use Rattle.gw_gate.specs.Steps.{split_left as gate_left}
use Rattle.gw_pool.specs.declared.limits.Limits.{Limits}
use Rattle.gw_stream.specs.Outbox.{out_size}
use Rattle.gw_turn.specs.Pass.{PassState, fresh_pass, fresh_passes}
use Rattle.gw_top.specs.declared.crew.Job.{Job}
use Rattle.gw_top.specs.declared.house.House.{House}
use Rattle.gw_top.specs.declared.house.Place.{Place}
use Rattle.gw_top.specs.Crew.{job_of, jobs_of}
use Rattle.gw_top.specs.House.{ArePlaces, IsPlace, ctx_rooms, gate_rooms}

-- what a list gives where its first one is taken
pub first_taken : {X : Type 0} (old new : List X) (r x : X) (xs : List X) → old ≡ x ∷ xs → r ≡ slice_index_or old 0 r → new ≡ remove old 0 → (r ≡ x) × (new ≡ xs)
first_taken old new r x xs e value items = (value ∙ ap (λ l. slice_index_or l 0 r) e, items ∙ ap (λ l. remove l 0) e)

-- the passes from one number on begin with that of this number
pub first_pass : (pool : TableId) (limits : Limits) (number count : ℕ) → number < count
    → fresh_passes pool limits number (count - number) ≡ fresh_pass pool limits number ∷ fresh_passes pool limits (number + 1) (count - (number + 1))
first_pass pool limits number count lt =
    let e : count - number ≡ suc (count - (number + 1)) = omega arith in
    ap (λ k. fresh_passes pool limits number k) e ∙ ap (λ k. fresh_pass pool limits number ∷ fresh_passes pool limits k (count - (number + 1))) (sym (add-one number))

pub places_push : {C : Type 0} (house : House C) (limits : Limits) (n : ℕ) (places : List Place) (place : Place) → ArePlaces house limits n places → IsPlace house limits (n + length places) place → ArePlaces house limits n (places ++ place ∷ [])
places_push house limits n [] place all one = (let e : n + 0 ≡ n = omega arith in subst (λ k. IsPlace house limits k place) e one, tt)
places_push house limits n (p ∷ ps) place all one =
    let e : n + suc (length ps) ≡ suc n + length ps = omega arith in
    (all.0, places_push house limits (suc n) ps place all.1 (subst (λ k. IsPlace house limits k place) e one))

-- The workers below this number have their places; the passes of the others are left, and the seats stand for all other
-- ones.
pub record Placed {C : Type 0} (house : House C) (limits : Limits) (number : ℕ) (passes : List PassState) (gate_seat : GateState) (ctx_seat : CtxState) (places : List Place) : Type 0 where
  pub left : passes ≡ fresh_passes house.pool limits number (limits.passes - number)
  pub gate : gate_seat.name.gate ≡ house.gate
  pub unshut : gate_seat.view ≡ record unused_gate { room = 64 - number }
  pub words : ctx_seat.table ≡ house.ctx.id
  pub live : ctx_seat.view ≡ record unused_words { room = 64 - number }
  pub seated : ArePlaces house limits 0 places
  pub count : length places ≡ number
  pub gates : gate_rooms places ≡ number
  pub rooms : ctx_rooms places ≡ number

-- a pass is left for each worker that has no place yet
pub some_left : {C : Type 0} (house : House C) (limits : Limits) (number : ℕ) (passes : List PassState) (gate_seat : GateState) (ctx_seat : CtxState) (places : List Place)
    → Placed house limits number passes gate_seat ctx_seat places → number < limits.passes → 0 < length passes
some_left house limits number passes gate_seat ctx_seat places p lt =
    let e = ap (λ (l : List PassState). length l) (p.left ∙ first_pass house.pool limits number limits.passes lt) in omega arith

gate_unused : (v : GateView) (r : ℕ) → v ≡ record unused_gate { room = r } → v ≡ record unused_gate { room = v.room }
gate_unused v r e = e ∙ ap (λ (k : ℕ). record unused_gate { room = k }) (sym (ap (λ (x : GateView). x.room) e))

ctx_unused : (v : CtxView) (r : ℕ) → v ≡ record unused_words { room = r } → v ≡ record unused_words { room = v.room }
ctx_unused v r e = e ∙ ap (λ (k : ℕ). record unused_words { room = k }) (sym (ap (λ (x : CtxView). x.room) e))

-- the place of the next worker, which has the first pass of those left
pub next_place : {C : Type 0} (house : House C) (limits : Limits) (number : ℕ) (passes : List PassState) (gate_seat : GateState) (ctx_seat : CtxState) (places : List Place)
    → Placed house limits number passes gate_seat ctx_seat places → number < limits.passes → limits.passes < length house.ctx.nodes
    → (place : Place) (r : ℕ) → place.pass ≡ slice_index_or passes 0 place.pass → place.gate_seat.name.gate ≡ house.gate → place.gate_seat.view ≡ record unused_gate { room = r }
    → place.ctx_seat.table ≡ house.ctx.id → place.ctx_seat.view ≡ record unused_words { room = r } → place.buffers.out.size ≡ out_size → IsPlace house limits number place
next_place house limits number passes gate_seat ctx_seat places p lt nodes place r pass at_gate gate_view at_words ctx_view room =
    record {
      pass = pass ∙ ap (λ (l : List PassState). slice_index_or l 0 place.pass) (p.left ∙ first_pass house.pool limits number limits.passes lt);
      gate = at_gate;
      unshut = gate_unused place.gate_seat.view r gate_view;
      words = at_words;
      live = ctx_unused place.ctx_seat.view r ctx_view;
      node = omega arith;
      room = room;
    }

-- with one more place, what the places are
pub places_more : {C : Type 0} (house : House C) (limits : Limits) (number : ℕ) (passes : List PassState) (gate_seat : GateState) (ctx_seat : CtxState) (places : List Place)
    → Placed house limits number passes gate_seat ctx_seat places → (place : Place) → IsPlace house limits number place → (more : List Place) → more ≡ places ++ place ∷ []
    → ArePlaces house limits 0 more × (length more ≡ number + 1) × (gate_rooms more ≡ number + place.gate_seat.view.room) × (ctx_rooms more ≡ number + place.ctx_seat.view.room)
places_more house limits number passes gate_seat ctx_seat places p place is more more_is =
    let e : number ≡ 0 + length places = omega (arith, p.count) in
    let all = places_push house limits 0 places place p.seated (subst (λ (k : ℕ). IsPlace house limits k place) e is) in
    let gates = sum_by_push (λ (x : Place). x.gate_seat.view.room) places place in
    let rooms = sum_by_push (λ (x : Place). x.ctx_seat.view.room) places place in (
      subst (λ (l : List Place). ArePlaces house limits 0 l) (sym more_is) all,
      ap (λ (l : List Place). length l) more_is ∙ length-append places (place ∷ []) ∙ ap (λ (k : ℕ). k + 1) p.count,
      ap gate_rooms more_is ∙ gates ∙ ap (λ (k : ℕ). k + place.gate_seat.view.room) p.gates,
      ap ctx_rooms more_is ∙ rooms ∙ ap (λ (k : ℕ). k + place.ctx_seat.view.room) p.rooms,
    )

-- one more place, whose seats were split off
pub placed_more : {C : Type 0} (house : House C) (limits : Limits) (number : ℕ) (passes : List PassState) (gate_seat : GateState) (ctx_seat : CtxState) (places : List Place)
    → Placed house limits number passes gate_seat ctx_seat places → number < limits.passes → (place : Place) → IsPlace house limits number place
    → place.gate_seat.view ≡ record unused_gate { room = 1 } → place.ctx_seat.view ≡ record unused_words { room = 1 }
    → (less : List PassState) (g : GateState) (w : CtxState) (more : List Place) → less ≡ remove passes 0 → g ≡ with_gate_view gate_seat (gate_left gate_seat.view) → w ≡ with_ctx_view ctx_seat (ctx_left ctx_seat.view)
    → more ≡ places ++ place ∷ [] → Placed house limits (number + 1) less g w more
placed_more house limits number passes gate_seat ctx_seat places p lt place is gate_view ctx_view less g w more less_is g_is w_is more_is =
    let all = places_more house limits number passes gate_seat ctx_seat places p place is more more_is in
    let e : 64 - number - 1 ≡ 64 - (number + 1) = omega arith in
    record {
      left = less_is ∙ ap (λ (l : List PassState). remove l 0) (p.left ∙ first_pass house.pool limits number limits.passes lt);
      gate = ap (λ (s : GateState). s.name.gate) g_is ∙ p.gate;
      unshut = ap (λ (s : GateState). s.view) g_is ∙ ap gate_left p.unshut ∙ ap (λ (k : ℕ). record unused_gate { room = k }) e;
      words = ap (λ (s : CtxState). s.table) w_is ∙ p.words;
      live = ap (λ (s : CtxState). s.view) w_is ∙ ap ctx_left p.live ∙ ap (λ (k : ℕ). record unused_words { room = k }) e;
      seated = all.0;
      count = all.1;
      gates = all.2 ∙ ap (λ (v : GateView). number + v.room) gate_view;
      rooms = all.3 ∙ ap (λ (v : CtxView). number + v.room) ctx_view;
    }

-- with the last place, which has the seats themselves
pub placed_all : {C : Type 0} (house : House C) (limits : Limits) (number : ℕ) (passes : List PassState) (gate_seat : GateState) (ctx_seat : CtxState) (places : List Place)
    → Placed house limits number passes gate_seat ctx_seat places → number + 1 ≡ limits.passes → number ≤ 64 → (place : Place) → IsPlace house limits number place
    → place.gate_seat ≡ gate_seat → place.ctx_seat ≡ ctx_seat → (more : List Place) → more ≡ places ++ place ∷ []
    → ArePlaces house limits 0 more × (length more ≡ limits.passes) × (gate_rooms more ≡ 64) × (ctx_rooms more ≡ 64)
placed_all house limits number passes gate_seat ctx_seat places p last few place is g_is w_is more more_is =
    let all = places_more house limits number passes gate_seat ctx_seat places p place is more more_is in
    let e : number + (64 - number) ≡ 64 = omega arith in (
      all.0,
      all.1 ∙ last,
      all.2 ∙ ap (λ (s : GateState). number + s.view.room) g_is ∙ ap (λ (v : GateView). number + v.room) p.unshut ∙ e,
      all.3 ∙ ap (λ (s : CtxState). number + s.view.room) w_is ∙ ap (λ (v : CtxView). number + v.room) p.live ∙ e,
    )

-- what is left of the places and the wires has the numbers behind those of the workers that were made
pub jobs_push : {W : Type 0} (number : ℕ) (places : List Place) (wires : List W) (jobs : List (Job W)) (all : List (Job W)) (place : Place) (wire : W) (less_places : List Place) (less_wires : List W) (more : List (Job W))
    → jobs ++ jobs_of number places wires ≡ all → 0 < length places → 0 < length wires
    → place ≡ slice_index_or places 0 place → less_places ≡ remove places 0 → wire ≡ slice_index_or wires 0 wire → less_wires ≡ remove wires 0
    → more ≡ jobs ++ job_of number place wire ∷ [] → more ++ jobs_of (number + 1) less_places less_wires ≡ all
jobs_push number [] wires jobs all place wire ps ws more so some_place some_wire place_is places_are wire_is wires_are more_is = absurd (omega arith)
jobs_push number (p ∷ places) [] jobs all place wire ps ws more so some_place some_wire place_is places_are wire_is wires_are more_is = absurd (omega arith)
jobs_push number (p ∷ places) (w ∷ wires) jobs all place wire ps ws more so some_place some_wire place_is places_are wire_is wires_are more_is =
    rw (more_is, places_are, wires_are, place_is, wire_is, add-one, append_assoc) so

pub jobs_all : {W : Type 0} (number : ℕ) (places : List Place) (wires : List W) (jobs : List (Job W)) (all : List (Job W)) → jobs ++ jobs_of number places wires ≡ all → length places ≡ 0 → jobs ≡ all
jobs_all number [] wires jobs all so none = sym (append-nil jobs) ∙ so
jobs_all number (p ∷ places) wires jobs all so none = absurd (omega arith)

-- nodes that are all tied to the base are a forest
pub forest_of_base : (nodes : List NodeSpec) → nodes ≡ replicate 65 (record { parent = 0; tied = true }) → IsTrue (is_forest nodes)
forest_of_base nodes e = ap is_forest e ∙ refl
