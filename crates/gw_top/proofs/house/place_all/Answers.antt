use Rattle.std.proofs.Common.{ℕ, [], ◌∷◌, ◌++◌, arith, ap, ◌∙◌, ◌≡◌, ◌+◌, ◌<◌, ◌≤◌, ◌-◌, refl}
use Rattle.gw_ctxwords.specs.Steps.{split_right as ctx_right}
use Rattle.gw_gate.specs.Steps.{split_right as gate_right}
use Rattle.gw_turn.specs.Pass.{fresh_passes}
use Rattle.gw_top.specs.declared.house.Place.{Place}
use Rattle.gw_top.proofs.SetupLemmas.{next_place, placed_all, placed_more, some_left}
use Rattle.gw_top.proofs.house.place_all.Goals as goal

pub loop-number-init : goal.loop-number-init
loop-number-init g c =
    let none = c.in_ok-places.ensures.items in
    let whole : c.args.limits.passes ≡ c.args.limits.passes - 0 = omega arith in (
      record {
        left = c.requires.passes ∙ ap (λ (k : ℕ). fresh_passes c.args.house.now.pool c.args.limits 0 k) whole;
        gate = c.requires.gate.0;
        unshut = c.requires.gate.1;
        words = c.requires.words.0;
        live = c.requires.words.1;
        seated = rw none tt;
        count = rw none refl;
        gates = rw none refl;
        rooms = rw none refl;
      },
      omega (arith, c.in_ok-places.ensures.capacity),
    )

pub remove-requires : goal.remove-requires
remove-requires g c =
    let l = c.loop-number in
    let some = some_left c.args.house.now c.args.limits l.number l.passes.items l.gate_seat l.ctx_seat l.places.items l.invariant.0 (omega (arith, c.loop-number-test.true)) in
    omega (arith, some, l.passes.ok.0)

pub split-requires-clause-seat : goal.split-requires-clause-seat
split-requires-clause-seat g c = c.loop-number.invariant.0.gate

pub split-requires-clause-room : goal.split-requires-clause-room
split-requires-clause-room g c = rw c.loop-number.invariant.0.unshut (omega (arith, c.loop-number-test.true, c.requires.count.1))

pub split-requires-in-loop-number-clause-seat : goal.split-requires-in-loop-number-clause-seat
split-requires-in-loop-number-clause-seat g c = c.loop-number.invariant.0.words

pub split-requires-in-loop-number-clause-room : goal.split-requires-in-loop-number-clause-room
split-requires-in-loop-number-clause-room g c = rw c.loop-number.invariant.0.live (omega (arith, c.loop-number-test.true, c.requires.count.1))

pub push_reserved-requires : goal.push_reserved-requires
push_reserved-requires g c = omega (arith, c.loop-number.invariant.0.count, c.loop-number.places.ok.0, c.loop-number-test.true)

pub loop-number-preserved : goal.loop-number-preserved
loop-number-preserved g c =
    let l = c.loop-number in
    let lt : l.number < c.args.limits.passes = omega (arith, c.loop-number-test.true) in
    let gate_made = c.in_ok-split.ensures.made in
    let ctx_made = c.in_ok-split-2.ensures.made in
    let gate_view = gate_made.1 ∙ ap gate_right l.invariant.0.unshut in
    let ctx_view = ap (λ s. s.view) ctx_made ∙ ap ctx_right l.invariant.0.live in
    let place : Place = record { pass = c.remove.result; gate_seat = c.in_ok-split.field-0; ctx_seat = c.in_ok-split-2.field-0; buffers = c.in_ok-new.field-0 } in
    let is = next_place c.args.house.now c.args.limits l.number l.passes.items l.gate_seat l.ctx_seat l.places.items l.invariant.0 lt c.requires.nodes
    place 1 c.remove.ensures.value gate_made.0 gate_view (ap (λ s. s.table) ctx_made) ctx_view c.in_ok-new.ensures.room in
    let more = placed_more c.args.house.now c.args.limits l.number l.passes.items l.gate_seat l.ctx_seat l.places.items l.invariant.0 lt place is gate_view ctx_view
    c.remove.new.self.items c.split.new.s c.split-in-loop-number.new.s c.push_reserved.new.self.items c.remove.ensures.items c.split.ensures.old c.split-in-loop-number.ensures.old c.push_reserved.ensures.items in
    (more, omega (arith, c.push_reserved.ensures.capacity))

pub remove-requires-2 : goal.remove-requires-2
remove-requires-2 g c =
    let l = c.loop-number in
    let some = some_left c.args.house.now c.args.limits l.number l.passes.items l.gate_seat l.ctx_seat l.places.items l.invariant.0 (omega (arith, l.auto.number-end, c.requires.count.0)) in
    omega (arith, some, l.passes.ok.0)

pub push_reserved-requires-2 : goal.push_reserved-requires-2
push_reserved-requires-2 g c = omega (arith, c.loop-number.invariant.0.count, c.loop-number.places.ok.0, c.loop-number.auto.number-end, c.requires.count.0)

pub returns : goal.returns
returns g c =
    let l = c.loop-number in
    let last : l.number + 1 ≡ c.args.limits.passes = omega (arith, l.auto.number-end, c.loop-number-test.false, c.requires.count.0) in
    let few : l.number ≤ 64 = omega (arith, last, c.requires.count.1) in
    let lt : l.number < c.args.limits.passes = omega (arith, last) in
    let place : Place = record { pass = c.remove-2.result; gate_seat = l.gate_seat; ctx_seat = l.ctx_seat; buffers = c.in_ok-new-2.field-0 } in
    let items : c.push_reserved-2.new.self.items ≡ l.places.items ++ place ∷ [] = cc (c.push_reserved-2.ensures.items) in
    let is = next_place c.args.house.now c.args.limits l.number l.passes.items l.gate_seat l.ctx_seat l.places.items l.invariant.0 lt c.requires.nodes
    place (64 - l.number) c.remove-2.ensures.value l.invariant.0.gate l.invariant.0.unshut l.invariant.0.words l.invariant.0.live c.in_ok-new-2.ensures.room in
    let all = placed_all c.args.house.now c.args.limits l.number l.passes.items l.gate_seat l.ctx_seat l.places.items l.invariant.0 last few place is refl refl
    c.push_reserved-2.new.self.items items in
    record { places = all.0; count = all.1; gates = all.2; words = all.3 }
