use Rattle.std.proofs.Common.{◌≡◌, ◌+◌, ◌++◌, ◌∷◌, [], suc, All, length, refl, ap, sym, subst, ◌∙◌, arith, append-nil}
use Rattle.std.proofs.lemmas.List.{length_push}
use Rattle.std.proofs.lemmas.List.Elements.{All-tail}
use Rattle.gw_ctxwords.specs.Calls as words
use Rattle.gw_gate.specs.Seat as gate
use Rattle.gw_turn.specs.Pass.{PassState}
use Rattle.gw_top.specs.Closing.{IsBack, ctx_with, ctxs_of, gate_with, gates_of, pass_with, passes_of}
use Rattle.gw_top.specs.Crew.{workers_of}
use Rattle.gw_top.proofs.JoinLemmas.{fold_step, front_of, none_left, some_left, workers_step}
use Rattle.gw_top.proofs.closing.join_all.Goals as goal

pub loop-joined-init : goal.loop-joined-init
loop-joined-init g c =
    let one : length c.push_reserved.new.self.items ≡ 1 = ap length (c.push_reserved.ensures.items ∙ ap (λ l. l ++ c.args.first.worker ∷ []) c.requires.nobody) in
    let same = c.push_reserved.ensures.capacity in
    let room = c.requires.room in
    (refl, refl, refl, refl, c.requires.first.pool, c.requires.first.gate, c.requires.first.words, c.requires.rest, (omega arith), (omega arith))

pub loop-joined-preserved : goal.loop-joined-preserved
loop-joined-preserved g c =
    let i = c.loop-joined.invariant in
    let job = c.remove-worker.result in
    let left = c.remove-worker.new.self.items in
    let some = some_left c.loop-joined.rest.items c.args.rest.items _ _ _ i.8 c.len-joined-end.ensures c.args.rest.ok.0 c.loop-joined-test.true in
    let front : c.loop-joined.rest.items ≡ job ∷ left = front_of c.loop-joined.rest.items job some c.remove-worker.ensures.value ∙ ap (λ l. job ∷ l) (sym c.remove-worker.ensures.items) in
    let one_less : length c.loop-joined.rest.items ≡ suc (length left) = ap length front in
    let one_more : length c.push_reserved-in-loop-joined.new.self.items ≡ length c.loop-joined.workers.items + 1 =
    ap length c.push_reserved-in-loop-joined.ensures.items ∙ length_push c.loop-joined.workers.items job.worker in
    let same = c.push_reserved-in-loop-joined.ensures.capacity in
    let count = i.8 in
    let room = i.9 in (
      fold_step pass_with _ _ _ _ _ job front c.join_pass.ensures i.0,
      fold_step gate_with _ _ _ _ _ job front c.join.ensures i.1,
      fold_step ctx_with _ _ _ _ _ job front c.join-in-loop-joined.ensures i.2,
      workers_step _ _ _ _ _ job front c.push_reserved-in-loop-joined.ensures.items i.3,
      ap (λ (p : PassState). p.pool) c.join_pass.ensures ∙ i.4,
      ap (λ (s : gate.SeatState). s.name.gate) c.join.ensures ∙ i.5,
      ap (λ (s : words.SeatState). s.table) c.join-in-loop-joined.ensures ∙ i.6,
      All-tail (IsBack c.args.house.now) job left (subst (λ l. All (IsBack c.args.house.now) l) front i.7),
      (omega arith),
      (omega arith),
    )

pub remove-worker-requires : goal.remove-worker-requires
remove-worker-requires g c =
    let some = some_left c.loop-joined.rest.items c.args.rest.items _ _ _ c.loop-joined.invariant.8 c.len-joined-end.ensures c.args.rest.ok.0 c.loop-joined-test.true in
    let len = c.loop-joined.rest.ok.0 in
    omega arith

pub join_pass-requires : goal.join_pass-requires
join_pass-requires g c =
    let i = c.loop-joined.invariant in
    let some = some_left c.loop-joined.rest.items c.args.rest.items _ _ _ i.8 c.len-joined-end.ensures c.args.rest.ok.0 c.loop-joined-test.true in
    (i.4, (subst (λ j. IsBack c.args.house.now j) (sym c.remove-worker.ensures.value) (i.7 0 c.remove-worker.result some)).pool)

pub join-requires : goal.join-requires
join-requires g c =
    let i = c.loop-joined.invariant in
    let some = some_left c.loop-joined.rest.items c.args.rest.items _ _ _ i.8 c.len-joined-end.ensures c.args.rest.ok.0 c.loop-joined-test.true in
    let back = subst (λ j. IsBack c.args.house.now j) (sym c.remove-worker.ensures.value) (i.7 0 c.remove-worker.result some) in
    record { seats = (i.5, back.gate); outside = back.outside }

pub join-requires-in-loop-joined : goal.join-requires-in-loop-joined
join-requires-in-loop-joined g c =
    let i = c.loop-joined.invariant in
    let some = some_left c.loop-joined.rest.items c.args.rest.items _ _ _ i.8 c.len-joined-end.ensures c.args.rest.ok.0 c.loop-joined-test.true in
    record { seats = (i.6, (subst (λ j. IsBack c.args.house.now j) (sym c.remove-worker.ensures.value) (i.7 0 c.remove-worker.result some)).words) }

pub push_reserved-requires-in-loop-joined : goal.push_reserved-requires-in-loop-joined
push_reserved-requires-in-loop-joined g c =
    let i = c.loop-joined.invariant in
    let some = some_left c.loop-joined.rest.items c.args.rest.items _ _ _ i.8 c.len-joined-end.ensures c.args.rest.ok.0 c.loop-joined-test.true in
    let room = i.9 in
    let len = c.loop-joined.workers.ok.0 in
    omega arith

-- nothing is left to be joined
pub returns : goal.returns
returns g c =
    let i = c.loop-joined.invariant in
    let nil = none_left c.loop-joined.rest.items c.args.rest.items _ _ _ i.8 c.len-joined-end.ensures c.args.rest.ok.0 c.loop-joined-test.false in
    let workers = c.loop-joined.workers.items in
    record {
      pass = ap (λ l. passes_of c.loop-joined.pass l) (sym nil) ∙ i.0;
      gate = ap (λ l. gates_of c.loop-joined.gate_seat l) (sym nil) ∙ i.1;
      ctx = ap (λ l. ctxs_of c.loop-joined.ctx_seat l) (sym nil) ∙ i.2;
      workers = sym (append-nil workers) ∙ ap (λ l. workers ++ workers_of l) (sym nil) ∙ i.3
          ∙ ap (λ l. l ++ workers_of c.args.rest.items) (c.push_reserved.ensures.items ∙ ap (λ l. l ++ c.args.first.worker ∷ []) c.requires.nobody);
    }
