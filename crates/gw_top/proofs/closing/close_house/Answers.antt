use Rattle.std.proofs.Common.{◌≡◌, true, List, [], All, ap, sym, subst, ◌∙◌}
use Rattle.std.proofs.lemmas.List.Elements.{All-head, All-tail}
use Rattle.gw_ctxwords.specs.Calls as words
use Rattle.gw_gate.specs.Seat as gate
use Rattle.gw_pool.specs.declared.limits.Limits.{Limits}
use Rattle.gw_pool.specs.Idle.{idle_links}
use Rattle.gw_turn.specs.declared.view.Member.{Member}
use Rattle.gw_turn.specs.Pass.{PassState}
use Rattle.gw_top.specs.Closing.{IsBack, no_tail}
use Rattle.gw_top.specs.Crew.{workers_of}
use Rattle.gw_top.specs.Run.{AllRun, StopsRightly}
use Rattle.gw_top.proofs.CloseLemmas.{IsJournal, all_are_back, alone, closed, ended_at, ended_front}
use Rattle.gw_top.proofs.closing.close_house.Goals as goal

pub join_all-pass-requires-clause-first : goal.join_all-pass-requires-clause-first
join_all-pass-requires-clause-first g c κs within =
    let e = ended_at g.W.Wire.wire c.args.house c.args.table.now c.args.jobs.items c.remove-first.new.self.items c.remove-first.result c.requires.ended c.remove-first.ensures.value c.remove-first.ensures.items in
    All-head (IsBack c.args.house) c.remove-first.result c.remove-first.new.self.items (all_are_back g.W.Wire.wire c.args.house c.args.table.now _ e)

pub join_all-pass-requires-clause-rest : goal.join_all-pass-requires-clause-rest
join_all-pass-requires-clause-rest g c κs within =
    let e = ended_at g.W.Wire.wire c.args.house c.args.table.now c.args.jobs.items c.remove-first.new.self.items c.remove-first.result c.requires.ended c.remove-first.ensures.value c.remove-first.ensures.items in
    All-tail (IsBack c.args.house) c.remove-first.result c.remove-first.new.self.items (all_are_back g.W.Wire.wire c.args.house c.args.table.now _ e)

pub close-cause-requires-clause-seat : goal.close-cause-requires-clause-seat
close-cause-requires-clause-seat g c =
    let e = ended_at g.W.Wire.wire c.args.house c.args.table.now c.args.jobs.items c.remove-first.new.self.items c.remove-first.result c.requires.ended c.remove-first.ensures.value c.remove-first.ensures.items in
    ap (λ (s : words.SeatState). s.table) c.join_all-pass.ensures.ctx ∙ (alone _ _ _ _ _ e).words_is

pub close-cause-requires-clause-alone : goal.close-cause-requires-clause-alone
close-cause-requires-clause-alone g c =
    let e = ended_at g.W.Wire.wire c.args.house c.args.table.now c.args.jobs.items c.remove-first.new.self.items c.remove-first.result c.requires.ended c.remove-first.ensures.value c.remove-first.ensures.items in
    ap (λ (s : words.SeatState). s.view.room) c.join_all-pass.ensures.ctx ∙ (alone _ _ _ _ _ e).ctxs

pub close-shut-requires-clause-seat : goal.close-shut-requires-clause-seat
close-shut-requires-clause-seat g c =
    let e = ended_at g.W.Wire.wire c.args.house c.args.table.now c.args.jobs.items c.remove-first.new.self.items c.remove-first.result c.requires.ended c.remove-first.ensures.value c.remove-first.ensures.items in
    ap (λ (s : gate.SeatState). s.name.gate) c.join_all-pass.ensures.gate ∙ (alone _ _ _ _ _ e).gate_is

pub close-shut-requires-clause-alone : goal.close-shut-requires-clause-alone
close-shut-requires-clause-alone g c =
    let e = ended_at g.W.Wire.wire c.args.house c.args.table.now c.args.jobs.items c.remove-first.new.self.items c.remove-first.result c.requires.ended c.remove-first.ensures.value c.remove-first.ensures.items in
    ap (λ (s : gate.SeatState). s.view.room) c.join_all-pass.ensures.gate ∙ (alone _ _ _ _ _ e).gates

pub close-requires-clause-pool : goal.close-requires-clause-pool
close-requires-clause-pool g c =
    let e = ended_at g.W.Wire.wire c.args.house c.args.table.now c.args.jobs.items c.remove-first.new.self.items c.remove-first.result c.requires.ended c.remove-first.ensures.value c.remove-first.ensures.items in
    ap (λ (p : PassState). p.pool) c.join_all-pass.ensures.pass ∙ (alone _ _ _ _ _ e).pool

pub close-requires-clause-alone : goal.close-requires-clause-alone
close-requires-clause-alone g c =
    let e = ended_at g.W.Wire.wire c.args.house c.args.table.now c.args.jobs.items c.remove-first.new.self.items c.remove-first.result c.requires.ended c.remove-first.ensures.value c.remove-first.ensures.items in
    rw c.join_all-pass.ensures.pass (alone _ _ _ _ _ e).passes

pub close-requires-clause-spent : goal.close-requires-clause-spent
close-requires-clause-spent g c =
    let e = ended_at g.W.Wire.wire c.args.house c.args.table.now c.args.jobs.items c.remove-first.new.self.items c.remove-first.result c.requires.ended c.remove-first.ensures.value c.remove-first.ensures.items in
    let a = alone _ _ _ _ _ e in
    let is = c.join_all-pass.ensures.pass in (
      ap (λ (p : PassState). p.lent.out) is ∙ a.out,
      subst (λ (l : List Member). All (λ (m : Member). m.out ≡ []) l) (sym (ap (λ (p : PassState). p.joined) is)) a.spent,
    )

-- the facts of the closes are those of the joined pass and seats
pub returns-in-Ok : goal.returns-in-Ok
returns-in-Ok g c =
    let wire = g.W.Wire.wire in
    let table = c.args.table.now in
    let first = c.remove-first.result in
    let rest = c.remove-first.new.self.items in
    let e = ended_at wire c.args.house table c.args.jobs.items rest first c.requires.ended c.remove-first.ensures.value c.remove-first.ensures.items in
    let front = ended_front wire c.args.house table c.args.jobs.items rest first c.requires.ended c.remove-first.ensures.value c.remove-first.ensures.items in
    let joined = c.join_all-pass.ensures in
    let last = c.join_all-pass.result.pass in
    let journal = c.in-Ok.field-0.journal.items in
    let k = c.in-Ok.ensures in
    let limits : last.lent.limits ≡ table.limits = ap (λ (p : PassState). p.lent.limits) joined.pass ∙ (alone _ _ _ _ _ e).limits in
    let whole : IsJournal last journal = record { seen = k.journal; legal = k.legal; callers = k.callers; own = k.own; joined = k.joined; past = k.past } in
    let run = closed wire c.args.house table first rest journal c.args.house.ctx.nodes c.close-cause.result e (subst (λ (p : PassState). IsJournal p journal) joined.pass whole)
    (subst (λ (s : gate.SeatState). s.view.seen_shut ≡ true → s.view.shut ≡ true) joined.gate c.close-shut.ensures.seen)
    (subst (λ (s : words.SeatState). words.Closes c.args.house.ctx.nodes s.view c.close-cause.result) joined.ctx c.close-cause.ensures) in
    record {
      parts = run.parts;
      workers = joined.workers ∙ ap workers_of (sym front);
      legal = run.legal;
      callers = run.callers;
      each = subst (λ ws. AllRun wire table journal no_tail 0 ws run.parts) (sym joined.workers) run.each;
      stops = subst (λ ws. StopsRightly wire table.grace_ms ws run.parts) (sym joined.workers) run.stops;
      idle = k.idle ∙ ap (λ (l : Limits). idle_links l last.lent.seen) limits ∙ ap (idle_links table.limits) (sym k.journal);
    }
