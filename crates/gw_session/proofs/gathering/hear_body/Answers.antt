use Rattle.std.proofs.Common.{ℕ, ◌≡◌, List, Bor, sym, ◌∙◌, ap}
use Rattle.gw_transport.specs.Uploading.{continue_of}
use Rattle.gw_session.specs.Passing.{expects}
use Rattle.gw_session.proofs.GatherLemmas.{body_empty, body_gathered, body_untold, invites, whole_empty, whole_gathered}
use Rattle.gw_session.proofs.gathering.hear_body.Goals.{then-expects, else-expects}
use Rattle.gw_session.proofs.gathering.hear_body.Goals as goal

pub returns-then-done-clause-step : goal.returns-then-done-clause-step
returns-then-done-clause-step g c =
    rw (c.new-then-done.ensures, c.new.ensures.items)
    (body_empty _ _ _ _ _ _ c.requires.fresh c.requires.begun c.requires.counted (sym c.if-done.true ∙ c.done.ensures))

pub returns-then-done-clause-whole : goal.returns-then-done-clause-whole
returns-then-done-clause-whole g c =
    rw (c.new-then-done.ensures, c.new.ensures.items)
    (whole_empty _ _ c.requires.begun c.requires.counted (sym c.if-done.true ∙ c.done.ensures))

pub returns-in-All-clause-step : goal.returns-in-All-clause-step
returns-in-All-clause-step g c =
    let chosen : c.if-expects.text.now ≡ continue_of (expects c.args.head.now) =
    elim c.if-expects.branch [
      | then-expects w ↦ ap (λ (t : Bor (List ℕ)). t.now) w.text-is ∙ ap continue_of (sym w.if-expects.true ∙ c.expects.ensures)
      | else-expects w ↦ ap (λ (t : Bor (List ℕ)). t.now) w.text-is ∙ ap continue_of (sym w.if-expects.false ∙ c.expects.ensures)
    ] in
    body_gathered _ _ _ _ _ _ _ _ _ _ _ _ _ c.in-All.is c.requires.begun (invites c.args.head.now _ _ c.requires.begun c.requires.counted (sym c.if-done.false ∙ c.done.ensures) chosen) c.write_text.ensures c.gather.ensures.step

pub returns-in-All-clause-whole : goal.returns-in-All-clause-whole
returns-in-All-clause-whole g c = whole_gathered _ _ _ _ _ _ _ _ _ c.requires.begun c.requires.counted c.gather.ensures.step

pub returns-in_default : goal.returns-in_default
returns-in_default g c =
    let chosen : c.if-expects.text.now ≡ continue_of (expects c.args.head.now) =
    elim c.if-expects.branch [
      | then-expects w ↦ ap (λ (t : Bor (List ℕ)). t.now) w.text-is ∙ ap continue_of (sym w.if-expects.true ∙ c.expects.ensures)
      | else-expects w ↦ ap (λ (t : Bor (List ℕ)). t.now) w.text-is ∙ ap continue_of (sym w.if-expects.false ∙ c.expects.ensures)
    ] in
    record {
      step = body_untold _ _ _ _ _ _ _ _ _ _ c.in_default.not-All (invites c.args.head.now _ _ c.requires.begun c.requires.counted (sym c.if-done.false ∙ c.done.ensures) chosen) c.write_text.ensures;
      whole = tt;
    }
