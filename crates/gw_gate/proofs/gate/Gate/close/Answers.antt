use Rattle.std.proofs.Common.{◌≡◌, ◌∙◌, subst, ap, true}
use Rattle.std.proofs.lemmas.Bool.{leb-true, le-leb}
use Rattle.gw_gate.specs.Seat.{SeatState}
use Rattle.gw_gate.specs.declared.view.GateView.{GateView}
use Rattle.gw_gate.specs.Gate.{IsShut}
use Rattle.gw_gate.proofs.Handing.{last_word}
use Rattle.gw_gate.proofs.gate.Gate.close.Goals as goal

-- what the word at the end tells of the last seat
told : (c : goal.After-free) → ((IsShut c.word-word.result → c.args.last.view.shut ≡ true) × (c.args.last.view.shut ≡ true → IsShut c.word-word.result))
    × (c.args.last.view.seen_shut ≡ true → c.args.last.view.shut ≡ true)
told c =
    let final = c.close_with-closed.ensures.values.2 in
    subst (λ (v : GateView). ((IsShut c.word-word.result → v.shut ≡ true) × (v.shut ≡ true → IsShut c.word-word.result)) × (v.seen_shut ≡ true → v.shut ≡ true))
    (ap (λ (x : SeatState). x.view) c.last.view_is)
    (last_word final.0 _ _ _ _ final.1.0 final.1.1 final.2 c.word-word.ensures (ap (λ (x : SeatState). x.view.room) c.last.view_is ∙ c.requires.alone))

pub returns-clause-shut : goal.returns-clause-shut
returns-clause-shut c = ((λ above. (told c).0.0 (leb-true _ _ above)), (λ shut. le-leb _ _ ((told c).0.1 shut)))

pub returns-clause-seen : goal.returns-clause-seen
returns-clause-seen c = (told c).1
