-- A history that grows by one entry.
use Rattle.std.proofs.Common.{◌≡◌, ℕ, List, [], ◌∷◌, ◌++◌, Some, refl, ap, sym, ◌∙◌}
use Rattle.gw_pool.specs.declared.limits.Limits.{Limits}
use Rattle.gw_pool.specs.declared.entry.Entry.{Entry}
use Rattle.gw_pool.specs.declared.entry.Call.{Call}
use Rattle.gw_pool.specs.State.{State, empty}
use Rattle.gw_pool.specs.Machine.{Outcome, step}
use Rattle.gw_pool.specs.History.{IsLegal, LegalFrom, after, after_from, moved, reply_of, state_of}
use Rattle.gw_pool.specs.Core.{entry_of}

pub after_from_push : (limits : Limits) (s : State) (h : List Entry) (e : Entry) → after_from limits s (h ++ e ∷ []) ≡ moved limits (after_from limits s h) e
after_from_push limits s [] e = refl
after_from_push limits s (x ∷ h) e = after_from_push limits (moved limits s x) h e

pub legal_from_push : (limits : Limits) (s : State) (h : List Entry) (e : Entry) → LegalFrom limits s h → (reply_of (step limits (after_from limits s h) e.caller e.call) ≡ Some e.reply) → LegalFrom limits s (h ++ e ∷ [])
legal_from_push limits s [] e l f = (f, tt)
legal_from_push limits s (x ∷ h) e l f = (l.0, legal_from_push limits (moved limits s x) h e l.1 f)

-- the machine's step is made: the history stays legal, and its state is that of the step
pub record Made (limits : Limits) (h : List Entry) (caller : ℕ) (asked : Call) (outcome : Outcome) : Type 0 where
  pub legal : IsLegal limits (h ++ entry_of caller asked outcome.reply ∷ [])
  pub state : outcome.state ≡ after limits (h ++ entry_of caller asked outcome.reply ∷ [])

pub made : (limits : Limits) (h : List Entry) (caller : ℕ) (asked : Call) (outcome : Outcome) → IsLegal limits h → step limits (after limits h) caller asked ≡ Some outcome → Made limits h caller asked outcome
unfolding IsLegal after moved
made limits h caller asked outcome l f = record {
  legal = legal_from_push limits empty h (entry_of caller asked outcome.reply) l (ap reply_of f);
  state = sym (after_from_push limits empty h (entry_of caller asked outcome.reply) ∙ ap (λ o. state_of (after_from limits empty h) o) f);
}

-- the state after an entry is that of its step
pub entered_state : (limits : Limits) (h : List Entry) (caller : ℕ) (asked : Call) (outcome : Outcome) → step limits (after limits h) caller asked ≡ Some outcome → after limits (h ++ entry_of caller asked outcome.reply ∷ []) ≡ outcome.state
unfolding after moved
entered_state limits h caller asked outcome f = after_from_push limits empty h (entry_of caller asked outcome.reply) ∙ ap (λ o. state_of (after_from limits empty h) o) f
