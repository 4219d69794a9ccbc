-- The law of the turn, for readers.
use Rattle.std.specs.Prelude.{◌≡◌, ℕ, List, true, find, length, slice_index, None}
use mathlib.Core.Option.{some}
use lib.ListN.{get_elem?}
use Rattle.gw_pool.specs.declared.limits.Limits.{Limits}
use Rattle.gw_pool.specs.declared.entry.Entry.{Entry}
use Rattle.gw_pool.specs.History.{IsLegal, AreBelow, after}
use Rattle.gw_pool.specs.Machine.{units}
use Rattle.gw_pool.specs.Shelf.{is_among}
use Rattle.gw_pool.specs.Ties.{Among}
use Rattle.gw_pool.specs.Tokens.{names}
use Rattle.gw_turn.specs.declared.view.Member.{Member}
use Rattle.gw_turn.specs.declared.view.PassView.{PassView}
use Rattle.gw_turn.specs.Turn.{TurnState, members_of, Begins, IsKept}
use Rattle.gw_turn.specs.Steps.{IsIn}

-- One legal history of the pool's callers, whose length is the count word. One pass has seen all of it; each has seen a
-- beginning of it, as it had when another was joined into it, and its own entries are those of its number in it; and each
-- unit of a pass at its end is a want that the pass's tokens name.
pub record OneHistory (limits : Limits) (s : TurnState) : Type 0 where
  pub history : List Entry
  pub legal : IsLegal limits history
  pub callers : AreBelow limits.passes history
  pub count : slice_index s.words 1 ≡ length history
  pub longest : (id : ℕ) × (v : PassView) × (get_elem? s.views id ≡ some v) × (v.own.seen ≡ history)
  pub own : (id : ℕ) (v : PassView) (m : Member) → get_elem? s.views id ≡ some v → Among m (members_of v) → IsIn history m
  pub past : (id : ℕ) (v : PassView) (seen : List Entry) → get_elem? s.views id ≡ some v → Among seen v.past → Begins history seen
  pub named : (id : ℕ) (v : PassView) (m : Member) (want : ℕ) → get_elem? s.views id ≡ some v → Among m (members_of v) → is_among want (units (after limits history) m.number) ≡ true → find (names want) m.out ≡ None → ⊥

-- it stands in every state that meets the rule of the turn, which holds between any two steps
abbrev pub HistoryIsOne : Type 0
HistoryIsOne = (limits : Limits) (s : TurnState) → IsKept limits s → OneHistory limits s
