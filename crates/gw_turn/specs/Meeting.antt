-- A pass that has the turn meets the pool; what it may do to it.
use Rattle.std.specs.Prelude.{◌≡◌, ℕ, ◌<◌, List, [], ◌∷◌, ◌++◌, length, drop}
use Rattle.gw_pool.specs.declared.entry.Entry.{Entry}
use Rattle.gw_pool.specs.declared.holding.Holding.{Holding}
use Rattle.gw_pool.specs.History.{IsLegal, AreBelow, mine}
use Rattle.gw_pool.specs.Core.{CoreView, state_at}
use Rattle.gw_pool.specs.Lent.{Lent}
use Rattle.gw_pool.specs.Owner.{owner, made_in}
use Rattle.gw_turn.specs.Tie.{Ties, Fresh, Moves}

-- The pool's journal is all that the pass has seen, and entries of others since. The tokens of the pass are tied to the
-- rows.
pub record Meeting (l : Lent) (core : CoreView) : Type 0 where
  pub same_limits : l.limits ≡ core.limits
  pub others : List Entry
  pub since : l.seen ++ others ≡ core.journal
  pub foreign : mine others l.number ≡ []
  pub own : mine core.journal l.number ≡ l.mine
  pub legal : IsLegal core.limits core.journal
  pub callers : AreBelow core.limits.passes core.journal
  pub below : l.number < core.limits.passes
  pub few : 0 < l.limits.per_pass
  pub fresh : Fresh (state_at core) core.taken
  pub ties : Ties (owner core.journal) l.number (state_at core) l.out core.taken

-- a call of the pass leads from one state of the pool to another, and its tokens become others
abbrev pub Leads : ℕ → CoreView → CoreView → List Holding → List Holding → Type 0
Leads number core core' out out' = Moves (owner core.journal) (owner core'.journal) number (state_at core) (state_at core') core.taken core'.taken out out'

-- with one entry more, which is the pass's
pub record Entering (number : ℕ) (core core' : CoreView) (out out' : List Holding) : Type 0 where
  pub entry : Entry
  pub caller : entry.caller ≡ number
  pub limits : core'.limits ≡ core.limits
  pub journal : core'.journal ≡ core.journal ++ entry ∷ []
  pub legal : IsLegal core'.limits core'.journal
  pub leads : Leads number core core' out out'

-- with none
pub record Leaving (number : ℕ) (core core' : CoreView) (out out' : List Holding) : Type 0 where
  pub limits : core'.limits ≡ core.limits
  pub journal : core'.journal ≡ core.journal
  pub leads : Leads number core core' out out'

-- the wants that a caller's entries made, with those of its entries that it learns of now
abbrev pub fresh_with : List ℕ → List Entry → List Entry → List ℕ
fresh_with fresh before entries = fresh ++ made_in (drop (length before) entries)

-- what the pass knows then
abbrev pub known : Lent → CoreView → List Holding → ℕ → Lent
known l core out waits = record l { seen = core.journal; mine = mine core.journal l.number; out = out; waits = waits; fresh = fresh_with l.fresh l.mine (mine core.journal l.number) }
