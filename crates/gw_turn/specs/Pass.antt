-- A pass as its callers see it.
use Rattle.std.specs.Prelude.{◌≡◌, ℕ, zero, suc, ◌≤◌, true, false, List, [], ◌∷◌, ◌++◌}
use Rattle.atomic_table.specs.Seated.{TableId}
use Rattle.gw_pool.specs.declared.limits.Limits.{Limits}
use Rattle.gw_pool.specs.declared.entry.Entry.{Entry}
use Rattle.gw_pool.specs.Lent.{Lent}
use Rattle.gw_pool.specs.Tokens.{TokensView}
use Rattle.gw_turn.specs.declared.view.Member.{Member}
use Rattle.gw_turn.specs.declared.view.PassView.{PassView}
use Rattle.gw_turn.specs.Turn.{spent}
use Rattle.gw_turn.specs.Steps.{lent_of, longer}

-- whose pass it is, what it knows, what the passes knew that were joined into it, and the histories that a pass had seen
-- when others were joined into it
pub record PassState : Type 0 where
  pub pool : TableId
  pub lent : Lent
  pub joined : List Member
  pub past : List (List Entry)

-- what no call changes of a pass that is lent: which loan it is, of which pool, and what was joined into it
pub record Keeper : Type 0 where
  pub loan : ℕ
  pub pool : TableId
  pub joined : List Member
  pub past : List (List Entry)

abbrev pub keeper : ℕ → PassState → Keeper
keeper loan p = record { loan = loan; pool = p.pool; joined = p.joined; past = p.past }

abbrev pub state_of : TableId → List PassView → PassState
state_of pool [] = record { pool = pool; lent = lent_of spent; joined = []; past = [] }
state_of pool (v ∷ vs) = record { pool = pool; lent = lent_of v; joined = v.joined; past = v.past }

-- what a pass has beside its seat
pub record IsPass (views : List PassView) (out : TokensView) (waits number : ℕ) : Type 0 where
  pub view : PassView
  pub is_view : views ≡ view ∷ []
  pub live : view.live ≡ true
  pub idle : view.turn ≡ false
  pub same_out : view.own.out ≡ out.out
  pub same_waits : view.waits ≡ waits
  pub same_number : view.own.number ≡ number
  pub has_room : view.limits.per_pass ≤ out.room

-- what a pass knows of itself, as one that was joined into another
abbrev pub member_of : PassState → Member
member_of p = record { number = p.lent.number; seen = p.lent.seen; mine = p.lent.mine; out = p.lent.out }

-- a pass into which another was joined: it knows the longer history, and no want is fresh
abbrev pub with_pass : PassState → PassState → PassState
with_pass a b = record a { lent = record a.lent { seen = longer a.lent.seen b.lent.seen; fresh = [] }; joined = a.joined ++ member_of b ∷ b.joined; past = a.lent.seen ∷ (a.past ++ b.past) }

-- a pass of which nothing was asked
abbrev pub fresh_pass : TableId → Limits → ℕ → PassState
fresh_pass pool limits n = record { pool = pool; lent = record { limits = limits; number = n; seen = []; mine = []; out = []; waits = 0; fresh = []; audit_failed = 0; ended = false }; joined = []; past = [] }

abbrev pub fresh_passes : TableId → Limits → ℕ → ℕ → List PassState
fresh_passes pool limits n zero = []
fresh_passes pool limits n (suc k) = fresh_pass pool limits n ∷ fresh_passes pool limits (suc n) k
