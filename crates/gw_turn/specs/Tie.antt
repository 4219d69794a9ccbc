-- What ties the tokens of one of several callers to the rows of the pool, and what a call of one leaves of it to the
-- others.
use Rattle.std.specs.Prelude.{◌≡◌, ℕ, ◌+◌, ◌<◌, ◌≤◌, true, false, List, find, sum_by, None}
use Rattle.gw_pool.specs.declared.holding.Holding.{Holding}
use Rattle.gw_pool.specs.State.{State}
use Rattle.gw_pool.specs.Shelf.{is_among}
use Rattle.gw_pool.specs.Tokens.{names, has_ticket, has_dial, has_lease}
use Rattle.gw_pool.specs.Ties.{one, bit, weight, occ_of, dials_of}

-- A caller's tokens name wants of its own alone, each once. A want of its own that has a row or a connection has its
-- ticket or its lease out, and one that is being dialed for its dial token. The connection of a want whose ticket is out
-- wasn't handed out.
pub record Ties (by : ℕ → ℕ) (caller : ℕ) (s : State) (out : List Holding) (taken : List ℕ) : Type 0 where
  pub own : (w : ℕ) → (by w ≡ caller → ⊥) → find (names w) out ≡ None
  pub made : (w : ℕ) → s.next_want ≤ w → find (names w) out ≡ None
  pub once : (w : ℕ) → sum_by (λ (h : Holding). one w h.want) out ≤ 1
  pub held : (w : ℕ) → by w ≡ caller → weight (occ_of w) s ≤ bit (has_ticket w out) + bit (has_lease w out)
  pub dials : (w : ℕ) → by w ≡ caller → dials_of w s.dials ≡ bit (has_dial w out)
  pub untaken : (w : ℕ) → has_ticket w out ≡ true → is_among w taken ≡ false

-- what a call of one caller leaves as it was
pub record Spares (by by' : ℕ → ℕ) (caller : ℕ) (s t : State) (taken taken' : List ℕ) : Type 0 where
  pub kept : (w : ℕ) → w < s.next_want → by' w ≡ by w
  pub same : (w : ℕ) → (by' w ≡ caller → ⊥) → by' w ≡ by w
  pub more : s.next_want ≤ t.next_want
  pub occ : (w : ℕ) → (by' w ≡ caller → ⊥) → weight (occ_of w) t ≤ weight (occ_of w) s
  pub dials : (w : ℕ) → (by' w ≡ caller → ⊥) → dials_of w t.dials ≡ dials_of w s.dials
  pub lent : (w : ℕ) → (by' w ≡ caller → ⊥) → is_among w taken ≡ false → is_among w taken' ≡ false

-- no connection of a want that wasn't made was handed out
abbrev pub Fresh : State → List ℕ → Type 0
Fresh s taken = (w : ℕ) → s.next_want ≤ w → is_among w taken ≡ false

-- a call of one caller, by which its tokens become others
pub record Moves (by by' : ℕ → ℕ) (caller : ℕ) (s t : State) (taken taken' : List ℕ) (out out' : List Holding) : Type 0 where
  pub own : Ties by' caller t out' taken'
  pub others : Spares by by' caller s t taken taken'
  pub fresh : Fresh s taken → Fresh t taken'
