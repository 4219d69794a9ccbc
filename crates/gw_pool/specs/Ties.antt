-- What ties a caller's tokens to the rows of the pool: what stays true of both from call to call.
use Rattle.std.specs.Prelude.{◌≡◌, ℕ, ◌+◌, ◌<◌, ◌≤◌, ◌==◌, ◌⊎◌, Bool, true, false, List, [], ◌∷◌, find, sum_by, None}
use Rattle.std.proofs.Common.{arith, cond}
use Rattle.gw_pool.specs.declared.holding.Holding.{Holding}
use Rattle.gw_pool.specs.declared.rows.Stage.{Stage}
use Rattle.gw_pool.specs.declared.rows.Stage.TheVariants.{Waiting, Granted, Dialing}
use Rattle.gw_pool.specs.declared.rows.Place.{Place}
use Rattle.gw_pool.specs.declared.rows.Place.TheVariants.{Out, Idle}
use Rattle.gw_pool.specs.declared.rows.WantRow.{WantRow}
use Rattle.gw_pool.specs.declared.rows.ConnRow.{ConnRow}
use Rattle.gw_pool.specs.declared.rows.DialRow.{DialRow}
use Rattle.gw_pool.specs.State.{State}
use Rattle.gw_pool.specs.History.{IsLegal, AreBelow, after, mine}
use Rattle.gw_pool.specs.Shelf.{is_among}
use Rattle.gw_pool.specs.Core.{CoreView}
use Rattle.gw_pool.specs.Tokens.{TokensView, names, has_ticket, has_dial, has_lease}

-- the rows among which one is
abbrev pub Among : {X : Type 0} → X → List X → Type 0
Among r [] = ⊥
Among r (x ∷ xs) = (x ≡ r) ⊎ Among r xs

-- all rows of a state are one caller's
abbrev pub OutBy : ℕ → Place → Type 0
OutBy caller (Out want c) = c ≡ caller
OutBy caller (Idle stamp since) = Unit {0}

pub record Owns (caller : ℕ) (s : State) : Type 0 where
  pub wants : (r : WantRow) → Among r s.wants → r.caller ≡ caller
  pub dials : (r : DialRow) → Among r s.dials → r.caller ≡ caller
  pub conns : (r : ConnRow) → Among r s.conns → OutBy caller r.place

-- the weight of a want that waits or may dial, of one that is being dialed for, of a dial, of a connection, and more of one that is out to a want
pub record Weigh : Type 0 where
  pub want : ℕ → ℕ
  pub dialing : ℕ → ℕ
  pub dial : ℕ → ℕ
  pub conn : ℕ → ℕ
  pub out : ℕ → ℕ
  pub start : (w : ℕ) → dialing w + dial w ≤ want w
  pub serve : (w : ℕ) → out w ≤ dialing w

abbrev pub stage_weight : Weigh → Stage → ℕ → ℕ
stage_weight g Waiting w = g.want w
stage_weight g Granted w = g.want w
stage_weight g Dialing w = g.dialing w

abbrev pub place_weight : Weigh → Place → ℕ
place_weight g (Out want caller) = g.out want
place_weight g (Idle stamp since) = 0

abbrev pub want_weight : Weigh → WantRow → ℕ
want_weight g r = stage_weight g r.stage r.want

abbrev pub conn_weight : Weigh → ConnRow → ℕ
conn_weight g r = g.conn r.conn + place_weight g r.place

unfoldable pub weight : Weigh → State → ℕ
weight g s = sum_by (want_weight g) s.wants + sum_by (λ r. g.dial r.want) s.dials + sum_by (conn_weight g) s.conns

abbrev pub one : ℕ → ℕ → ℕ
one k m = cond (m == k) 1 0

abbrev pub bit : Bool → ℕ
bit b = cond b 1 0

pub occ_start : (k w : ℕ) → one k w + 0 ≤ one k w
occ_start k w = omega arith

pub dia_start : (k w : ℕ) → 0 + one k w ≤ one k w
dia_start k w = omega arith

pub con_start : (w : ℕ) → 0 + 0 ≤ 0
con_start w = omega arith

pub self_le : (n : ℕ) → n ≤ n
self_le n = omega arith

-- how often a want stands as a want row or beside a connection; as a dial row or a want row that may come to one;
-- how often a connection stands
abbrev pub occ_of : ℕ → Weigh
occ_of k = record { want = one k; dialing = one k; dial = λ _. 0; conn = λ _. 0; out = one k; start = occ_start k; serve = λ w. self_le (one k w) }

abbrev pub dia_of : ℕ → Weigh
dia_of k = record { want = one k; dialing = λ _. 0; dial = one k; conn = λ _. 0; out = λ _. 0; start = dia_start k; serve = λ w. self_le 0 }

abbrev pub con_of : ℕ → Weigh
con_of k = record { want = λ _. 0; dialing = λ _. 0; dial = λ _. 0; conn = one k; out = λ _. 0; start = con_start; serve = λ w. self_le 0 }

abbrev pub dials_of : ℕ → List DialRow → ℕ
dials_of w dials = sum_by (λ (r : DialRow). one w r.want) dials

pub record Tied (s : State) (out : List Holding) (taken : List ℕ) : Type 0 where
  pub own : Owns 0 s
  pub occ : (w : ℕ) → weight (occ_of w) s ≤ 1
  pub dia : (w : ℕ) → weight (dia_of w) s ≤ 1
  pub con : (n : ℕ) → weight (con_of n) s ≤ 1
  pub occ_new : (w : ℕ) → s.next_want ≤ w → weight (occ_of w) s ≡ 0
  pub dia_new : (w : ℕ) → s.next_want ≤ w → weight (dia_of w) s ≡ 0
  pub con_new : (n : ℕ) → s.next_conn ≤ n → weight (con_of n) s ≡ 0
  pub out_new : (w : ℕ) → s.next_want ≤ w → find (names w) out ≡ None
  pub once : (w : ℕ) → sum_by (λ (h : Holding). one w h.want) out ≤ 1
  pub held : (w : ℕ) → weight (occ_of w) s ≤ bit (has_ticket w out) + bit (has_lease w out)
  pub dials : (w : ℕ) → dials_of w s.dials ≡ bit (has_dial w out)
  pub untaken : (w : ℕ) → has_ticket w out ≡ true → is_among w taken ≡ false
  pub taken_new : (w : ℕ) → s.next_want ≤ w → is_among w taken ≡ false

-- what stays true of a pool with one caller
pub record SoloHolds (core : CoreView) (tokens : TokensView) : Type 0 where
  pub tied : Tied (after core.limits core.journal) tokens.out core.taken
  pub legal : IsLegal core.limits core.journal
  pub passes : 0 < core.limits.passes
  pub few : 0 < core.limits.per_pass
  pub mine : mine core.journal 0 ≡ core.journal
  pub callers : AreBelow core.limits.passes core.journal
  pub room : core.limits.per_pass ≤ tokens.room
