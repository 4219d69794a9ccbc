-- The idle rows, one after the other.
use Rattle.std.proofs.Common.{◌≡◌, ℕ, zero, suc, ◌+◌, List, [], ◌∷◌, ◌++◌, map, length, Option, Some, None, refl, ap, sym, ◌∙◌, arith, append_assoc}
use Rattle.gw_pool.specs.declared.rows.ConnRow.{ConnRow}
use Rattle.gw_pool.specs.Core.{CoreView, IsQuiet, state_at}
use Rattle.gw_pool.specs.History.{after}
use Rattle.gw_pool.specs.State.{State, take_oldest}
use Rattle.gw_pool.specs.Idle.{before_others, first_idle, idle_rows}

none_by : (others : State → List ConnRow) (taken : Option ConnRow × State) → taken.0 ≡ None → before_others others taken ≡ []
none_by others (None, s) e = refl
none_by others (Some row, s) e = absurd (cc)

none_first : (n : ℕ) (s : State) → (take_oldest s).0 ≡ None → first_idle n s ≡ []
none_first zero s e = refl
none_first (suc n) s e = none_by (first_idle n) (take_oldest s) e

pub no_idle : (s : State) → (take_oldest s).0 ≡ None → idle_rows s ≡ []
no_idle s e = none_first (length s.conns) s e

some_by : (others : State → List ConnRow) (taken : Option ConnRow × State) (row : ConnRow) → taken.0 ≡ Some row → before_others others taken ≡ row ∷ others taken.1
some_by others (None, s) row e = absurd (cc)
some_by others (Some r, s) row e = let same : r ≡ row = cc in rw same refl

pub idle_then : (s left : State) (row : ConnRow) → (take_oldest s).0 ≡ Some row → left ≡ (take_oldest s).1 → length left.conns + 1 ≡ length s.conns → idle_rows s ≡ row ∷ idle_rows left
idle_then s left row e f l =
    ap (λ n. first_idle n s) (let n : length s.conns ≡ suc (length left.conns) = omega arith in n)
    ∙ some_by (first_idle (length left.conns)) (take_oldest s) row e ∙ ap (λ t. row ∷ first_idle (length left.conns) t) (sym f)

-- what is moved, before what still stands
pub moved_on : (all moved left : List ℕ) (s : State) (next : State) (row : ConnRow) (link : ℕ) → moved ++ map (λ r. r.link) (idle_rows s) ≡ all
    → link ≡ row.link → idle_rows s ≡ row ∷ idle_rows next → left ≡ moved ++ link ∷ [] → left ++ map (λ r. r.link) (idle_rows next) ≡ all
moved_on all moved left s next row link e l i m =
    rw (m, l) (append_assoc moved (row.link ∷ []) (map (λ r. r.link) (idle_rows next)) ∙ ap (λ rows. moved ++ map (λ r. r.link) rows) (sym i) ∙ e)

-- a pool without an entry has no row
pub quiet_at_first : (core : CoreView) → core.journal ≡ [] → IsQuiet (state_at core)
unfolding after
quiet_at_first core e = rw e (record { wants = refl; dials = refl; conns = refl })
