-- The rows of each want are its owner's.
use Rattle.std.proofs.Common.{◌≡◌, ℕ, Some, refl, ap, sym, ◌∙◌, arith, eqb-true, eq-eqb}
use Rattle.std.specs.List.{find}
use Rattle.gw_pool.specs.declared.rows.Place.{Place}
use Rattle.gw_pool.specs.declared.rows.Place.TheVariants.{Out, Idle}
use Rattle.gw_pool.specs.declared.rows.WantRow.{WantRow}
use Rattle.gw_pool.specs.declared.rows.ConnRow.{ConnRow}
use Rattle.gw_pool.specs.declared.rows.DialRow.{DialRow}
use Rattle.gw_pool.specs.State.{State, wants_it, dials_for, has_number, is_with}
use Rattle.gw_pool.specs.Machine.{Served, standing}
use Rattle.gw_pool.specs.Owner.{PlaceIs, Owned, IsOwned}
use Rattle.gw_pool.specs.Ties.{Among}
use Rattle.gw_pool.proofs.Edits.{found_passes}
use Rattle.gw_pool.proofs.Owns.{found_among}
use Rattle.gw_pool.proofs.Shelves.{out_at}
use Rattle.gw_pool.proofs.Weights.{weight}
use Rattle.gw_pool.proofs.Numbers.{Numbers}
use Rattle.gw_pool.proofs.TieWant.{by_number}
use Rattle.gw_pool.proofs.SoloCalls.{served_row}

-- rows that are found are their want's owner's
pub want_caller : (by : ℕ → ℕ) (s : State) (w : ℕ) (row : WantRow) → IsOwned by s → find (wants_it w) s.wants ≡ Some row → row.caller ≡ by w
want_caller by s w row o f = (o.wants row (found_among (wants_it w) row s.wants f)).1 ∙ ap by (eqb-true row.want w (found_passes (wants_it w) s.wants row f))

pub dial_caller : (by : ℕ → ℕ) (s : State) (w : ℕ) (row : DialRow) → IsOwned by s → find (dials_for w) s.dials ≡ Some row → row.caller ≡ by w
dial_caller by s w row o f = (o.dials row (found_among (dials_for w) row s.dials f)).1 ∙ ap by (eqb-true row.want w (found_passes (dials_for w) s.dials row f))

place_owned : (by : ℕ → ℕ) (n w c : ℕ) (place : Place) → place ≡ Out w c → PlaceIs (Owned by n) place → c ≡ by w
place_owned by n w c (Out v d) e p = (let same : v ≡ w = cc in let caller : d ≡ c = cc in sym caller ∙ p.1 ∙ ap by same)
place_owned by n w c (Idle a b) e p = absurd (cc)

pub conn_caller : (by : ℕ → ℕ) (s : State) (w c : ℕ) (row : ConnRow) → IsOwned by s → Among row s.conns → row.place ≡ Out w c → c ≡ by w
conn_caller by s w c row o m p = place_owned by s.next_want w c row.place p (o.conns row m)

out_same : (place : Place) (w c d : ℕ) → place ≡ Out w c → c ≡ d → place ≡ Out w d
out_same place w c d p e = p ∙ ap (λ n. Out w n) e

-- a connection that serves a want of the caller is out to it
pub served_place : (by : ℕ → ℕ) (c : ℕ) (s : State) (w : ℕ) (row : ConnRow) → IsOwned by s → by w ≡ c → standing s w ≡ Served row → row.place ≡ Out w c
served_place by c s w row o mine st =
    let f = served_row s w row st in
    let out = out_at w row (found_passes (is_with w) s.conns row f) in
    out_same row.place w out.0 c out.1 (conn_caller by s w out.0 row o (found_among (is_with w) row s.conns f) out.1 ∙ mine)

pub served_number : (s : State) (w : ℕ) (row : ConnRow) → Numbers s → standing s w ≡ Served row → find (has_number row.conn) s.conns ≡ Some row
unfolding weight
served_number s w row n st = by_number row.conn (is_with w) row s.conns (eq-eqb row.conn row.conn refl) (served_row s w row st) (omega (arith, n.con row.conn))
