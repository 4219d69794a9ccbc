-- How a want stands, by what its caller keeps.
use Rattle.std.proofs.Common.{◌≡◌, ℕ, ◌≤◌, ◌==◌, inl, inr, Bool, true, false, List, [], ◌∷◌, Option, Some, None, refl, ap, sym, ◌∙◌, arith, eq-eqb}
use Rattle.std.specs.List.{find, sum_by}
use Rattle.std.proofs.lemmas.List.Sums.{sum_by-cons}
use Rattle.gw_pool.specs.declared.limits.Limits.{Limits}
use Rattle.gw_pool.specs.declared.entry.Entry.{Entry}
use Rattle.gw_pool.specs.declared.entry.Call.TheVariants as call
use Rattle.gw_pool.specs.declared.rows.Stage.{Stage}
use Rattle.gw_pool.specs.declared.rows.WantRow.{WantRow}
use Rattle.gw_pool.specs.declared.rows.ConnRow.{ConnRow}
use Rattle.gw_pool.specs.Places.{is_granted}
use Rattle.gw_pool.specs.State.{State, wants_it, is_with}
use Rattle.gw_pool.specs.Machine.{Outcome, step, start_row, Served, standing, stage_standing}
use Rattle.gw_pool.specs.History.{IsLegal, after}
use Rattle.gw_pool.specs.Keeps.{IsWanted, IsServed, IsOut, Comes}
use Rattle.gw_pool.proofs.Edits.{found_passes}
use Rattle.gw_pool.proofs.Finds.{is_found}
use Rattle.gw_pool.proofs.Fits.{start_fits}
use Rattle.gw_pool.proofs.Numbers.{Numbers, legal_numbers}
use Rattle.gw_pool.proofs.OwnEntries.{want_row, out_passes}
use Rattle.gw_pool.proofs.Owns.{found_among}
use Rattle.gw_pool.proofs.Served.{with_rows, has_row}
use Rattle.gw_pool.proofs.Standings.{served}
use Rattle.gw_pool.proofs.Ties.{occ_of}
use Rattle.gw_pool.specs.Ties.{Among}
use Rattle.gw_pool.proofs.Weights.{weight, conn_weight}
use Rattle.gw_pool.proofs.TieWant.{place_at}

-- one connection is out to a want
out_at_least : (w : ℕ) (a : ConnRow) (xs : List ConnRow) → Among a xs → is_with w a ≡ true → 1 ≤ sum_by (conn_weight (occ_of w)) xs
out_at_least w a [] m e = absurd m
out_at_least w a (x ∷ xs) (inl same) e = let here = place_at w x (ap (is_with w) same ∙ e) in omega (arith, sum_by-cons (conn_weight (occ_of w)) x xs, here)
out_at_least w a (x ∷ xs) (inr m) e = omega (arith, sum_by-cons (conn_weight (occ_of w)) x xs, out_at_least w a xs m e)

same_out : (w : ℕ) (a b : ConnRow) (xs : List ConnRow) → sum_by (conn_weight (occ_of w)) xs ≤ 1 → Among a xs → Among b xs → is_with w a ≡ true → is_with w b ≡ true → a ≡ b
same_out w a b [] l m n e f = absurd m
same_out w a b (x ∷ xs) l (inl p) (inl q) e f = sym p ∙ q
same_out w a b (x ∷ xs) l (inl p) (inr n) e f = absurd (let here = place_at w x (ap (is_with w) p ∙ e) in omega (arith, sum_by-cons (conn_weight (occ_of w)) x xs, here, out_at_least w b xs n f, l))
same_out w a b (x ∷ xs) l (inr m) (inl q) e f = absurd (let here = place_at w x (ap (is_with w) q ∙ f) in omega (arith, sum_by-cons (conn_weight (occ_of w)) x xs, here, out_at_least w a xs m e, l))
same_out w a b (x ∷ xs) l (inr m) (inr n) e f = same_out w a b xs (omega (arith, sum_by-cons (conn_weight (occ_of w)) x xs, l)) m n e f

out_once : (w : ℕ) (s : State) (a b : ConnRow) → Numbers s → Among a s.conns → Among b s.conns → is_with w a ≡ true → is_with w b ≡ true → a ≡ b
unfolding weight
out_once w s a b k m n e f = same_out w a b s.conns (omega (arith, k.occ w)) m n e f

-- a connection that is out to a want serves it
pub served_standing : (limits : Limits) (h : List Entry) (want caller : ℕ) (row : ConnRow) → IsLegal limits h → IsOut want caller row (after limits h) → standing (after limits h) want ≡ Served row
served_standing limits h want caller row l k =
    let s = after limits h in
    let passes = out_passes want caller row k.place in
    let found = is_found (is_with want) s.conns row k.there passes in
    served s want row (found.1 ∙ ap (λ x. Some x) (out_once want s found.0 row (legal_numbers limits h l) (found_among (is_with want) found.0 s.conns found.1) k.there (found_passes (is_with want) s.conns found.0 found.1) passes))

-- a want with a row stands by its stage
no_conn_by : (s : State) (want : ℕ) (row : WantRow) (o : Option ConnRow) → Numbers s → find (wants_it want) s.wants ≡ Some row → find (is_with want) s.conns ≡ o → o ≡ None
no_conn_by s want row None n f g = refl
no_conn_by s want row (Some conn) n f g = absurd (omega (arith, with_rows want s conn g, has_row want s row f, n.occ want))

pub wanted_standing : (test : Stage → Bool) (limits : Limits) (h : List Entry) (want host caller : ℕ) → IsLegal limits h → (k : IsWanted test want host caller (after limits h)) → standing (after limits h) want ≡ stage_standing k.row.stage
unfolding standing
wanted_standing test limits h want host caller l k =
    let s = after limits h in
    let n = legal_numbers limits h l in
    let found = want_row s want k.row n k.there k.is_want in
    rw (no_conn_by s want k.row (find (is_with want) s.conns) n found refl, found) refl

-- where a granted want can't be started, it is served
started : (limits : Limits) (s : State) (want caller : ℕ) (row : WantRow) → find (wants_it want) s.wants ≡ Some row → is_granted row.stage ≡ true → row.caller ≡ caller → step limits s caller (call.Start want) ≡ Some (start_row s row)
started limits s want caller row f g by = ap (λ c. step limits s c (call.Start want)) (sym by) ∙ start_fits limits s want row f g

pub not_started : (limits : Limits) (h : List Entry) (want host caller : ℕ) → IsLegal limits h → step limits (after limits h) caller (call.Start want) ≡ None → Comes is_granted want host caller (after limits h) → IsServed want host caller (after limits h)
not_started limits h want host caller l f (inl k) =
    absurd (let fits = started limits (after limits h) want caller k.row (want_row (after limits h) want k.row (legal_numbers limits h l) k.there k.is_want) k.stage k.by in let both = sym fits ∙ f in cc)
not_started limits h want host caller l f (inr k) = k
