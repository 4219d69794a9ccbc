use Rattle.std.proofs.Common.{◌≡◌, ℕ, ◌<◌, List, [], length, drop, sym, ap, ◌∙◌, drop-cons}
use Rattle.std.specs.Cmp.Lexicographic.{slice_cmp}
use Rattle.std.specs.Ordering.{nat_cmp}
use Rattle.std.proofs.Common.{Greater}
use Rattle.gw_mux.proofs.label.compare_decoded.Goals as goal

-- a list that goes on comes after one that ends
goes_on : (bytes rest : List ℕ) (i : ℕ) → i < length bytes → rest ≡ [] → slice_cmp nat_cmp (drop i bytes) rest ≡ Greater
goes_on bytes rest i within e = ap (slice_cmp nat_cmp (drop i bytes)) e ∙ ap (λ xs. slice_cmp nat_cmp xs []) (drop-cons bytes i 0 within)

pub returns-in_default : goal.returns-in_default
returns-in_default c =
    sym (goes_on c.args.bytes.now _ c.loop-own.own-index c.loop-own-test.true c.in_default.ensures.steps.0) ∙ c.loop-own.invariant
