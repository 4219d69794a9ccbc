use Rattle.std.proofs.Common.{◌≡◌, ℕ, ◌<◌, length, get_or}
use Rattle.gw_mux.proofs.order.order_of.Given as goal

abbrev pub invariant-loop-i : goal.invariant-loop-i
invariant-loop-i l = record {
  many : length l.numbers.items ≡ l.i;
  each : (k d : ℕ) → k < l.i → get_or l.numbers.items k d ≡ k;
}
