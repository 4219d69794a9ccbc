use Rattle.std.proofs.Common.{◌≡◌, ◌≤◌, All, length}
use Rattle.gw_pattern.specs.Pattern.{IsWellFormed, wildcard_count}
use Rattle.gw_bench.proofs.tables.mux_of.Given as goal

abbrev pub invariant-loop-text : goal.invariant-loop-text
invariant-loop-text l = record {
  many : length l.patterns.items ≡ l.text-index;
  formed : All IsWellFormed l.patterns.items;
  named : All (λ p. wildcard_count p.segs.items ≤ 16) l.patterns.items;
}
