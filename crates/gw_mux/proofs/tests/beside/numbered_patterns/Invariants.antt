use Rattle.std.proofs.Common.{◌≡◌, ◌≤◌, All, length}
use Rattle.gw_pattern.specs.Pattern.{IsWellFormed, wildcard_count}
use Rattle.gw_mux.proofs.tests.beside.numbered_patterns.Given as goal

abbrev pub invariant-loop-i : goal.invariant-loop-i
invariant-loop-i l = record {
  many : length l.patterns.items ≡ l.i;
  formed : All IsWellFormed l.patterns.items;
  named : All (λ p. wildcard_count p.segs.items ≤ 16) l.patterns.items;
}
