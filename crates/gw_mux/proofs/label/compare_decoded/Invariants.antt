use Rattle.std.proofs.Common.{◌≡◌, drop}
use Rattle.std.specs.Cmp.Lexicographic.{slice_cmp}
use Rattle.std.specs.Ordering.{nat_cmp}
use Rattle.percent_encoding.specs.Iter.{decoded_bytes}
use Rattle.percent_encoding.specs.Percent.{percent_decode}
use Rattle.gw_mux.proofs.label.compare_decoded.Given as goal

abbrev pub invariant-loop-own : goal.invariant-loop-own
invariant-loop-own l = slice_cmp nat_cmp (drop l.own-index l.bytes) (decoded_bytes l.decoded) ≡ slice_cmp nat_cmp l.bytes (percent_decode l.part)
