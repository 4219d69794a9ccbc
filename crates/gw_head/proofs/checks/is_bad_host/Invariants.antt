use Rattle.std.proofs.Common.{◌≡◌, drop}
use Rattle.gw_head.specs.Checks.{is_bad_host}
use Rattle.gw_head.proofs.checks.is_bad_host.Given as goal

-- no byte so far is bad
abbrev pub invariant-loop-byte : goal.invariant-loop-byte
invariant-loop-byte l = is_bad_host (drop l.byte-index l.host) ≡ is_bad_host l.host
