use Rattle.std.proofs.Common.{◌≡◌, ◌+◌, drop}
use Rattle.std.specs.Option.{option_map}
use Rattle.gw_head.specs.Scan.{scan_end, place_after}
use Rattle.gw_head.proofs.mark.scan.Given as goal

-- from here the search finds what it finds from the start
abbrev pub invariant-loop-i : goal.invariant-loop-i
invariant-loop-i l =
    (scan_end l.place l.bytes ≡ option_map (λ n. l.i + n) (scan_end l.at (drop l.i l.bytes)))
    × (place_after l.place l.bytes ≡ place_after l.at (drop l.i l.bytes))
