use Rattle.std.proofs.Common.{◌≡◌, ◌-◌, ◌^◌, take, min}
use Rattle.std.specs.Char.{is_ascii_digit}
use Rattle.std.specs.Str.Parse.{digits_value}
use Rattle.httparse.specs.Grammar.{AllPass}
use Rattle.gw_head.proofs.fields.read_length.Given as goal

-- the digits so far and their number, as far as it fits
abbrev pub invariant-loop-digit : goal.invariant-loop-digit
invariant-loop-digit l =
    AllPass is_ascii_digit (take l.digit-index l.value)
    × (l.number ≡ min (digits_value 10 (take l.digit-index l.value)) (2 ^ 64 - 1))
