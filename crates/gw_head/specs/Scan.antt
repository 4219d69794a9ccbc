-- The search for the end of a head as the reader makes it, a byte at a time.
use Rattle.std.specs.Prelude.{ℕ, suc, List, [], ◌∷◌, ◌==◌, if◌then◌else◌, Option, Some, None}
use Rattle.std.specs.Option.{option_map, option_and_then}
use Rattle.httparse.specs.Ascii.{line_feed, carriage_return}
use Rattle.httparse.specs.Pieces.{is_newline}
use Rattle.gw_head.specs.declared.mark.Place.{Place}
use Rattle.gw_head.specs.declared.mark.Place.TheVariants.{Blank, Inside, LineFeed, Return}

-- the place behind one more byte; None where the head ends with it
abbrev pub place_after_byte : Place → ℕ → Option Place
place_after_byte Blank b = if is_newline b then Some Blank else Some Inside
place_after_byte Inside b = if b == line_feed then Some LineFeed else Some Inside
place_after_byte LineFeed b =
    if b == line_feed then None else (if b == carriage_return then Some Return else Some Inside)
place_after_byte Return b = if b == line_feed then None else Some Inside

-- one byte, or one more than f says from the place behind it
abbrev pub count_on : Option Place → (Place → Option ℕ) → Option ℕ
count_on None f = Some 1
count_on (Some place) f = option_map suc (f place)

-- how many bytes there are up to the head's end
abbrev pub scan_end : Place → List ℕ → Option ℕ
scan_end place [] = None
scan_end place (b ∷ bytes) = count_on (place_after_byte place b) (λ next. scan_end next bytes)

-- the place behind the bytes; None where the head ends in them
abbrev pub place_after : Place → List ℕ → Option Place
place_after place [] = Some place
place_after place (b ∷ bytes) =
    option_and_then (λ next. place_after next bytes) (place_after_byte place b)
