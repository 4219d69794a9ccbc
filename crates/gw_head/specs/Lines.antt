-- The lines of a head, before any of them is read further (RFC 9112, sections 2.1 to 2.3).
use Rattle.std.specs.Prelude.{ℕ, ◌-◌, Bool, ◌&&◌, ◌||◌, not, List, [], ◌∷◌, length, take, drop, slice_index, nat_eq, nat_lt, codes, ◌==◌, if◌then◌else◌}
use Rattle.std.specs.List.{starts_with}
use Rattle.std.specs.Char.{is_ascii_digit}
use Rattle.httparse.specs.Pieces.{is_newline}
use Rattle.gw_head.specs.Pieces.{before, count_of}

-- the bytes behind the empty lines at the front
abbrev pub skip_newlines : List ℕ → List ℕ
skip_newlines [] = []
skip_newlines (b ∷ bytes) = if is_newline b then skip_newlines bytes else b ∷ bytes

-- the line without one CR at its end
abbrev pub without_return : List ℕ → List ℕ
without_return line =
    if slice_index line (length line - 1) == 13 then take (length line - 1) line else line

-- the start line, without its line end
abbrev pub first_line : List ℕ → List ℕ
first_line bytes = without_return (before 10 (skip_newlines bytes))

-- how many lines stand between the start line and the empty line that ends the head: each line ends in LF
abbrev pub line_count : List ℕ → ℕ
line_count bytes = count_of 10 (skip_newlines bytes) - 2

-- more lines than a head may have fields
abbrev pub has_too_many_lines : List ℕ → Bool
has_too_many_lines bytes = nat_lt 128 (line_count bytes)

-- HTTP-version = 'HTTP/', a digit, '.', a digit (RFC 9112, section 2.3), at the front of the text
abbrev pub begins_with_version : List ℕ → Bool
begins_with_version text =
    starts_with nat_eq text (codes "HTTP/")
    && (is_ascii_digit (slice_index text 5)
    && (slice_index text 6 == 46 && is_ascii_digit (slice_index text 7)))

-- the digits are those of 1.0 or 1.1
abbrev pub is_spoken : List ℕ → Bool
is_spoken text = slice_index text 5 == 49 && (slice_index text 7 == 48 || slice_index text 7 == 49)

-- a version other than 1.0 and 1.1 stands at the front: so it is where a reply's first line names one
abbrev pub begins_with_other_version : List ℕ → Bool
begins_with_other_version text = begins_with_version text && not (is_spoken text)

-- a space and such a version stand at the end: so it is where a request's first line names one
abbrev pub ends_with_other_version : List ℕ → Bool
ends_with_other_version line =
    slice_index (drop (length line - 9) line) 0 == 32
    && begins_with_other_version (drop 1 (drop (length line - 9) line))
