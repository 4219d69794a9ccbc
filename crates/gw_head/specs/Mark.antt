-- Where the head of an HTTP/1.x message ends: with the first empty line behind its start line
-- (RFC 9112, sections 2.1 and 2.2). A line ends in LF, which may have a CR before it, and empty
-- lines before the start line are passed over.
use Rattle.std.specs.Prelude.{◌≡◌, ◌≤◌, ℕ, suc, length, take, List, [], ◌∷◌, Bool, false, ◌&&◌, ◌==◌, if◌then◌else◌, Option, Some, None}
use Rattle.std.specs.Option.{option_map, option_or}
use Rattle.httparse.specs.Ascii.{line_feed, carriage_return}
use Rattle.httparse.specs.Pieces.{is_newline}

-- the first byte is LF
abbrev pub starts_with_line_feed : List ℕ → Bool
starts_with_line_feed [] = false
starts_with_line_feed (b ∷ bytes) = b == line_feed

-- how many bytes the empty line at the front has: one for LF, two for CR LF
abbrev pub empty_line : List ℕ → Option ℕ
empty_line [] = None
empty_line (b ∷ bytes) =
    if b == line_feed then Some 1
    else (if b == carriage_return && starts_with_line_feed bytes then Some 2 else None)

-- how many bytes there are up to the end of the first empty line that follows an LF
abbrev pub lines_end : List ℕ → Option ℕ
lines_end [] = None
lines_end (b ∷ bytes) =
    option_map suc (option_or (if b == line_feed then empty_line bytes else None) (lines_end bytes))

-- the same, behind the first byte that is neither CR nor LF: how many bytes the head has
abbrev pub head_end : List ℕ → Option ℕ
head_end [] = None
head_end (b ∷ bytes) = option_map suc (if is_newline b then head_end bytes else lines_end bytes)

-- the most bytes that a head may have
abbrev pub head_limit : ℕ
head_limit = 65536

-- how many bytes the head has, if it ends within the limit
abbrev pub end_in_limit : List ℕ → Option ℕ
end_in_limit bytes = head_end (take head_limit bytes)

-- the bytes are a whole head and nothing more, and no longer than a head may be
pub record IsWhole (bytes : List ℕ) : Type 0 where
  pub ended : head_end bytes ≡ Some (length bytes)
  pub short : length bytes ≤ head_limit
