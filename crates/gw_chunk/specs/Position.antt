-- Positions in a chunked text, which are all that the decoder keeps: what a byte does to one, and what is said of
-- the bytes from one on.
use Rattle.std.specs.Prelude.{◌≡◌, ℕ, ◌+◌, ◌-◌, ◌^◌, Bool, true, false, ◌&&◌, List, [], ◌∷◌, ◌++◌, nat_lt, nat_le, ◌==◌, if◌then◌else◌}
use Rattle.gw_chunk.specs.declared.error.ChunkError.{ChunkError}
use Rattle.gw_chunk.specs.declared.error.ChunkError.TheVariants.{BadLine, LineTooLong, TooLarge, DataEnd, Trailer}
use Rattle.gw_chunk.specs.declared.lines.LineForm.{LineForm}
use Rattle.gw_chunk.specs.declared.lines.LineForm.TheVariants.{Empty, Digits, Blanks, Extension, Return, Broken}
use Rattle.gw_chunk.specs.declared.lines.FieldForm.{FieldForm}
use Rattle.gw_chunk.specs.declared.lines.FieldForm.TheVariants.{Begin, Name, Value, Close, Last, Faulty}
use Rattle.gw_chunk.specs.declared.position.Position.{Position}
use Rattle.gw_chunk.specs.declared.position.Position.TheVariants.{Line, Content, Closing, Fields, Ended, Refused}
use Rattle.gw_chunk.specs.Bytes.{line_feed, carriage_return}
use Rattle.gw_chunk.specs.Lines.{line_form, line_size, field_form}

-- before a chunk line, behind so many bytes of data
abbrev pub next_line : ℕ → Position
next_line sum = Line Empty 0 0 sum

-- before the first byte
abbrev pub first : Position
first = next_line 0

-- ---- one byte

-- behind a good line that says the size
abbrev pub behind_size : ℕ → ℕ → Position
behind_size size sum =
    if nat_le (2 ^ 48) size then Refused TooLarge
    else (if nat_lt (2 ^ 62) (sum + size) then Refused TooLarge
    else (if size == 0 then Fields Begin 0
    else Content size (sum + size)))

-- behind the LF of a chunk line
abbrev pub behind_line : LineForm → ℕ → ℕ → Position
behind_line Empty size sum = Refused BadLine
behind_line Digits size sum = Refused BadLine
behind_line Blanks size sum = Refused BadLine
behind_line Extension size sum = Refused BadLine
behind_line Return size sum = behind_size size sum
behind_line Broken size sum = Refused BadLine

abbrev pub in_line : LineForm → ℕ → ℕ → ℕ → ℕ → Position
in_line form read size sum b =
    if b == line_feed then behind_line form size sum
    else (if nat_le 4095 read then Refused LineTooLong
    else Line (line_form form b) (read + 1) (line_size form size b) sum)

abbrev pub in_content : ℕ → ℕ → ℕ → Position
in_content left sum b =
    if left == 0 then Closing (b == carriage_return) sum else Content (left - 1) sum

abbrev pub in_closing : Bool → ℕ → ℕ → Position
in_closing good sum b = if good && b == line_feed then next_line sum else Refused DataEnd

-- behind the LF of a trailer line, with so many bytes read before it
abbrev pub behind_field : FieldForm → ℕ → Position
behind_field Begin read = Refused Trailer
behind_field Name read = Refused Trailer
behind_field Value read = Refused Trailer
behind_field Close read = if nat_le 65535 read then Refused Trailer else Fields Begin (read + 1)
behind_field Last read = Ended
behind_field Faulty read = Refused Trailer

abbrev pub in_fields : FieldForm → ℕ → ℕ → Position
in_fields form read b =
    if b == line_feed then behind_field form read
    else (if nat_le 65535 read then Refused Trailer
    else Fields (field_form form b) (read + 1))

abbrev pub after_byte : Position → ℕ → Position
after_byte (Line form read size sum) b = in_line form read size sum b
after_byte (Content left sum) b = in_content left sum b
after_byte (Closing good sum) b = in_closing good sum b
after_byte (Fields form read) b = in_fields form read b
after_byte Ended b = Ended
after_byte (Refused error) b = Refused error

-- how many bytes are left of a chunk's data
abbrev pub left_of : Position → ℕ
left_of (Line form read size sum) = 0
left_of (Content left sum) = left
left_of (Closing good sum) = 0
left_of (Fields form read) = 0
left_of Ended = 0
left_of (Refused error) = 0

-- the byte of data that the byte is
abbrev pub given_byte : Position → ℕ → List ℕ
given_byte p b = if left_of p == 0 then [] else b ∷ []

-- behind so many bytes of a chunk's data, of which more aren't left
abbrev pub skipped : Position → ℕ → Position
skipped (Line form read size sum) n = Line form read size sum
skipped (Content left sum) n = Content (left - n) sum
skipped (Closing good sum) n = Closing good sum
skipped (Fields form read) n = Fields form read
skipped Ended n = Ended
skipped (Refused error) n = Refused error

abbrev pub is_ended : Position → Bool
is_ended (Line form read size sum) = false
is_ended (Content left sum) = false
is_ended (Closing good sum) = false
is_ended (Fields form read) = false
is_ended Ended = true
is_ended (Refused error) = false

-- neither at the end nor at a fault
abbrev pub is_undecided : Position → Bool
is_undecided (Line form read size sum) = true
is_undecided (Content left sum) = true
is_undecided (Closing good sum) = true
is_undecided (Fields form read) = true
is_undecided Ended = false
is_undecided (Refused error) = false

-- ---- many bytes

-- the position behind the bytes
abbrev pub after : Position → List ℕ → Position
after p [] = p
after p (b ∷ bytes) = after (after_byte p b) bytes

-- the data among the bytes
abbrev pub given : Position → List ℕ → List ℕ
given p [] = []
given p (b ∷ bytes) = given_byte p b ++ given (after_byte p b) bytes

-- the text doesn't end before the last of the bytes
abbrev pub IsInside : Position → List ℕ → Type 0
IsInside p [] = Unit {0}
IsInside p (b ∷ bytes) = (is_ended p ≡ false) × IsInside (after_byte p b) bytes

-- the bytes lead from one position to another, and have this data
pub record Leads (p : Position) (bytes d : List ℕ) (q : Position) : Type 0 where
  pub place : after p bytes ≡ q
  pub out : given p bytes ≡ d
  pub inside : IsInside p bytes

-- from the position on, the bytes are the rest of one chunked text, with this data
abbrev pub Has : Position → List ℕ → List ℕ → Type 0
Has p bytes d = Leads p bytes d Ended

-- from the position on, the bytes have the fault
abbrev pub Fails : Position → List ℕ → ChunkError → Type 0
Fails p bytes error = after p bytes ≡ Refused error
