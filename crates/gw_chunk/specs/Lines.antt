-- Chunk lines and trailer lines, a byte at a time. An LF isn't among the bytes: it ends the line.
use Rattle.std.specs.Prelude.{ℕ, ◌+◌, ◌*◌, ◌^◌, min, ◌==◌, if◌then◌else◌}
use Rattle.std.specs.Char.{digit_value}
use Rattle.gw_chunk.specs.declared.lines.LineForm.{LineForm}
use Rattle.gw_chunk.specs.declared.lines.LineForm.TheVariants.{Empty, Digits, Blanks, Extension, Return, Broken}
use Rattle.gw_chunk.specs.declared.lines.FieldForm.{FieldForm}
use Rattle.gw_chunk.specs.declared.lines.FieldForm.TheVariants.{Begin, Name, Value, Close, Last, Faulty}
use Rattle.gw_chunk.specs.Bytes.{carriage_return, colon, semicolon, is_hex, is_blank, is_token_byte}

-- behind the digits of a size, or behind the spaces and tabs that follow them
abbrev pub form_behind_size : ℕ → LineForm
form_behind_size b =
    if is_blank b then Blanks
    else (if b == semicolon then Extension
    else (if b == carriage_return then Return
    else Broken))

abbrev pub line_form : LineForm → ℕ → LineForm
line_form Empty b = if is_hex b then Digits else Broken
line_form Digits b = if is_hex b then Digits else form_behind_size b
line_form Blanks b = form_behind_size b
line_form Extension b = if b == carriage_return then Return else Extension
line_form Return b = Broken
line_form Broken b = Broken

-- one more digit of a size, which is kept as the lesser of itself and 2^48
abbrev pub with_digit : ℕ → ℕ → ℕ
with_digit size b = if is_hex b then min (size * 16 + digit_value b) (2 ^ 48) else size

abbrev pub line_size : LineForm → ℕ → ℕ → ℕ
line_size Empty size b = with_digit size b
line_size Digits size b = with_digit size b
line_size Blanks size b = size
line_size Extension size b = size
line_size Return size b = size
line_size Broken size b = size

abbrev pub field_form : FieldForm → ℕ → FieldForm
field_form Begin b = if is_token_byte b then Name else (if b == carriage_return then Last else Faulty)
field_form Name b = if is_token_byte b then Name else (if b == colon then Value else Faulty)
field_form Value b = if b == carriage_return then Close else (if b == 0 then Faulty else Value)
field_form Close b = Faulty
field_form Last b = Faulty
field_form Faulty b = Faulty
