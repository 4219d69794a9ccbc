-- The bytes that chunked coding tells apart (RFC 9112, section 7.1, and RFC 9110, sections 5.6.2 and 5.6.3).
use Rattle.std.specs.Prelude.{ℕ, Bool, not, ◌||◌, ◌&&◌, ◌==◌, List, [], ◌∷◌, codes}
use Rattle.std.specs.Char.{is_ascii_alphanumeric, is_digit}
use Rattle.std.specs.List.{list_any}

abbrev pub tab : ℕ
tab = 9

abbrev pub line_feed : ℕ
line_feed = 10

abbrev pub carriage_return : ℕ
carriage_return = 13

abbrev pub space : ℕ
space = 32

abbrev pub colon : ℕ
colon = 58

abbrev pub semicolon : ℕ
semicolon = 59

abbrev pub crlf : List ℕ
crlf = carriage_return ∷ line_feed ∷ []

-- a hexadecimal digit of either case
abbrev pub is_hex : ℕ → Bool
is_hex b = is_digit b 16

-- a space or a tab
abbrev pub is_blank : ℕ → Bool
is_blank b = b == space || b == tab

-- a byte of an extension
abbrev pub is_extension_byte : ℕ → Bool
is_extension_byte b = not (b == carriage_return) && not (b == line_feed)

-- tchar
unfoldable pub is_token_byte : ℕ → Bool
is_token_byte b = is_ascii_alphanumeric b || list_any (λ c. c == b) (codes "!#$%&'*+-.^_`|~")

-- a byte of a trailer field's value
abbrev pub is_value_byte : ℕ → Bool
is_value_byte b = not (b == carriage_return) && (not (b == line_feed) && not (b == 0))
