-- Values that are lists of tokens (RFC 9110, section 5.6.1).
use Rattle.std.specs.Prelude.{◌≡◌, ℕ, ◌<◌, Bool, ◌||◌, List, [], ◌∷◌, length, reverse, ◌==◌, Option, MatchOption, if◌then◌else◌}
use Rattle.std.specs.Borrow.{Bor}
use Rattle.std.specs.List.{list_any, slice_split}
use Rattle.std.specs.Str.{str_eq_ignore_ascii_case}

-- optional white space: a space or a tab (RFC 9110, section 5.6.3)
abbrev pub is_blank : ℕ → Bool
is_blank b = b == 32 || b == 9

-- the bytes from the first that is no blank
abbrev pub skip_blanks : List ℕ → List ℕ
skip_blanks [] = []
skip_blanks (b ∷ bytes) = if is_blank b then skip_blanks bytes else b ∷ bytes

-- the bytes without the blanks at both ends
abbrev pub trimmed : List ℕ → List ℕ
trimmed bytes = reverse (skip_blanks (reverse (skip_blanks bytes)))

abbrev pub is_comma : ℕ → Bool
is_comma b = b == 44

-- the elements of a list: what stands between its commas
abbrev pub elements_of : List ℕ → List (List ℕ)
elements_of value = slice_split is_comma value

-- the value's elements are the first, and those of what stands after its comma, if it has one
abbrev pub SplitsElement : List ℕ → List ℕ → Option (Bor (List ℕ)) → Type 0
SplitsElement value element after =
    MatchOption after (elements_of value ≡ element ∷ [])
    (λ rest. (elements_of value ≡ element ∷ elements_of rest.now) × (length rest.now < length value))

-- the element is the token, but for case and the blanks around it
abbrev pub is_element : List ℕ → List ℕ → Bool
is_element token element = str_eq_ignore_ascii_case (trimmed element) token

-- some element of the value is the token
abbrev pub lists_token : List ℕ → List ℕ → Bool
lists_token token value = list_any (is_element token) (elements_of value)
