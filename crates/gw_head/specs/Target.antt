-- The target of a request and its parts (RFC 9112, section 3.2; RFC 3986, section 3).
use Rattle.std.specs.Prelude.{ℕ, Bool, false, ◌&&◌, ◌||◌, not, List, [], ◌∷◌, length, take, drop, slice_index, bytes_eq, codes, ◌≡◌, Option, MatchOption, Some, None, ◌==◌, if◌then◌else◌}
use Rattle.std.specs.Borrow.{Bor}
use Rattle.std.specs.List.{before_first, position_or_len}
use Rattle.std.specs.Char.{is_ascii_hexdigit}
use Rattle.std.specs.Str.{str_eq_ignore_ascii_case}
use Rattle.gw_head.specs.declared.target.Form.{Form}
use Rattle.gw_head.specs.declared.target.Form.TheVariants.{Origin, Absolute, Asterisk, Other}
use Rattle.gw_head.specs.Pieces.{has_byte, before, after}

-- the word stands at the front, without case
abbrev pub begins_with : List ℕ → List ℕ → Bool
begins_with word target = str_eq_ignore_ascii_case (take (length word) target) word

-- how many bytes 'http://' or 'https://' has at the front, without case; 0 where neither stands there
abbrev pub scheme_length : List ℕ → ℕ
scheme_length target =
    if begins_with (codes "http://") target then 7 else (if begins_with (codes "https://") target then 8 else 0)

-- the authority ends at '/' or '?'
abbrev pub is_authority_end : ℕ → Bool
is_authority_end b = b == 47 || b == 63

-- what stands behind the scheme, up to the path or the query
abbrev pub authority_of : List ℕ → List ℕ
authority_of target = before_first is_authority_end (drop (scheme_length target) target)

-- the path and the query behind the authority
abbrev pub behind_authority : List ℕ → List ℕ
behind_authority target =
    drop (position_or_len is_authority_end (drop (scheme_length target) target)) (drop (scheme_length target) target)

-- the authority names a host and no user
abbrev pub is_plain_authority : List ℕ → Bool
is_plain_authority authority = not (length authority == 0) && not (has_byte 64 authority)

-- origin form: '/' stands first
abbrev pub is_origin : List ℕ → Bool
is_origin target = slice_index target 0 == 47

-- absolute form: a scheme and an authority stand first
abbrev pub is_absolute : List ℕ → Bool
is_absolute target = not (scheme_length target == 0) && is_plain_authority (authority_of target)

-- asterisk form, of which only OPTIONS makes use
abbrev pub is_asterisk : List ℕ → List ℕ → Bool
is_asterisk method target = bytes_eq target (codes "*") && bytes_eq method (codes "OPTIONS")

-- the form of the target; a target with a fragment has none of the three
unfoldable pub form_of : List ℕ → List ℕ → Form
form_of method target =
    if has_byte 35 target then Other
    else (if is_origin target then Origin
    else (if is_absolute target then Absolute
    else (if is_asterisk method target then Asterisk else Other)))

-- the host that the target names
abbrev pub authority_in : Form → List ℕ → List ℕ
authority_in Origin target = []
authority_in Absolute target = authority_of target
authority_in Asterisk target = []
authority_in Other target = []

-- the path and the query
abbrev pub resource_in : Form → List ℕ → List ℕ
resource_in Origin target = target
resource_in Absolute target = behind_authority target
resource_in Asterisk target = []
resource_in Other target = []

-- '/' in place of an empty path (RFC 9110, section 4.2.3)
abbrev pub slash_for_none : List ℕ → List ℕ
slash_for_none [] = 47 ∷ []
slash_for_none (b ∷ path) = b ∷ path

-- the path of a resource, of which only the absolute form may lack one
abbrev pub path_in : Form → List ℕ → List ℕ
path_in Origin target = before 63 target
path_in Absolute target = slash_for_none (before 63 (behind_authority target))
path_in Asterisk target = []
path_in Other target = []

-- what stands behind the first '?', if there is one
abbrev pub query_of : List ℕ → Option (List ℕ)
query_of resource = if has_byte 63 resource then Some (after 63 resource) else None

-- the slice is that
abbrev pub IsQuery : List ℕ → Option (Bor (List ℕ)) → Type 0
IsQuery resource slice = MatchOption slice (query_of resource ≡ None) (λ query. query_of resource ≡ Some query.now)

-- two hexadecimal digits stand at the front
abbrev pub begins_with_pair : List ℕ → Bool
begins_with_pair bytes = is_ascii_hexdigit (slice_index bytes 0) && is_ascii_hexdigit (slice_index bytes 1)

-- some '%' isn't followed by two hexadecimal digits (RFC 3986, section 2.1)
abbrev pub has_bad_escape : List ℕ → Bool
has_bad_escape [] = false
has_bad_escape (b ∷ bytes) = (b == 37 && not (begins_with_pair bytes)) || has_bad_escape bytes
