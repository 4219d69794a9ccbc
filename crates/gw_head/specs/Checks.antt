-- The checks of a head, each as a test, and the first that fails. A check is named by the code that the gateway
-- answers, H1 to H11; RFC 9112 and RFC 9110 say why.
use Rattle.std.specs.Prelude.{ℕ, Bool, true, false, ◌&&◌, ◌||◌, not, List, [], ◌∷◌, length, nat_lt, nat_le, bytes_eq, codes, Option, Some, None, ◌==◌, if◌then◌else◌}
use Rattle.std.specs.List.{list_any, list_all}
use Rattle.std.specs.Str.{str_eq_ignore_ascii_case}
use Rattle.gw_head.specs.declared.error.HeadError.{HeadError}
use Rattle.gw_head.specs.declared.error.HeadError.TheVariants.{Malformed, TooManyFields, Version, HostCount, BadLength, LengthAndCoding, Coding, BadEscape, Connect, Expectation}
use Rattle.gw_head.specs.declared.target.Form.{Form}
use Rattle.gw_head.specs.declared.target.Form.TheVariants.{Origin, Absolute, Asterisk, Other}
use Rattle.gw_head.specs.Fields.{is_length, values_named}
use Rattle.gw_head.specs.Lines.{first_line, has_too_many_lines, begins_with_other_version, ends_with_other_version}
use Rattle.gw_head.specs.Target.{form_of, authority_in, path_in, has_bad_escape}

-- the error of the first check that fails
abbrev pub first_fault : List (Bool × HeadError) → Option HeadError
first_fault [] = None
first_fault (check ∷ checks) = if check.0 then Some check.1 else first_fault checks

abbrev pub codings_of : List (List ℕ × List ℕ) → List (List ℕ)
codings_of fields = values_named (codes "transfer-encoding") fields

abbrev pub lengths_of : List (List ℕ × List ℕ) → List (List ℕ)
lengths_of fields = values_named (codes "content-length") fields

abbrev pub hosts_of : List (List ℕ × List ℕ) → List (List ℕ)
hosts_of fields = values_named (codes "host") fields

abbrev pub expectations_of : List (List ℕ × List ℕ) → List (List ℕ)
expectations_of fields = values_named (codes "expect") fields

abbrev pub is_some_value : List (List ℕ) → Bool
is_some_value values = not (length values == 0)

-- all values together are a list of the one token, without case: a value with a comma is a list of two or more
abbrev pub is_only_token : List ℕ → List (List ℕ) → Bool
is_only_token token [] = false
is_only_token token (value ∷ []) = str_eq_ignore_ascii_case value token
is_only_token token (value ∷ other ∷ values) = false

-- H10: a tunnel is asked for (RFC 9110, section 9.3.6)
unfoldable pub is_connect : List ℕ → Bool
is_connect method = bytes_eq method (codes "CONNECT")

-- no form of a target (RFC 9112, section 3.2)
abbrev pub is_no_form : Form → Bool
is_no_form Origin = false
is_no_form Absolute = false
is_no_form Asterisk = false
is_no_form Other = true

-- H1, of the target
unfoldable pub has_bad_target : List ℕ → List ℕ → Bool
has_bad_target method target = is_no_form (form_of method target)

-- H8: a transfer coding in HTTP/1.0, or another list of codings than 'chunked' (RFC 9112, section 6.1)
unfoldable pub has_bad_coding : ℕ → List (List ℕ × List ℕ) → Bool
has_bad_coding minor fields =
    is_some_value (codings_of fields) && (minor == 0 || not (is_only_token (codes "chunked") (codings_of fields)))

-- H7: both a coding and a length (RFC 9112, section 6.3)
unfoldable pub has_length_and_coding : List (List ℕ × List ℕ) → Bool
has_length_and_coding fields = is_some_value (codings_of fields) && is_some_value (lengths_of fields)

-- the first is no length, or not all have its bytes
abbrev pub are_bad_lengths : List (List ℕ) → Bool
are_bad_lengths [] = false
are_bad_lengths (value ∷ values) = not (is_length value) || not (list_all (bytes_eq value) (value ∷ values))

-- H6: a length that is none, or lengths that differ (RFC 9112, section 6.3)
unfoldable pub has_bad_length : List (List ℕ × List ℕ) → Bool
has_bad_length fields = are_bad_lengths (lengths_of fields)

-- a byte that is not visible ASCII, or that ends a host in a URI or in a page
abbrev pub is_bad_host_byte : ℕ → Bool
is_bad_host_byte b = not (nat_le 33 b && nat_le b 126) || list_any (λ c. b == c) (codes "/?#@\\\"<>")

abbrev pub is_bad_host : List ℕ → Bool
is_bad_host host = list_any is_bad_host_byte host

-- the first value, or nothing
abbrev pub first_value : List (List ℕ) → List ℕ
first_value [] = []
first_value (value ∷ values) = value

-- HTTP/1.1 wants one Host, HTTP/1.0 at most one
abbrev pub is_wrong_count : ℕ → ℕ → Bool
is_wrong_count minor count = if minor == 0 then nat_lt 1 count else not (count == 1)

-- H5: the number of Host fields, or a byte in the host (RFC 9112, section 3.2)
unfoldable pub has_bad_host : List ℕ → List ℕ → ℕ → List (List ℕ × List ℕ) → Bool
has_bad_host method target minor fields =
    is_wrong_count minor (length (hosts_of fields))
    || (is_bad_host (first_value (hosts_of fields)) || is_bad_host (authority_in (form_of method target) target))

-- H9: an escape in the path (RFC 3986, section 2.1)
unfoldable pub has_bad_path : List ℕ → List ℕ → Bool
has_bad_path method target = has_bad_escape (path_in (form_of method target) target)

-- H11: another expectation than '100-continue' (RFC 9110, section 10.1.1)
unfoldable pub has_bad_expectation : List (List ℕ × List ℕ) → Bool
has_bad_expectation fields =
    is_some_value (expectations_of fields) && not (is_only_token (codes "100-continue") (expectations_of fields))

-- the first check that a request's parts fail
abbrev pub request_fault : List ℕ → List ℕ → ℕ → List (List ℕ × List ℕ) → Option HeadError
request_fault method target minor fields =
    first_fault
    ((is_connect method, Connect)
    ∷ (has_bad_target method target, Malformed)
    ∷ (has_bad_coding minor fields, Coding)
    ∷ (has_length_and_coding fields, LengthAndCoding)
    ∷ (has_bad_length fields, BadLength)
    ∷ (has_bad_host method target minor fields, HostCount)
    ∷ (has_bad_path method target, BadEscape)
    ∷ (has_bad_expectation fields, Expectation)
    ∷ [])

-- H1, of a reply's code (RFC 9110, section 15)
unfoldable pub has_bad_code : ℕ → Bool
has_bad_code code = nat_lt code 100 || nat_lt 999 code

-- the first check that a reply's parts fail
abbrev pub reply_fault : ℕ → ℕ → List (List ℕ × List ℕ) → Option HeadError
reply_fault minor code fields =
    first_fault
    ((has_bad_code code, Malformed)
    ∷ (has_bad_coding minor fields, Coding)
    ∷ (has_length_and_coding fields, LengthAndCoding)
    ∷ (has_bad_length fields, BadLength)
    ∷ [])

-- H4 and H3, which are checked before the grammar: of a request
unfoldable pub has_other_request_version : List ℕ → Bool
has_other_request_version bytes = ends_with_other_version (first_line bytes)

-- and of a reply
unfoldable pub has_other_reply_version : List ℕ → Bool
has_other_reply_version bytes = begins_with_other_version (first_line bytes)

unfoldable pub has_too_many_fields : List ℕ → Bool
has_too_many_fields bytes = has_too_many_lines bytes

-- the first check that a request's lines fail
abbrev pub request_lines_fault : List ℕ → Option HeadError
request_lines_fault bytes =
    first_fault ((has_other_request_version bytes, Version) ∷ (has_too_many_fields bytes, TooManyFields) ∷ [])

-- the first check that a reply's lines fail
abbrev pub reply_lines_fault : List ℕ → Option HeadError
reply_lines_fault bytes =
    first_fault ((has_other_reply_version bytes, Version) ∷ (has_too_many_fields bytes, TooManyFields) ∷ [])
