-- Heads as texts that are written plainly: nothing before the start line, each line ended by CR LF, and one space before
-- each value.
use Rattle.std.specs.Prelude.{◌≡◌, ℕ, ◌+◌, ◌^◌, ◌<◌, ◌≤◌, false, List, [], ◌∷◌, ◌++◌, length, reverse, codes, decimal, All, IsUtf8, Some, None}
use Rattle.httparse.specs.Grammar.{AllPass, is_uri_byte}
use Rattle.http_header.specs.Token.{IsToken}
use Rattle.http_header.specs.FieldName.{IsHeaderName}
use Rattle.http_header.specs.FieldValue.{IsFieldValue}
use Rattle.gw_fields.specs.Lists.{skip_blanks}
use Rattle.gw_fields.specs.Order.{lines_of}
use Rattle.gw_head.specs.declared.framing.Framing.TheVariants.{Length}
use Rattle.gw_head.specs.declared.reply.ReplyHead.{ReplyHead}
use Rattle.gw_head.specs.declared.request.RequestHead.{RequestHead}
use Rattle.gw_head.specs.Checks.{has_bad_code, is_bad_host, is_connect, reply_fault, request_fault}

-- no blank stands at either end
pub record IsBare (value : List ℕ) : Type 0 where
  pub front : skip_blanks value ≡ value
  pub back : skip_blanks (reverse value) ≡ reverse value

-- a field that a line carries as it is (RFC 9110, sections 5.1 and 5.5): the name is a token in lower case, no byte of
-- the value ends a line, and no blank stands at the value's ends
pub record IsPlainField (field : List ℕ × List ℕ) : Type 0 where
  pub name : IsHeaderName field.0
  pub value : IsFieldValue field.1
  pub bare : IsBare field.1

-- the version (RFC 9112, section 2.3)
abbrev pub version_text : ℕ → List ℕ
version_text minor = codes "HTTP/1." ++ (48 + minor) ∷ []

-- a reply's head: the status line (RFC 9112, section 4), the field lines and the empty line
abbrev pub reply_text : ℕ → ℕ → List ℕ → List (List ℕ × List ℕ) → List ℕ
reply_text minor code phrase fields =
    (((version_text minor ++ codes " ") ++ ((decimal code ++ codes " ") ++ phrase)) ++ codes "\r\n")
    ++ (lines_of fields ++ codes "\r\n")

-- the parts can be written, there are no more fields than a head may have, and they fail no check of a head
pub record IsPlainReply (minor code : ℕ) (phrase : List ℕ) (fields : List (List ℕ × List ℕ)) : Type 0 where
  pub spoken : minor ≤ 1
  pub words : IsFieldValue phrase
  pub plain : All IsPlainField fields
  pub few : length fields ≤ 128
  pub passes : reply_fault minor code fields ≡ None

-- a request's head: the request line (RFC 9112, section 3), the field lines and the empty line
abbrev pub request_text : List ℕ → List ℕ → List (List ℕ × List ℕ) → List ℕ
request_text method target fields =
    (((method ++ codes " ") ++ target) ++ codes " HTTP/1.1\r\n") ++ (lines_of fields ++ codes "\r\n")

-- a target that a request line can carry: text without blanks and control bytes
pub record IsTarget (target : List ℕ) : Type 0 where
  pub some : 0 < length target
  pub bytes : AllPass is_uri_byte target
  pub words : IsUtf8 target

-- the same of a request's head; the method is a token
pub record IsPlainRequest (method target : List ℕ) (fields : List (List ℕ × List ℕ)) : Type 0 where
  pub verb : IsToken method
  pub aim : IsTarget target
  pub plain : All IsPlainField fields
  pub few : length fields ≤ 128
  pub passes : request_fault method target 1 fields ≡ None

-- what a reply's head says can be written again: its fields, its code and its length
pub record IsWritableReply (head : ReplyHead) : Type 0 where
  pub plain : All IsPlainField head.fields
  pub coded : has_bad_code head.code ≡ false
  pub small : (n : ℕ) → head.length ≡ Some n → n < 2 ^ 63

-- what a request's head says can be written again: its method, which is no CONNECT, its fields, its host and its length
pub record IsWritableRequest (head : RequestHead) : Type 0 where
  pub verb : IsToken head.method
  pub tunnel : is_connect head.method ≡ false
  pub plain : All IsPlainField head.fields
  pub named : is_bad_host head.host ≡ false
  pub small : (n : ℕ) → head.framing ≡ Length n → n < 2 ^ 63
