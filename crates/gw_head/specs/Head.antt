-- The heads of messages over whole byte lists: a head is what the grammar of `httparse` reads from exactly the bytes up to the
-- head's end mark, where no check fails (RFC 9112, sections 2 to 7).
use Rattle.std.specs.Prelude.{◌≡◌, ℕ, Bool, true, false, ◌⊎◌, List, [], ◌∷◌, map, codes, Option, Some, None, Result, Ok, Err, ◌==◌}
use Rattle.std.specs.Str.{str_to_ascii_lowercase}
use Rattle.std.specs.Str.Parse.{digits_value}
use Rattle.httparse.specs.Grammar.{RequestHead as RequestParts, ReadsRequest, ResponseHead as ReplyParts, ReadsResponse, status_code}
use Rattle.gw_fields.specs.Fields.{has_token}
use Rattle.gw_head.specs.declared.error.HeadError.{HeadError}
use Rattle.gw_head.specs.declared.error.HeadError.TheVariants.{Malformed}
use Rattle.gw_head.specs.declared.error.Refusal.{Refusal}
use Rattle.gw_head.specs.declared.error.Refusal.TheVariants.{Bad, NoMemory}
use Rattle.gw_head.specs.declared.framing.Framing.{Framing}
use Rattle.gw_head.specs.declared.framing.Framing.TheVariants.{None as NoBody, Length, Chunked}
use Rattle.gw_head.specs.declared.request.RequestHead.{RequestHead}
use Rattle.gw_head.specs.declared.reply.ReplyHead.{ReplyHead}
use Rattle.gw_head.specs.declared.target.Form.{Form}
use Rattle.gw_head.specs.declared.target.Form.TheVariants.{Origin, Absolute, Asterisk, Other}
use Rattle.gw_head.specs.Fields.{fields_of}
use Rattle.gw_head.specs.Mark.{IsWhole}
use Rattle.gw_head.specs.Target.{form_of, authority_of, resource_in, path_in, query_of}
use Rattle.gw_head.specs.Checks.{codings_of, lengths_of, hosts_of, expectations_of, is_some_value, first_value, request_fault, reply_fault, request_lines_fault, reply_lines_fault}

-- a field whose name is in lower case
abbrev pub lowered : List ℕ × List ℕ → List ℕ × List ℕ
lowered field = (str_to_ascii_lowercase field.0, field.1)

abbrev pub lowered_fields : List (List ℕ × List ℕ) → List (List ℕ × List ℕ)
lowered_fields fields = map lowered fields

-- how a request's body is framed, of its codings and its lengths (RFC 9112, section 6.3)
abbrev pub framing_of : List (List ℕ) → List (List ℕ) → Framing
framing_of [] [] = NoBody
framing_of [] (value ∷ values) = Length (digits_value 10 value)
framing_of (coding ∷ codings) lengths = Chunked

-- the number that the lengths write, if there is one
abbrev pub length_of : List (List ℕ) → Option ℕ
length_of [] = None
length_of (value ∷ values) = Some (digits_value 10 value)

-- the host of the target, or else that of Host (RFC 9112, section 3.2.2)
abbrev pub host_in : Form → List ℕ → List (List ℕ) → List ℕ
host_in Origin target hosts = first_value hosts
host_in Absolute target hosts = authority_of target
host_in Asterisk target hosts = first_value hosts
host_in Other target hosts = first_value hosts

abbrev pub is_star : Form → Bool
is_star Origin = false
is_star Absolute = false
is_star Asterisk = true
is_star Other = false

-- the connection ends with this message (RFC 9112, section 9.6)
abbrev pub is_closing : List (List ℕ × List ℕ) → Bool
is_closing fields = has_token (codes "connection") (codes "close") (lowered_fields fields)

-- the head that a request's parts make
abbrev pub request_head_of : List ℕ → List ℕ → ℕ → List (List ℕ × List ℕ) → RequestHead
request_head_of method target minor fields = record {
  method = method;
  host = host_in (form_of method target) target (hosts_of fields);
  path = path_in (form_of method target) target;
  query = query_of (resource_in (form_of method target) target);
  star = is_star (form_of method target);
  old = minor == 0;
  fields = lowered_fields fields;
  framing = framing_of (codings_of fields) (lengths_of fields);
  expect = is_some_value (expectations_of fields);
  close = is_closing fields;
}

-- the head that a reply's parts make
abbrev pub reply_head_of : ℕ → ℕ → List (List ℕ × List ℕ) → ReplyHead
reply_head_of minor code fields = record {
  code = code;
  old = minor == 0;
  fields = lowered_fields fields;
  close = is_closing fields;
  length = length_of (lengths_of fields);
  chunked = is_some_value (codings_of fields);
}

-- the first check that the grammar's parts of a request fail
abbrev pub request_parts_fault : RequestParts → Option HeadError
request_parts_fault parts = request_fault parts.method parts.target parts.minor (fields_of parts.fields)

-- and of a reply
abbrev pub reply_parts_fault : ReplyParts → Option HeadError
reply_parts_fault parts = reply_fault parts.minor (status_code parts) (fields_of parts.fields)

-- the bytes are a request's head, up to and with its end mark; no check fails, and head has its parts
pub record RequestHeadOf (bytes : List ℕ) (head : RequestHead) : Type 0 where
  pub whole : IsWhole bytes
  pub lines : request_lines_fault bytes ≡ None
  pub parts : RequestParts
  pub reads : ReadsRequest bytes parts []
  pub passes : request_parts_fault parts ≡ None
  pub is : head ≡ request_head_of parts.method parts.target parts.minor (fields_of parts.fields)

-- of bytes whose lines are good: the grammar reads no head from them, or the error is that of the parts
abbrev pub BadRequestParts : List ℕ → HeadError → Type 0
BadRequestParts bytes error =
    (((parts : RequestParts) → ReadsRequest bytes parts [] → ⊥) × (error ≡ Malformed))
    ⊎ ((parts : RequestParts) × ReadsRequest bytes parts [] × (request_parts_fault parts ≡ Some error))

abbrev pub BadRequestBy : Option HeadError → List ℕ → HeadError → Type 0
BadRequestBy (Some fault) bytes error = error ≡ fault
BadRequestBy None bytes error = BadRequestParts bytes error

-- the bytes end with an end mark, and error is that of the first check that they fail
abbrev pub BadRequestHead : List ℕ → HeadError → Type 0
BadRequestHead bytes error = IsWhole bytes × BadRequestBy (request_lines_fault bytes) bytes error

-- the same of a reply
pub record ReplyHeadOf (bytes : List ℕ) (head : ReplyHead) : Type 0 where
  pub whole : IsWhole bytes
  pub lines : reply_lines_fault bytes ≡ None
  pub parts : ReplyParts
  pub reads : ReadsResponse bytes parts []
  pub passes : reply_parts_fault parts ≡ None
  pub is : head ≡ reply_head_of parts.minor (status_code parts) (fields_of parts.fields)

abbrev pub BadReplyParts : List ℕ → HeadError → Type 0
BadReplyParts bytes error =
    (((parts : ReplyParts) → ReadsResponse bytes parts [] → ⊥) × (error ≡ Malformed))
    ⊎ ((parts : ReplyParts) × ReadsResponse bytes parts [] × (reply_parts_fault parts ≡ Some error))

abbrev pub BadReplyBy : Option HeadError → List ℕ → HeadError → Type 0
BadReplyBy (Some fault) bytes error = error ≡ fault
BadReplyBy None bytes error = BadReplyParts bytes error

abbrev pub BadReplyHead : List ℕ → HeadError → Type 0
BadReplyHead bytes error = IsWhole bytes × BadReplyBy (reply_lines_fault bytes) bytes error

-- what is answered of the bytes; memory is wanted for a good head alone
abbrev pub Judges :
    {H : Type 0} → (List ℕ → H → Type 0) → (List ℕ → HeadError → Type 0) → List ℕ → Result H Refusal → Type 0
Judges HeadOf BadHead bytes (Ok head) = HeadOf bytes head
Judges HeadOf BadHead bytes (Err (Bad error)) = BadHead bytes error
Judges {H} HeadOf BadHead bytes (Err NoMemory) = (head : H) × HeadOf bytes head

-- the same of the parts of a head, where fault is what the checks say of them
abbrev pub JudgesParts : {H : Type 0} → Option HeadError → H → Result H Refusal → Type 0
JudgesParts fault made (Ok head) = (fault ≡ None) × (head ≡ made)
JudgesParts fault made (Err (Bad error)) = fault ≡ Some error
JudgesParts fault made (Err NoMemory) = fault ≡ None
