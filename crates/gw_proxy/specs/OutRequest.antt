-- The head of a request as it goes to a backend: a function of the list of fields.
use Rattle.std.specs.Prelude.{ℕ, ◌-◌, Bool, ◌||◌, List, [], ◌∷◌, ◌++◌, codes, length, take, drop, slice_index, Option, Some, None, if◌then◌else◌, ◌==◌}
use Rattle.gw_wire.specs.declared.values.Addr.{Addr}
use Rattle.gw_wire.specs.AddressText.{address_text}
use Rattle.gw_fields.specs.Fields.{has_token}
use Rattle.gw_fields.specs.Hops.{without_hops}
use Rattle.gw_fields.specs.Lines.{has_field, values_text}
use Rattle.gw_fields.specs.Order.{line_of}
use Rattle.gw_head.specs.declared.framing.Framing.{Framing}
use Rattle.gw_head.specs.declared.framing.Framing.TheVariants.{None as NoBody, Length, Chunked, ToEnd}
use Rattle.gw_head.specs.declared.request.RequestHead.{RequestHead}
use Rattle.gw_body.specs.Written.{body_text}
use Rattle.gw_proxy.specs.declared.request.OutHead.{OutHead}
use Rattle.gw_proxy.specs.Lines.{without, field_section, length_fields, coding_fields}

-- a base and a path, with one slash between them; an empty base is none
abbrev pub without_last_slash : List ℕ → List ℕ
without_last_slash base = if slice_index base (length base - 1) == 47 then take (length base - 1) base else base

abbrev pub without_first_slash : List ℕ → List ℕ
without_first_slash path = if slice_index path 0 == 47 then drop 1 path else path

abbrev pub joined : List ℕ → List ℕ → List ℕ
joined base path =
    if length base == 0 then path
    else (without_last_slash base ++ codes "/") ++ without_first_slash path

abbrev pub query_text : Option (List ℕ) → List ℕ
query_text None = []
query_text (Some query) = codes "?" ++ query

-- the target (RFC 9112, section 3.2): `*`, or the path behind the base, and the query
unfoldable pub target_of : RequestHead → List ℕ → List ℕ
target_of head base = if head.star then codes "*" else joined base head.path ++ query_text head.query

abbrev pub request_line_of : RequestHead → List ℕ → List ℕ
request_line_of head base = ((head.method ++ codes " ") ++ target_of head base) ++ codes " HTTP/1.1\r\n"

-- the host as it was sent, or else the backend's address
abbrev pub host_or : List ℕ → Addr → List ℕ
host_or host addr = if length host == 0 then address_text addr else host

abbrev pub host_of : RequestHead → Addr → List ℕ
host_of head addr = host_or head.host addr

-- the fields without those that are made anew
abbrev pub without_rewritten : List (List ℕ × List ℕ) → List (List ℕ × List ℕ)
without_rewritten fields =
    without (codes "x-forwarded-for") (without (codes "expect")
    (without (codes "content-length") (without (codes "host") fields)))

-- that trailers are understood, where the client said so (RFC 9110, section 10.1.4)
abbrev pub trailers_fields : List (List ℕ × List ℕ) → List (List ℕ × List ℕ)
trailers_fields fields =
    if has_token (codes "te") (codes "trailers") fields then (codes "te", codes "trailers") ∷ [] else []

-- the length that is said
abbrev pub request_length : Framing → Option ℕ
request_length NoBody = None
request_length (Length n) = Some n
request_length Chunked = None
request_length ToEnd = None

-- the addresses for which the request is sent: those that were named, and the peer
abbrev pub forwarded_text : List (List ℕ × List ℕ) → List ℕ → List ℕ
forwarded_text fields peer = values_text (codes "x-forwarded-for") (without_hops fields) ++ peer

-- the fields behind Host
abbrev pub request_fields : RequestHead → List ℕ → List (List ℕ × List ℕ)
request_fields head peer =
    (((without_rewritten (without_hops head.fields) ++ trailers_fields head.fields) ++ length_fields (request_length head.framing))
    ++ coding_fields head.framing)
    ++ (codes "x-forwarded-for", forwarded_text head.fields peer) ∷ []

-- the head: the request line, Host, the other fields in their order, and the empty line
abbrev pub out_request_of : RequestHead → List ℕ → Addr → List ℕ → List ℕ
out_request_of head base addr peer =
    (request_line_of head base ++ line_of (codes "host", host_of head addr)) ++ field_section (request_fields head peer)

-- a field by which a backend tells a request that is sent again
abbrev pub has_key_of : List (List ℕ × List ℕ) → Bool
has_key_of fields = has_field (codes "idempotency-key") fields || has_field (codes "x-idempotency-key") fields

-- the head, and what is asked of it later
abbrev pub out_head_of : RequestHead → List ℕ → Addr → List ℕ → OutHead
out_head_of head base addr peer = record {
  bytes = out_request_of head base addr peer;
  method = head.method;
  has_key = has_key_of (request_fields head peer);
  framing = head.framing;
}

-- the whole text of a request whose body has these data
abbrev pub request_text_of : OutHead → List ℕ → List ℕ
request_text_of head d = head.bytes ++ body_text head.framing d
