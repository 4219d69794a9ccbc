-- The head of a reply as it goes to a client, and the replies that the gateway gives by itself.
use Rattle.std.specs.Prelude.{◌≡◌, ℕ, Bool, true, ◌||◌, ◌&&◌, List, [], ◌∷◌, ◌++◌, codes, decimal, length, nat_le, nat_lt, bytes_eq, flat_map, unwrap_or, Option, Some, None, if◌then◌else◌, ◌==◌}
use Rattle.std.specs.List.{list_any}
use Rattle.http.specs.StatusCode.{reason_phrase}
use Rattle.gw_fields.specs.Hops.{without_hops}
use Rattle.gw_fields.specs.Lines.{has_field}
use Rattle.gw_head.specs.declared.framing.Framing.{Framing}
use Rattle.gw_head.specs.declared.framing.Framing.TheVariants.{None as NoBody, Length, Chunked, ToEnd}
use Rattle.gw_head.specs.declared.reply.ReplyHead.{ReplyHead}
use Rattle.gw_body.specs.Written.{body_text}
use Rattle.gw_proxy.specs.declared.own.Own.{Own}
use Rattle.gw_proxy.specs.declared.own.Own.TheVariants.{Options, Stopped, Moved, NotAllowed, Plain}
use Rattle.gw_proxy.specs.Date.{IsDateAt}
use Rattle.gw_proxy.specs.Lines.{without, field_section, length_fields, coding_fields}

-- the phrase of the code, or nothing
unfoldable pub phrase_of : ℕ → List ℕ
phrase_of code = if nat_le 100 code && nat_lt code 1000 then unwrap_or (reason_phrase code) [] else []

abbrev pub version_of : Bool → List ℕ
version_of old = if old then codes "HTTP/1.0" else codes "HTTP/1.1"

abbrev pub code_text : ℕ → List ℕ
code_text code = (decimal code ++ codes " ") ++ phrase_of code

-- the status line (RFC 9112, section 4), in the client's version
abbrev pub status_line_of : Bool → ℕ → List ℕ
status_line_of old code = ((version_of old ++ codes " ") ++ code_text code) ++ codes "\r\n"

abbrev pub is_head : List ℕ → Bool
is_head method = bytes_eq method (codes "HEAD")

-- the length that is said: that of the body, or for an answer without one to HEAD and with 304 the backend's
abbrev pub reply_length : Framing → ReplyHead → List ℕ → Option ℕ
reply_length (Length n) reply method = Some n
reply_length Chunked reply method = None
reply_length ToEnd reply method = None
reply_length NoBody reply method = if is_head method || reply.code == 304 then reply.length else None

-- how the body is sent to the client: a body of unknown length is in chunks, and plain to a client of HTTP/1.0, which
-- reads it to the end of the link
abbrev pub sent_framing_of : Framing → Bool → Framing
sent_framing_of NoBody old = NoBody
sent_framing_of (Length n) old = Length n
sent_framing_of Chunked old = if old then ToEnd else Chunked
sent_framing_of ToEnd old = if old then ToEnd else Chunked

abbrev pub date_fields : List ℕ → List (List ℕ × List ℕ) → List (List ℕ × List ℕ)
date_fields date fields = if has_field (codes "date") fields then [] else (codes "date", date) ∷ []

-- the link closes behind this reply (RFC 9112, section 9.6)
abbrev pub close_fields : Bool → List (List ℕ × List ℕ)
close_fields close = if close then (codes "connection", codes "close") ∷ [] else []

-- the reply's fields that are handed on
abbrev pub reply_kept : ReplyHead → List (List ℕ × List ℕ)
reply_kept reply = without (codes "content-length") (without_hops reply.fields)

abbrev pub reply_fields : ReplyHead → Framing → List ℕ → Bool → Bool → List ℕ → List (List ℕ × List ℕ)
reply_fields reply framing method old close date =
    (((reply_kept reply ++ date_fields date (reply_kept reply)) ++ length_fields (reply_length framing reply method))
    ++ coding_fields (sent_framing_of framing old))
    ++ close_fields close

-- the head: the status line, the fields in their order, and the empty line
abbrev pub out_reply_of : ReplyHead → Framing → List ℕ → Bool → Bool → List ℕ → List ℕ
out_reply_of reply framing method old close date =
    status_line_of old reply.code ++ field_section (reply_fields reply framing method old close date)

-- the whole text of a reply whose body has these data
abbrev pub reply_text_of : ReplyHead → Framing → List ℕ → Bool → Bool → List ℕ → List ℕ → List ℕ
reply_text_of reply framing method old close date d =
    out_reply_of reply framing method old close date ++ body_text (sent_framing_of framing old) d

-- the head with the date of a moment
abbrev pub OutReply : ReplyHead → Framing → List ℕ → Bool → Bool → ℕ → List ℕ → Type 0
OutReply reply framing method old close moment text =
    (date : List ℕ) × IsDateAt moment date × (text ≡ out_reply_of reply framing method old close date)

-- the codes of the gateway's own replies
abbrev pub own_codes : List ℕ
own_codes = 200 ∷ 400 ∷ 404 ∷ 405 ∷ 417 ∷ 431 ∷ 501 ∷ 502 ∷ 503 ∷ 504 ∷ 505 ∷ []

-- a plain reply has such a code
abbrev pub is_own : Own → Bool
is_own Options = true
is_own Stopped = true
is_own (Moved location) = true
is_own (NotAllowed methods) = true
is_own (Plain code) = list_any (λ known. code == known) own_codes

abbrev pub own_code : Own → ℕ
own_code Options = 200
own_code Stopped = 200
own_code (Moved location) = 301
own_code (NotAllowed methods) = 405
own_code (Plain code) = code

-- a line with the code and its phrase
abbrev pub code_line : ℕ → List ℕ
code_line code = code_text code ++ codes "\n"

abbrev pub own_body : Own → List ℕ
own_body Options = []
own_body Stopped = code_line 200
own_body (Moved location) = []
own_body (NotAllowed methods) = code_line 405
own_body (Plain code) = code_line code

-- the methods, with a comma and a space between them
abbrev pub method_list : List (List ℕ) → List ℕ
method_list [] = []
method_list (method ∷ methods) = method ++ flat_map (λ other. codes ", " ++ other) methods

abbrev pub allowed_text : Own → List ℕ
allowed_text Options = []
allowed_text Stopped = []
allowed_text (Moved location) = []
allowed_text (NotAllowed methods) = method_list methods.items
allowed_text (Plain code) = []

-- the place to go to (RFC 9110, section 10.2.2), and the methods that are allowed (section 10.2.1)
abbrev pub own_line : Own → List (List ℕ × List ℕ)
own_line Options = []
own_line Stopped = []
own_line (Moved location) = (codes "location", location) ∷ []
own_line (NotAllowed methods) = (codes "allow", method_list methods.items) ∷ []
own_line (Plain code) = []

abbrev pub own_fields : Own → Bool → List ℕ → List (List ℕ × List ℕ)
own_fields own close date =
    ((own_line own ++ length_fields (Some (length (own_body own)))) ++ (codes "date", date) ∷ []) ++ close_fields close

-- an answer to HEAD has no body (RFC 9110, section 9.3.2)
abbrev pub sent_body : List ℕ → List ℕ → List ℕ
sent_body method body = if is_head method then [] else body

abbrev pub own_reply_of : Own → List ℕ → Bool → Bool → List ℕ → List ℕ
own_reply_of own method old close date =
    (status_line_of old (own_code own) ++ field_section (own_fields own close date))
    ++ sent_body method (own_body own)

-- the same with the date of a moment
abbrev pub OwnReply : Own → List ℕ → Bool → Bool → ℕ → List ℕ → Type 0
OwnReply own method old close moment text =
    (date : List ℕ) × IsDateAt moment date × (text ≡ own_reply_of own method old close date)
