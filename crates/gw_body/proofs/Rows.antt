-- The definitions at worked examples.
use Rattle.std.proofs.Common.{◌≡◌, ℕ, [], ◌∷◌, ◌++◌, refl, true, false, arith}
use Rattle.std.specs.Prelude.{codes, Option, Some, None}
use Rattle.gw_chunk.specs.declared.error.ChunkError.TheVariants.{TooLarge}
use Rattle.gw_chunk.specs.Bytes.{crlf}
use Rattle.gw_chunk.specs.Chunked.{coded}
use Rattle.gw_chunk.proofs.Facts.{coded_is_chunked}
use Rattle.gw_head.specs.declared.framing.Framing.TheVariants.{None as NoBody, Length, Chunked, ToEnd}
use Rattle.gw_head.specs.declared.reply.ReplyHead.{ReplyHead}
use Rattle.gw_body.specs.declared.place.Place.TheVariants.{ToEnd as AtMost}
use Rattle.gw_body.specs.Body.{BodyOf}
use Rattle.gw_body.specs.Places.{FailsBody}
use Rattle.gw_body.specs.Framing.{reply_framing_of}
use Rattle.gw_body.specs.Written.{plan_of, written, body_text}

-- a reply's head of which only what frames its body matters
abbrev head : ℕ → Option ℕ → ReplyHead
head code said = record { code = code; old = false; fields = []; close = false; length = said; chunked = false }

abbrev chunked_head : ℕ → ReplyHead
chunked_head code = record { code = code; old = false; fields = []; close = false; length = None; chunked = true }

to_head : reply_framing_of (head 200 (Some 5)) (codes "HEAD") ≡ NoBody
to_head = refl

informational : reply_framing_of (head 199 (Some 5)) (codes "GET") ≡ NoBody
informational = refl

no_content : reply_framing_of (chunked_head 204) (codes "GET") ≡ NoBody
no_content = refl

not_modified : reply_framing_of (head 304 (Some 5)) (codes "GET") ≡ NoBody
not_modified = refl

in_chunks : reply_framing_of (chunked_head 200) (codes "GET") ≡ Chunked
in_chunks = refl

of_length : reply_framing_of (head 200 (Some 5)) (codes "POST") ≡ Length 5
of_length = refl

to_the_end : reply_framing_of (head 205 None) (codes "GET") ≡ ToEnd
to_the_end = refl

-- a method's letters count
small_letters : reply_framing_of (head 200 None) (codes "head") ≡ ToEnd
small_letters = refl

no_body : BodyOf NoBody (codes "GET /") [] (codes "GET /")
no_body = (refl, refl)

five_bytes : BodyOf (Length 5) (codes "helloGET /") (codes "hello") (codes "GET /")
five_bytes = (refl, refl)

all_bytes : BodyOf ToEnd (codes "hello") (codes "hello") []
all_bytes = (refl, refl, omega arith)

-- of two bytes that may come, the third is refused
too_large : FailsBody (AtMost 2) (codes "abc") TooLarge
too_large = (refl, omega arith)

written_length : written (plan_of (Length 5)) (codes "hel" ∷ codes "lo" ∷ []) ≡ codes "hello"
written_length = refl

written_chunks : written (plan_of Chunked) (codes "hello" ∷ []) ≡ codes "5" ++ crlf ++ codes "hello" ++ crlf ++ codes "0" ++ crlf ++ crlf
written_chunks = refl

written_nothing : written (plan_of Chunked) [] ≡ codes "0" ++ crlf ++ crlf
written_nothing = refl

read_chunks : BodyOf Chunked (body_text Chunked (codes "hello") ++ codes "GET /") (codes "hello") (codes "GET /")
read_chunks = (coded (codes "hello"), refl, coded_is_chunked (codes "hello") (omega arith))
