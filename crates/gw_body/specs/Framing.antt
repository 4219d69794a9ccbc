-- How the body behind a reply's head is framed (RFC 9112, section 6.3).
use Rattle.std.specs.Prelude.{ℕ, Bool, ◌||◌, ◌&&◌, List, nat_lt, nat_le, bytes_eq, codes, Option, Some, None, ◌==◌, if◌then◌else◌}
use Rattle.gw_head.specs.declared.framing.Framing.{Framing}
use Rattle.gw_head.specs.declared.framing.Framing.TheVariants.{None as NoBody, Length, Chunked, ToEnd}
use Rattle.gw_head.specs.declared.reply.ReplyHead.{ReplyHead}

-- a code of a reply without a body: 1xx, 204 and 304
abbrev pub is_bodiless : ℕ → Bool
is_bodiless code = (nat_le 100 code && nat_lt code 200) || (code == 204 || code == 304)

-- so many bytes, or all up to the end of the link
abbrev pub counted_framing : Option ℕ → Framing
counted_framing None = ToEnd
counted_framing (Some n) = Length n

-- of the reply with this head, to a request with this method
abbrev pub reply_framing_of : ReplyHead → List ℕ → Framing
reply_framing_of head method =
    if bytes_eq method (codes "HEAD") || is_bodiless head.code then NoBody
    else (if head.chunked then Chunked
    else counted_framing head.length)
