-- When another request may follow on the connection of a reply.
use Rattle.std.specs.Prelude.{Bool, true, false, not, ◌&&◌, ◌==◌, length}
use Rattle.gw_head.specs.declared.framing.Framing.{Framing}
use Rattle.gw_head.specs.declared.framing.Framing.TheVariants.{None as NoBody, Length, Chunked, ToEnd}
use Rattle.gw_body.specs.Places.{is_done}
use Rattle.gw_stream.specs.declared.relaying.Incoming.{Incoming}
use Rattle.gw_transport.specs.declared.replying.Begun.{Begun}

-- a body of this framing ends before its link does (RFC 9112, section 6.3)
abbrev pub is_delimited : Framing → Bool
is_delimited NoBody = true
is_delimited (Length n) = true
is_delimited Chunked = true
is_delimited ToEnd = false

-- its body was delimited and read to its end, nothing came behind it, and its head neither is of HTTP/1.0 nor says that
-- the connection closes (RFC 9112, section 9.3)
abbrev pub is_reusable : Begun → Incoming → Bool
is_reusable reply from =
    is_delimited reply.framing && (is_done from.body && (length from.inbox == 0 && (not reply.head.old && not reply.head.close)))
