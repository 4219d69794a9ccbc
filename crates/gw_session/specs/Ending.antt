-- How a session goes on behind a request, and why it ends: nothing where it goes on.
use Rattle.std.specs.Prelude.{Bool, true, false, ◌||◌, nat_lt, Option, Some, None, if◌then◌else◌}
use Rattle.gw_head.specs.declared.framing.Framing.{Framing}
use Rattle.gw_head.specs.declared.framing.Framing.TheVariants.{None as NoBody, Length, Chunked, ToEnd}
use Rattle.gw_head.specs.declared.request.RequestHead.{RequestHead}
use Rattle.gw_stream.specs.declared.relaying.Relayed.{Relayed}
use Rattle.gw_stream.specs.declared.relaying.Relayed.TheVariants as relayed
use Rattle.gw_stream.specs.declared.waits.Loss.{Loss}
use Rattle.gw_stream.specs.declared.waits.Loss.TheVariants as loss
use Rattle.gw_stream.specs.declared.waits.Sent.{Sent}
use Rattle.gw_stream.specs.declared.waits.Sent.TheVariants as sent
use Rattle.gw_stream.specs.declared.waits.Stop.{Stop}
use Rattle.gw_stream.specs.declared.waits.Stop.TheVariants as stops
use Rattle.gw_transport.specs.declared.replying.End.{End}
use Rattle.gw_transport.specs.declared.replying.End.TheVariants as end
use Rattle.gw_session.specs.declared.end.Ended.{Ended}
use Rattle.gw_session.specs.declared.end.Ended.TheVariants as ended
use Rattle.gw_session.specs.declared.end.Why.{Why}
use Rattle.gw_session.specs.declared.end.Why.TheVariants as why

-- why the link closes behind the reply to a request, if it does (RFC 9112, sections 9.3 and 9.6): `last` says that no
-- more requests are served on the connection, `shut` that the gate was seen shut, `unread` that a body was left unread
abbrev pub why_after : RequestHead → Bool → Bool → Bool → Option Why
why_after head last shut unread =
    if head.old then Some why.Old
    else (if head.close || last then Some why.Asked
    else (if shut then Some why.Shut
    else (if unread then Some why.Unread else None)))

abbrev pub closed : Option Why → Option Ended
closed None = None
closed (Some reason) = Some (ended.Closed reason)

-- why it ends where nothing more comes of its client; between two requests a wait is given up where the gate was seen shut
abbrev pub stopped_end : Stop → Ended
stopped_end stops.Cancelled = ended.Closed why.Shut
stopped_end stops.Deadline = ended.Closed why.Shut
stopped_end stops.Silent = ended.Closed why.Timeout
stopped_end stops.Ticks = ended.Closed why.Timeout

abbrev pub lost_end : Loss → Ended
lost_end loss.End = ended.Closed why.End
lost_end loss.Failed = ended.Closed why.Failed
lost_end (loss.Stopped reason) = stopped_end reason

-- what follows a reply of which the client took so much
abbrev pub sent_next : Sent → Option Why → Option Ended
sent_next sent.All reason = closed reason
sent_next (sent.Failed some) reason = Some (ended.Closed why.Failed)
sent_next (sent.Stopped s) reason = Some (stopped_end s)

-- what follows a backend's reply that was passed on as it came; a trip that was cancelled or late cuts it
abbrev pub cut_end : Stop → Ended
cut_end stops.Cancelled = ended.Closed why.Cut
cut_end stops.Deadline = ended.Closed why.Cut
cut_end stops.Silent = ended.Closed why.Timeout
cut_end stops.Ticks = ended.Closed why.Timeout

abbrev pub relayed_next : Relayed → Option Why → Option Ended
relayed_next relayed.Whole reason = closed reason
relayed_next (relayed.Bad error) reason = Some (ended.Closed why.Cut)
relayed_next (relayed.Lost s) reason = Some (ended.Closed why.Cut)
relayed_next (relayed.WriteFailed some) reason = Some (ended.Closed why.Failed)
relayed_next (relayed.WriteStopped s) reason = Some (cut_end s)
relayed_next relayed.Spent reason = Some ended.NoMemory

-- what follows a trip that its client ended, or for which memory was wanting
abbrev pub over_end : End → Ended
over_end (end.Body error) = ended.Closed why.BadRequest
over_end end.ClientEnd = ended.Closed why.End
over_end end.ClientFailed = ended.Closed why.Failed
over_end end.ClientTimeout = ended.Closed why.Timeout
over_end end.NoMemory = ended.NoMemory

-- a request has a body that isn't empty
abbrev pub has_body : Framing → Bool
has_body NoBody = false
has_body (Length n) = nat_lt 0 n
has_body Chunked = true
has_body ToEnd = true
