-- A request that is passed on, as the backend reads it.
use Rattle.std.specs.Prelude.{◌≡◌, ◌≢◌, ℕ, ◌≤◌, ◌<◌, false, List, ◌++◌, length, slice_index, Option}
use Rattle.gw_wire.specs.declared.values.Addr.{Addr}
use Rattle.gw_wire.specs.Visible.{AreVisible}
use Rattle.gw_head.specs.declared.framing.Framing.TheVariants.{ToEnd}
use Rattle.gw_head.specs.declared.request.RequestHead.{RequestHead}
use Rattle.gw_head.specs.Checks.{is_bad_host}
use Rattle.gw_head.specs.Head.{RequestHeadOf}
use Rattle.gw_head.specs.Mark.{head_limit}
use Rattle.gw_head.specs.Pieces.{has_byte}
use Rattle.gw_head.specs.Target.{has_bad_escape}
use Rattle.gw_head.specs.Written.{IsTarget, IsWritableRequest}
use Rattle.gw_proxy.specs.OutRequest.{host_of, joined, out_request_of, query_text, request_fields}

-- a path from the root without '?', '#' and broken escapes, and a query without '#' (RFC 3986, section 3)
pub record IsResource (path : List ℕ) (query : Option (List ℕ)) : Type 0 where
  pub rooted : slice_index path 0 ≡ 47
  pub bare : has_byte 63 path ≡ false
  pub escaped : has_bad_escape path ≡ false
  pub whole : has_byte 35 (path ++ query_text query) ≡ false
  pub written : IsTarget (path ++ query_text query)

-- what goes into the head can stand there: what was read of the request, the target behind the base, the host, and the
-- peer
pub record CanBePassed (head : RequestHead) (base : List ℕ) (addr : Addr) (peer : List ℕ) : Type 0 where
  pub writable : IsWritableRequest head
  pub rooted : head.star ≡ false
  pub ended : head.framing ≢ ToEnd
  pub aimed : IsResource (joined base head.path) head.query
  pub named : is_bad_host (host_of head addr) ≡ false
  pub shown : AreVisible peer
  pub some : 0 < length peer

-- a head that is read from just these bytes, with the same method, host, query and framing, and the path behind the
-- base; it is of HTTP/1.1, expects nothing and doesn't close the link
pub record ReadsAsAsked (bytes : List ℕ) (sent : RequestHead) (base : List ℕ) (addr : Addr) : Type 0 where
  pub head : RequestHead
  pub reads : RequestHeadOf bytes head
  pub method : head.method ≡ sent.method
  pub host : head.host ≡ host_of sent addr
  pub path : head.path ≡ joined base sent.path
  pub query : head.query ≡ sent.query
  pub star : head.star ≡ false
  pub framed : head.framing ≡ sent.framing
  pub old : head.old ≡ false
  pub expect : head.expect ≡ false
  pub close : head.close ≡ false

-- each such head of at most 128 fields and 65,536 bytes is so
abbrev pub PassedRequestsAreRead : Type 0
PassedRequestsAreRead =
    (head : RequestHead) (base : List ℕ) (addr : Addr) (peer : List ℕ) → CanBePassed head base addr peer
    → length (request_fields head peer) < 128 → length (out_request_of head base addr peer) ≤ head_limit
    → ReadsAsAsked (out_request_of head base addr peer) head base addr
