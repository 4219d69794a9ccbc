-- What is sent, as it is read at the other end.
use Rattle.std.specs.Prelude.{◌≡◌, ℕ, ◌≤◌, Bool, List, ◌++◌, length, All, IsTrue, ⊤, if◌then◌else◌}
use Rattle.http_header.specs.Token.{IsToken}
use Rattle.gw_wire.specs.Visible.{AreVisible}
use Rattle.gw_head.specs.declared.framing.Framing.{Framing}
use Rattle.gw_head.specs.declared.framing.Framing.TheVariants.{None as NoBody, Length}
use Rattle.gw_head.specs.declared.reply.ReplyHead.{ReplyHead}
use Rattle.gw_head.specs.Head.{ReplyHeadOf}
use Rattle.gw_head.specs.Mark.{head_limit}
use Rattle.gw_body.specs.Framing.{reply_framing_of}
use Rattle.gw_proxy.specs.declared.own.Own.{Own}
use Rattle.gw_proxy.specs.declared.own.Own.TheVariants.{Options, Stopped, Moved, NotAllowed, Plain}
use Rattle.gw_proxy.specs.Date.{IsDateAt}
use Rattle.gw_proxy.specs.OutReply.{is_head, is_own, own_code, own_body, out_reply_of, reply_fields, sent_body, sent_framing_of, OwnReply}

-- what a reply of the gateway's own was given can stand in a field line: a location is visible ASCII, a method a token
abbrev pub CanBeSent : Own → Type 0
CanBeSent Options = ⊤
CanBeSent Stopped = ⊤
CanBeSent (Moved location) = AreVisible location
CanBeSent (NotAllowed methods) = All IsToken methods.items
CanBeSent (Plain code) = ⊤

-- a reply's head is read from just these bytes, with this code and version; it says whether the link closes, and that
-- the body behind it is framed so, where the request had this method
pub record ReadsAsReply (bytes : List ℕ) (code : ℕ) (old close : Bool) (method : List ℕ) (framing : Framing) : Type 0 where
  pub head : ReplyHead
  pub reads : ReplyHeadOf bytes head
  pub coded : head.code ≡ code
  pub spoken : head.old ≡ old
  pub closes : head.close ≡ close
  pub framed : reply_framing_of head method ≡ framing

-- nothing in an answer to HEAD, else the body's length
abbrev pub own_framing : Own → List ℕ → Framing
own_framing own method = if is_head method then NoBody else Length (length (own_body own))

-- a reply of the gateway's own: a head that is read as it was meant, and behind it the body that the head announces
pub record ReadsOwn (own : Own) (method : List ℕ) (old close : Bool) (text : List ℕ) : Type 0 where
  pub front : List ℕ
  pub parts : text ≡ front ++ sent_body method (own_body own)
  pub reads : ReadsAsReply front (own_code own) old close method (own_framing own method)

-- each such reply of at most 65,536 bytes is so
abbrev pub OwnRepliesAreRead : Type 0
OwnRepliesAreRead =
    (own : Own) (method : List ℕ) (old close : Bool) (moment : ℕ) (text : List ℕ) → IsTrue (is_own own) → CanBeSent own
    → OwnReply own method old close moment text → length text ≤ head_limit → ReadsOwn own method old close text

-- a backend's reply that was read, as it goes to the client, of at most 128 fields and 65,536 bytes: it is read with the
-- code and the body that it came with
abbrev pub PassedRepliesAreRead : Type 0
PassedRepliesAreRead =
    (bytes : List ℕ) (reply : ReplyHead) (method : List ℕ) (old close : Bool) (moment : ℕ) (date : List ℕ)
    → ReplyHeadOf bytes reply → IsDateAt moment date
    → length (reply_fields reply (reply_framing_of reply method) method old close date) ≤ 128
    → length (out_reply_of reply (reply_framing_of reply method) method old close date) ≤ head_limit
    → ReadsAsReply (out_reply_of reply (reply_framing_of reply method) method old close date) reply.code old close method
    (sent_framing_of (reply_framing_of reply method) old)
