-- Laws of the end mark and of heads.
use Rattle.std.specs.Prelude.{◌≡◌, ℕ, ◌≤◌, List, [], ◌++◌, length, Some}
use Rattle.httparse.specs.Grammar.{RequestHead as RequestParts, print_request, ReadsRequest, ResponseHead as ReplyParts, print_response, ReadsResponse}
use Rattle.gw_head.specs.declared.error.HeadError.{HeadError}
use Rattle.gw_head.specs.declared.reply.ReplyHead.{ReplyHead}
use Rattle.gw_head.specs.declared.request.RequestHead.{RequestHead}
use Rattle.gw_head.specs.Head.{request_head_of, RequestHeadOf, BadRequestHead, reply_head_of, ReplyHeadOf, BadReplyHead}
use Rattle.gw_head.specs.Mark.{head_end, head_limit}
use Rattle.gw_head.specs.Written.{IsPlainReply, IsPlainRequest, IsWritableReply, IsWritableRequest, reply_text, request_text}

-- a request's head of the grammar, whatever follows, ends with the end mark
abbrev pub RequestEndsAtMark : Type 0
RequestEndsAtMark =
    (bytes rest : List ℕ) (parts : RequestParts) → ReadsRequest bytes parts rest
    → head_end bytes ≡ Some (length (print_request parts))

-- the same of a reply's head
abbrev pub ReplyEndsAtMark : Type 0
ReplyEndsAtMark =
    (bytes rest : List ℕ) (parts : ReplyParts) → ReadsResponse bytes parts rest
    → head_end bytes ≡ Some (length (print_response parts))

-- the end mark depends on the bytes up to it alone
abbrev pub MarkStays : Type 0
MarkStays =
    (front more : List ℕ) (n : ℕ) → head_end front ≡ Some n → head_end (front ++ more) ≡ Some n

-- bytes have one head, or one error, and not both
pub record HasOneAnswer
    {H : Type 0} (HeadOf : List ℕ → H → Type 0) (BadHead : List ℕ → HeadError → Type 0) : Type 0 where
  pub heads : (bytes : List ℕ) (head other : H) → HeadOf bytes head → HeadOf bytes other → head ≡ other
  pub errors : (bytes : List ℕ) (error other : HeadError) → BadHead bytes error → BadHead bytes other
      → error ≡ other
  pub apart : (bytes : List ℕ) (head : H) (error : HeadError) → HeadOf bytes head → BadHead bytes error → ⊥

abbrev pub OneRequestAnswer : Type 0
OneRequestAnswer = HasOneAnswer RequestHeadOf BadRequestHead

abbrev pub OneReplyAnswer : Type 0
OneReplyAnswer = HasOneAnswer ReplyHeadOf BadReplyHead

-- no head is a proper front of another
abbrev pub IsPrefixFree : {H : Type 0} → (List ℕ → H → Type 0) → Type 0
IsPrefixFree {H} HeadOf =
    (front more : List ℕ) (head other : H) → HeadOf front head → HeadOf (front ++ more) other → more ≡ []

abbrev pub NoRequestBeginsAnother : Type 0
NoRequestBeginsAnother = IsPrefixFree RequestHeadOf

abbrev pub NoReplyBeginsAnother : Type 0
NoReplyBeginsAnother = IsPrefixFree ReplyHeadOf

-- a reply's head that is written plainly, and no longer than a head may be, is read with just its parts
abbrev pub WrittenReplyIsRead : Type 0
WrittenReplyIsRead =
    (minor code : ℕ) (phrase : List ℕ) (fields : List (List ℕ × List ℕ)) → IsPlainReply minor code phrase fields
    → length (reply_text minor code phrase fields) ≤ head_limit
    → ReplyHeadOf (reply_text minor code phrase fields) (reply_head_of minor code fields)

-- the same of a request's head
abbrev pub WrittenRequestIsRead : Type 0
WrittenRequestIsRead =
    (method target : List ℕ) (fields : List (List ℕ × List ℕ)) → IsPlainRequest method target fields
    → length (request_text method target fields) ≤ head_limit
    → RequestHeadOf (request_text method target fields) (request_head_of method target 1 fields)

-- what is read can be written again
abbrev pub ReadReplyIsWritable : Type 0
ReadReplyIsWritable = (bytes : List ℕ) (head : ReplyHead) → ReplyHeadOf bytes head → IsWritableReply head

abbrev pub ReadRequestIsWritable : Type 0
ReadRequestIsWritable = (bytes : List ℕ) (head : RequestHead) → RequestHeadOf bytes head → IsWritableRequest head
