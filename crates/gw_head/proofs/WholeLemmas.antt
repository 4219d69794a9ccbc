-- What the parser's answer and the checks say of whole heads.
use Rattle.std.proofs.Common.{◌≡◌, ℕ, ◌≤◌, Bool, true, false, List, [], length, refl, sym, subst, arith, rules, inl, inr}
use Rattle.std.specs.Prelude.{Some, None, Result, Ok, Err, nat_lt, if◌then◌else◌}
use Rattle.httparse.specs.Grammar.{RequestHead as RequestParts, ReadsRequest, ResponseHead as ReplyParts, ReadsResponse, status_code}
use Rattle.gw_head.specs.declared.error.HeadError.{HeadError}
use Rattle.gw_head.specs.declared.error.HeadError.TheVariants.{Malformed, Version, TooManyFields}
use Rattle.gw_head.specs.declared.error.Refusal.{Refusal}
use Rattle.gw_head.specs.declared.error.Refusal.TheVariants.{Bad, NoMemory}
use Rattle.gw_head.specs.declared.request.RequestHead.{RequestHead}
use Rattle.gw_head.specs.declared.reply.ReplyHead.{ReplyHead}
use Rattle.gw_head.specs.Fields.{fields_of}
use Rattle.gw_head.specs.Mark.{IsWhole}
use Rattle.gw_head.specs.Lines.{line_count}
use Rattle.gw_head.specs.Checks.{request_fault, reply_fault, request_lines_fault, reply_lines_fault, has_other_request_version, has_other_reply_version, has_too_many_fields}
use Rattle.gw_head.specs.Head.{request_head_of, reply_head_of, RequestHeadOf, BadRequestHead, BadRequestBy, ReplyHeadOf, BadReplyHead, BadReplyBy, Judges, JudgesParts}
use Rattle.gw_head.proofs.LineLemmas.{request_lines, reply_lines}

-- ---- the number of the fields

second_passes : (first second : Bool) (e f : HeadError)
    → (if first then Some e else (if second then Some f else None)) ≡ None → second ≡ false
second_passes false false e f passes = refl
second_passes true second e f passes = search rules
second_passes false true e f passes = search rules

few_lines : (n : ℕ) → nat_lt 128 n ≡ false → n ≤ 128
few_lines n e = grind arith

no_more_lines : (bytes : List ℕ) → has_too_many_fields bytes ≡ false → line_count bytes ≤ 128
unfolding has_too_many_fields
no_more_lines bytes e = few_lines (line_count bytes) e

pub few_request_fields : (bytes : List ℕ) (parts : RequestParts) → request_lines_fault bytes ≡ None
    → ReadsRequest bytes parts [] → length parts.fields ≤ 128
few_request_fields bytes parts passes reads =
    let few = no_more_lines bytes (second_passes (has_other_request_version bytes) (has_too_many_fields bytes) Version TooManyFields passes) in
    let same = request_lines bytes parts reads in
    omega arith

pub few_reply_fields : (bytes : List ℕ) (parts : ReplyParts) → reply_lines_fault bytes ≡ None
    → ReadsResponse bytes parts [] → length parts.fields ≤ 128
few_reply_fields bytes parts passes reads =
    let few = no_more_lines bytes (second_passes (has_other_reply_version bytes) (has_too_many_fields bytes) Version TooManyFields passes) in
    let same = reply_lines bytes parts reads in
    omega arith

-- ---- bytes of which the grammar reads no head

pub no_request : (bytes : List ℕ) → IsWhole bytes → request_lines_fault bytes ≡ None
    → ((parts : RequestParts) → ReadsRequest bytes parts [] → ⊥) → BadRequestHead bytes Malformed
no_request bytes whole lines none =
    (whole, subst (λ o. BadRequestBy o bytes Malformed) (sym lines) (inl (none, refl)))

pub no_reply : (bytes : List ℕ) → IsWhole bytes → reply_lines_fault bytes ≡ None
    → ((parts : ReplyParts) → ReadsResponse bytes parts [] → ⊥) → BadReplyHead bytes Malformed
no_reply bytes whole lines none =
    (whole, subst (λ o. BadReplyBy o bytes Malformed) (sym lines) (inl (none, refl)))

-- ---- bytes of which it reads one

judged_request : (bytes : List ℕ) (parts : RequestParts) (result : Result RequestHead Refusal)
    → IsWhole bytes → request_lines_fault bytes ≡ None → ReadsRequest bytes parts []
    → JudgesParts (request_fault parts.method parts.target parts.minor (fields_of parts.fields))
    (request_head_of parts.method parts.target parts.minor (fields_of parts.fields)) result
    → Judges RequestHeadOf BadRequestHead bytes result
judged_request bytes parts (Ok head) whole lines reads judged =
    record { whole = whole; lines = lines; parts = parts; reads = reads; passes = judged.0; is = judged.1 }
judged_request bytes parts (Err (Bad error)) whole lines reads judged =
    (whole, subst (λ o. BadRequestBy o bytes error) (sym lines) (inr (parts, reads, judged)))
judged_request bytes parts (Err NoMemory) whole lines reads judged = (
  request_head_of parts.method parts.target parts.minor (fields_of parts.fields),
  record { whole = whole; lines = lines; parts = parts; reads = reads; passes = judged; is = refl },
)

-- the parts as the parser's spans cover them
pub request_judged : (bytes : List ℕ) (parts : RequestParts) (method target : List ℕ) (minor : ℕ)
    (fields : List (List ℕ × List ℕ)) (result : Result RequestHead Refusal)
    → method ≡ parts.method → target ≡ parts.target → minor ≡ parts.minor → fields ≡ fields_of parts.fields
    → IsWhole bytes → request_lines_fault bytes ≡ None → ReadsRequest bytes parts []
    → JudgesParts (request_fault method target minor fields) (request_head_of method target minor fields) result
    → Judges RequestHeadOf BadRequestHead bytes result
request_judged bytes parts method target minor fields result a b d e whole lines reads judged =
    judged_request bytes parts result whole lines reads
    (subst (λ v. JudgesParts (request_fault v parts.target parts.minor (fields_of parts.fields))
    (request_head_of v parts.target parts.minor (fields_of parts.fields)) result) a
    (subst (λ v. JudgesParts (request_fault method v parts.minor (fields_of parts.fields))
    (request_head_of method v parts.minor (fields_of parts.fields)) result) b
    (subst (λ v. JudgesParts (request_fault method target v (fields_of parts.fields))
    (request_head_of method target v (fields_of parts.fields)) result) d
    (subst (λ v. JudgesParts (request_fault method target minor v)
    (request_head_of method target minor v) result) e judged))))

judged_reply : (bytes : List ℕ) (parts : ReplyParts) (result : Result ReplyHead Refusal)
    → IsWhole bytes → reply_lines_fault bytes ≡ None → ReadsResponse bytes parts []
    → JudgesParts (reply_fault parts.minor (status_code parts) (fields_of parts.fields))
    (reply_head_of parts.minor (status_code parts) (fields_of parts.fields)) result
    → Judges ReplyHeadOf BadReplyHead bytes result
judged_reply bytes parts (Ok head) whole lines reads judged =
    record { whole = whole; lines = lines; parts = parts; reads = reads; passes = judged.0; is = judged.1 }
judged_reply bytes parts (Err (Bad error)) whole lines reads judged =
    (whole, subst (λ o. BadReplyBy o bytes error) (sym lines) (inr (parts, reads, judged)))
judged_reply bytes parts (Err NoMemory) whole lines reads judged = (
  reply_head_of parts.minor (status_code parts) (fields_of parts.fields),
  record { whole = whole; lines = lines; parts = parts; reads = reads; passes = judged; is = refl },
)

pub reply_judged : (bytes : List ℕ) (parts : ReplyParts) (minor code : ℕ)
    (fields : List (List ℕ × List ℕ)) (result : Result ReplyHead Refusal)
    → minor ≡ parts.minor → code ≡ status_code parts → fields ≡ fields_of parts.fields
    → IsWhole bytes → reply_lines_fault bytes ≡ None → ReadsResponse bytes parts []
    → JudgesParts (reply_fault minor code fields) (reply_head_of minor code fields) result
    → Judges ReplyHeadOf BadReplyHead bytes result
reply_judged bytes parts minor code fields result a b d whole lines reads judged =
    judged_reply bytes parts result whole lines reads
    (subst (λ v. JudgesParts (reply_fault v (status_code parts) (fields_of parts.fields))
    (reply_head_of v (status_code parts) (fields_of parts.fields)) result) a
    (subst (λ v. JudgesParts (reply_fault minor v (fields_of parts.fields))
    (reply_head_of minor v (fields_of parts.fields)) result) b
    (subst (λ v. JudgesParts (reply_fault minor code v) (reply_head_of minor code v) result) d judged)))
