-- Bytes have one answer, since the grammar reads one head from them.
use Rattle.std.proofs.Common.{◌≡◌, ℕ, List, [], sym, ap, ◌∙◌, subst, inl, inr}
use Rattle.std.specs.Prelude.{◌⊎◌, Option, Some, None}
use Rattle.std.proofs.lemmas.Option.{same_Some, none-some}
use Rattle.httparse.specs.Grammar.{RequestHead as RequestParts, ReadsRequest, ResponseHead as ReplyParts, ReadsResponse, status_code}
use Rattle.httparse.proofs.GrammarLemmas.{request_unique, response_unique}
use Rattle.gw_head.specs.declared.error.HeadError.{HeadError}
use Rattle.gw_head.specs.declared.error.HeadError.TheVariants.{Malformed}
use Rattle.gw_head.specs.Fields.{fields_of}
use Rattle.gw_head.specs.Checks.{request_lines_fault, reply_lines_fault}
use Rattle.gw_head.specs.Head.{request_head_of, reply_head_of, request_parts_fault, reply_parts_fault, BadRequestBy, BadReplyBy}
use Rattle.gw_head.specs.Laws.{OneRequestAnswer, OneReplyAnswer}

-- ---- where there is one reading at most

-- there is no reading, or the error is what the checks say of it
abbrev BadBy : (P : Type 0) → (P → Type 0) → (P → Option HeadError) → HeadError → Type 0
BadBy P Reads fault error =
    (((parts : P) → Reads parts → ⊥) × (error ≡ Malformed))
    ⊎ ((parts : P) × Reads parts × (fault parts ≡ Some error))

one_error : {P : Type 0} (Reads : P → Type 0) (fault : P → Option HeadError)
    → ((p q : P) → Reads p → Reads q → p ≡ q) → (error other : HeadError)
    → BadBy P Reads fault error → BadBy P Reads fault other → error ≡ other
one_error Reads fault unique error other (inl a) (inl b) = a.1 ∙ sym b.1
one_error Reads fault unique error other (inl a) (inr b) = absurd (a.0 b.0 b.1)
one_error Reads fault unique error other (inr a) (inl b) = absurd (b.0 a.0 a.1)
one_error Reads fault unique error other (inr a) (inr b) =
    same_Some _ _ (sym a.2 ∙ ap fault (unique a.0 b.0 a.1 b.1) ∙ b.2)

no_error : {P : Type 0} (Reads : P → Type 0) (fault : P → Option HeadError)
    → ((p q : P) → Reads p → Reads q → p ≡ q) → (parts : P) → Reads parts → fault parts ≡ None
    → (error : HeadError) → BadBy P Reads fault error → ⊥
no_error Reads fault unique parts reads passes error (inl a) = a.0 parts reads
no_error Reads fault unique parts reads passes error (inr a) =
    none-some error (sym passes ∙ ap fault (unique parts a.0 reads a.1) ∙ a.2)

-- ---- requests

one_request : (bytes : List ℕ) (p q : RequestParts) → ReadsRequest bytes p [] → ReadsRequest bytes q [] → p ≡ q
one_request bytes p q reads other = (request_unique bytes p q [] [] reads other).0

request_error : (lines : Option HeadError) (bytes : List ℕ) (error other : HeadError)
    → BadRequestBy lines bytes error → BadRequestBy lines bytes other → error ≡ other
request_error (Some fault) bytes error other a b = a ∙ sym b
request_error None bytes error other a b =
    one_error (λ p. ReadsRequest bytes p []) request_parts_fault (one_request bytes) error other a b

pub one_request_answer : OneRequestAnswer
one_request_answer = record {
  heads = λ bytes head other a b. a.is
      ∙ ap (λ (p : RequestParts). request_head_of p.method p.target p.minor (fields_of p.fields))
      (one_request bytes a.parts b.parts a.reads b.reads)
      ∙ sym b.is;
  errors = λ bytes error other a b. request_error (request_lines_fault bytes) bytes error other a.1 b.1;
  apart = λ bytes head error a b.
      no_error (λ p. ReadsRequest bytes p []) request_parts_fault (one_request bytes) a.parts a.reads a.passes error
      (subst (λ o. BadRequestBy o bytes error) a.lines b.1);
}

-- ---- replies

one_reply : (bytes : List ℕ) (p q : ReplyParts) → ReadsResponse bytes p [] → ReadsResponse bytes q [] → p ≡ q
one_reply bytes p q reads other = (response_unique bytes p q [] [] reads other).0

reply_error : (lines : Option HeadError) (bytes : List ℕ) (error other : HeadError)
    → BadReplyBy lines bytes error → BadReplyBy lines bytes other → error ≡ other
reply_error (Some fault) bytes error other a b = a ∙ sym b
reply_error None bytes error other a b =
    one_error (λ p. ReadsResponse bytes p []) reply_parts_fault (one_reply bytes) error other a b

pub one_reply_answer : OneReplyAnswer
one_reply_answer = record {
  heads = λ bytes head other a b. a.is
      ∙ ap (λ (p : ReplyParts). reply_head_of p.minor (status_code p) (fields_of p.fields))
      (one_reply bytes a.parts b.parts a.reads b.reads)
      ∙ sym b.is;
  errors = λ bytes error other a b. reply_error (reply_lines_fault bytes) bytes error other a.1 b.1;
  apart = λ bytes head error a b.
      no_error (λ p. ReadsResponse bytes p []) reply_parts_fault (one_reply bytes) a.parts a.reads a.passes error
      (subst (λ o. BadReplyBy o bytes error) a.lines b.1);
}
