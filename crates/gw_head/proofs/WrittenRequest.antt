-- A request's head that is written plainly is read with just its parts.
use Rattle.std.proofs.Common.{◌≡◌, ℕ, ◌-◌, ◌<◌, ◌≤◌, false, ◌&&◌, ◌||◌, not, List, [], ◌∷◌, ◌++◌, length, take, drop, map, refl, sym, ap, ◌∙◌, arith, append_assoc, append-nil, length-append}
use Rattle.std.specs.Prelude.{codes, slice_index, Some, Option, ◌==◌, if◌then◌else◌}
use Rattle.std.proofs.Math.Seq.{take-append_seam, drop-append_seam}
use Rattle.std.proofs.lemmas.List.{length-map}
use Rattle.std.proofs.lemmas.List.Sums.{AllPass-from_list_all}
use Rattle.httparse.specs.Grammar.{AllPass, is_token_byte, is_uri_byte, is_value_byte, crlf, RequestHead as RequestParts, print_request, ReadsRequest}
use Rattle.httparse.proofs.GrammarLemmas.{print_request-append, cons-append}
use Rattle.httparse.proofs.PieceLemmas.{Stops_token}
use Rattle.gw_fields.specs.Fields.{has_token}
use Rattle.gw_fields.specs.Order.{lines_of}
use Rattle.gw_head.specs.declared.error.HeadError.{HeadError}
use Rattle.gw_head.specs.declared.error.HeadError.TheVariants.{Malformed, TooManyFields, Version, HostCount, BadLength, LengthAndCoding, Coding, BadEscape, Connect, Expectation}
use Rattle.gw_head.specs.declared.request.RequestHead.{RequestHead}
use Rattle.gw_head.specs.Checks.{first_fault, request_fault, lengths_of, codings_of, hosts_of, expectations_of, is_some_value, is_only_token, are_bad_lengths, is_wrong_count, is_bad_host, first_value, is_connect, has_bad_target, has_bad_coding, has_length_and_coding, has_bad_length, has_bad_host, has_bad_path, has_bad_expectation, has_other_request_version}
use Rattle.gw_head.specs.Head.{lowered_fields, framing_of, host_in, is_star, request_head_of, RequestHeadOf}
use Rattle.gw_head.specs.Lines.{begins_with_other_version, ends_with_other_version, first_line, without_return}
use Rattle.gw_head.specs.Mark.{head_limit}
use Rattle.gw_head.specs.Pieces.{before}
use Rattle.gw_head.specs.Target.{form_of, authority_in, path_in, query_of, resource_in}
use Rattle.gw_head.specs.Written.{IsPlainRequest, request_text}
use Rattle.gw_head.proofs.GrammarEnd.{request_end, token_fails}
use Rattle.gw_head.proofs.LineLemmas.{request_lines, skip_stop}
use Rattle.gw_head.proofs.Plain.{written, spelt, lines_same, lines_good, fields_same, values_same, lowered_same, token_good}
use Rattle.gw_head.proofs.WrittenReply.{before_other, before_run, few_fields}

-- ---- what is made of the fields as they are spelled, and what fails

-- the head of a request by its fields in lower case and the values that decide
abbrev pub made : List ℕ → List ℕ → List (List ℕ × List ℕ) → List (List ℕ) → List (List ℕ) → List (List ℕ) → List (List ℕ) → RequestHead
made method target lowered lengths codings hosts expectations = record {
  method = method;
  host = host_in (form_of method target) target hosts;
  path = path_in (form_of method target) target;
  query = query_of (resource_in (form_of method target) target);
  star = is_star (form_of method target);
  old = false;
  fields = lowered;
  framing = framing_of codings lengths;
  expect = is_some_value expectations;
  close = has_token (codes "connection") (codes "close") lowered;
}

pub head_by : (method target : List ℕ) (fields lowered : List (List ℕ × List ℕ)) (lengths codings hosts expectations : List (List ℕ))
    → lowered_fields fields ≡ lowered → lengths_of fields ≡ lengths → codings_of fields ≡ codings
    → hosts_of fields ≡ hosts → expectations_of fields ≡ expectations
    → request_head_of method target 1 fields ≡ made method target lowered lengths codings hosts expectations
head_by method target fields lowered lengths codings hosts expectations a b c d e = λ i. made method target (a i) (b i) (c i) (d i) (e i)

pub head_same : (method target : List ℕ) (fields : List (List ℕ × List ℕ))
    → request_head_of method target 1 (map spelt fields) ≡ request_head_of method target 1 fields
head_same method target fields =
    λ i. made method target (lowered_same fields i) (values_same (codes "content-length") fields i)
    (values_same (codes "transfer-encoding") fields i) (values_same (codes "host") fields i) (values_same (codes "expect") fields i)

-- the first check that they fail
abbrev pub failing : List ℕ → List ℕ → List (List ℕ) → List (List ℕ) → List (List ℕ) → List (List ℕ) → Option HeadError
failing method target lengths codings hosts expectations =
    first_fault
    ((is_connect method, Connect)
    ∷ (has_bad_target method target, Malformed)
    ∷ (is_some_value codings && (1 == 0 || not (is_only_token (codes "chunked") codings)), Coding)
    ∷ (is_some_value codings && is_some_value lengths, LengthAndCoding)
    ∷ (are_bad_lengths lengths, BadLength)
    ∷ (
      is_wrong_count 1 (length hosts)
          || (is_bad_host (first_value hosts) || is_bad_host (authority_in (form_of method target) target)),
      HostCount,
    )
    ∷ (has_bad_path method target, BadEscape)
    ∷ (is_some_value expectations && not (is_only_token (codes "100-continue") expectations), Expectation)
    ∷ [])

pub fault_by : (method target : List ℕ) (fields : List (List ℕ × List ℕ))
    → request_fault method target 1 fields
    ≡ failing method target (lengths_of fields) (codings_of fields) (hosts_of fields) (expectations_of fields)
unfolding has_bad_coding has_length_and_coding has_bad_length has_bad_host has_bad_expectation
fault_by method target fields = refl

fault_same : (method target : List ℕ) (fields : List (List ℕ × List ℕ))
    → request_fault method target 1 (map spelt fields) ≡ request_fault method target 1 fields
fault_same method target fields =
    fault_by method target (map spelt fields)
    ∙ (λ i. failing method target (values_same (codes "content-length") fields i) (values_same (codes "transfer-encoding") fields i)
    (values_same (codes "host") fields i) (values_same (codes "expect") fields i))
    ∙ sym (fault_by method target fields)

-- ---- the first line

-- a line's CR goes
no_return : (front : List ℕ) → without_return (front ++ 13 ∷ []) ≡ front
no_return front =
    let size : length (front ++ 13 ∷ []) - 1 ≡ length front = omega (arith, length-append front (13 ∷ [])) in
    ap (λ n. if slice_index (front ++ 13 ∷ []) n == 13 then take n (front ++ 13 ∷ []) else front ++ 13 ∷ []) size
    ∙ ap (λ b. if b == 13 then take (length front) (front ++ 13 ∷ []) else front ++ 13 ∷ []) (last_byte front)
    ∙ take-append_seam front (13 ∷ [])
  where
    last_byte : (front : List ℕ) → slice_index (front ++ 13 ∷ []) (length front) ≡ 13
    last_byte [] = refl
    last_byte (b ∷ front) = last_byte front

-- the version at the end is spoken
spoken_end : (front : List ℕ) → ends_with_other_version (front ++ codes " HTTP/1.1") ≡ false
spoken_end front =
    let size : length (front ++ codes " HTTP/1.1") - 9 ≡ length front = omega (arith, length-append front (codes " HTTP/1.1")) in
    let end = ap (λ n. drop n (front ++ codes " HTTP/1.1")) size ∙ drop-append_seam front (codes " HTTP/1.1") in
    ap (λ l. slice_index l 0 == 32 && begins_with_other_version (drop 1 l)) end

split_line : (method target rest : List ℕ)
    → ((((method ++ codes " ") ++ target) ++ codes " HTTP/1.1\r\n") ++ rest)
    ≡ method ++ 32 ∷ (target ++ 32 ∷ (codes "HTTP/1.1" ++ 13 ∷ 10 ∷ rest))
split_line method target rest = simp (append_assoc, cons-append)

join_line : (method target : List ℕ)
    → method ++ 32 ∷ (target ++ 32 ∷ (codes "HTTP/1.1" ++ 13 ∷ [])) ≡ ((method ++ 32 ∷ target) ++ codes " HTTP/1.1") ++ 13 ∷ []
join_line method target = simp (append_assoc, cons-append)

line_is : (method target rest : List ℕ) → AllPass is_token_byte method → AllPass is_uri_byte target
    → before 10 (method ++ 32 ∷ (target ++ 32 ∷ (codes "HTTP/1.1" ++ 13 ∷ 10 ∷ rest)))
    ≡ method ++ 32 ∷ (target ++ 32 ∷ (codes "HTTP/1.1" ++ 13 ∷ []))
line_is method target rest token uri =
    let version = before_run is_value_byte (codes "HTTP/1.1") (13 ∷ 10 ∷ rest) refl
    (AllPass-from_list_all is_value_byte (codes "HTTP/1.1") refl)
    ∙ ap (λ l. codes "HTTP/1.1" ++ l) (before_other 13 (10 ∷ rest) refl) in
    let behind = before_run is_uri_byte target (32 ∷ (codes "HTTP/1.1" ++ 13 ∷ 10 ∷ rest)) refl uri
    ∙ ap (λ l. target ++ l) (before_other 32 (codes "HTTP/1.1" ++ 13 ∷ 10 ∷ rest) refl ∙ ap (λ l. 32 ∷ l) version) in
    before_run is_token_byte method (32 ∷ (target ++ 32 ∷ (codes "HTTP/1.1" ++ 13 ∷ 10 ∷ rest))) token_fails token
    ∙ ap (λ l. method ++ l) (before_other 32 (target ++ 32 ∷ (codes "HTTP/1.1" ++ 13 ∷ 10 ∷ rest)) refl ∙ ap (λ l. 32 ∷ l) behind)

spoken_version : (method target : List ℕ) (fields : List (List ℕ × List ℕ)) → 0 < length method → AllPass is_token_byte method
    → AllPass is_uri_byte target → has_other_request_version (request_text method target fields) ≡ false
unfolding has_other_request_version
spoken_version method target fields some token uri =
    let rest = lines_of fields ++ codes "\r\n" in
    let line = method ++ 32 ∷ (target ++ 32 ∷ (codes "HTTP/1.1" ++ 13 ∷ 10 ∷ rest)) in
    ap (λ l. ends_with_other_version (first_line l)) (split_line method target rest)
    ∙ ap (λ l. ends_with_other_version (without_return (before 10 l)))
    (skip_stop line (Stops_token method (32 ∷ (target ++ 32 ∷ (codes "HTTP/1.1" ++ 13 ∷ 10 ∷ rest))) some token))
    ∙ ap (λ l. ends_with_other_version (without_return l)) (line_is method target rest token uri ∙ join_line method target)
    ∙ ap ends_with_other_version (no_return ((method ++ 32 ∷ target) ++ codes " HTTP/1.1"))
    ∙ spoken_end (method ++ 32 ∷ target)

-- ---- the head

abbrev parts_of : List ℕ → List ℕ → List (List ℕ × List ℕ) → RequestParts
parts_of method target fields = record {
  blank = [];
  method = method;
  target = target;
  minor = 1;
  line_end = crlf;
  fields = map written fields;
  last = crlf;
}

regroup : (method target section : List ℕ)
    → (((method ++ codes " ") ++ target) ++ codes " HTTP/1.1\r\n") ++ section
    ≡ method ++ 32 ∷ (target ++ 32 ∷ (codes "HTTP/1.1" ++ (codes "\r\n" ++ (section ++ []))))
regroup method target section = simp (append_assoc, cons-append, append-nil)

text_is : (method target : List ℕ) (fields : List (List ℕ × List ℕ))
    → request_text method target fields ≡ print_request (parts_of method target fields) ++ []
text_is method target fields =
    regroup method target (lines_of fields ++ codes "\r\n")
    ∙ ap (λ l. method ++ 32 ∷ (target ++ 32 ∷ (codes "HTTP/1.1" ++ (codes "\r\n" ++ ((l ++ codes "\r\n") ++ [])))))
    (sym (lines_same fields))
    ∙ sym (print_request-append (parts_of method target fields) [])

reads : (method target : List ℕ) (fields : List (List ℕ × List ℕ)) → IsPlainRequest method target fields
    → ReadsRequest (request_text method target fields) (parts_of method target fields) []
reads method target fields plain = (
  record {
    method = token_good method plain.verb;
    target = (plain.aim.some, plain.aim.bytes);
    target_text = plain.aim.words;
    minor = omega arith;
    fields = lines_good fields plain.plain;
  },
  text_is method target fields,
)

pub request_written : (method target : List ℕ) (fields : List (List ℕ × List ℕ)) → IsPlainRequest method target fields
    → length (request_text method target fields) ≤ head_limit
    → RequestHeadOf (request_text method target fields) (request_head_of method target 1 fields)
request_written method target fields plain short =
    let text = request_text method target fields in
    let parts = parts_of method target fields in
    let token = token_good method plain.verb in
    let has = reads method target fields plain in
    let printed : print_request parts ≡ text = sym (append-nil (print_request parts)) ∙ sym (text_is method target fields) in
    let count = request_lines text parts has ∙ length-map fields written in
    let other = spoken_version method target fields token.0 token.1 plain.aim.bytes in
    let few = few_fields text (length fields) count plain.few in
    let same = fields_same fields plain.plain in
    record {
      whole = record { ended = request_end text parts [] has ∙ ap (λ l. Some (length l)) printed; short = short };
      lines = λ i. first_fault ((other i, Version) ∷ (few i, TooManyFields) ∷ []);
      parts = parts;
      reads = has;
      passes = ap (request_fault method target 1) same ∙ fault_same method target fields ∙ plain.passes;
      is = sym (ap (request_head_of method target 1) same ∙ head_same method target fields);
    }
