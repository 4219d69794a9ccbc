-- A request that is passed on is read by the backend as it was asked.
use Rattle.std.proofs.Common.{◌≡◌, ℕ, ◌^◌, ◌<◌, ◌≤◌, Bool, true, false, not, ◌||◌, ◌&&◌, List, [], ◌∷◌, ◌++◌, length, refl, sym, ap, subst, ◌∙◌, arith, append_assoc}
use Rattle.std.specs.Prelude.{All, codes, decimal, Option, Some, None, if◌then◌else◌, ◌==◌}
use Rattle.std.specs.Str.{str_eq_ignore_ascii_case}
use Rattle.std.proofs.lemmas.Fmt.{decimal_is_IsNumeral}
use Rattle.std.proofs.lemmas.List.Elements.{All-nil, All-cons, All-append, All-filter, All-weaker, filter_passes}
use Rattle.gw_wire.specs.declared.values.Addr.{Addr}
use Rattle.gw_wire.specs.Visible.{AreVisible}
use Rattle.gw_fields.specs.Fields.{has_token, is_named, names_token}
use Rattle.gw_fields.specs.Hops.{is_hop, without_hops}
use Rattle.gw_fields.specs.Order.{line_of, lines_of, sorted}
use Rattle.gw_head.specs.declared.error.HeadError.TheVariants.{Malformed, HostCount, BadLength, LengthAndCoding, Coding, BadEscape, Connect, Expectation}
use Rattle.gw_head.specs.declared.framing.Framing.{Framing}
use Rattle.gw_head.specs.declared.framing.Framing.TheVariants.{None as NoBody, Length, Chunked, ToEnd}
use Rattle.gw_head.specs.declared.request.RequestHead.{RequestHead}
use Rattle.gw_head.specs.Checks.{are_bad_lengths, codings_of, expectations_of, first_fault, hosts_of, is_bad_host, is_connect, is_only_token, is_some_value, lengths_of, has_bad_path}
use Rattle.gw_head.specs.Head.{framing_of, request_head_of, RequestHeadOf}
use Rattle.gw_head.specs.Mark.{head_limit}
use Rattle.gw_head.specs.Target.{authority_in, form_of, has_bad_escape}
use Rattle.gw_head.specs.Written.{IsPlainField, IsPlainRequest, request_text}
use Rattle.gw_head.proofs.Facts.{IsOrigin, asked_by, asked_failing, asked_fault, request_written}
use Rattle.gw_proxy.specs.Asked.{CanBePassed, ReadsAsAsked}
use Rattle.gw_proxy.specs.Lines.{coding_fields, is_in_chunks, length_fields, without}
use Rattle.gw_proxy.specs.OutRequest.{forwarded_text, host_of, joined, out_request_of, query_text, request_fields, request_length, target_of, trailers_fields, without_rewritten}
use Rattle.gw_proxy.proofs.AddedLemmas.{coded_values, if_any, length_all, one_other, said_values, small_number}
use Rattle.gw_proxy.proofs.FieldLemmas.{IsOther, Pair, no_hops, none_listed, none_named, not_any, plain, values_ahead, values_behind}
use Rattle.gw_proxy.proofs.PeerLemmas.{forwarded_fits, host_fits}
use Rattle.gw_proxy.proofs.ReplyLemmas.{IsSmall, coded_as, same_bytes, texts_of}
use Rattle.gw_proxy.proofs.SortLemmas.{all_sorted, any_sorted, length_sorted, lowered_plain, values_sorted}
use Rattle.gw_proxy.proofs.TargetLemmas.{origin_read, path_read, query_read}
use Rattle.gw_proxy.proofs.ValueLemmas.{marks_fit, number_fits, number_is_length, visible_marks}

-- ---- what is left of the fields

strips : (P : Pair → Type 0) (name : List ℕ) (fields : List Pair) → All P fields → All P (without name fields)
strips P name fields all = All-filter (λ f. not (is_named name f)) P fields all

gone : (name : List ℕ) (fields : List Pair) → All (IsOther name) (without name fields)
gone name fields =
    All-weaker (λ f. not (is_named name f) ≡ true) (IsOther name) (λ f stays. record { other = not_any _ stays }) (without name fields)
    (filter_passes (λ f. not (is_named name f)) fields)

-- the fields without those that are made anew
record IsStripped (fields : List Pair) : Type 0 where
  connection : All (IsOther (codes "connection")) fields
  coding : All (IsOther (codes "transfer-encoding")) fields
  host : All (IsOther (codes "host")) fields
  length : All (IsOther (codes "content-length")) fields
  expect : All (IsOther (codes "expect")) fields

all_left : (P : Pair → Type 0) (fields : List Pair) → All P fields → All P (without_rewritten fields)
all_left P fields all =
    strips P (codes "x-forwarded-for") _ (strips P (codes "expect") _ (strips P (codes "content-length") _
    (strips P (codes "host") fields all)))

is_stripped : (fields : List Pair) → IsStripped (without_rewritten (without_hops fields))
is_stripped fields =
    let hops = without_hops fields in
    let h = codes "host" in
    let l = codes "content-length" in
    let e = codes "expect" in
    let x = codes "x-forwarded-for" in
    record {
      connection = all_left (IsOther (codes "connection")) hops (no_hops 0 fields (omega arith));
      coding = all_left (IsOther (codes "transfer-encoding")) hops (no_hops 7 fields (omega arith));
      host = strips (IsOther h) x (without e (without l (without h hops))) (strips (IsOther h) e (without l (without h hops))
          (strips (IsOther h) l (without h hops) (gone h hops)));
      length = strips (IsOther l) x (without e (without l (without h hops)))
          (strips (IsOther l) e (without l (without h hops)) (gone l (without h hops)));
      expect = strips (IsOther e) x (without e (without l (without h hops))) (gone e (without l (without h hops)));
    }

-- ---- what the fields say

abbrev front_of : RequestHead → List Pair
front_of head = without_rewritten (without_hops head.fields) ++ trailers_fields head.fields

with_trailers : (name : List ℕ) (head : RequestHead) → All (IsOther name) (without_rewritten (without_hops head.fields))
    → str_eq_ignore_ascii_case (codes "te") name ≡ false → All (IsOther name) (front_of head)
with_trailers name head all differs =
    All-append (IsOther name) (without_rewritten (without_hops head.fields)) (trailers_fields head.fields) all
    (if_any (IsOther name) (has_token (codes "te") (codes "trailers") head.fields) (codes "te", codes "trailers")
    (one_other name (codes "te") (codes "trailers") differs))

with_length : (name : List ℕ) (head : RequestHead) → All (IsOther name) (front_of head)
    → str_eq_ignore_ascii_case (codes "content-length") name ≡ false
    → All (IsOther name) (front_of head ++ length_fields (request_length head.framing))
with_length name head all differs =
    All-append (IsOther name) (front_of head) (length_fields (request_length head.framing)) all
    (length_all (IsOther name) (request_length head.framing) (λ m _. one_other name (codes "content-length") (decimal m) differs))

coding_other : (name : List ℕ) (framing : Framing) → str_eq_ignore_ascii_case (codes "transfer-encoding") name ≡ false
    → All (IsOther name) (coding_fields framing)
coding_other name framing differs =
    if_any (IsOther name) (is_in_chunks framing) (codes "transfer-encoding", codes "chunked")
    (one_other name (codes "transfer-encoding") (codes "chunked") differs)

-- none of that name among all
with_all : (name : List ℕ) (head : RequestHead) (peer : List ℕ) → All (IsOther name) (front_of head)
    → str_eq_ignore_ascii_case (codes "content-length") name ≡ false
    → str_eq_ignore_ascii_case (codes "transfer-encoding") name ≡ false
    → str_eq_ignore_ascii_case (codes "x-forwarded-for") name ≡ false → All (IsOther name) (request_fields head peer)
with_all name head peer all length coding peers =
    All-append (IsOther name) ((front_of head ++ length_fields (request_length head.framing)) ++ coding_fields head.framing)
    ((codes "x-forwarded-for", forwarded_text head.fields peer) ∷ [])
    (All-append (IsOther name) (front_of head ++ length_fields (request_length head.framing)) (coding_fields head.framing)
    (with_length name head all length) (coding_other name head.framing coding))
    (one_other name (codes "x-forwarded-for") (forwarded_text head.fields peer) peers)

-- the values that decide
record SaysAsked (fields : List Pair) (said : Option ℕ) (chunks : Bool) : Type 0 where
  lengths : lengths_of fields ≡ texts_of said
  codings : codings_of fields ≡ coded_as chunks
  hosts : hosts_of fields ≡ []
  expectations : expectations_of fields ≡ []
  closes : has_token (codes "connection") (codes "close") fields ≡ false

says_asked : (head : RequestHead) (peer : List ℕ)
    → SaysAsked (request_fields head peer) (request_length head.framing) (is_in_chunks head.framing)
says_asked head peer =
    let is = is_stripped head.fields in
    let n = codes "content-length" in
    let t = codes "transfer-encoding" in
    let x = codes "x-forwarded-for" in
    let front = front_of head in
    let sized = front ++ length_fields (request_length head.framing) in
    let last = (x, forwarded_text head.fields peer) ∷ [] in
    record {
      lengths = values_ahead n (sized ++ coding_fields head.framing) last (one_other n x (forwarded_text head.fields peer) refl)
          ∙ values_ahead n sized (coding_fields head.framing) (coding_other n head.framing refl)
          ∙ values_behind n front (length_fields (request_length head.framing)) (with_trailers n head is.length refl)
          ∙ said_values (request_length head.framing);
      codings = values_ahead t (sized ++ coding_fields head.framing) last (one_other t x (forwarded_text head.fields peer) refl)
          ∙ values_behind t sized (coding_fields head.framing) (with_length t head (with_trailers t head is.coding refl) refl)
          ∙ coded_values (is_in_chunks head.framing);
      hosts = none_named (codes "host") (request_fields head peer)
          (with_all (codes "host") head peer (with_trailers (codes "host") head is.host refl) refl refl refl);
      expectations = none_named (codes "expect") (request_fields head peer)
          (with_all (codes "expect") head peer (with_trailers (codes "expect") head is.expect refl) refl refl refl);
      closes = none_listed (codes "connection") (codes "close") (request_fields head peer)
          (with_all (codes "connection") head peer (with_trailers (codes "connection") head is.connection refl) refl refl refl);
    }

-- ---- the framing

-- how the body is framed, by the length and the coding
record IsAskedFraming (framing : Framing) : Type 0 where
  small : IsSmall (request_length framing)
  alone : is_in_chunks framing ≡ true → request_length framing ≡ None
  same : framing_of (coded_as (is_in_chunks framing)) (texts_of (request_length framing)) ≡ framing

asked_framing : (framing : Framing) → ((n : ℕ) → framing ≡ Length n → n < 2 ^ 63) → (framing ≡ ToEnd → ⊥) → IsAskedFraming framing
asked_framing NoBody small ended = record { small = tt; alone = λ e. refl; same = refl }
asked_framing (Length n) small ended =
    let less = small n refl in
    record { small = less; alone = λ e. absurd (cc); same = ap Length (decimal_is_IsNumeral n (omega arith)).1 }
asked_framing Chunked small ended = record { small = tt; alone = λ e. refl; same = refl }
asked_framing ToEnd small ended = absurd (ended refl)

-- ---- the checks

coding_passes : (chunks : Bool)
    → (is_some_value (coded_as chunks) && (1 == 0 || not (is_only_token (codes "chunked") (coded_as chunks)))) ≡ false
coding_passes true = refl
coding_passes false = refl

both_pass : (said : Option ℕ) (chunks : Bool) → (chunks ≡ true → said ≡ None)
    → (is_some_value (coded_as chunks) && is_some_value (texts_of said)) ≡ false
both_pass said false alone = refl
both_pass None true alone = refl
both_pass (Some n) true alone = let e = alone refl in absurd (cc)

lengths_pass : (said : Option ℕ) → IsSmall said → are_bad_lengths (texts_of said) ≡ false
lengths_pass None small = refl
lengths_pass (Some n) small = rw (number_is_length n small) (rw (same_bytes (decimal n)) refl)

-- a request to a resource, with one good host
record IsGood (method target host : List ℕ) (said : Option ℕ) (chunks : Bool) : Type 0 where
  tunnel : is_connect method ≡ false
  form : IsOrigin method target
  path : has_bad_path method target ≡ false
  named : is_bad_host host ≡ false
  small : IsSmall said
  alone : chunks ≡ true → said ≡ None

asked_passes : (method target host : List ℕ) (said : Option ℕ) (chunks : Bool) → IsGood method target host said chunks
    → asked_failing method target (texts_of said) (coded_as chunks) (host ∷ []) [] ≡ None
asked_passes method target host said chunks is =
    let tunnel = is.tunnel in
    let aim = is.form.good in
    let coding = coding_passes chunks in
    let both = both_pass said chunks is.alone in
    let lengths = lengths_pass said is.small in
    let hosts = ap (λ v. v || is_bad_host (authority_in (form_of method target) target)) is.named
    ∙ ap is_bad_host is.form.authority in
    let path = is.path in
    λ i. first_fault
    ((tunnel i, Connect)
    ∷ (aim i, Malformed)
    ∷ (coding i, Coding)
    ∷ (both i, LengthAndCoding)
    ∷ (lengths i, BadLength)
    ∷ (hosts i, HostCount)
    ∷ (path i, BadEscape)
    ∷ (false, Expectation)
    ∷ [])

-- ---- the fields and the text

abbrev aim_of : RequestHead → List ℕ → List ℕ
aim_of head base = joined base head.path ++ query_text head.query

abbrev all_of : RequestHead → Addr → List ℕ → List Pair
all_of head addr peer = (codes "host", host_of head addr) ∷ sorted (request_fields head peer)

fields_plain : (head : RequestHead) (peer : List ℕ) → All IsPlainField head.fields → IsSmall (request_length head.framing)
    → AreVisible peer → 0 < length peer → All IsPlainField (request_fields head peer)
fields_plain head peer all small shown some =
    let hops = All-filter (λ f. not (is_hop head.fields f.0)) IsPlainField head.fields all in
    let one = λ (field : Pair) (is : IsPlainField field). All-cons IsPlainField field [] is (All-nil IsPlainField) in
    let trailers = if_any IsPlainField (has_token (codes "te") (codes "trailers") head.fields) (codes "te", codes "trailers")
    (one (codes "te", codes "trailers")
    (plain (codes "te") (codes "trailers") refl (marks_fit (codes "trailers") (visible_marks (codes "trailers") refl)))) in
    let number = length_all IsPlainField (request_length head.framing) (λ n is. one (codes "content-length", decimal n)
    (plain (codes "content-length") (decimal n) refl (number_fits n (small_number (request_length head.framing) n small is)))) in
    let coding = if_any IsPlainField (is_in_chunks head.framing) (codes "transfer-encoding", codes "chunked")
    (one (codes "transfer-encoding", codes "chunked")
    (plain (codes "transfer-encoding") (codes "chunked") refl (marks_fit (codes "chunked") (visible_marks (codes "chunked") refl)))) in
    let peers = one (codes "x-forwarded-for", forwarded_text head.fields peer)
    (plain (codes "x-forwarded-for") (forwarded_text head.fields peer) refl
    (forwarded_fits (codes "x-forwarded-for") (without_hops head.fields) peer hops (visible_marks peer shown) some)) in
    let left = all_left IsPlainField (without_hops head.fields) hops in
    All-append IsPlainField ((front_of head ++ length_fields (request_length head.framing)) ++ coding_fields head.framing)
    ((codes "x-forwarded-for", forwarded_text head.fields peer) ∷ [])
    (All-append IsPlainField (front_of head ++ length_fields (request_length head.framing)) (coding_fields head.framing)
    (All-append IsPlainField (front_of head) (length_fields (request_length head.framing))
    (All-append IsPlainField (without_rewritten (without_hops head.fields)) (trailers_fields head.fields) left trailers)
    number) coding) peers

aim_is : (head : RequestHead) (base : List ℕ) → head.star ≡ false → target_of head base ≡ aim_of head base
unfolding target_of
aim_is head base rooted = ap (λ (v : Bool). if v then codes "*" else aim_of head base) rooted

text_is : (head : RequestHead) (base : List ℕ) (addr : Addr) (peer : List ℕ) → head.star ≡ false
    → out_request_of head base addr peer ≡ request_text head.method (aim_of head base) (all_of head addr peer)
text_is head base addr peer rooted =
    let host = line_of (codes "host", host_of head addr) in
    let lines = lines_of (sorted (request_fields head peer)) in
    let line = ((head.method ++ codes " ") ++ aim_of head base) ++ codes " HTTP/1.1\r\n" in
    ap (λ t. ((((head.method ++ codes " ") ++ t) ++ codes " HTTP/1.1\r\n") ++ host) ++ (lines ++ codes "\r\n")) (aim_is head base rooted)
    ∙ append_assoc line host (lines ++ codes "\r\n")
    ∙ ap (λ l. line ++ l) (sym (append_assoc host lines (codes "\r\n")))

-- ---- the request

-- the values of all fields, Host before the others
record SaysAll (head : RequestHead) (addr : Addr) (peer : List ℕ) : Type 0 where
  plain : All IsPlainField (all_of head addr peer)
  lengths : lengths_of (all_of head addr peer) ≡ texts_of (request_length head.framing)
  codings : codings_of (all_of head addr peer) ≡ coded_as (is_in_chunks head.framing)
  hosts : hosts_of (all_of head addr peer) ≡ host_of head addr ∷ []
  expectations : expectations_of (all_of head addr peer) ≡ []
  closes : has_token (codes "connection") (codes "close") (all_of head addr peer) ≡ false

says_all : (head : RequestHead) (base : List ℕ) (addr : Addr) (peer : List ℕ) → CanBePassed head base addr peer
    → IsSmall (request_length head.framing) → SaysAll head addr peer
says_all head base addr peer can small =
    let fields = request_fields head peer in
    let says = says_asked head peer in
    let good = fields_plain head peer can.writable.plain small can.shown can.some in
    record {
      plain = All-cons IsPlainField (codes "host", host_of head addr) (sorted fields)
          (plain (codes "host") (host_of head addr) refl (host_fits (host_of head addr) can.named)) (all_sorted IsPlainField fields good);
      lengths = values_sorted (codes "content-length") fields good ∙ says.lengths;
      codings = values_sorted (codes "transfer-encoding") fields good ∙ says.codings;
      hosts = ap (λ l. host_of head addr ∷ l) (values_sorted (codes "host") fields good ∙ says.hosts);
      expectations = values_sorted (codes "expect") fields good ∙ says.expectations;
      closes = any_sorted (names_token (codes "connection") (codes "close")) fields ∙ says.closes;
    }

pub asked_reads : (head : RequestHead) (base : List ℕ) (addr : Addr) (peer : List ℕ) → CanBePassed head base addr peer
    → length (request_fields head peer) < 128 → length (out_request_of head base addr peer) ≤ head_limit
    → ReadsAsAsked (out_request_of head base addr peer) head base addr
asked_reads head base addr peer can few short =
    let aim = aim_of head base in
    let path = joined base head.path in
    let all = all_of head addr peer in
    let said = request_length head.framing in
    let chunks = is_in_chunks head.framing in
    let framing = asked_framing head.framing can.writable.small can.ended in
    let says = says_all head base addr peer can framing.small in
    let form = origin_read head.method path head.query can.aimed in
    let same_path = path_read path head.query can.aimed.bare in
    let good : IsGood head.method aim (host_of head addr) said chunks = record {
      tunnel = can.writable.tunnel;
      form = form;
      path = form.escapes ∙ ap has_bad_escape same_path ∙ can.aimed.escaped;
      named = can.named;
      small = framing.small;
      alone = framing.alone;
    } in
    let text = text_is head base addr peer can.rooted in
    let request : IsPlainRequest head.method aim all = record {
      verb = can.writable.verb;
      aim = can.aimed.written;
      plain = says.plain;
      few = let same = length_sorted (request_fields head peer) in omega arith;
      passes = asked_fault head.method aim all
          ∙ (λ i. asked_failing head.method aim (says.lengths i) (says.codings i) (says.hosts i) (says.expectations i))
          ∙ asked_passes head.method aim (host_of head addr) said chunks good;
    } in
    let made = asked_by head.method aim all all (texts_of said) (coded_as chunks) (host_of head addr ∷ []) []
    (lowered_plain all says.plain) says.lengths says.codings says.hosts says.expectations in
    record {
      head = request_head_of head.method aim 1 all;
      reads = subst (λ l. RequestHeadOf l (request_head_of head.method aim 1 all)) (sym text)
          (request_written head.method aim all request (subst (λ l. length l ≤ head_limit) text short));
      method = refl;
      host = ap (λ (h : RequestHead). h.host) made ∙ form.host (host_of head addr ∷ []);
      path = form.path ∙ same_path;
      query = form.query ∙ query_read path head.query can.aimed.bare;
      star = form.star;
      framed = ap (λ (h : RequestHead). h.framing) made ∙ framing.same;
      old = refl;
      expect = ap (λ (h : RequestHead). h.expect) made;
      close = ap (λ (h : RequestHead). h.close) made ∙ says.closes;
    }
