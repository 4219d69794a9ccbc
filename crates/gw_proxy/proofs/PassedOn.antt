-- A backend's reply is read by the client with the code and the body that it came with.
use Rattle.std.proofs.Common.{◌≡◌, ℕ, ◌^◌, ◌<◌, ◌≤◌, Bool, true, false, not, ◌||◌, List, [], ◌++◌, length, refl, ap, subst, ◌∙◌, arith}
use Rattle.std.specs.Prelude.{All, codes, decimal, Option, Some, None, if◌then◌else◌, ◌==◌}
use Rattle.std.specs.List.{list_any}
use Rattle.std.specs.Str.{str_eq_ignore_ascii_case}
use Rattle.std.proofs.lemmas.List.Elements.{All-nil, All-cons, All-append, All-filter, All-weaker, filter_passes}
use Rattle.gw_fields.specs.Fields.{is_named, names_token}
use Rattle.gw_fields.specs.Hops.{is_hop, without_hops}
use Rattle.gw_fields.specs.Lines.{has_field}
use Rattle.gw_head.specs.declared.framing.Framing.{Framing}
use Rattle.gw_head.specs.declared.framing.Framing.TheVariants.{None as NoBody, Length, Chunked, ToEnd}
use Rattle.gw_head.specs.declared.reply.ReplyHead.{ReplyHead}
use Rattle.gw_head.specs.Head.{ReplyHeadOf}
use Rattle.gw_head.specs.Mark.{head_limit}
use Rattle.gw_head.specs.Written.{IsPlainField, IsWritableReply}
use Rattle.gw_head.proofs.Facts.{writable_reply}
use Rattle.gw_body.specs.Framing.{counted_framing, is_bodiless, reply_framing_of}
use Rattle.gw_proxy.specs.Lines.{coding_fields, is_in_chunks, length_fields}
use Rattle.gw_proxy.specs.OutReply.{close_fields, date_fields, is_head, out_reply_of, reply_fields, reply_kept, reply_length, sent_framing_of}
use Rattle.gw_proxy.specs.Date.{IsDateAt}
use Rattle.gw_proxy.specs.Read.{ReadsAsReply}
use Rattle.gw_proxy.proofs.AddedLemmas.{coded_values, if_any, length_all, one_other, said_values, small_number, unless_any}
use Rattle.gw_proxy.proofs.DateText.{date_fits}
use Rattle.gw_proxy.proofs.FieldLemmas.{IsOther, Pair, closes_plain, listed_behind, no_hops, not_any, plain, values_ahead, values_behind}
use Rattle.gw_proxy.proofs.ReplyLemmas.{Agrees, IsSent, IsSmall, Says, said_framing, sent_reply}
use Rattle.gw_proxy.proofs.ValueLemmas.{IsFit, marks_fit, number_fits, visible_marks}

-- the connection's own fields, the codings and the lengths are gone
record IsKept (fields : List Pair) : Type 0 where
  connection : All (IsOther (codes "connection")) fields
  coding : All (IsOther (codes "transfer-encoding")) fields
  length : All (IsOther (codes "content-length")) fields

is_kept : (reply : ReplyHead) → IsKept (reply_kept reply)
is_kept reply =
    let p : Pair → Bool = λ f. not (is_named (codes "content-length") f) in
    record {
      connection = All-filter p (IsOther (codes "connection")) (without_hops reply.fields) (no_hops 0 reply.fields (omega arith));
      coding = All-filter p (IsOther (codes "transfer-encoding")) (without_hops reply.fields) (no_hops 7 reply.fields (omega arith));
      length = All-weaker (λ f. p f ≡ true) (IsOther (codes "content-length")) (λ f stays. record { other = not_any _ stays })
          (reply_kept reply) (filter_passes p (without_hops reply.fields));
    }

-- ---- what is added

-- of a name that none of these has
others : (name : List ℕ) (said : Option ℕ) (sent : Framing) (close : Bool) (date : List ℕ) (kept : List Pair)
    → All (IsOther name) kept → str_eq_ignore_ascii_case (codes "date") name ≡ false
    → All (IsOther name) (kept ++ date_fields date kept)
others name said sent close date kept all differs =
    All-append (IsOther name) kept (date_fields date kept) all
    (unless_any (IsOther name) (has_field (codes "date") kept) (codes "date", date) (one_other name (codes "date") date differs))

close_values : (close : Bool) → list_any (names_token (codes "connection") (codes "close")) (close_fields close) ≡ close
close_values true = refl
close_values false = refl

says : (reply : ReplyHead) (said : Option ℕ) (sent : Framing) (close : Bool) (date : List ℕ)
    → Says ((((reply_kept reply ++ date_fields date (reply_kept reply)) ++ length_fields said) ++ coding_fields sent) ++ close_fields close)
    said (is_in_chunks sent) close
says reply said sent close date =
    let kept = reply_kept reply in
    let is = is_kept reply in
    let coded = is_in_chunks sent in
    let n = codes "content-length" in
    let t = codes "transfer-encoding" in
    let c = codes "connection" in
    let front = kept ++ date_fields date kept in
    let closing = λ (name : List ℕ) (differs : str_eq_ignore_ascii_case (codes "connection") name ≡ false).
    if_any (IsOther name) close (c, codes "close") (one_other name c (codes "close") differs) in
    let coding = λ (name : List ℕ) (differs : str_eq_ignore_ascii_case (codes "transfer-encoding") name ≡ false).
    if_any (IsOther name) coded (t, codes "chunked") (one_other name t (codes "chunked") differs) in
    let number = λ (name : List ℕ) (differs : str_eq_ignore_ascii_case (codes "content-length") name ≡ false).
    length_all (IsOther name) said (λ m _. one_other name n (decimal m) differs) in
    let with = λ (name : List ℕ) (all : All (IsOther name) kept) (differs : str_eq_ignore_ascii_case (codes "date") name ≡ false).
    others name said sent close date kept all differs in
    record {
      lengths = values_ahead n ((front ++ length_fields said) ++ coding_fields sent) (close_fields close) (closing n refl)
          ∙ values_ahead n (front ++ length_fields said) (coding_fields sent) (coding n refl)
          ∙ values_behind n front (length_fields said) (with n is.length refl)
          ∙ said_values said;
      codings = values_ahead t ((front ++ length_fields said) ++ coding_fields sent) (close_fields close) (closing t refl)
          ∙ values_behind t (front ++ length_fields said) (coding_fields sent)
          (All-append (IsOther t) front (length_fields said) (with t is.coding refl) (number t refl))
          ∙ coded_values coded;
      closes = listed_behind c (codes "close") ((front ++ length_fields said) ++ coding_fields sent) (close_fields close)
          (All-append (IsOther c) (front ++ length_fields said) (coding_fields sent)
          (All-append (IsOther c) front (length_fields said) (with c is.connection refl) (number c refl)) (coding c refl))
          ∙ close_values close;
    }

fields_plain : (reply : ReplyHead) (said : Option ℕ) (sent : Framing) (close : Bool) (date : List ℕ) → All IsPlainField reply.fields
    → IsSmall said → IsFit date
    → All IsPlainField
    ((((reply_kept reply ++ date_fields date (reply_kept reply)) ++ length_fields said) ++ coding_fields sent) ++ close_fields close)
fields_plain reply said sent close date all small fits =
    let kept = reply_kept reply in
    let one = λ (field : Pair) (is : IsPlainField field). All-cons IsPlainField field [] is (All-nil IsPlainField) in
    let fields = All-filter (λ f. not (is_named (codes "content-length") f)) IsPlainField (without_hops reply.fields)
    (All-filter (λ f. not (is_hop reply.fields f.0)) IsPlainField reply.fields all) in
    let dated = unless_any IsPlainField (has_field (codes "date") kept) (codes "date", date)
    (one (codes "date", date) (plain (codes "date") date refl fits)) in
    let number = length_all IsPlainField said (λ n is. one (codes "content-length", decimal n)
    (plain (codes "content-length") (decimal n) refl (number_fits n (small_number said n small is)))) in
    let coding = if_any IsPlainField (is_in_chunks sent) (codes "transfer-encoding", codes "chunked")
    (one (codes "transfer-encoding", codes "chunked")
    (plain (codes "transfer-encoding") (codes "chunked") refl (marks_fit (codes "chunked") (visible_marks (codes "chunked") refl)))) in
    All-append IsPlainField (((kept ++ date_fields date kept) ++ length_fields said) ++ coding_fields sent) (close_fields close)
    (All-append IsPlainField ((kept ++ date_fields date kept) ++ length_fields said) (coding_fields sent)
    (All-append IsPlainField (kept ++ date_fields date kept) (length_fields said)
    (All-append IsPlainField kept (date_fields date kept) fields dated) number) coding)
    (closes_plain close)

-- ---- the framing

abbrev framing_by : Bool → Bool → Option ℕ → Framing
framing_by none chunked said = if none then NoBody else (if chunked then Chunked else counted_framing said)

no_body : (none chunked : Bool) (said : Option ℕ) → framing_by none chunked said ≡ NoBody → none ≡ true
no_body true chunked said e = refl
no_body false true said e = absurd (cc)
no_body false false None e = absurd (cc)
no_body false false (Some n) e = absurd (cc)

counted : (none chunked : Bool) (said : Option ℕ) (n : ℕ) → framing_by none chunked said ≡ Length n
    → (none ≡ false) × (said ≡ Some n)
counted true chunked said n e = absurd (cc)
counted false true said n e = absurd (cc)
counted false false None n e = absurd (cc)
counted false false (Some m) n e = (refl, cc)

in_chunks : (none chunked : Bool) (said : Option ℕ) → framing_by none chunked said ≡ Chunked → none ≡ false
in_chunks true chunked said e = absurd (cc)
in_chunks false chunked said e = refl

to_end : (none chunked : Bool) (said : Option ℕ) → framing_by none chunked said ≡ ToEnd → none ≡ false
to_end true chunked said e = absurd (cc)
to_end false chunked said e = refl

-- the head says how the body is sent
record IsFramed (framing : Framing) (reply : ReplyHead) (method : List ℕ) (old : Bool) : Type 0 where
  agrees : Agrees (reply_length framing reply method) (is_in_chunks (sent_framing_of framing old)) old
  framed : said_framing method reply.code (reply_length framing reply method) (is_in_chunks (sent_framing_of framing old))
      ≡ sent_framing_of framing old

small_option : (said : Option ℕ) → ((n : ℕ) → said ≡ Some n → n < 2 ^ 63) → IsSmall said
small_option None small = tt
small_option (Some n) small = small n refl

small_choice : (v : Bool) (said : Option ℕ) → IsSmall said → IsSmall (if v then said else None)
small_choice true said small = small
small_choice false said small = tt

framed : (framing : Framing) (reply : ReplyHead) (method : List ℕ) (old : Bool) → reply_framing_of reply method ≡ framing
    → IsWritableReply reply → IsFramed framing reply method old
framed NoBody reply method old e writable =
    let none = no_body (is_head method || is_bodiless reply.code) reply.chunked reply.length e in
    let said = reply_length NoBody reply method in
    record {
      agrees = record {
        small = small_choice (is_head method || reply.code == 304) reply.length (small_option reply.length writable.small);
        alone = λ h. absurd (cc);
        spoken = λ h. absurd (cc);
      };
      framed = ap (λ (v : Bool). framing_by v false said) none;
    }
framed (Length n) reply method old e writable =
    let is = counted (is_head method || is_bodiless reply.code) reply.chunked reply.length n e in
    record {
      agrees = record { small = writable.small n is.1; alone = λ h. absurd (cc); spoken = λ h. absurd (cc) };
      framed = ap (λ (v : Bool). framing_by v false (Some n)) is.0;
    }
framed Chunked reply method true e writable = record {
  agrees = record { small = tt; alone = λ h. refl; spoken = λ h. absurd (cc) };
  framed = ap (λ (v : Bool). framing_by v false None)
      (in_chunks (is_head method || is_bodiless reply.code) reply.chunked reply.length e);
}
framed Chunked reply method false e writable = record {
  agrees = record { small = tt; alone = λ h. refl; spoken = λ h. refl };
  framed = ap (λ (v : Bool). framing_by v true None)
      (in_chunks (is_head method || is_bodiless reply.code) reply.chunked reply.length e);
}
framed ToEnd reply method true e writable = record {
  agrees = record { small = tt; alone = λ h. refl; spoken = λ h. absurd (cc) };
  framed = ap (λ (v : Bool). framing_by v false None)
      (to_end (is_head method || is_bodiless reply.code) reply.chunked reply.length e);
}
framed ToEnd reply method false e writable = record {
  agrees = record { small = tt; alone = λ h. refl; spoken = λ h. refl };
  framed = ap (λ (v : Bool). framing_by v true None)
      (to_end (is_head method || is_bodiless reply.code) reply.chunked reply.length e);
}

-- ---- the reply

pub passed_reads : (bytes : List ℕ) (reply : ReplyHead) (method : List ℕ) (old close : Bool) (moment : ℕ) (date : List ℕ)
    → ReplyHeadOf bytes reply → IsDateAt moment date
    → length (reply_fields reply (reply_framing_of reply method) method old close date) ≤ 128
    → length (out_reply_of reply (reply_framing_of reply method) method old close date) ≤ head_limit
    → ReadsAsReply (out_reply_of reply (reply_framing_of reply method) method old close date) reply.code old close method
    (sent_framing_of (reply_framing_of reply method) old)
passed_reads bytes reply method old close moment date read dated few short =
    let framing = reply_framing_of reply method in
    let said = reply_length framing reply method in
    let sent = sent_framing_of framing old in
    let fields = reply_fields reply framing method old close date in
    let writable = writable_reply bytes reply read in
    let is = framed framing reply method old refl writable in
    let sends : IsSent old reply.code fields said (is_in_chunks sent) close = record {
      plain = fields_plain reply said sent close date writable.plain is.agrees.small (date_fits moment date dated);
      says = says reply said sent close date;
      agrees = is.agrees;
      good = writable.coded;
      few = few;
    } in
    subst (ReadsAsReply (out_reply_of reply framing method old close date) reply.code old close method) is.framed
    (sent_reply old reply.code fields said (is_in_chunks sent) close method sends short)
