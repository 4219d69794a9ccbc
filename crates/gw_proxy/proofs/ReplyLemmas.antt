-- A reply's head as it is sent is read with what it says.
use Rattle.std.proofs.Common.{◌≡◌, ℕ, ◌^◌, ◌<◌, ◌≤◌, Bool, true, false, ◌||◌, List, [], ◌∷◌, ◌++◌, length, refl, sym, ap, subst, ◌∙◌, arith}
use Rattle.std.specs.Prelude.{All, codes, decimal, bytes_eq, Option, Some, None, if◌then◌else◌, ◌==◌}
use Rattle.std.proofs.lemmas.Fmt.{decimal_is_IsNumeral}
use Rattle.std.proofs.lemmas.Slice.Eq.{bytes_eq-Decides}
use Rattle.gw_fields.specs.Fields.{has_token, names_token}
use Rattle.gw_fields.specs.Order.{sorted}
use Rattle.gw_head.specs.declared.framing.Framing.{Framing}
use Rattle.gw_head.specs.declared.framing.Framing.TheVariants.{None as NoBody, Chunked}
use Rattle.gw_head.specs.declared.reply.ReplyHead.{ReplyHead}
use Rattle.gw_head.specs.Checks.{reply_fault, codings_of, lengths_of, is_some_value, has_bad_code}
use Rattle.gw_head.specs.Head.{reply_head_of, length_of, ReplyHeadOf}
use Rattle.gw_head.specs.Mark.{head_limit}
use Rattle.gw_head.specs.Written.{IsPlainField, IsPlainReply, reply_text}
use Rattle.gw_head.proofs.Facts.{made, head_by, failing, fault_by, reply_written}
use Rattle.gw_body.specs.Framing.{is_bodiless, counted_framing, reply_framing_of}
use Rattle.gw_proxy.specs.Lines.{field_section}
use Rattle.gw_proxy.specs.OutReply.{is_head, phrase_of, status_line_of}
use Rattle.gw_proxy.specs.Read.{ReadsAsReply}
use Rattle.gw_proxy.proofs.SortLemmas.{all_sorted, any_sorted, length_sorted, lowered_plain, values_sorted}
use Rattle.gw_proxy.proofs.ValueLemmas.{is_phrase, number_is_length}

-- the digit behind the dot
abbrev pub minor_of : Bool → ℕ
minor_of old = if old then 0 else 1

abbrev pub texts_of : Option ℕ → List (List ℕ)
texts_of None = []
texts_of (Some n) = decimal n ∷ []

abbrev pub coded_as : Bool → List (List ℕ)
coded_as chunks = if chunks then codes "chunked" ∷ [] else []

-- what fields say: a length or none, chunks or none, and whether the link closes
pub record Says (fields : List (List ℕ × List ℕ)) (said : Option ℕ) (chunks close : Bool) : Type 0 where
  pub lengths : lengths_of fields ≡ texts_of said
  pub codings : codings_of fields ≡ coded_as chunks
  pub closes : has_token (codes "connection") (codes "close") fields ≡ close

abbrev pub IsSmall : Option ℕ → Type 0
IsSmall None = Unit {0}
IsSmall (Some n) = n < 2 ^ 63

-- the length can be read, and chunks go without one and not to HTTP/1.0
pub record Agrees (said : Option ℕ) (chunks old : Bool) : Type 0 where
  pub small : IsSmall said
  pub alone : chunks ≡ true → said ≡ None
  pub spoken : chunks ≡ true → old ≡ false

-- the framing that such a head announces
abbrev pub said_framing : List ℕ → ℕ → Option ℕ → Bool → Framing
said_framing method code said chunks =
    if is_head method || is_bodiless code then NoBody else (if chunks then Chunked else counted_framing said)

pub same_bytes : (bytes : List ℕ) → bytes_eq bytes bytes ≡ true
same_bytes bytes = (bytes_eq-Decides bytes bytes).1 refl

passes : (old : Bool) (code : ℕ) (said : Option ℕ) (chunks : Bool) → has_bad_code code ≡ false → Agrees said chunks old
    → failing (minor_of old) code (texts_of said) (coded_as chunks) ≡ None
passes old code None false good agrees = rw good refl
passes true code None true good agrees = let e = agrees.spoken refl in absurd (cc)
passes false code None true good agrees = rw good refl
passes old code (Some n) false good agrees =
    rw good (rw (number_is_length n agrees.small) (rw (same_bytes (decimal n)) refl))
passes old code (Some n) true good agrees = let e = agrees.alone refl in absurd (cc)

number : (said : Option ℕ) → IsSmall said → length_of (texts_of said) ≡ said
number None small = refl
number (Some n) small = ap Some (decimal_is_IsNumeral n (omega arith)).1

chunked_as : (chunks : Bool) → is_some_value (coded_as chunks) ≡ chunks
chunked_as true = refl
chunked_as false = refl

old_as : (old : Bool) → (minor_of old == 0) ≡ old
old_as true = refl
old_as false = refl

minor_fits : (old : Bool) → minor_of old ≤ 1
minor_fits true = omega arith
minor_fits false = omega arith

text_same : (old : Bool) (code : ℕ) (fields : List (List ℕ × List ℕ))
    → status_line_of old code ++ field_section fields ≡ reply_text (minor_of old) code (phrase_of code) (sorted fields)
text_same true code fields = refl
text_same false code fields = refl

-- the fields, before they are put into their order
pub record IsSent (old : Bool) (code : ℕ) (fields : List (List ℕ × List ℕ)) (said : Option ℕ) (chunks close : Bool) : Type 0 where
  pub plain : All IsPlainField fields
  pub says : Says fields said chunks close
  pub agrees : Agrees said chunks old
  pub good : has_bad_code code ≡ false
  pub few : length fields ≤ 128

sent_as : (old : Bool) (code : ℕ) (fields : List (List ℕ × List ℕ)) (said : Option ℕ) (chunks close : Bool)
    → IsSent old code fields said chunks close
    → reply_head_of (minor_of old) code (sorted fields)
    ≡ made (minor_of old) code (sorted fields) (texts_of said) (coded_as chunks)
sent_as old code fields said chunks close is =
    head_by (minor_of old) code (sorted fields) (sorted fields) (texts_of said) (coded_as chunks)
    (lowered_plain (sorted fields) (all_sorted IsPlainField fields is.plain))
    (values_sorted (codes "content-length") fields is.plain ∙ is.says.lengths)
    (values_sorted (codes "transfer-encoding") fields is.plain ∙ is.says.codings)

sent_passes : (old : Bool) (code : ℕ) (fields : List (List ℕ × List ℕ)) (said : Option ℕ) (chunks close : Bool)
    → IsSent old code fields said chunks close → reply_fault (minor_of old) code (sorted fields) ≡ None
sent_passes old code fields said chunks close is =
    fault_by (minor_of old) code (sorted fields) (texts_of said) (coded_as chunks)
    (values_sorted (codes "content-length") fields is.plain ∙ is.says.lengths)
    (values_sorted (codes "transfer-encoding") fields is.plain ∙ is.says.codings)
    ∙ passes old code said chunks is.good is.agrees

pub sent_reply : (old : Bool) (code : ℕ) (fields : List (List ℕ × List ℕ)) (said : Option ℕ) (chunks close : Bool) (method : List ℕ)
    → IsSent old code fields said chunks close → length (status_line_of old code ++ field_section fields) ≤ head_limit
    → ReadsAsReply (status_line_of old code ++ field_section fields) code old close method (said_framing method code said chunks)
sent_reply old code fields said chunks close method is short =
    let text = text_same old code fields in
    let head = sent_as old code fields said chunks close is in
    let plain : IsPlainReply (minor_of old) code (phrase_of code) (sorted fields) = record {
      spoken = minor_fits old;
      words = (is_phrase code).good;
      plain = all_sorted IsPlainField fields is.plain;
      few = let same = length_sorted fields in let few = is.few in omega arith;
      passes = sent_passes old code fields said chunks close is;
    } in
    let limit : length (reply_text (minor_of old) code (phrase_of code) (sorted fields)) ≤ head_limit =
    subst (λ l. length l ≤ head_limit) text short in
    record {
      head = reply_head_of (minor_of old) code (sorted fields);
      reads = subst (λ l. ReplyHeadOf l (reply_head_of (minor_of old) code (sorted fields))) (sym text)
          (reply_written (minor_of old) code (phrase_of code) (sorted fields) plain limit);
      coded = refl;
      spoken = old_as old;
      closes = ap (λ (h : ReplyHead). h.close) head ∙ any_sorted (names_token (codes "connection") (codes "close")) fields ∙ is.says.closes;
      framed = ap (λ (h : ReplyHead). reply_framing_of h method) head
          ∙ (λ i. if is_head method || is_bodiless code then NoBody
          else (if chunked_as chunks i then Chunked else counted_framing (number said is.agrees.small i)));
    }
