-- Fields that are written plainly are the grammar's field lines, and are read as they were.
use Rattle.std.proofs.Common.{◌≡◌, ℕ, ◌<◌, Bool, true, false, List, [], ◌∷◌, ◌++◌, length, map, refl, sym, ap, ◌∙◌, arith, append_assoc}
use Rattle.std.specs.Prelude.{All, IsTrue, not, ◌==◌, ◌&&◌, ◌||◌, if◌then◌else◌, codes, bytes_eq, Option}
use Rattle.std.specs.List.{flat_map}
use Rattle.std.specs.Char.{to_ascii_lowercase, to_ascii_uppercase}
use Rattle.std.specs.Str.{str_to_ascii_lowercase}
use Rattle.std.proofs.lemmas.Bool.Decides.{nat_tests}
use Rattle.std.proofs.lemmas.List.Elements.{All-nil, All-cons, All-head, All-tail, All-map, All-weaker}
use Rattle.httparse.specs.Grammar.{is_token_byte, is_value_byte, AllPass, IsToken, crlf, Field, print_field, IsField, trim_ows}
use Rattle.httparse.proofs.TrimLemmas.{trim_ows_space}
use Rattle.http_header.specs.Token.{is_token_byte as is_name_byte, IsToken as IsName}
use Rattle.gw_fields.specs.Fields.{has_token}
use Rattle.gw_fields.specs.Order.{spelled_from, spelled, line_of, lines_of}
use Rattle.gw_head.specs.declared.error.HeadError.{HeadError}
use Rattle.gw_head.specs.declared.error.HeadError.TheVariants.{Malformed, BadLength, LengthAndCoding, Coding}
use Rattle.gw_head.specs.declared.reply.ReplyHead.{ReplyHead}
use Rattle.gw_head.specs.Fields.{fields_of, values_named}
use Rattle.gw_head.specs.Head.{lowered_fields, length_of, reply_head_of}
use Rattle.gw_head.specs.Checks.{first_fault, reply_fault, lengths_of, codings_of, is_some_value, is_only_token, are_bad_lengths, has_bad_code, has_bad_coding, has_length_and_coding, has_bad_length}
use Rattle.gw_head.specs.Written.{IsPlainField}

-- the field line
abbrev pub written : List ℕ × List ℕ → Field
written field = record { name = spelled field.0; raw = 32 ∷ field.1; end = crlf }

-- the field as it is spelled
abbrev pub spelt : List ℕ × List ℕ → List ℕ × List ℕ
spelt field = (spelled field.0, field.1)

-- ---- spelling changes the case alone

raised_low : (b : ℕ) → to_ascii_lowercase (to_ascii_uppercase b) ≡ to_ascii_lowercase b
raised_low b = grind (arith, nat_tests)

letter_low : (starts : Bool) (b : ℕ)
    → to_ascii_lowercase (if starts then to_ascii_uppercase b else b) ≡ to_ascii_lowercase b
letter_low true b = raised_low b
letter_low false b = refl

spelled_low : (starts : Bool) (name : List ℕ) → str_to_ascii_lowercase (spelled_from starts name) ≡ str_to_ascii_lowercase name
spelled_low starts [] = refl
spelled_low starts (b ∷ name) = λ i. letter_low starts b i ∷ spelled_low (b == 45) name i

raised_token : (b : ℕ) → IsTrue (is_name_byte b) → IsTrue (is_token_byte (to_ascii_uppercase b))
unfolding is_name_byte is_token_byte
raised_token b is = grind (arith, nat_tests)

same_byte : (b : ℕ) → IsTrue (is_name_byte b) → IsTrue (is_token_byte b)
unfolding is_name_byte is_token_byte
same_byte b is = is

letter_token : (starts : Bool) (b : ℕ) → IsTrue (is_name_byte b)
    → IsTrue (is_token_byte (if starts then to_ascii_uppercase b else b))
letter_token true b is = raised_token b is
letter_token false b is = same_byte b is

spelled_token : (starts : Bool) (name : List ℕ) → All (λ b. IsTrue (is_name_byte b)) name
    → AllPass is_token_byte (spelled_from starts name)
spelled_token starts [] all = All-nil (λ b. IsTrue (is_token_byte b))
spelled_token starts (b ∷ name) all =
    All-cons (λ x. IsTrue (is_token_byte x)) _ _ (letter_token starts b (All-head (λ x. IsTrue (is_name_byte x)) b name all))
    (spelled_token (b == 45) name (All-tail (λ x. IsTrue (is_name_byte x)) b name all))

spelled_some : (starts : Bool) (name : List ℕ) → 0 < length name → 0 < length (spelled_from starts name)
spelled_some starts [] some = some
spelled_some starts (b ∷ name) some = omega arith

spelled_name : (name : List ℕ) → IsName name → IsToken (spelled name)
spelled_name name is = (spelled_some true name is.0, spelled_token true name is.1)

-- a token is one in either crate's words
pub token_good : (bytes : List ℕ) → IsName bytes → IsToken bytes
token_good bytes is =
    (is.0, All-weaker (λ b. IsTrue (is_name_byte b)) (λ b. IsTrue (is_token_byte b)) same_byte bytes is.1)

-- ---- the lines

line_same : (field : List ℕ × List ℕ) → print_field (written field) ≡ line_of field
line_same field = ap (λ l. l ++ codes "\r\n") (sym (append_assoc (spelled field.0) (codes ": ") field.1))

pub lines_same : (fields : List (List ℕ × List ℕ)) → flat_map print_field (map written fields) ≡ lines_of fields
lines_same [] = refl
lines_same (field ∷ fields) = λ i. line_same field i ++ lines_same fields i

written_good : (field : List ℕ × List ℕ) → IsPlainField field → IsField (written field)
written_good field is = record {
  name = spelled_name field.0 is.name.0.0;
  raw = All-cons (λ b. IsTrue (is_value_byte b)) 32 field.1 refl is.value;
}

pub lines_good : (fields : List (List ℕ × List ℕ)) → All IsPlainField fields → All IsField (map written fields)
lines_good fields all =
    All-map IsField written fields (All-weaker IsPlainField (λ f. IsField (written f)) written_good fields all)

-- ---- what is read from them

value_same : (field : List ℕ × List ℕ) → IsPlainField field → trim_ows (32 ∷ field.1) ≡ field.1
value_same field is = trim_ows_space field.1 is.bare.front is.bare.back

pub fields_same : (fields : List (List ℕ × List ℕ)) → All IsPlainField fields → fields_of (map written fields) ≡ map spelt fields
fields_same [] all = refl
fields_same (field ∷ fields) all =
    λ i. (spelled field.0, value_same field (All-head IsPlainField field fields all) i)
    ∷ fields_same fields (All-tail IsPlainField field fields all) i

pub values_same : (name : List ℕ) (fields : List (List ℕ × List ℕ)) → values_named name (map spelt fields) ≡ values_named name fields
values_same name [] = refl
values_same name (field ∷ fields) =
    λ i. if bytes_eq (spelled_low true field.0 i) (str_to_ascii_lowercase name) then field.1 ∷ values_same name fields i
    else values_same name fields i

pub lowered_same : (fields : List (List ℕ × List ℕ)) → lowered_fields (map spelt fields) ≡ lowered_fields fields
lowered_same [] = refl
lowered_same (field ∷ fields) = λ i. (spelled_low true field.0 i, field.1) ∷ lowered_same fields i

-- ---- what is made of them, and what fails

-- the head of a reply by its fields in lower case, its lengths and its codings
abbrev pub made : ℕ → ℕ → List (List ℕ × List ℕ) → List (List ℕ) → List (List ℕ) → ReplyHead
made minor code lowered lengths codings = record {
  code = code;
  old = minor == 0;
  fields = lowered;
  close = has_token (codes "connection") (codes "close") lowered;
  length = length_of lengths;
  chunked = is_some_value codings;
}

pub head_by : (minor code : ℕ) (fields lowered : List (List ℕ × List ℕ)) (lengths codings : List (List ℕ))
    → lowered_fields fields ≡ lowered → lengths_of fields ≡ lengths → codings_of fields ≡ codings
    → reply_head_of minor code fields ≡ made minor code lowered lengths codings
head_by minor code fields lowered lengths codings a b c = λ i. made minor code (a i) (b i) (c i)

pub head_same : (minor code : ℕ) (fields : List (List ℕ × List ℕ))
    → reply_head_of minor code (map spelt fields) ≡ reply_head_of minor code fields
head_same minor code fields =
    head_by minor code (map spelt fields) (lowered_fields fields) (lengths_of fields) (codings_of fields)
    (lowered_same fields) (values_same (codes "content-length") fields) (values_same (codes "transfer-encoding") fields)

-- the first check that they fail
abbrev pub failing : ℕ → ℕ → List (List ℕ) → List (List ℕ) → Option HeadError
failing minor code lengths codings =
    first_fault
    ((has_bad_code code, Malformed)
    ∷ (is_some_value codings && (minor == 0 || not (is_only_token (codes "chunked") codings)), Coding)
    ∷ (is_some_value codings && is_some_value lengths, LengthAndCoding)
    ∷ (are_bad_lengths lengths, BadLength)
    ∷ [])

pub fault_by : (minor code : ℕ) (fields : List (List ℕ × List ℕ)) (lengths codings : List (List ℕ))
    → lengths_of fields ≡ lengths → codings_of fields ≡ codings
    → reply_fault minor code fields ≡ failing minor code lengths codings
unfolding has_bad_coding has_length_and_coding has_bad_length
fault_by minor code fields lengths codings a b = λ i. failing minor code (a i) (b i)

pub fault_same : (minor code : ℕ) (fields : List (List ℕ × List ℕ))
    → reply_fault minor code (map spelt fields) ≡ reply_fault minor code fields
fault_same minor code fields =
    fault_by minor code (map spelt fields) (lengths_of fields) (codings_of fields)
    (values_same (codes "content-length") fields) (values_same (codes "transfer-encoding") fields)
    ∙ sym (fault_by minor code fields (lengths_of fields) (codings_of fields) refl refl)
