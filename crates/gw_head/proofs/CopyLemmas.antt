-- The names and the values of a head that the grammar reads are such as the types of fields take.
use Rattle.std.proofs.Common.{◌≡◌, ℕ, suc, ◌+◌, ◌<◌, ◌≤◌, List, [], ◌∷◌, ◌++◌, length, map, sym, ap, ◌∙◌, subst, arith, append_assoc, length-append}
use Rattle.std.specs.Prelude.{All, IsTrue}
use Rattle.std.specs.List.{flat_map}
use Rattle.std.proofs.lemmas.List.{length-map, get_or-map}
use Rattle.std.proofs.lemmas.List.Elements.{All-nil, All-cons, All-weaker, All-map}
use Rattle.httparse.specs.Grammar.{is_token_byte, is_value_byte, IsToken, LineEnd, print_end, print_blank, print_version, print_reason, Field, print_field, IsField, print_section, RequestHead, ReadsRequest, ResponseHead, ReadsResponse}
use Rattle.httparse.specs.Spans.{name_and_value}
use Rattle.httparse.proofs.GrammarLemmas.{print_request-append, print_response-append}
use Rattle.httparse.proofs.PieceLemmas.{print_field-append}
use Rattle.httparse.proofs.TrimLemmas.{AllPass-trim_ows}
use Rattle.http_header.specs.Token.{IsToken as IsName, is_token_byte as is_name_byte}
use Rattle.gw_head.specs.Fields.{fields_of}
use Rattle.gw_head.specs.Copies.{IsCopyable}

-- both crates mean the same bytes
same_byte : (b : ℕ) → IsTrue (is_token_byte b) → IsTrue (is_name_byte b)
unfolding is_token_byte is_name_byte
same_byte b is = is

pub same_token : (bytes : List ℕ) → IsToken bytes → IsName bytes
same_token bytes is = (is.0, All-weaker (λ b. IsTrue (is_token_byte b)) (λ b. IsTrue (is_name_byte b)) same_byte bytes is.1)

-- ---- each name is shorter than the head

behind : (front text : List ℕ) (m : ℕ) → length (front ++ text) ≤ m → length text ≤ m
behind front text m within = omega (arith, length-append front text)

behind_one : (b : ℕ) (text : List ℕ) (m : ℕ) → length (b ∷ text) ≤ m → length text ≤ m
behind_one b text m within = omega arith

before_one : (front : List ℕ) (b : ℕ) (text : List ℕ) (m : ℕ) → length (front ++ b ∷ text) ≤ m → length front < m
before_one front b text m within =
    let size : length (front ++ b ∷ text) ≡ length front + suc (length text) = length-append front (b ∷ text) in
    omega arith

short_names : (fields : List Field) (last : LineEnd) (m : ℕ) → length (print_section fields last ++ []) ≤ m
    → All (λ f. length f.name < m) fields
short_names [] last m within = All-nil (λ f. length f.name < m)
short_names (f ∷ fields) last m within =
    let after = print_section fields last ++ [] in
    let value = f.raw ++ (print_end f.end ++ after) in
    let line : print_section (f ∷ fields) last ++ [] ≡ f.name ++ 58 ∷ value =
    ap (λ (t : List ℕ). t ++ []) (append_assoc (print_field f) (flat_map print_field fields) (print_end last))
    ∙ append_assoc (print_field f) (print_section fields last) []
    ∙ print_field-append f after in
    let all : length (f.name ++ 58 ∷ value) ≤ m = subst (λ (t : List ℕ). length t ≤ m) line within in
    let rest = behind (print_end f.end) after m (behind f.raw (print_end f.end ++ after) m
    (behind_one 58 value m (behind f.name (58 ∷ value) m all))) in
    All-cons (λ g. length g.name < m) f fields (before_one f.name 58 value m all) (short_names fields last m rest)

copyable_fields : (fields : List Field) (last : LineEnd) → All IsField fields
    → length (print_section fields last ++ []) ≤ 65536 → All IsCopyable (fields_of fields)
copyable_fields fields last all within =
    let short = short_names fields last 65536 within in
    All-map IsCopyable name_and_value fields
    (λ k d inside. let is = all k d inside in let few = short k d inside in (
      (same_token _ is.name, omega arith),
      AllPass-trim_ows is_value_byte _ is.raw,
    ))

pub copyable_request : (bytes : List ℕ) (h : RequestHead) → length bytes ≤ 65536 → ReadsRequest bytes h []
    → All IsCopyable (fields_of h.fields)
copyable_request bytes h within reads =
    let lines = print_section h.fields h.last ++ [] in
    let line = print_end h.line_end ++ lines in
    let version = print_version h.minor ++ line in
    let target = h.target ++ 32 ∷ version in
    let all : length (print_blank h.blank ++ (h.method ++ 32 ∷ target)) ≤ 65536 =
    subst (λ t. length t ≤ 65536) (reads.1 ∙ print_request-append h []) within in
    let from_method = behind (print_blank h.blank) (h.method ++ 32 ∷ target) 65536 all in
    let from_target = behind_one 32 target 65536 (behind h.method (32 ∷ target) 65536 from_method) in
    let from_version = behind_one 32 version 65536 (behind h.target (32 ∷ version) 65536 from_target) in
    copyable_fields h.fields h.last reads.0.fields
    (behind (print_end h.line_end) lines 65536 (behind (print_version h.minor) line 65536 from_version))

pub copyable_reply : (bytes : List ℕ) (h : ResponseHead) → length bytes ≤ 65536 → ReadsResponse bytes h []
    → All IsCopyable (fields_of h.fields)
copyable_reply bytes h within reads =
    let lines = print_section h.fields h.last ++ [] in
    let line = print_end h.line_end ++ lines in
    let reason = print_reason h.reason ++ line in
    let code = h.digits ++ reason in
    let version = print_version h.minor ++ 32 ∷ code in
    let all : length (print_blank h.blank ++ version) ≤ 65536 =
    subst (λ t. length t ≤ 65536) (reads.1 ∙ print_response-append h []) within in
    let from_version = behind (print_blank h.blank) version 65536 all in
    let from_code = behind_one 32 code 65536 (behind (print_version h.minor) (32 ∷ code) 65536 from_version) in
    let from_line = behind (print_reason h.reason) line 65536 (behind h.digits reason 65536 from_code) in
    copyable_fields h.fields h.last reads.0.fields (behind (print_end h.line_end) lines 65536 from_line)

-- what holds of the fields holds of the spans that cover them
pub along_spans : {X Y : Type 0} (P : X → Type 0) (f : Y → X) (ys : List Y) (xs : List X) → map f ys ≡ xs → All P xs
    → All (λ y. P (f y)) ys
along_spans P f ys xs is all k d inside =
    let same = length-map ys f in
    subst P (get_or-map f ys k d (f d) inside) (subst (All P) (sym is) all k (f d) (omega arith))
