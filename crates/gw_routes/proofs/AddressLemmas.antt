-- Addresses and their texts, over plain variables.
use Rattle.std.proofs.Common.{◌≡◌, ◌≢◌, ℕ, zero, suc, ◌<◌, ◌==◌, ◌^◌, Bool, true, false, List, [], ◌∷◌, ◌++◌, length, drop, cond, codes, Result, Ok, Err, refl, ap, sym, ◌∙◌, subst, arith, append_assoc}
use Rattle.std.specs.Prelude.{slice_index, decimal, if◌then◌else◌}
use Rattle.std.specs.List.{All}
use Rattle.std.specs.Int.{IsInRange}
use Rattle.std.specs.Str.{IsUtf8}
use Rattle.std.specs.Str.Parse.{IsNumeral, AllDigits, digits_value, ParsesUnsigned, without_leading_plus}
use Rattle.std.specs.Net.Grammar.{IsIpv4Text, IsDotted}
use Rattle.std.specs.Net.Text.{ipv4_text, dotted_text}
use Rattle.std.specs.declared.net.ipv4_addr.Ipv4Addr.{Ipv4Addr}
use Rattle.std.proofs.lemmas.Bool.{ne_eqb, eqb-true}
use Rattle.std.proofs.lemmas.Fmt.{decimal-digits_value, decimal_nonempty, first_decimal, decimal_is_IsNumeral, IsAscii-decimal, parse-decimal, decimal_digit}
use Rattle.std.proofs.lemmas.List.Elements.{All-head, All-tail, All-nil, All-cons, All-append, All-from_get_or, All-from_recursion}
use Rattle.std.proofs.lemmas.Str.{IsUtf8-from_ascii}
use Rattle.std.proofs.lemmas.Str.Parse.{IsNumeralModel, not_in_digits}
use Rattle.gw_wire.specs.declared.values.Addr.{Addr}
use Rattle.gw_wire.specs.AddressText.{address_text}
use Rattle.gw_routes.specs.Addresses.{IsAddress, IsHostText, IsOctets, IsPortText, SplitsAt}

pub own : IsNumeralModel (AllDigits 10) (digits_value 10)
own = record { to = λ ds d. d; from = λ ds d. d; same = λ ds d. refl }

more_than_none : (n : ℕ) → (n ≡ 0 → ⊥) → 0 < n
more_than_none zero h = absurd (h refl)
more_than_none (suc n) h = omega arith

no_plus : (text : List ℕ) → 48 < slice_index text 0 → without_leading_plus text ≡ text
no_plus text first = ap (λ b. drop (cond b 1 0) text) (ne_eqb (slice_index text 0) 43 (λ e. omega arith))

-- a port
pub port_of : {E : Type 0} (text : List ℕ) (port : ℕ) (result : Result ℕ E) → result ≡ Ok port → 48 < slice_index text 0 → ParsesUnsigned 16 10 text result → IsPortText port text
port_of {E} text port result is first parsed =
    let R : Result ℕ E → Type 0 = λ r. ParsesUnsigned 16 10 text r in
    let P : List ℕ → Type 0 = λ ds. (IsNumeral 10 ds × (digits_value 10 ds < 2 ^ 16)) × (port ≡ digits_value 10 ds) in
    let q = subst P (no_plus text first) (subst R is parsed) in
    let spelled : text ≡ decimal port =
    sym (ap decimal q.1 ∙ decimal-digits_value own text q.0.0.1 q.0.0.0 (λ e. absurd (let no : ⊥ = omega arith in no)) (let small = q.0.1 in omega arith)) in
    record {
      least = more_than_none port (λ z. (let same : text ≡ 48 ∷ [] = spelled ∙ ap decimal z ∙ decimal_digit 0 (omega arith) in let front : slice_index text 0 ≡ 48 = ap (λ l. slice_index l 0) same in omega arith));
      most = (let small = q.0.1 in let e = q.1 in omega arith);
      spelled = spelled;
    }

pub first_of_port : (port : ℕ) (text : List ℕ) → IsPortText port text → 48 < slice_index text 0
first_of_port port text p = let P : List ℕ → Type 0 = λ l. 48 < slice_index l 0 in subst P (sym p.spelled) (first_decimal port p.least (let m = p.most in omega arith))

pub port_not_empty : (port : ℕ) (text : List ℕ) → IsPortText port text → (length text == 0) ≡ true → ⊥
port_not_empty port text p e =
    let some = decimal_nonempty port (let m = p.most in omega arith) in
    let same : length text ≡ length (decimal port) = ap length p.spelled in
    let none = eqb-true (length text) 0 e in omega arith

pub port_is_utf8 : (port : ℕ) (text : List ℕ) → IsPortText port text → IsUtf8 text
port_is_utf8 port text p = subst IsUtf8 (sym p.spelled) (IsUtf8-from_ascii (decimal port) (IsAscii-decimal port (let m = p.most in omega arith)))

pub port_parses : {E : Type 0} (port : ℕ) (text : List ℕ) (result : Result ℕ E) (error : E) → IsPortText port text → ParsesUnsigned 16 10 text result → result ≡ Err error → ⊥
port_parses port text result error p parsed e =
    let ok = parse-decimal 16 port text result (let m = p.most in omega arith) (let m = p.most in omega arith) p.spelled parsed in
    let both = sym ok ∙ e in cc

-- a host
pub four_of : (ip : List ℕ) → length ip ≡ 4 → ip ≡ slice_index ip 0 ∷ slice_index ip 1 ∷ slice_index ip 2 ∷ slice_index ip 3 ∷ []
four_of [] e = absurd (let no : ⊥ = omega arith in no)
four_of (a ∷ []) e = absurd (let no : ⊥ = omega arith in no)
four_of (a ∷ b ∷ []) e = absurd (let no : ⊥ = omega arith in no)
four_of (a ∷ b ∷ c ∷ []) e = absurd (let no : ⊥ = omega arith in no)
four_of (a ∷ b ∷ c ∷ d ∷ []) e = refl
four_of (a ∷ b ∷ c ∷ d ∷ x ∷ xs) e = absurd (let no : ⊥ = omega arith in no)

dotted_of : (text ip : List ℕ) → IsOctets ip → text ≡ ipv4_text ip → IsDotted text ip
dotted_of text ip o e = record {
  a = slice_index ip 0;
  b = slice_index ip 1;
  c = slice_index ip 2;
  d = slice_index ip 3;
  fit = (o.bytes 0 0 (omega (arith, o.four)), o.bytes 1 0 (omega (arith, o.four)), o.bytes 2 0 (omega (arith, o.four)), o.bytes 3 0 (omega (arith, o.four)));
  value = four_of ip o.four;
  spelled = e;
}

pub no_host : (text : List ℕ) (local : Bool) (ip : List ℕ) → (text ≡ codes "localhost" → ⊥) → ((a : Ipv4Addr) → IsIpv4Text text a → ⊥) → IsHostText local ip text → ⊥
no_host text true ip n none h = n h.2
no_host text false ip n none h = none (record { octets = ip }) (dotted_of text ip h.1 h.2)

-- a text splits at a byte in one way
head_same : (x y : ℕ) (a b : List ℕ) → x ∷ a ≡ y ∷ b → x ≡ y
head_same x y a b e = cc

tail_same : (x y : ℕ) (a b : List ℕ) → x ∷ a ≡ y ∷ b → a ≡ b
tail_same x y a b e = cc

all_behind : (byte : ℕ) (f a : List ℕ) → All (λ x. x ≢ byte) (f ++ a) → All (λ x. x ≢ byte) a
all_behind byte [] a h = h
all_behind byte (x ∷ f) a h = all_behind byte f a (All-tail (λ x. x ≢ byte) x (f ++ a) h)

pub split_same : (byte : ℕ) (f g a b : List ℕ) → All (λ x. x ≢ byte) f → All (λ x. x ≢ byte) g → f ++ byte ∷ a ≡ g ++ byte ∷ b → (f ≡ g) × (a ≡ b)
split_same byte [] [] a b p q e = (refl, tail_same byte byte a b e)
split_same byte [] (y ∷ g) a b p q e = absurd (All-head (λ x. x ≢ byte) y g q (sym (head_same byte y a (g ++ byte ∷ b) e)))
split_same byte (x ∷ f) [] a b p q e = absurd (All-head (λ x. x ≢ byte) x f p (head_same x byte (f ++ byte ∷ a) b e))
split_same byte (x ∷ f) (y ∷ g) a b p q e =
    let r = split_same byte f g a b (All-tail (λ x. x ≢ byte) x f p) (All-tail (λ x. x ≢ byte) y g q) (tail_same x y (f ++ byte ∷ a) (g ++ byte ∷ b) e) in
    (ap (λ l. x ∷ l) r.0 ∙ ap (λ z. z ∷ g) (head_same x y (f ++ byte ∷ a) (g ++ byte ∷ b) e), r.1)

pub none_split : (byte : ℕ) (text f a : List ℕ) → All (λ x. x ≢ byte) text → text ≡ f ++ byte ∷ a → ⊥
none_split byte text f a all e =
    let P : List ℕ → Type 0 = λ l. All (λ x. x ≢ byte) l in
    All-head (λ x. x ≢ byte) byte a (all_behind byte f (byte ∷ a) (subst P e all)) refl

pub split_is : (byte : ℕ) (text f a front back : List ℕ) → SplitsAt byte text front back → All (λ x. x ≢ byte) f → text ≡ f ++ byte ∷ a → (front ≡ f) × (back ≡ a)
split_is byte text f a front back s all e = split_same byte front f back a s.first all (sym s.parts ∙ e)

-- which bytes don't stand in an address
pub digits_clear : (byte n : ℕ) → n < 2 ^ 64 → (IsInRange 48 57 byte → ⊥) → All (λ b. b ≢ byte) (decimal n)
digits_clear byte n small out = All-from_get_or (λ b. b ≢ byte) (decimal n) 0 (λ k l. not_in_digits own (decimal n) byte (decimal_is_IsNumeral n small).0.1 out k l)

one_clear : (byte x : ℕ) (l : List ℕ) → x ≢ byte → All (λ b. b ≢ byte) l → All (λ b. b ≢ byte) (x ∷ l)
one_clear byte x l n h = All-cons (λ b. b ≢ byte) x l n h

both_clear : (byte : ℕ) (x y : List ℕ) → All (λ b. b ≢ byte) x → All (λ b. b ≢ byte) y → All (λ b. b ≢ byte) (x ++ y)
both_clear byte x y h k = All-append (λ b. b ≢ byte) x y h k

localhost_clear : (byte : ℕ) → byte < 97 → All (λ b. b ≢ byte) (codes "localhost")
localhost_clear byte l =
    All-from_recursion (λ b. b ≢ byte) (codes "localhost")
    ((λ e. omega arith), ((λ e. omega arith), ((λ e. omega arith), ((λ e. omega arith), ((λ e. omega arith), ((λ e. omega arith), ((λ e. omega arith), ((λ e. omega arith), ((λ e. omega arith), tt)))))))))

pub four_clear : (byte a b c d : ℕ) → a < 256 → b < 256 → c < 256 → d < 256 → (IsInRange 48 57 byte → ⊥) → byte ≢ 46 → All (λ x. x ≢ byte) (dotted_text a b c d)
four_clear byte a b c d la lb lc ld out dot =
    let A = digits_clear byte a (omega arith) out in
    let B = digits_clear byte b (omega arith) out in
    let C = digits_clear byte c (omega arith) out in
    let D = digits_clear byte d (omega arith) out in
    let point : All (λ x. x ≢ byte) (46 ∷ []) = one_clear byte 46 [] (λ e. dot (sym e)) (All-nil (λ x. x ≢ byte)) in
    both_clear byte _ _ (both_clear byte _ _ (both_clear byte _ _ (both_clear byte _ _ (both_clear byte _ _ (both_clear byte _ _ A point) B) point) C) point) D

pub host_clear : (byte : ℕ) (local : Bool) (ip : List ℕ) → IsOctets ip → byte < 97 → (IsInRange 48 57 byte → ⊥) → byte ≢ 46 → All (λ b. b ≢ byte) (if local then codes "localhost" else ipv4_text ip)
host_clear byte true ip o low out dot = localhost_clear byte low
host_clear byte false ip o low out dot =
    four_clear byte _ _ _ _ (o.bytes 0 0 (omega (arith, o.four))) (o.bytes 1 0 (omega (arith, o.four))) (o.bytes 2 0 (omega (arith, o.four))) (o.bytes 3 0 (omega (arith, o.four))) out dot

-- an address is its host, a colon and its port
parts_by : (local : Bool) (ip : List ℕ) (port : ℕ) → address_text (record { local = local; ip = ip; port = port }) ≡ (if local then codes "localhost" else ipv4_text ip) ++ 58 ∷ decimal port
parts_by true ip port = refl
parts_by false ip port = append_assoc (ipv4_text ip) (codes ":") (decimal port)

pub parts_of : (a : Addr) → address_text a ≡ (if a.local then codes "localhost" else ipv4_text a.ip) ++ 58 ∷ decimal a.port
parts_of a = parts_by a.local a.ip a.port

-- the ways in which a text isn't an address
pub no_colon : (text : List ℕ) → All (λ b. b ≢ 58) text → (a : Addr) → IsAddress a → text ≡ address_text a → ⊥
no_colon text all a i e = none_split 58 text (if a.local then codes "localhost" else ipv4_text a.ip) (decimal a.port) all (e ∙ parts_of a)

split_address : (text front back : List ℕ) (a : Addr) → SplitsAt 58 text front back → IsAddress a → text ≡ address_text a → (front ≡ (if a.local then codes "localhost" else ipv4_text a.ip)) × (back ≡ decimal a.port)
split_address text front back a s i e =
    split_is 58 text (if a.local then codes "localhost" else ipv4_text a.ip) (decimal a.port) front back s
    (host_clear 58 a.local a.ip i.octets (omega arith) (λ r. (let x = r in omega arith)) (λ e. omega arith)) (e ∙ parts_of a)

pub wrong_host : (text front back : List ℕ) → SplitsAt 58 text front back → ((local : Bool) (ip : List ℕ) → IsHostText local ip front → ⊥) → (a : Addr) → IsAddress a → text ≡ address_text a → ⊥
wrong_host text front back s none a i e = none a.local a.ip (i.localhost, i.octets, (split_address text front back a s i e).0)

pub wrong_port : (text front back : List ℕ) → SplitsAt 58 text front back → ((port : ℕ) → IsPortText port back → ⊥) → (a : Addr) → IsAddress a → text ≡ address_text a → ⊥
wrong_port text front back s none a i e = none a.port (record { least = i.least; most = i.most; spelled = (split_address text front back a s i e).1 })

pub right_address : (text front back : List ℕ) (local : Bool) (ip : List ℕ) (port : ℕ) → SplitsAt 58 text front back → IsHostText local ip front → IsPortText port back
    → IsAddress (record { local = local; ip = ip; port = port }) × (text ≡ address_text (record { local = local; ip = ip; port = port }))
right_address text front back local ip port s h p = (
  record { octets = h.1; least = p.least; most = p.most; localhost = h.0 },
  s.parts ∙ ap (λ f. f ++ 58 ∷ back) h.2 ∙ ap (λ b. (if local then codes "localhost" else ipv4_text ip) ++ 58 ∷ b) p.spelled ∙ sym (parts_by local ip port),
)
