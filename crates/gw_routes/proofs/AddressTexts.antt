-- The address that a text is, over plain variables.
use Rattle.std.proofs.Common.{◌≡◌, ◌≢◌, ℕ, ◌<◌, ◌==◌, ◌&&◌, Bool, true, false, List, [], ◌∷◌, ◌++◌, length, map, codes, bytes_eq, Option, Some, None, refl, ap, sym, ◌∙◌, subst, arith, append_assoc}
use Rattle.std.specs.Prelude.{decimal, nat_lt, MatchOption, if◌then◌else◌}
use Rattle.std.specs.List.{All, slice_split, list_all}
use Rattle.std.specs.Int.{IsInRange}
use Rattle.std.specs.Str.Parse.{digits_value}
use Rattle.std.specs.Net.Text.{ipv4_text, dotted_text}
use Rattle.std.proofs.lemmas.Bool.{ne_eqb, eq-eqb, eqb-true, lt-ltb, ltb-true, and_parts, and_from, false_from_ne_true}
use Rattle.std.proofs.lemmas.Fmt.{digits_value-decimal}
use Rattle.std.proofs.lemmas.List.Elements.{All-head, All-tail, All-nil, All-cons, All-weaker}
use Rattle.std.proofs.lemmas.List.Splits.{slice_split_none, slice_split_at}
use Rattle.std.proofs.lemmas.Slice.Eq.{bytes_eq-Decides}
use Rattle.gw_wire.specs.declared.values.Addr.{Addr}
use Rattle.gw_wire.specs.AddressText.{address_text}
use Rattle.gw_routes.specs.Addresses.{IsAddress, IsOctets, is_point, is_colon, numbers_of, address_with, guess, is_in_range, spelled_so, address_of}
use Rattle.gw_routes.proofs.AddressLemmas.{own, digits_clear, four_clear, four_of, host_clear, parts_of}

-- ---- points and colons part a text

split_clear : (byte : ℕ) (front back : List ℕ) → All (λ b. b ≢ byte) front → slice_split (λ b. b == byte) (front ++ byte ∷ back) ≡ front ∷ slice_split (λ b. b == byte) back
split_clear byte front back h =
    slice_split_at (λ b. b == byte) front byte back (All-weaker (λ b. b ≢ byte) (λ b. (b == byte) ≡ false) (λ b n. ne_eqb b byte n) front h) (eq-eqb byte byte refl)

last_clear : (byte : ℕ) (text : List ℕ) → All (λ b. b ≢ byte) text → slice_split (λ b. b == byte) text ≡ text ∷ []
last_clear byte text h =
    slice_split_none (λ b. b == byte) text (All-weaker (λ b. b ≢ byte) (λ b. (b == byte) ≡ false) (λ b n. ne_eqb b byte n) text h)

no_point : (n : ℕ) → n < 256 → All (λ b. b ≢ 46) (decimal n)
no_point n small = digits_clear 46 n (omega arith) (λ r. (let x = r in omega arith))

points : (x y z w : List ℕ) → x ++ codes "." ++ y ++ codes "." ++ z ++ codes "." ++ w ≡ x ++ 46 ∷ (y ++ 46 ∷ (z ++ 46 ∷ w))
points x y z w =
    let P = codes "." in
    append_assoc (x ++ P ++ y ++ P ++ z) P w
    ∙ append_assoc (x ++ P ++ y ++ P) z (46 ∷ w)
    ∙ append_assoc (x ++ P ++ y) P (z ++ 46 ∷ w)
    ∙ append_assoc (x ++ P) y (46 ∷ (z ++ 46 ∷ w))
    ∙ append_assoc x P (y ++ 46 ∷ (z ++ 46 ∷ w))

value_of : (n : ℕ) → n < 256 → digits_value 10 (decimal n) ≡ n
value_of n small = digits_value-decimal own n (omega arith)

four_parts : (a b c d : ℕ) → a < 256 → b < 256 → c < 256 → d < 256 → slice_split is_point (dotted_text a b c d) ≡ decimal a ∷ decimal b ∷ decimal c ∷ decimal d ∷ []
four_parts a b c d la lb lc ld =
    let A = decimal a in
    let B = decimal b in
    let C = decimal c in
    let D = decimal d in
    ap (slice_split is_point) (points A B C D)
    ∙ split_clear 46 A (B ++ 46 ∷ (C ++ 46 ∷ D)) (no_point a la)
    ∙ ap (λ l. A ∷ l) (split_clear 46 B (C ++ 46 ∷ D) (no_point b lb))
    ∙ ap (λ l. A ∷ B ∷ l) (split_clear 46 C D (no_point c lc))
    ∙ ap (λ l. A ∷ B ∷ C ∷ l) (last_clear 46 D (no_point d ld))

four_numbers : (a b c d : ℕ) → a < 256 → b < 256 → c < 256 → d < 256 → numbers_of (dotted_text a b c d) ≡ a ∷ b ∷ c ∷ d ∷ []
four_numbers a b c d la lb lc ld =
    ap (map (digits_value 10)) (four_parts a b c d la lb lc ld)
    ∙ ap (λ x. x ∷ digits_value 10 (decimal b) ∷ digits_value 10 (decimal c) ∷ digits_value 10 (decimal d) ∷ []) (value_of a la)
    ∙ ap (λ x. a ∷ x ∷ digits_value 10 (decimal c) ∷ digits_value 10 (decimal d) ∷ []) (value_of b lb)
    ∙ ap (λ x. a ∷ b ∷ x ∷ digits_value 10 (decimal d) ∷ []) (value_of c lc)
    ∙ ap (λ x. a ∷ b ∷ c ∷ x ∷ []) (value_of d ld)

numbers_are : (ip : List ℕ) → IsOctets ip → numbers_of (ipv4_text ip) ≡ ip
numbers_are ip o =
    four_numbers _ _ _ _ (o.bytes 0 0 (omega (arith, o.four))) (o.bytes 1 0 (omega (arith, o.four))) (o.bytes 2 0 (omega (arith, o.four))) (o.bytes 3 0 (omega (arith, o.four)))
    ∙ sym (four_of ip o.four)

-- ---- the guess for an address that is written

-- no `l` stands in numbers and points
not_localhost : (ip : List ℕ) → IsOctets ip → bytes_eq (ipv4_text ip) (codes "localhost") ≡ false
not_localhost ip o =
    false_from_ne_true (bytes_eq (ipv4_text ip) (codes "localhost"))
    (λ e. (let same : ipv4_text ip ≡ codes "localhost" = (bytes_eq-Decides (ipv4_text ip) (codes "localhost")).0 e in
    let P : List ℕ → Type 0 = λ l. All (λ b. b ≢ 108) l in
    let clear = four_clear 108 _ _ _ _ (o.bytes 0 0 (omega (arith, o.four))) (o.bytes 1 0 (omega (arith, o.four))) (o.bytes 2 0 (omega (arith, o.four))) (o.bytes 3 0 (omega (arith, o.four))) (λ r. (let x = r in omega arith)) (λ f. omega arith) in
    All-head (λ b. b ≢ 108) 108 (codes "ocalhost") (subst P same clear) refl))

guess_with : (local : Bool) (ip : List ℕ) (port : ℕ) → IsOctets ip → (local ≡ true → ip ≡ 127 ∷ 0 ∷ 0 ∷ 1 ∷ []) → port < 65536
    → guess ((if local then codes "localhost" else ipv4_text ip) ∷ decimal port ∷ []) ≡ record { local = local; ip = ip; port = port }
guess_with true ip port o l p =
    let value = digits_value-decimal own port (omega arith) in
    ap (λ n. record { local = true; ip = 127 ∷ 0 ∷ 0 ∷ 1 ∷ []; port = n }) value ∙ ap (λ i. record { local = true; ip = i; port = port }) (sym (l refl))
guess_with false ip port o l p =
    let value = digits_value-decimal own port (omega arith) in
    ap (λ b. address_with b (ipv4_text ip) (decimal port)) (not_localhost ip o)
    ∙ ap (λ n. record { local = false; ip = numbers_of (ipv4_text ip); port = n }) value
    ∙ ap (λ i. record { local = false; ip = i; port = port }) (numbers_are ip o)

colon_parts : (a : Addr) → IsAddress a → slice_split is_colon (address_text a) ≡ (if a.local then codes "localhost" else ipv4_text a.ip) ∷ decimal a.port ∷ []
colon_parts a i =
    let out : IsInRange 48 57 58 → ⊥ = λ r. (let x = r in omega arith) in
    let most = i.most in
    ap (slice_split is_colon) (parts_of a)
    ∙ split_clear 58 (if a.local then codes "localhost" else ipv4_text a.ip) (decimal a.port) (host_clear 58 a.local a.ip i.octets (omega arith) out (λ e. omega arith))
    ∙ ap (λ l. (if a.local then codes "localhost" else ipv4_text a.ip) ∷ l) (last_clear 58 (decimal a.port) (digits_clear 58 a.port (omega arith) out))

guess_is : (a : Addr) → IsAddress a → guess (slice_split is_colon (address_text a)) ≡ a
guess_is a i = ap guess (colon_parts a i) ∙ guess_with a.local a.ip a.port i.octets i.localhost i.most

-- ---- ranges

all_small : (xs : List ℕ) → All (λ b. b < 256) xs → list_all (λ b. nat_lt b 256) xs ≡ true
all_small [] h = refl
all_small (x ∷ xs) h = and_from _ _ (lt-ltb x 256 (All-head (λ b. b < 256) x xs h)) (all_small xs (All-tail (λ b. b < 256) x xs h))

small_all : (xs : List ℕ) → list_all (λ b. nat_lt b 256) xs ≡ true → All (λ b. b < 256) xs
small_all [] h = All-nil (λ b. b < 256)
small_all (x ∷ xs) h = let p = and_parts _ _ h in All-cons (λ b. b < 256) x xs (ltb-true x 256 p.0) (small_all xs p.1)

in_range_from : (a : Addr) → IsAddress a → is_in_range a ≡ true
in_range_from a i =
    and_from _ _ (eq-eqb (length a.ip) 4 i.octets.four)
    (and_from _ _ (all_small a.ip i.octets.bytes) (and_from _ _ (lt-ltb 0 a.port i.least) (lt-ltb a.port 65536 i.most)))

-- `localhost` is 127.0.0.1 in each guess
with_local : (b : Bool) (host port : List ℕ) → (address_with b host port).local ≡ true → (address_with b host port).ip ≡ 127 ∷ 0 ∷ 0 ∷ 1 ∷ []
with_local true host port e = refl
with_local false host port e = cc

guess_local : (parts : List (List ℕ)) → (guess parts).local ≡ true → (guess parts).ip ≡ 127 ∷ 0 ∷ 0 ∷ 1 ∷ []
guess_local [] e = refl
guess_local (host ∷ []) e = refl
guess_local (host ∷ port ∷ parts) e = with_local (bytes_eq host (codes "localhost")) host port e

from_range : (a : Addr) → (a.local ≡ true → a.ip ≡ 127 ∷ 0 ∷ 0 ∷ 1 ∷ []) → is_in_range a ≡ true → IsAddress a
from_range a l e =
    let p = and_parts _ _ e in
    let q = and_parts _ _ p.1 in
    let r = and_parts _ _ q.1 in
    record {
      octets = record { four = eqb-true (length a.ip) 4 p.0; bytes = small_all a.ip q.0 };
      least = ltb-true 0 a.port r.0;
      most = ltb-true a.port 65536 r.1;
      localhost = l;
    }

-- ---- the address of a text

some_same : (a b : Addr) → Some a ≡ Some b → a ≡ b
some_same a b e = cc

none_some : (b : Addr) → None ≡ Some b → ⊥
none_some b e = cc

pub address_is : (text : List ℕ) (a : Addr) → IsAddress a → text ≡ address_text a → address_of text ≡ Some a
unfolding address_of
address_is text a i e =
    let same : guess (slice_split is_colon text) ≡ a = ap (λ t. guess (slice_split is_colon t)) e ∙ guess_is a i in
    ap (spelled_so text) same
    ∙ ap (λ b. if b then Some a else None) (and_from _ _ (in_range_from a i) ((bytes_eq-Decides text (address_text a)).1 e))

no_spelling : (text : List ℕ) (a : Addr) (b : Bool) → (is_in_range a && bytes_eq text (address_text a)) ≡ b → (a.local ≡ true → a.ip ≡ 127 ∷ 0 ∷ 0 ∷ 1 ∷ [])
    → (IsAddress a → text ≡ address_text a → ⊥) → spelled_so text a ≡ None
no_spelling text a true e l none =
    let p = and_parts _ _ e in absurd (none (from_range a l p.0) ((bytes_eq-Decides text (address_text a)).0 p.1))
no_spelling text a false e l none = ap (λ b. if b then Some a else None) e

pub address_none : (text : List ℕ) → ((a : Addr) → IsAddress a → text ≡ address_text a → ⊥) → address_of text ≡ None
unfolding address_of
address_none text none =
    let a = guess (slice_split is_colon text) in
    no_spelling text a (is_in_range a && bytes_eq text (address_text a)) refl (guess_local (slice_split is_colon text)) (none a)

spelling : (text : List ℕ) (a b : Addr) (t : Bool) → (is_in_range a && bytes_eq text (address_text a)) ≡ t → (a.local ≡ true → a.ip ≡ 127 ∷ 0 ∷ 0 ∷ 1 ∷ [])
    → spelled_so text a ≡ Some b → IsAddress b × (text ≡ address_text b)
spelling text a b true e l is =
    let p = and_parts _ _ e in
    let same : a ≡ b = some_same a b (sym (ap (λ t. if t then Some a else None) e) ∙ is) in
    let P : Addr → Type 0 = λ x. IsAddress x × (text ≡ address_text x) in
    subst P same (from_range a l p.0, (bytes_eq-Decides text (address_text a)).0 p.1)
spelling text a b false e l is = absurd (none_some b (sym (ap (λ t. if t then Some a else None) e) ∙ is))

pub address_given : (text : List ℕ) (a : Addr) → address_of text ≡ Some a → IsAddress a × (text ≡ address_text a)
unfolding address_of
address_given text a e =
    let g = guess (slice_split is_colon text) in
    spelling text g a (is_in_range g && bytes_eq text (address_text g)) refl (guess_local (slice_split is_colon text)) e

pub address_read : (text : List ℕ) (result : Option Addr) → MatchOption result ((a : Addr) → IsAddress a → text ≡ address_text a → ⊥) (λ a. IsAddress a × (text ≡ address_text a)) → result ≡ address_of text
address_read text (Some a) h = sym (address_is text a h.0 h.1)
address_read text None h = sym (address_none text h)
