-- Bytes without an LF, and texts cut behind their first LF.
use Rattle.std.proofs.Common.{◌≡◌, ℕ, zero, suc, ◌<◌, List, [], ◌∷◌, ◌++◌, length, refl, ap, arith, Bool, true, false, ⊎_elim}
use Rattle.std.proofs.lemmas.Bool.{and_parts, cases_eq}
use Rattle.std.specs.Char.{digit_value}
use Rattle.std.specs.List.{list_all}
use Rattle.std.specs.Str.Parse.{AllDigits}
use Rattle.gw_chunk.specs.Bytes.{is_extension_byte, is_token_byte}
use Rattle.gw_chunk.specs.Chunked.{NoFeed, IsExtension}

pub no_feed-append : (a b : List ℕ) → NoFeed a → NoFeed b → NoFeed (a ++ b)
no_feed-append [] b h k = k
no_feed-append (x ∷ a) b h k = (h.0, no_feed-append a b h.1 k)

pub no_feed_front : (a b : List ℕ) → NoFeed (a ++ b) → NoFeed a
no_feed_front [] b h = tt
no_feed_front (x ∷ a) b h = (h.0, no_feed_front a b h.1)

pub no_feed_back : (a b : List ℕ) → NoFeed (a ++ b) → NoFeed b
no_feed_back [] b h = h
no_feed_back (x ∷ a) b h = no_feed_back a b h.1

-- bytes of a kind that LF isn't of
pub no_feed_from : (test : ℕ → Bool) (l : List ℕ) → test 10 ≡ false → list_all test l ≡ true → NoFeed l
no_feed_from test [] other h = tt
no_feed_from test (b ∷ l) other h =
    let parts = and_parts (test b) (list_all test l) h in
    let here : test b ≡ true = parts.0 in
    (λ e. (let same : test b ≡ test 10 = ap test e in cc), no_feed_from test l other parts.1)

pub no_feed_digits : (l : List ℕ) → AllDigits 16 l → NoFeed l
no_feed_digits [] h = tt
no_feed_digits (b ∷ l) h = (λ e. (let same : digit_value b ≡ 36 = ap digit_value e in omega (arith, h.0)), no_feed_digits l h.1)

pub no_feed_extension : (l : List ℕ) → IsExtension l → NoFeed l
no_feed_extension [] h = tt
no_feed_extension (b ∷ l) h = (λ e. omega (arith, h.0), no_feed_from is_extension_byte l refl h.1)

pub token_feed : is_token_byte 10 ≡ false
unfolding is_token_byte
token_feed = refl

-- ---- the first LF

-- within so many bytes: none and fewer bytes, none and as many, or a line
pub data Cut (limit : ℕ) (bytes : List ℕ) : Type 0 where
  short : NoFeed bytes → length bytes < limit → Cut limit bytes
  long : (front rest : List ℕ) → bytes ≡ front ++ rest → NoFeed front → length front ≡ limit → Cut limit bytes
  line : (inner rest : List ℕ) → bytes ≡ (inner ++ 10 ∷ []) ++ rest → NoFeed inner → length inner < limit → Cut limit bytes

one_more : (limit b : ℕ) (bytes : List ℕ) → (b ≡ 10 → ⊥) → Cut limit bytes → Cut (suc limit) (b ∷ bytes)
one_more limit b bytes other (short none less) = short (other, none) (omega arith)
one_more limit b bytes other (long front rest text none many) = long (b ∷ front) rest (ap (λ r. b ∷ r) text) (other, none) (omega arith)
one_more limit b bytes other (line inner rest text none less) = line (b ∷ inner) rest (ap (λ r. b ∷ r) text) (other, none) (omega arith)

pub cut : (limit : ℕ) (bytes : List ℕ) → Cut limit bytes
cut zero bytes = long [] bytes refl tt refl
cut (suc limit) [] = short tt (omega arith)
cut (suc limit) (b ∷ bytes) =
    ⊎_elim
    (λ e. line [] bytes (ap (λ x. x ∷ bytes) e) tt (omega arith))
    (λ other. one_more limit b bytes other (cut limit bytes))
    (cases_eq b 10)
