-- Pieces that are framed in place: what stands in the buffer behind each write.
use Rattle.std.proofs.Common.{◌≡◌, ℕ, ◌+◌, ◌-◌, ◌/◌, ◌%◌, ◌<◌, ◌≤◌, List, [], ◌∷◌, ◌++◌, length, take, drop, slice_set, slice_range, sym, ap, ◌∙◌, arith}
use Rattle.std.proofs.lemmas.List.{append_assoc, length-append, length-drop, length-take, drop-set, nil_from_length, same_lists, places}
use Rattle.std.proofs.lemmas.Grind.{common_steps}
use Rattle.std.specs.Char.{digit_char}
use Rattle.gw_chunk.specs.Bytes.{crlf}
use Rattle.gw_chunk.specs.Chunked.{size_text, coded_piece}
use Rattle.gw_chunk.proofs.Sizes.{size_text_step}

-- ---- a digit at the end of a buffer

last_set : (buffer : List ℕ) (d : ℕ) → 0 < length buffer → drop (length buffer - 1) (slice_set buffer (length buffer - 1) d) ≡ d ∷ []
last_set buffer d some =
    drop-set buffer (length buffer - 1) d (omega arith)
    ∙ ap (λ l. d ∷ l) (nil_from_length (drop ((length buffer - 1) + 1) buffer) (omega (arith, length-drop ((length buffer - 1) + 1) buffer)))

front_stays : (buffer : List ℕ) (r m d : ℕ) → r ≤ m → m < length buffer → take r (take m (slice_set buffer m d)) ≡ take r buffer
front_stays buffer r m d low high =
    same_lists (take r (take m (slice_set buffer m d))) (take r buffer) (grind (arith, common_steps))
    (λ k e h. grind (arith, places))

pub one_digit : (n d r : ℕ) (buffer new : List ℕ) → 0 < n → 0 < length buffer → r ≤ length buffer - 1 → d ≡ digit_char (n % 16)
    → new ≡ take r (take (length buffer - 1) (slice_set buffer (length buffer - 1) d)) ++ size_text (n / 16)
    → new ++ drop (length buffer - 1) (slice_set buffer (length buffer - 1) d) ≡ take r buffer ++ size_text n
one_digit n d r buffer new some room low digit is =
    ap (λ l. l ++ drop (length buffer - 1) (slice_set buffer (length buffer - 1) d))
    (is ∙ ap (λ l. l ++ size_text (n / 16)) (front_stays buffer r (length buffer - 1) d low (omega arith)))
    ∙ ap (λ l. (take r buffer ++ size_text (n / 16)) ++ l) (last_set buffer d room ∙ ap (λ e. e ∷ []) digit)
    ∙ append_assoc (take r buffer) (size_text (n / 16)) (digit_char (n % 16) ∷ [])
    ∙ ap (λ l. take r buffer ++ l) (sym (size_text_step n some))

pub length-written : (buffer : List ℕ) (d : ℕ) → length (take (length buffer - 1) (slice_set buffer (length buffer - 1) d)) ≡ length buffer - 1
length-written buffer d = grind (arith, common_steps)

-- ---- a whole piece

-- what stands from the place of a write on, and behind another place before it
from_write : (old new w : List ℕ) (n e : ℕ) → n ≤ length old → new ≡ (take n old ++ w) ++ drop e old → drop n new ≡ w ++ drop e old
from_write old new w n e room is =
    same_lists (drop n new) (w ++ drop e old) (rw is (grind (arith, common_steps))) (λ k d h. rw is (grind (arith, places)))

before_write : (old new w : List ℕ) (m n e : ℕ) → m ≤ n → n ≤ length old → new ≡ (take n old ++ w) ++ drop e old → take m new ≡ take m old
before_write old new w m n e low room is =
    same_lists (take m new) (take m old) (rw is (grind (arith, common_steps))) (λ k d h. rw is (grind (arith, places)))

between_write : (old new w : List ℕ) (m n e : ℕ) → m ≤ n → n ≤ length old → new ≡ (take n old ++ w) ++ drop e old
    → drop m new ≡ slice_range old m n ++ (w ++ drop e old)
between_write old new w m n e low room is =
    same_lists (drop m new) (slice_range old m n ++ (w ++ drop e old)) (rw is (grind (arith, common_steps)))
    (λ k d h. rw is (grind (arith, places)))

mid_is : (a t r : List ℕ) (s e : ℕ) → length a ≡ s → e ≡ s + length t → slice_range (a ++ (t ++ r)) s e ≡ t
mid_is a t r s e before long =
    same_lists (slice_range (a ++ (t ++ r)) s e) t (grind (arith, common_steps)) (λ k d h. grind (arith, places))

regrouped : (a b c d e f : List ℕ) → (a ++ b) ++ (c ++ (d ++ (e ++ f))) ≡ a ++ ((((b ++ c) ++ d) ++ e) ++ f)
regrouped a b c d e f = simp append_assoc

front_of : (a b : List ℕ) (n : ℕ) → length a ≡ n → take n (a ++ b) ≡ a
front_of a b n long = same_lists (take n (a ++ b)) a (grind (arith, common_steps)) (λ k d h. grind (arith, places))

back_of : (a b : List ℕ) (n : ℕ) → length a ≡ n → drop n (a ++ b) ≡ b
back_of a b n long = same_lists (drop n (a ++ b)) b (grind (arith, common_steps)) (λ k d h. grind (arith, places))

-- both line ends are written: the first behind the data and the second before it; then the size
pub record Puts (old one two put digits : List ℕ) (s len p q : ℕ) : Type 0 where
  pub room : q + len + 2 ≤ length old
  pub line : p + 2 ≡ q
  pub first : one ≡ (take (q + len) old ++ crlf) ++ drop (q + len + 2) old
  pub second : two ≡ (take p one ++ crlf) ++ drop (p + 2) one
  pub third : put ≡ take s (take p two) ++ digits
  pub start : s + length digits ≡ p

length-first : (old one w : List ℕ) (n e : ℕ) → n ≤ length old → e ≡ n + length w → e ≤ length old → one ≡ (take n old ++ w) ++ drop e old
    → length one ≡ length old
length-first old one w n e low is high same = rw same (grind (arith, common_steps))

pub all_behind : (old one two put digits : List ℕ) (s len p q : ℕ) → Puts old one two put digits s len p q
    → drop p two ≡ crlf ++ (slice_range old q (q + len) ++ (crlf ++ drop (q + len + 2) old))
all_behind old one two put digits s len p q h =
    let long = length-first old one crlf (q + len) (q + len + 2) (omega (arith, h.room)) (omega arith) h.room h.first in
    from_write one two crlf p (p + 2) (omega (arith, h.room, h.line)) h.second
    ∙ ap (λ n. crlf ++ drop n one) h.line
    ∙ ap (λ l. crlf ++ l) (between_write old one crlf q (q + len) (q + len + 2) (omega arith) (omega (arith, h.room)) h.first)

pub all_before : (old one two put digits : List ℕ) (s len p q : ℕ) → Puts old one two put digits s len p q
    → take s (take p two) ≡ take s old
all_before old one two put digits s len p q h =
    let long = length-first old one crlf (q + len) (q + len + 2) (omega (arith, h.room)) (omega arith) h.room h.first in
    let low : s ≤ p = omega (arith, h.start) in
    same_lists (take s (take p two)) (take s two) (grind (arith, common_steps)) (λ k d g. grind (arith, places))
    ∙ before_write one two crlf s p (p + 2) low (omega (arith, h.room, h.line)) h.second
    ∙ before_write old one crlf s (q + len) (q + len + 2) (omega (arith, h.line)) (omega (arith, h.room)) h.first

-- the whole buffer then
pub all_put : (old one two put digits : List ℕ) (s len p q : ℕ) → Puts old one two put digits s len p q
    → put ++ drop p two ≡ take s old ++ ((((digits ++ crlf) ++ slice_range old q (q + len)) ++ crlf) ++ drop (q + len + 2) old)
all_put old one two put digits s len p q h =
    ap (λ l. l ++ drop p two) (h.third ∙ ap (λ l. l ++ digits) (all_before old one two put digits s len p q h))
    ∙ ap (λ l. (take s old ++ digits) ++ l) (all_behind old one two put digits s len p q h)
    ∙ regrouped (take s old) digits crlf (slice_range old q (q + len)) crlf (drop (q + len + 2) old)

long_text : (old digits : List ℕ) (len q : ℕ) → q + len + 2 ≤ length old
    → length (((digits ++ crlf) ++ slice_range old q (q + len)) ++ crlf) ≡ length digits + 2 + len + 2
long_text old digits len q room = grind (arith, common_steps, length-take (q + len - q) (drop q old), length-drop q old)

-- and its parts
pub piece_put : (old one two put digits : List ℕ) (s len p q : ℕ) → Puts old one two put digits s len p q
    → slice_range (put ++ drop p two) s (q + len + 2) ≡ ((digits ++ crlf) ++ slice_range old q (q + len)) ++ crlf
piece_put old one two put digits s len p q h =
    let text : List ℕ = ((digits ++ crlf) ++ slice_range old q (q + len)) ++ crlf in
    let size : length text ≡ length digits + 2 + len + 2 = long_text old digits len q h.room in
    ap (λ l. slice_range l s (q + len + 2)) (all_put old one two put digits s len p q h)
    ∙ mid_is (take s old) text (drop (q + len + 2) old) s (q + len + 2)
    (omega (arith, length-take s old, h.room, h.line, h.start)) (omega (arith, h.line, h.start, size))

pub before_put : (old one two put digits : List ℕ) (s len p q : ℕ) → Puts old one two put digits s len p q
    → take s (put ++ drop p two) ≡ take s old
before_put old one two put digits s len p q h =
    ap (take s) (all_put old one two put digits s len p q h)
    ∙ front_of (take s old) ((((digits ++ crlf) ++ slice_range old q (q + len)) ++ crlf) ++ drop (q + len + 2) old) s
    (omega (arith, length-take s old, h.room, h.line, h.start))

pub behind_put : (old one two put digits : List ℕ) (s len p q : ℕ) → Puts old one two put digits s len p q
    → drop (q + len + 2) (put ++ drop p two) ≡ drop (q + len + 2) old
behind_put old one two put digits s len p q h =
    let text : List ℕ = ((digits ++ crlf) ++ slice_range old q (q + len)) ++ crlf in
    let size : length text ≡ length digits + 2 + len + 2 = long_text old digits len q h.room in
    ap (drop (q + len + 2)) (all_put old one two put digits s len p q h ∙ sym (append_assoc (take s old) text (drop (q + len + 2) old)))
    ∙ back_of (take s old ++ text) (drop (q + len + 2) old) (q + len + 2)
    (omega (arith, length-append (take s old) text, length-take s old, h.room, h.line, h.start, size))

pub length-writes : (old one two : List ℕ) (len p q : ℕ) → q + (len + 2) ≤ length old
    → one ≡ (take (q + len) old ++ crlf) ++ drop (q + len + 2) old → two ≡ (take p one ++ crlf) ++ drop (p + 2) one → p + 2 ≡ q
    → length two ≡ length old
length-writes old one two len p q room first second line =
    let long = length-first old one crlf (q + len) (q + len + 2) (omega arith) (omega arith) (omega arith) first in
    let again = length-first one two crlf p (p + 2) (omega arith) (omega arith) (omega arith) second in
    omega arith

pub puts : (old one two put digits : List ℕ) (s len p q : ℕ) → q + (len + 2) ≤ length old → p + 2 ≡ q
    → one ≡ (take (q + len) old ++ crlf) ++ drop (q + len + 2) old → two ≡ (take p one ++ crlf) ++ drop (p + 2) one
    → put ≡ take s (take p two) ++ digits → s + length digits ≡ length (take p two) → Puts old one two put digits s len p q
puts old one two put digits s len p q room line first second third start =
    let long = length-writes old one two len p q room first second line in
    record {
      room = omega arith;
      line = line;
      first = first;
      second = second;
      third = third;
      start = omega (arith, length-take p two);
    }

-- the size written is that of the data
pub sized : (old : List ℕ) (len : ℕ) → 6 + (len + 2) ≤ length old
    → ((size_text len ++ crlf) ++ slice_range old 6 (6 + len)) ++ crlf ≡ coded_piece (slice_range old 6 (6 + len))
sized old len room =
    let d_size : length (slice_range old 6 (6 + len)) ≡ len = omega (arith, length-take (6 + len - 6) (drop 6 old), length-drop 6 old) in
    ap (λ n. ((size_text n ++ crlf) ++ slice_range old 6 (6 + len)) ++ crlf) (sym d_size)
