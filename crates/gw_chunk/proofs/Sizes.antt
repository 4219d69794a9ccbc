-- The digits of a written size.
use Rattle.std.proofs.Common.{◌≡◌, ℕ, ◌+◌, ◌/◌, ◌%◌, ◌<◌, ◌≤◌, List, [], ◌∷◌, ◌++◌, length, map, sym, ap, ◌∙◌, arith, lit≤}
use Rattle.std.proofs.lemmas.List.{append_assoc, map_push}
use Rattle.std.proofs.lemmas.Int.Digits.{digits_of_step, length-digits_of_step, length-digits_of-le}
use Rattle.std.specs.Char.{digit_char}
use Rattle.std.specs.Int.Digits.{digits_of}
use Rattle.gw_chunk.specs.Chunked.{size_text}

pub size_text_step : (n : ℕ) → 0 < n → size_text n ≡ size_text (n / 16) ++ digit_char (n % 16) ∷ []
size_text_step n some = ap (map digit_char) (digits_of_step 16 n (lit≤ tt) some) ∙ map_push digit_char (digits_of 16 (n / 16)) (n % 16)

pub digits_step : (n : ℕ) → 0 < n → length (digits_of 16 n) ≡ length (digits_of 16 (n / 16)) + 1
digits_step n some = length-digits_of_step 16 n (lit≤ tt) some

pub four_digits : (n : ℕ) → n ≤ 8192 → length (digits_of 16 n) ≤ 4
four_digits n small = length-digits_of-le 16 4 n (lit≤ tt) (omega arith)

pub one_more : (n : ℕ) (d : ℕ) (before between after : List ℕ) → 0 < n → between ≡ before ++ size_text (n / 16)
    → d ≡ digit_char (n % 16) → after ≡ between ++ d ∷ [] → after ≡ before ++ size_text n
one_more n d before between after some first digit last =
    last ∙ ap (λ xs. xs ++ d ∷ []) first ∙ append_assoc before (size_text (n / 16)) (d ∷ [])
    ∙ ap (λ x. before ++ (size_text (n / 16) ++ x ∷ [])) digit ∙ ap (λ xs. before ++ xs) (sym (size_text_step n some))
