-- Bit 63 of a word, set.
use Rattle.std.proofs.Common.{◌≡◌, ℕ, ◌+◌, ◌-◌, ◌*◌, ◌^◌, ◌<◌, ◌≤◌, bit_or, sym, ap, ◌∙◌, arith}
use Rattle.std.proofs.lemmas.Nat.{or_block}
use Rattle.std.specs.Int.Bits.{or_zero_r}

top_bit : (a r : ℕ) → r < 2 ^ 63 → bit_or (a * 2 ^ 63 + r) (2 ^ 63) ≡ bit_or a 1 * 2 ^ 63 + r
top_bit a r below = or_block 63 a 1 r 0 below (omega arith) ∙ ap (λ k. bit_or a 1 * 2 ^ 63 + k) (or_zero_r r)

pub or_open : (n : ℕ) → n < 2 ^ 63 → bit_or n (2 ^ 63) ≡ n + 2 ^ 63
or_open n below =
    let whole = top_bit 0 n below in
    let is : 0 * 2 ^ 63 + n ≡ n = omega arith in
    let same : bit_or (0 * 2 ^ 63 + n) (2 ^ 63) ≡ bit_or n (2 ^ 63) = ap (λ k. bit_or k (2 ^ 63)) is in
    omega (arith, whole, same)

pub or_shut : (n : ℕ) → 2 ^ 63 ≤ n → n < 2 ^ 64 → bit_or n (2 ^ 63) ≡ n
or_shut n above below =
    let r : ℕ = n - 2 ^ 63 in
    let is : 2 ^ 63 + r ≡ n = omega arith in
    let whole : bit_or (2 ^ 63 + r) (2 ^ 63) ≡ 2 ^ 63 + r = top_bit 1 r (omega arith) in
    ap (λ k. bit_or k (2 ^ 63)) (sym is) ∙ whole ∙ is
