-- Causes and their words.
use Rattle.std.proofs.Common.{◌≡◌, ◌≢◌, ℕ, refl, sym, ap, ◌∙◌, arith}
use Rattle.gw_context.specs.declared.parts.Cause.{Cause}
use Rattle.gw_context.specs.declared.parts.Cause.TheVariants.{Canceled, DeadlineExceeded}
use Rattle.gw_ctxwords.specs.Words.{live_word, word_of, cause_of}

pub word_of-ne : (c : Cause) → word_of c ≢ live_word
word_of-ne Canceled = λ e. omega arith
word_of-ne DeadlineExceeded = λ e. omega arith

pub cause_of-word : (c : Cause) → cause_of (word_of c) ≡ c
cause_of-word Canceled = refl
cause_of-word DeadlineExceeded = refl

-- a word of a cause is that of no other
pub same_cause : (n : ℕ) (c d : Cause) → n ≡ word_of c → n ≡ word_of d → c ≡ d
same_cause n c d is also = sym (cause_of-word c) ∙ ap cause_of (sym is ∙ also) ∙ cause_of-word d

pub cause_in : (n : ℕ) (c : Cause) → n ≡ word_of c → cause_of n ≡ c
cause_in n c is = ap cause_of is ∙ cause_of-word c

pub word_in : (n : ℕ) (c : Cause) → n ≡ word_of c → n ≡ word_of (cause_of n)
word_in n c is = is ∙ ap word_of (sym (cause_in n c is))

pub not_live : (n : ℕ) (c : Cause) → n ≡ word_of c → n ≢ live_word
not_live n c is zero = word_of-ne c (sym is ∙ zero)
