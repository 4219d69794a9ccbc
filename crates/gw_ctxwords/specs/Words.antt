-- What a node's word says.
use Rattle.std.specs.Prelude.{ℕ, nat_eq, if◌then◌else◌}
use Rattle.gw_context.specs.declared.parts.Cause.{Cause}
use Rattle.gw_context.specs.declared.parts.Cause.TheVariants.{Canceled, DeadlineExceeded}

-- the word of a node that hasn't ended
abbrev pub live_word : ℕ
live_word = 0

abbrev pub word_of : Cause → ℕ
word_of Canceled = 1
word_of DeadlineExceeded = 2

-- the cause in a word that isn't 0
abbrev pub cause_of : ℕ → Cause
cause_of word = if nat_eq word 1 then Canceled else DeadlineExceeded
