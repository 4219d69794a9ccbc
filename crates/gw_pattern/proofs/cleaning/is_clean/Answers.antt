use Rattle.std.proofs.Common.{arith}
use Rattle.std.proofs.lemmas.Bool.{false≢true}
use Rattle.gw_pattern.proofs.Parts.{take_rest}
use Rattle.gw_pattern.proofs.Tidy.{clean_at_slash, unclean}
use Rattle.gw_pattern.proofs.cleaning.is_clean.Goals as goal

pub returns-in-47 : goal.returns-in-47
returns-in-47 c =
    clean_at_slash c.args.path.now _ (omega arith) (omega arith) (rw take_rest at c.has_tidy_parts.ensures)

pub returns-in_default : goal.returns-in_default
returns-in_default c =
    (λ e. absurd (false≢true e), λ e. absurd (unclean c.args.path.now (λ some at. omega arith) e))

pub returns-in_default-2 : goal.returns-in_default-2
returns-in_default-2 c =
    (λ e. absurd (false≢true e), λ e. absurd (unclean c.args.path.now (λ some at. omega arith) e))
