use Rattle.std.proofs.Common.{ℕ, List, Bor, [], sym, ◌∙◌, arith}
use Rattle.std.proofs.lemmas.Bool.{false≢true}
use Rattle.gw_fields.proofs.Tables.{is_first, no_first}
use Rattle.gw_fields.proofs.hops.find_name.Goals.{else-at-names-via-then-at-names+else-eq_ignore_ascii_case, else-at-names-via-else-at-names}
use Rattle.gw_fields.proofs.hops.find_name.Goals as goal

abbrev none : Bor (List ℕ)
none = record { ref_ptr = (0, 0); now = [] }

pub returns-then-eq_ignore_ascii_case : goal.returns-then-eq_ignore_ascii_case
returns-then-eq_ignore_ascii_case c =
    is_first c.args.names.now c.args.name.now c.place_of-at.result none c.place_of-at.ensures c.if-at-names.true
    (c.eq_ignore_ascii_case.ensures.test.0 c.if-eq_ignore_ascii_case.true)

pub returns-else-at-names : goal.returns-else-at-names
returns-else-at-names c =
    elim c.else-at-names.branch [
      | else-at-names-via-then-at-names+else-eq_ignore_ascii_case w ↦
          no_first c.args.names.now c.args.name.now c.place_of-at.result none c.place_of-at.ensures
          (λ within same. false≢true (sym w.if-eq_ignore_ascii_case.false ∙ w.eq_ignore_ascii_case.ensures.test.1 same))
      | else-at-names-via-else-at-names w ↦
          no_first c.args.names.now c.args.name.now c.place_of-at.result none c.place_of-at.ensures
          (λ within same. (let past = w.if-at-names.false in omega arith))
    ]
