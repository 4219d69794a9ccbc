use Rattle.std.proofs.Common.{◌<◌, position, arith}
use Rattle.std.proofs.lemmas.List.Elements.{All-from_get_or}
use Rattle.gw_pattern.specs.Text.{is_space}
use Rattle.gw_pattern.proofs.Formed.{given_formed, given_few, given_named}
use Rattle.gw_pattern.proofs.reading.parse.Goals as goal

pub returns-clause-well_formed : goal.returns-clause-well_formed
returns-clause-well_formed c =
    let text = c.args.text.now in
    let bytes = All-from_get_or (λ b. b < 256) text 0 (λ i within. omega (arith, c.type_inv.text i)) in
    given_formed text (position is_space text) c.read_cut.result bytes (rw c.as_bytes-bytes.ensures.value at c.read_cut.ensures)

pub returns-clause-segments : goal.returns-clause-segments
returns-clause-segments c =
    let text = c.args.text.now in
    let bytes = All-from_get_or (λ b. b < 256) text 0 (λ i within. omega (arith, c.type_inv.text i)) in
    given_few text (position is_space text) c.read_cut.result bytes (rw c.as_bytes-bytes.ensures.value at c.read_cut.ensures)

pub returns-clause-wildcards : goal.returns-clause-wildcards
returns-clause-wildcards c =
    let text = c.args.text.now in
    let bytes = All-from_get_or (λ b. b < 256) text 0 (λ i within. omega (arith, c.type_inv.text i)) in
    given_named text (position is_space text) c.read_cut.result bytes (rw c.as_bytes-bytes.ensures.value at c.read_cut.ensures)
