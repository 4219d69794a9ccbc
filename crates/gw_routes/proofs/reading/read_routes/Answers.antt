use Rattle.gw_routes.specs.Files.{RefusesTop, top_text}
use Rattle.gw_routes.proofs.Numbering.{numbers_of, workers_of}
use Rattle.gw_routes.proofs.reading.read_routes.Goals as goal

pub returns-in-Ok-clause-numbers : goal.returns-in-Ok-clause-numbers
returns-in-Ok-clause-numbers c =
    numbers_of c.args.bytes.now (top_text c.in-Ok.top) (RefusesTop c.in-Ok.top) c.table_of.result c.in-Ok.ensures.top c.table_of.ensures

pub returns-in-Ok-clause-workers : goal.returns-in-Ok-clause-workers
returns-in-Ok-clause-workers c =
    workers_of c.args.bytes.now (top_text c.in-Ok.top) (RefusesTop c.in-Ok.top) c.table_of.result c.in-Ok.ensures.top c.table_of.ensures
