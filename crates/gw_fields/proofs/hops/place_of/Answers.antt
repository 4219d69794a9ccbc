use Rattle.std.proofs.Common.{rules}
use Rattle.std.proofs.lemmas.List.Sorted.{IsPartitionPoint-from_clause}
use Rattle.gw_fields.specs.Names.{comes_before}
use Rattle.gw_fields.proofs.Tables.{partitioned}
use Rattle.gw_fields.proofs.hops.place_of.Goals as goal

pub returns : goal.returns
returns c =
    IsPartitionPoint-from_clause (λ own. comes_before own.now c.args.name.now) c.args.names.now c.partition_point.result
    c.partition_point.ensures.partitioned (partitioned c.args.names.now c.args.name.now c.requires) (λ a r f' k. search rules)
