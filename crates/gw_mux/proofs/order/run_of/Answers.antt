use Rattle.std.proofs.Common.{drop, refl, rules}
use Rattle.std.specs.Ordering.{is_lt, is_le}
use Rattle.std.proofs.lemmas.List.{take_rest}
use Rattle.std.proofs.lemmas.List.Sorted.{IsPartitionPoint-from_clause}
use Rattle.gw_mux.specs.Label.{asked_key}
use Rattle.gw_mux.proofs.Runs.{parted_lt, parted_le, place, searched_run, sorted_drop}
use Rattle.gw_mux.proofs.order.run_of.Goals as goal

pub returns : goal.returns
returns c =
    let ps = c.args.patterns.now in
    let depth = c.args.depth in
    let key = asked_key c.args.asked.now in
    let xs = c.args.numbers.now in
    let from = c.partition_point-from.result in
    let n = c.partition_point-length.result in
    let rest = take_rest xs from in
    rw rest (searched_run ps depth key xs (drop from xs) _ from n refl refl c.partition_point-from.ensures.bound (rw rest at c.partition_point-length.ensures.bound)
    (IsPartitionPoint-from_clause (λ i. is_lt (place ps depth key i)) xs from c.partition_point-from.ensures.partitioned (parted_lt ps depth key xs c.requires) (λ a r f' k. search rules))
    (IsPartitionPoint-from_clause (λ i. is_le (place ps depth key i)) (drop from xs) n (rw rest at c.partition_point-length.ensures.partitioned) (parted_le ps depth key (drop from xs) (sorted_drop ps depth xs from c.partition_point-from.ensures.bound c.requires)) (λ a r f' k. search rules))
    c.requires)
