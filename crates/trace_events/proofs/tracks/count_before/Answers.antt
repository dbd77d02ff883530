use Rattle.trace_events.proofs.Common.{rules, IsPartitionPoint-from_clause, sorts_before}
use Rattle.trace_events.proofs.Starts.{parted_before}
use Rattle.trace_events.proofs.tracks.count_before.Goals as goal

pub returns-clause-parted : goal.returns-clause-parted
returns-clause-parted c =
    IsPartitionPoint-from_clause (λ other. sorts_before other c.args.turn.now) c.args.sorted.now c.partition_point.result c.partition_point.ensures.partitioned
    (parted_before c.args.sorted.now c.args.turn.now c.requires) (λ x r f' k. search rules)
