use Rattle.quaject_core.proofs.Common.{rules, sym, subst, leb, List, IsPartitionedBy, IsPartitionPoint-from_clause, AreBegun, Span}
use Rattle.quaject_core.proofs.Stored.Owners.{starts_parted, parted_by}
use Rattle.quaject_core.proofs.queueing.StoredQueue.begun.Goals as goal

pub returns-clause-parted : goal.returns-clause-parted
returns-clause-parted c =
    let ready : IsPartitionedBy (λ s. leb s.start c.args.self.now.taken) c.deref.result.now =
    subst (λ (xs : List Span). IsPartitionedBy (λ s. leb s.start c.args.self.now.taken) xs) (sym c.deref.ensures.value) (starts_parted c.args.self.now) in
    subst (λ (xs : List Span). AreBegun c.args.self.now.taken xs c.partition_point.result) c.deref.ensures.value
    (parted_by c.deref.result.now c.args.self.now.taken c.partition_point.result
    (IsPartitionPoint-from_clause (λ s. leb s.start c.args.self.now.taken) c.deref.result.now c.partition_point.result
    c.partition_point.ensures.partitioned ready (λ x r f' k. search rules)))
