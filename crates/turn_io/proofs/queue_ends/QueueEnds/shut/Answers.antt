use Rattle.turn_io.proofs.Common.{rules, ◌≡◌, refl, set, sym, subst, arith, with_items, with_items_is, QueueIndex, IsThere, ShutAt, HasShut}
use Rattle.turn_io.proofs.Using.{vec_end, vec_same, vec_used}
use Rattle.turn_io.proofs.queue_ends.QueueEnds.shut.Goals as goal

pub shut-requires : goal.shut-requires
shut-requires c = (omega arith, (omega arith, vec_end c.args.queues.now.small.items c.args.self.now.small c.as_mut_slice.result.now c.in-Small.at c.item_at.result.now c.as_mut_slice.ensures.value c.requires.ends.small c.item_at.ensures.value c.index.result.now (subst (IsThere c.args.queues.now) c.in-Small.is c.requires.there) c.index.ensures))

pub returns-in-Small-clause-handle : goal.returns-in-Small-clause-handle
returns-in-Small-clause-handle c = record {
  small = vec_same c.args.queues.now.small.items c.args.self.now.small c.as_mut_slice.result.now c.in-Small.at c.item_at.result.now c.as_mut_slice.ensures.value c.requires.ends.small c.item_at.ensures.value c.shut.new.end (with_items_is c.args.self.now.small (set c.as_mut_slice.result.now c.in-Small.at c.shut.new.end) (search rules)) c.shut.ensures.handle;
  large = record { tables = refl; calls = refl };
}

pub returns-in-Small-clause-shut : goal.returns-in-Small-clause-shut
returns-in-Small-clause-shut c = subst (λ (z : QueueIndex). ShutAt z c.shut.result c.args.self.now (record c.args.self.now { small = with_items c.args.self.now.small (set c.as_mut_slice.result.now c.in-Small.at c.shut.new.end) })) (sym c.in-Small.is)
    (vec_used c.args.queues.now.small.items c.args.self.now.small c.as_mut_slice.result.now c.in-Small.at c.item_at.result.now c.as_mut_slice.ensures.value c.requires.ends.small c.item_at.ensures.value c.shut.new.end (with_items_is c.args.self.now.small (set c.as_mut_slice.result.now c.in-Small.at c.shut.new.end) (search rules)) (HasShut c.shut.result) (subst (IsThere c.args.queues.now) c.in-Small.is c.requires.there) c.shut.ensures.trace, refl)

pub shut-requires-in-Large : goal.shut-requires-in-Large
shut-requires-in-Large c = (omega arith, (omega arith, vec_end c.args.queues.now.large.items c.args.self.now.large c.as_mut_slice-in-Large.result.now c.in-Large.at c.item_at-in-Large.result.now c.as_mut_slice-in-Large.ensures.value c.requires.ends.large c.item_at-in-Large.ensures.value c.index-in-Large.result.now (subst (IsThere c.args.queues.now) c.in-Large.is c.requires.there) c.index-in-Large.ensures))

pub returns-in-Large-clause-handle : goal.returns-in-Large-clause-handle
returns-in-Large-clause-handle c = record {
  large = vec_same c.args.queues.now.large.items c.args.self.now.large c.as_mut_slice-in-Large.result.now c.in-Large.at c.item_at-in-Large.result.now c.as_mut_slice-in-Large.ensures.value c.requires.ends.large c.item_at-in-Large.ensures.value c.shut-in-Large.new.end (with_items_is c.args.self.now.large (set c.as_mut_slice-in-Large.result.now c.in-Large.at c.shut-in-Large.new.end) (search rules)) c.shut-in-Large.ensures.handle;
  small = record { tables = refl; calls = refl };
}

pub returns-in-Large-clause-shut : goal.returns-in-Large-clause-shut
returns-in-Large-clause-shut c = subst (λ (z : QueueIndex). ShutAt z c.shut-in-Large.result c.args.self.now (record c.args.self.now { large = with_items c.args.self.now.large (set c.as_mut_slice-in-Large.result.now c.in-Large.at c.shut-in-Large.new.end) })) (sym c.in-Large.is)
    (vec_used c.args.queues.now.large.items c.args.self.now.large c.as_mut_slice-in-Large.result.now c.in-Large.at c.item_at-in-Large.result.now c.as_mut_slice-in-Large.ensures.value c.requires.ends.large c.item_at-in-Large.ensures.value c.shut-in-Large.new.end (with_items_is c.args.self.now.large (set c.as_mut_slice-in-Large.result.now c.in-Large.at c.shut-in-Large.new.end) (search rules)) (HasShut c.shut-in-Large.result) (subst (IsThere c.args.queues.now) c.in-Large.is c.requires.there) c.shut-in-Large.ensures.trace, refl)
