use Rattle.turn_io.proofs.Common.{rules, ◌≡◌, refl, set, sym, subst, arith, with_items, with_items_is, QueueIndex, IsThere, SaidAt, Said}
use Rattle.turn_io.proofs.Using.{vec_end, vec_same, vec_used}
use Rattle.turn_io.specs.Points.{OnEither, SayPoints}
use Rattle.turn_io.proofs.queue_ends.QueueEnds.say.Goals as goal

pub say-requires : goal.say-requires
say-requires g c = (omega arith, (omega arith, vec_end c.args.queues.now.small.items c.args.self.now.small c.as_mut_slice.result.now c.in-Small.at c.item_at-end.result.now c.as_mut_slice.ensures.value c.requires.ends.small c.item_at-end.ensures.value c.index.result.now (subst (IsThere c.args.queues.now) c.in-Small.is c.requires.there) c.index.ensures))

pub returns-in-Small-clause-handle : goal.returns-in-Small-clause-handle
returns-in-Small-clause-handle g c = record {
  small = vec_same c.args.queues.now.small.items c.args.self.now.small c.as_mut_slice.result.now c.in-Small.at c.item_at-end.result.now c.as_mut_slice.ensures.value c.requires.ends.small c.item_at-end.ensures.value c.say.new.end (with_items_is c.args.self.now.small (set c.as_mut_slice.result.now c.in-Small.at c.say.new.end) (search rules)) c.say.ensures.handle;
  large = record { tables = refl; calls = refl };
}

pub returns-in-Small-clause-said : goal.returns-in-Small-clause-said
returns-in-Small-clause-said g c = subst (λ (z : QueueIndex). SaidAt z c.args.line.now c.say.result c.args.self.now (record c.args.self.now { small = with_items c.args.self.now.small (set c.as_mut_slice.result.now c.in-Small.at c.say.new.end) })) (sym c.in-Small.is)
    (vec_used c.args.queues.now.small.items c.args.self.now.small c.as_mut_slice.result.now c.in-Small.at c.item_at-end.result.now c.as_mut_slice.ensures.value c.requires.ends.small c.item_at-end.ensures.value c.say.new.end (with_items_is c.args.self.now.small (set c.as_mut_slice.result.now c.in-Small.at c.say.new.end) (search rules)) (Said c.args.line.now c.say.result) (subst (IsThere c.args.queues.now) c.in-Small.is c.requires.there) c.say.ensures.said, refl)

pub say-requires-in-Large : goal.say-requires-in-Large
say-requires-in-Large g c = (omega arith, (omega arith, vec_end c.args.queues.now.large.items c.args.self.now.large c.as_mut_slice-in-Large.result.now c.in-Large.at c.item_at-end-in-Large.result.now c.as_mut_slice-in-Large.ensures.value c.requires.ends.large c.item_at-end-in-Large.ensures.value c.index-in-Large.result.now (subst (IsThere c.args.queues.now) c.in-Large.is c.requires.there) c.index-in-Large.ensures))

pub returns-in-Large-clause-handle : goal.returns-in-Large-clause-handle
returns-in-Large-clause-handle g c = record {
  large = vec_same c.args.queues.now.large.items c.args.self.now.large c.as_mut_slice-in-Large.result.now c.in-Large.at c.item_at-end-in-Large.result.now c.as_mut_slice-in-Large.ensures.value c.requires.ends.large c.item_at-end-in-Large.ensures.value c.say-in-Large.new.end (with_items_is c.args.self.now.large (set c.as_mut_slice-in-Large.result.now c.in-Large.at c.say-in-Large.new.end) (search rules)) c.say-in-Large.ensures.handle;
  small = record { tables = refl; calls = refl };
}

pub returns-in-Large-clause-said : goal.returns-in-Large-clause-said
returns-in-Large-clause-said g c = subst (λ (z : QueueIndex). SaidAt z c.args.line.now c.say-in-Large.result c.args.self.now (record c.args.self.now { large = with_items c.args.self.now.large (set c.as_mut_slice-in-Large.result.now c.in-Large.at c.say-in-Large.new.end) })) (sym c.in-Large.is)
    (vec_used c.args.queues.now.large.items c.args.self.now.large c.as_mut_slice-in-Large.result.now c.in-Large.at c.item_at-end-in-Large.result.now c.as_mut_slice-in-Large.ensures.value c.requires.ends.large c.item_at-end-in-Large.ensures.value c.say-in-Large.new.end (with_items_is c.args.self.now.large (set c.as_mut_slice-in-Large.result.now c.in-Large.at c.say-in-Large.new.end) (search rules)) (Said c.args.line.now c.say-in-Large.result) (subst (IsThere c.args.queues.now) c.in-Large.is c.requires.there) c.say-in-Large.ensures.said, refl)

pub returns-in-Small-clause-points : goal.returns-in-Small-clause-points
returns-in-Small-clause-points g c = subst (λ (z : QueueIndex). OnEither z (SayPoints g.G.QueueGate-1.at_end c.args.p c.args.line.now c.say.result c.args.gate.now c.say.new.gate) (SayPoints g.G.QueueGate-2.at_end c.args.p c.args.line.now c.say.result c.args.gate.now c.say.new.gate) c.args.self.now (record c.args.self.now { small = with_items c.args.self.now.small (set c.as_mut_slice.result.now c.in-Small.at c.say.new.end) })) (sym c.in-Small.is)
    (vec_used c.args.queues.now.small.items c.args.self.now.small c.as_mut_slice.result.now c.in-Small.at c.item_at-end.result.now c.as_mut_slice.ensures.value c.requires.ends.small c.item_at-end.ensures.value c.say.new.end (with_items_is c.args.self.now.small (set c.as_mut_slice.result.now c.in-Small.at c.say.new.end) (search rules)) (SayPoints g.G.QueueGate-1.at_end c.args.p c.args.line.now c.say.result c.args.gate.now c.say.new.gate) (subst (IsThere c.args.queues.now) c.in-Small.is c.requires.there) c.say.ensures.points, refl)

pub returns-in-Large-clause-points : goal.returns-in-Large-clause-points
returns-in-Large-clause-points g c = subst (λ (z : QueueIndex). OnEither z (SayPoints g.G.QueueGate-1.at_end c.args.p c.args.line.now c.say-in-Large.result c.args.gate.now c.say-in-Large.new.gate) (SayPoints g.G.QueueGate-2.at_end c.args.p c.args.line.now c.say-in-Large.result c.args.gate.now c.say-in-Large.new.gate) c.args.self.now (record c.args.self.now { large = with_items c.args.self.now.large (set c.as_mut_slice-in-Large.result.now c.in-Large.at c.say-in-Large.new.end) })) (sym c.in-Large.is)
    (vec_used c.args.queues.now.large.items c.args.self.now.large c.as_mut_slice-in-Large.result.now c.in-Large.at c.item_at-end-in-Large.result.now c.as_mut_slice-in-Large.ensures.value c.requires.ends.large c.item_at-end-in-Large.ensures.value c.say-in-Large.new.end (with_items_is c.args.self.now.large (set c.as_mut_slice-in-Large.result.now c.in-Large.at c.say-in-Large.new.end) (search rules)) (SayPoints g.G.QueueGate-2.at_end c.args.p c.args.line.now c.say-in-Large.result c.args.gate.now c.say-in-Large.new.gate) (subst (IsThere c.args.queues.now) c.in-Large.is c.requires.there) c.say-in-Large.ensures.points, refl)
