use Rattle.turn_io.proofs.Common.{rules, ◌≡◌, refl, set, sym, subst, arith, ℕ, List, ◌∙◌, with_items, with_items_is, QueueIndex, IsThere, HeardAt, Heard}
use Rattle.turn_io.proofs.Using.{vec_end, vec_same, vec_used}
use Rattle.turn_io.specs.Points.{HearPoint, OnEither}
use Rattle.turn_io.proofs.queue_ends.QueueEnds.hear.Goals as goal

pub hear-answer-requires : goal.hear-answer-requires
hear-answer-requires g c = (omega arith, (omega arith, (omega arith, (vec_end c.args.queues.now.small.items c.args.self.now.small c.as_mut_slice.result.now c.in-Small.at c.item_at-end.result.now c.as_mut_slice.ensures.value c.requires.ends.small c.item_at-end.ensures.value c.index.result.now (subst (IsThere c.args.queues.now) c.in-Small.is c.requires.there) c.index.ensures, search rules))))

pub returns-in-Small-clause-handle : goal.returns-in-Small-clause-handle
returns-in-Small-clause-handle g c = record {
  small = vec_same c.args.queues.now.small.items c.args.self.now.small c.as_mut_slice.result.now c.in-Small.at c.item_at-end.result.now c.as_mut_slice.ensures.value c.requires.ends.small c.item_at-end.ensures.value c.hear-answer.new.end (with_items_is c.args.self.now.small (set c.as_mut_slice.result.now c.in-Small.at c.hear-answer.new.end) (search rules)) c.hear-answer.ensures.handle;
  large = record { tables = refl; calls = refl };
}

pub returns-in-Small-clause-heard : goal.returns-in-Small-clause-heard
returns-in-Small-clause-heard g c = subst (λ (z : QueueIndex). HeardAt z c.copy.new.text.items c.hear-answer.result c.args.self.now (record c.args.self.now { small = with_items c.args.self.now.small (set c.as_mut_slice.result.now c.in-Small.at c.hear-answer.new.end) })) (sym c.in-Small.is) (
  vec_used c.args.queues.now.small.items c.args.self.now.small c.as_mut_slice.result.now c.in-Small.at c.item_at-end.result.now c.as_mut_slice.ensures.value c.requires.ends.small c.item_at-end.ensures.value c.hear-answer.new.end (with_items_is c.args.self.now.small (set c.as_mut_slice.result.now c.in-Small.at c.hear-answer.new.end) (search rules)) (Heard c.copy.new.text.items c.hear-answer.result) (subst (IsThere c.args.queues.now) c.in-Small.is c.requires.there)
      (subst (λ (z : List ℕ). Heard z c.hear-answer.result c.item_at-end.result.now c.hear-answer.new.end) (sym (c.copy.ensures ∙ c.as_slice.ensures.value)) c.hear-answer.ensures.heard),
  refl,
)

pub hear-requires : goal.hear-requires
hear-requires g c = (omega arith, (omega arith, (omega arith, (vec_end c.args.queues.now.large.items c.args.self.now.large c.as_mut_slice-in-Large.result.now c.in-Large.at c.item_at-end-in-Large.result.now c.as_mut_slice-in-Large.ensures.value c.requires.ends.large c.item_at-end-in-Large.ensures.value c.index-in-Large.result.now (subst (IsThere c.args.queues.now) c.in-Large.is c.requires.there) c.index-in-Large.ensures, search rules))))

pub returns-in-Large-clause-handle : goal.returns-in-Large-clause-handle
returns-in-Large-clause-handle g c = record {
  large = vec_same c.args.queues.now.large.items c.args.self.now.large c.as_mut_slice-in-Large.result.now c.in-Large.at c.item_at-end-in-Large.result.now c.as_mut_slice-in-Large.ensures.value c.requires.ends.large c.item_at-end-in-Large.ensures.value c.hear.new.end (with_items_is c.args.self.now.large (set c.as_mut_slice-in-Large.result.now c.in-Large.at c.hear.new.end) (search rules)) c.hear.ensures.handle;
  small = record { tables = refl; calls = refl };
}

pub returns-in-Large-clause-heard : goal.returns-in-Large-clause-heard
returns-in-Large-clause-heard g c = subst (λ (z : QueueIndex). HeardAt z c.hear.new.line.items c.hear.result c.args.self.now (record c.args.self.now { large = with_items c.args.self.now.large (set c.as_mut_slice-in-Large.result.now c.in-Large.at c.hear.new.end) })) (sym c.in-Large.is)
    (vec_used c.args.queues.now.large.items c.args.self.now.large c.as_mut_slice-in-Large.result.now c.in-Large.at c.item_at-end-in-Large.result.now c.as_mut_slice-in-Large.ensures.value c.requires.ends.large c.item_at-end-in-Large.ensures.value c.hear.new.end (with_items_is c.args.self.now.large (set c.as_mut_slice-in-Large.result.now c.in-Large.at c.hear.new.end) (search rules)) (Heard c.hear.new.line.items c.hear.result) (subst (IsThere c.args.queues.now) c.in-Large.is c.requires.there) c.hear.ensures.heard, refl)

pub returns-in-Small-clause-points : goal.returns-in-Small-clause-points
returns-in-Small-clause-points g c = subst (λ (z : QueueIndex). OnEither z (HearPoint g.G.QueueGate-1.at_end c.args.p c.args.gate.now c.hear-answer.new.gate) (HearPoint g.G.QueueGate-2.at_end c.args.p c.args.gate.now c.hear-answer.new.gate) c.args.self.now (record c.args.self.now { small = with_items c.args.self.now.small (set c.as_mut_slice.result.now c.in-Small.at c.hear-answer.new.end) })) (sym c.in-Small.is)
    (vec_used c.args.queues.now.small.items c.args.self.now.small c.as_mut_slice.result.now c.in-Small.at c.item_at-end.result.now c.as_mut_slice.ensures.value c.requires.ends.small c.item_at-end.ensures.value c.hear-answer.new.end (with_items_is c.args.self.now.small (set c.as_mut_slice.result.now c.in-Small.at c.hear-answer.new.end) (search rules)) (HearPoint g.G.QueueGate-1.at_end c.args.p c.args.gate.now c.hear-answer.new.gate) (subst (IsThere c.args.queues.now) c.in-Small.is c.requires.there) c.hear-answer.ensures.points, refl)

pub returns-in-Large-clause-points : goal.returns-in-Large-clause-points
returns-in-Large-clause-points g c = subst (λ (z : QueueIndex). OnEither z (HearPoint g.G.QueueGate-1.at_end c.args.p c.args.gate.now c.hear.new.gate) (HearPoint g.G.QueueGate-2.at_end c.args.p c.args.gate.now c.hear.new.gate) c.args.self.now (record c.args.self.now { large = with_items c.args.self.now.large (set c.as_mut_slice-in-Large.result.now c.in-Large.at c.hear.new.end) })) (sym c.in-Large.is)
    (vec_used c.args.queues.now.large.items c.args.self.now.large c.as_mut_slice-in-Large.result.now c.in-Large.at c.item_at-end-in-Large.result.now c.as_mut_slice-in-Large.ensures.value c.requires.ends.large c.item_at-end-in-Large.ensures.value c.hear.new.end (with_items_is c.args.self.now.large (set c.as_mut_slice-in-Large.result.now c.in-Large.at c.hear.new.end) (search rules)) (HearPoint g.G.QueueGate-2.at_end c.args.p c.args.gate.now c.hear.new.gate) (subst (IsThere c.args.queues.now) c.in-Large.is c.requires.there) c.hear.ensures.points, refl)
