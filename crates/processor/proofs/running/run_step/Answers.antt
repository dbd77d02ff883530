use Rattle.processor.proofs.Common.{rules, ◌≡◌, inr, ℕ, Option, Some, None, sym, subst, ◌∙◌, TakesOff, view_of, call_of, running, Parts, Count, InOrder, SawStep, views}
use Rattle.turn_io.specs.Points.{beside}
use Rattle.turn_dispatch.proofs.Calm as calm
use Rattle.processor.proofs.Ordering.{put_counts}
use Rattle.processor.proofs.Tallying.{tried_on}
use Rattle.processor.proofs.running.run_step.Goals as goal

some_same : (x y : ℕ) → ◌≡◌ {A = Option ℕ} (Some x) (Some y) → x ≡ y
some_same x y e = cc

is_some : (x : ℕ) → ◌≡◌ {A = Option ℕ} (Some x) None → ⊥
is_some x e = cc

pub count-counted-requires-clause-mine : goal.count-counted-requires-clause-mine
count-counted-requires-clause-mine g c =
    let on = tried_on _ c.args.shared.now.plan c.args.p c.args.begun.now.element c.try_step-step_outcome.result c.put_on.new.hand _ c.put_on.ensures.there c.try_step-step_outcome.ensures.hand in
    inr (c.args.p, on.0, on.1)

pub take_off-requires-clause-mine : goal.take_off-requires-clause-mine
take_off-requires-clause-mine g c =
    let on = tried_on _ c.args.shared.now.plan c.args.p c.args.begun.now.element c.try_step-step_outcome.result c.put_on.new.hand _ c.put_on.ensures.there c.try_step-step_outcome.ensures.hand in
    (calm.still_on c.args.p c.args.begun.now.element _ _ c.count-counted.ensures.frame on).0

pub take_off-requires-clause-busy : goal.take_off-requires-clause-busy
take_off-requires-clause-busy g c =
    let on = tried_on _ c.args.shared.now.plan c.args.p c.args.begun.now.element c.try_step-step_outcome.result c.put_on.new.hand _ c.put_on.ensures.there c.try_step-step_outcome.ensures.hand in
    λ none. is_some c.args.begun.now.element (sym (calm.still_on c.args.p c.args.begun.now.element _ _ c.count-counted.ensures.frame on).1 ∙ none)

pub returns-clause-hand : goal.returns-clause-hand
returns-clause-hand g c =
    let p = c.args.p in
    let e = c.args.begun.now.element in
    let did = c.try_step-step_outcome.ensures.hand in
    let after = view_of c.count-counted.new.hand in
    let w = view_of c.take_off.new.hand in
    let on = tried_on _ c.args.shared.now.plan p e c.try_step-step_outcome.result c.put_on.new.hand _ c.put_on.ensures.there did in
    let runs : running after p ≡ Some e = (calm.still_on p e _ after c.count-counted.ensures.frame on).1 in
    let same : c.take_off.result ≡ e = some_same c.take_off.result e (sym c.take_off.ensures.stood ∙ runs) in
    record {
      on = view_of c.put_on.new.hand;
      did = view_of c.try_step-step_outcome.new.parts.hand;
      after = after;
      puts = c.put_on.ensures.put;
      does = search (rules, did);
      counts = search rules;
      takes = subst (λ (z : ℕ). TakesOff (call_of c.args.parts.now.hand) p z after w) same (search rules);
    }

pub returns-clause-ends : goal.returns-clause-ends
returns-clause-ends g c =
    let old = c.args.parts.now in
    let e = c.try_step-step_outcome.ensures.ends in
    let new : Parts = record c.try_step-step_outcome.new.parts { hand = c.take_off.new.hand } in
    let o = e.order in
    let points = subst (λ (p : ℕ). SawStep (beside g.G.QueueGate-1.at_end g.G.QueueGate-2.at_end g.G.ChainGate.at_chain_end) p c.try_step-step_outcome.result c.try_step-step_outcome.new.room.line.items c.args.gate.now c.try_step-step_outcome.new.gate old.queues new.queues old.chains.items new.chains.items) c.number.ensures.value o.points in
    record {
      did = record { queues = e.did.queues; chains = e.did.chains; seat = e.did.seat };
      order = subst (λ (z : Count). InOrder (views g.G.Watch.shown g.G.QueueGate-1.at_end g.G.QueueGate-2.at_end g.G.ChainGate.at_chain_end) c.args.shared.now.plan c.args.p z c.try_step-step_outcome.result c.try_step-step_outcome.new.room.line.items c.args.gate.now c.try_step-step_outcome.new.gate old new)
          (put_counts _ _ _ old.hand c.put_on.new.hand c.put_on.ensures.put c.put_on.ensures.handle)
          (record { queues = o.queues; chains = o.chains; seat = o.seat; points = points });
      same = record {
        hand = search rules;
        queues = e.same.queues;
        chains = e.same.chains;
        meters = e.same.meters;
      };
      idle = e.idle;
      heard = e.heard;
      signals = e.signals;
    }
