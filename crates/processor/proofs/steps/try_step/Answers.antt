use Rattle.processor.proofs.Common.{rules, ℕ, List, TriedAtEnds, count_of, views, refl, sym, subst, with_items_is, All, AreSameChainEnds, IsIdle, same_ends_still}
use Rattle.turn_io.specs.Outcomes.{PokedAt}
use Rattle.processor.specs.declared.step_outcome.StepOutcome.TheVariants as step_outcomes
use Rattle.turn_io.specs.Points.{PokePointAt, beside}
use Rattle.processor.proofs.Placing.{of_same}
use Rattle.processor.proofs.steps.try_step.Goals as goal

pub returns-in-Tick-clause-ends : goal.returns-in-Tick-clause-ends
returns-in-Tick-clause-ends g c = record {
  did = record { queues = refl; chains = refl; seat = search rules };
  order = record {
    queues = tt;
    chains = tt;
    seat = record { hand = c.args.parts.now.hand; counted = refl; before = c.show_seat.ensures; after = c.show_seat-in-Tick.ensures };
    points = refl;
  };
  same = record { hand = (refl, refl); queues = same_ends_still c.args.parts.now.queues; chains = record { tables = refl; calls = refl }; meters = search rules };
  idle = c.requires.parts.chains.idle;
  heard = refl;
  signals = refl;
}

pub returns-in-Poke-clause-ends : goal.returns-in-Poke-clause-ends
returns-in-Poke-clause-ends g c =
    let hand = c.args.parts.now.hand in
    let now = with_items_is c.args.parts.now.chains c.poke-answer.new.ends (search rules) in
    record {
      did = record {
        queues = refl;
        chains = of_same (λ list old new. PokedAt list c.in-Poke.mover 0 c.poke-answer.result old new) c.as_slice-chains.ensures.value c.as_mut_slice-ends.ensures.value (sym now) c.poke-answer.ensures.poked;
        seat = refl;
      };
      order = record {
        queues = tt;
        chains = record { hand = hand; counted = refl; before = c.show_chains.ensures; after = c.show_chains-in-Poke.ensures };
        seat = tt;
        points = of_same (λ (list : Unit {0}) old new. PokePointAt (beside g.G.QueueGate-1.at_end g.G.QueueGate-2.at_end g.G.ChainGate.at_chain_end) c.args.p c.in-Poke.mover 0 c.poke-answer.result c.args.gate.now c.poke-answer.new.gate old new) refl c.as_mut_slice-ends.ensures.value (sym now) c.poke-answer.ensures.points;
      };
      same = record {
        hand = (refl, refl);
        queues = same_ends_still c.args.parts.now.queues;
        chains = of_same (λ (list : Unit {0}) old new. AreSameChainEnds old new) refl c.as_mut_slice-ends.ensures.value (sym now) c.poke-answer.ensures.handle;
        meters = (refl, refl);
      };
      idle = subst (λ z. All IsIdle z) (sym now) c.poke-answer.ensures.ends.idle;
      heard = refl;
      signals = refl;
    }

pub returns-in-Close-clause-ends : goal.returns-in-Close-clause-ends
returns-in-Close-clause-ends g c =
    let r = c.close_step-was_open.result in
    subst (λ (line : List ℕ). TriedAtEnds (views g.G.Watch.shown g.G.QueueGate-1.at_end g.G.QueueGate-2.at_end g.G.ChainGate.at_chain_end) c.args.shared.now c.args.p (count_of c.args.parts.now.hand) (step_outcomes.Close c.in-Close.queue r.0 r.1 r.2) line c.args.gate.now c.args.gate.now c.args.parts.now c.close_step-was_open.new.parts)
    (sym c.requires.empty) (c.close_step-was_open.ensures.ends c.args.p)
