use Rattle.processor.proofs.Common.{◌+◌, ℕ, [], ◌∷◌, ◌++◌, length, rules, refl, sym, ap, ◌∙◌, subst, Turn, length-append, calls, views}
use Rattle.std.proofs.Math.Nat.{zero-add}
use Rattle.processor.proofs.Keeping.{stays_on, stays_still}
use Rattle.processor.proofs.Ordering.{turns_more}
use Rattle.processor.proofs.turn.run.Goals as goal

pub loop-number-preserved : goal.loop-number-preserved
loop-number-preserved g c =
    let i = c.loop-number.invariant in
    let e = c.turn.ensures in
    let log = i.1 in
    let entry = e.turn.0 in
    let said = subst (λ (q : ℕ). g.G.Gate.observes c.loop-number.gate q (Turn c.loop-number.number) c.between.new.self) c.number.ensures.value c.between.ensures in (
      stays_on c.args.shared.now c.args.p c.args.station.parts c.loop-number.parts c.turn.new.parts i.0 e.station,
      log ++ entry ∷ [],
      length-append log (entry ∷ []) ∙ ap (λ n. n + 1) i.2,
      turns_more (views g.G.Watch.shown g.G.QueueGate-1.at_end g.G.QueueGate-2.at_end g.G.ChainGate.at_chain_end) (calls g.G.Gate.observes g.G.TurnGate.learns) c.args.shared.now c.args.p 0 log entry c.args.station.parts c.loop-number.parts c.turn.new.parts c.args.gate.now c.loop-number.gate c.between.new.self c.turn.new.gate i.3
          (subst (λ (n : ℕ). g.G.Gate.observes c.loop-number.gate c.args.p (Turn n) c.between.new.self) (sym (zero-add (length log) ∙ i.2)) said) e.turn.1,
    )

pub loop-number-init : goal.loop-number-init
loop-number-init g c = (stays_still c.args.shared.now c.args.p c.args.station.parts c.requires.station, [], refl, (refl, refl))

pub returns-clause-turned : goal.returns-clause-turned
returns-clause-turned g c =
    let i = c.loop-number.invariant in
    record { log = i.1; many = i.2 ∙ search rules; order = i.3 }
