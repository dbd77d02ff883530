use Rattle.processor.proofs.Common.{List, ℕ, LogEntry, subst, Alarm, entry_of}
use Rattle.processor.proofs.Keeping.{stays_on}
use Rattle.processor.proofs.turn.turn.Goals as goal

pub returns-clause-station : goal.returns-clause-station
returns-clause-station g c = stays_on c.args.shared.now c.args.p c.args.parts.now c.tend-advanced.new.parts c.dispatch-outcome.new.parts c.tend-advanced.ensures.station c.dispatch-outcome.ensures.station

pub returns-clause-turn : goal.returns-clause-turn
returns-clause-turn g c =
    let fired = c.tend-advanced.new.fired.items in
    let line = c.dispatch-outcome.new.room.line.items in
    let entry : LogEntry = entry_of c.tend-advanced.result fired c.dispatch-outcome.result line in
    let learned = subst (λ (q : ℕ). g.G.TurnGate.learns c.dispatch-outcome.new.gate q entry c.turned.new.self) c.number.ensures.value
    (subst (λ (z : List Alarm). g.G.TurnGate.learns c.dispatch-outcome.new.gate c.number.result (entry_of c.tend-advanced.result z c.dispatch-outcome.result line) c.turned.new.self) c.as_slice.ensures.value
    (subst (λ (z : List ℕ). g.G.TurnGate.learns c.dispatch-outcome.new.gate c.number.result (entry_of c.tend-advanced.result c.as_slice.result.now c.dispatch-outcome.result z) c.turned.new.self) c.as_slice-2.ensures.value c.turned.ensures)) in (
      entry,
      (c.dispatch-outcome.new.gate, (c.tend-advanced.new.parts, c.tend-advanced.ensures.tended, c.dispatch-outcome.ensures.came), c.dispatch-outcome.ensures.hook, learned),
    )
