use Rattle.processor.proofs.Common.{◌≡◌, List, length, LogEntry, KeepsStation, TurnsInOrder, calls, views}
use Rattle.processor.proofs.turn.run.Given as goal

abbrev pub invariant-loop-number : goal.invariant-loop-number
invariant-loop-number g l = KeepsStation l.shared l.p l.fn.station.parts l.parts × (log : List LogEntry) × (length log ≡ l.number)
    × TurnsInOrder (views g.G.Watch.shown g.G.QueueGate-1.at_end g.G.QueueGate-2.at_end g.G.ChainGate.at_chain_end) (calls g.G.Gate.observes g.G.TurnGate.learns) l.shared l.p 0 log l.fn.station.parts l.parts l.fn.gate l.gate
