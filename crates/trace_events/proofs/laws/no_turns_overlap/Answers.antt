use Rattle.std.proofs.Common.{refl}
use Rattle.trace_events.proofs.Apart.{begins_after, begins_within, turns_apart}
use Rattle.trace_events.proofs.laws.no_turns_overlap.Goals as goal

pub returns-clause-order : goal.returns-clause-order
returns-clause-order c = begins_after

pub returns-clause-within : goal.returns-clause-within
returns-clause-within c = begins_within

pub returns-clause-apart : goal.returns-clause-apart
returns-clause-apart c = turns_apart

pub returns-clause-lines : goal.returns-clause-lines
returns-clause-lines c = λ one other. refl
