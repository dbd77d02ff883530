use Rattle.trace_events.proofs.Joined.{all_turns, idle_together, some_turn}
use Rattle.trace_events.proofs.laws.no_turn_is_left_out.Goals as goal

pub returns-clause-turns : goal.returns-clause-turns
returns-clause-turns c = all_turns

pub returns-clause-some : goal.returns-clause-some
returns-clause-some c = some_turn

pub returns-clause-idle : goal.returns-clause-idle
returns-clause-idle c = idle_together
