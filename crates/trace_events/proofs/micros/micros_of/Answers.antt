use Rattle.std.proofs.Common.{◌∙◌}
use Rattle.trace_events.proofs.Numbers.{micros_printed}
use Rattle.trace_events.proofs.micros.micros_of.Goals as goal

pub returns : goal.returns
returns c = c.in_ok-format.ensures.ok ∙ micros_printed c.args.nanos
