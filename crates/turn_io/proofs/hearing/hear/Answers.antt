use Rattle.turn_io.proofs.Common.{rules, Ok}
use Rattle.turn_io.proofs.Shares.{heard_long}
use Rattle.turn_io.proofs.hearing.hear.Goals as goal

pub returns-in-Ok-clause-long : goal.returns-in-Ok-clause-long
returns-in-Ok-clause-long g c = heard_long c.args.end.now c.try_take_line-answer.new.end c.try_take_line-answer.new.line.items (Ok tt) (search rules)
