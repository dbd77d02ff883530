use Rattle.pool.proofs.Joining.{idle_fair}
use Rattle.pool.proofs.Owners.{each_once}
use Rattle.pool.proofs.between.each_buffer_has_one_owner.Goals as goal

pub returns-clause-once : goal.returns-clause-once
returns-clause-once c = λ key state rule. (c.between_steps.ensures key state rule, λ shows. each_once key state (c.protocol_between_steps.ensures key state rule) shows)

pub returns-clause-fair : goal.returns-clause-fair
returns-clause-fair c = λ holder. holder.fair

pub returns-clause-joined : goal.returns-clause-joined
returns-clause-joined c = λ v none. idle_fair v none

pub returns-clause-stocked : goal.returns-clause-stocked
returns-clause-stocked c = λ pool holder is. is.1
