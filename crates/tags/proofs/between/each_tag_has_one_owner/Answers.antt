use Rattle.tags.proofs.Owners.{each_once}
use Rattle.tags.proofs.between.each_tag_has_one_owner.Goals as goal

pub returns-clause-once : goal.returns-clause-once
returns-clause-once c = λ key state rule. (c.between_steps.ensures key state rule, λ shows. each_once key state (c.protocol_between_steps.ensures key state rule) (c.ends_between_steps.ensures key state rule).true_ends.first_is shows)

pub returns-clause-begun : goal.returns-clause-begun
returns-clause-begun c = λ n holder. holder.holds.begun

pub returns-clause-count : goal.returns-clause-count
returns-clause-count c = λ n tags holder is. is.1

pub returns-clause-never_shut : goal.returns-clause-never_shut
returns-clause-never_shut c = λ n holder. holder.holds.never_shut
