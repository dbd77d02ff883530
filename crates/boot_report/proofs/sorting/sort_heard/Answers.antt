use Rattle.boot_report.proofs.Common.{rules, answers_always}
use Rattle.boot_report.proofs.Ordering.{ascending, key_of}
use Rattle.boot_report.proofs.sorting.sort_heard.Goals as goal

pub returns-clause-all : goal.returns-clause-all
returns-clause-all c = c.sort_unstable_by_key.ensures.permutation

pub returns-clause-ascend : goal.returns-clause-ascend
returns-clause-ascend c processors = ascending processors c.sort_unstable_by_key.new.self
    (c.sort_unstable_by_key.ensures.sorted key_of (answers_always _ _ _ (λ f a r g h. search rules)))
