use Rattle.trace_events.proofs.Common.{rules, answers_always}
use Rattle.trace_events.proofs.Starts.{key_of, sorted_by_key}
use Rattle.trace_events.proofs.tracks.sort.Goals as goal

pub returns-clause-all : goal.returns-clause-all
returns-clause-all c = c.sort_unstable_by_key.ensures.permutation

pub returns-clause-sorted : goal.returns-clause-sorted
returns-clause-sorted c =
    sorted_by_key c.sort_unstable_by_key.new.self (c.sort_unstable_by_key.ensures.sorted key_of (answers_always _ _ _ (λ f a r g h. search rules)))
