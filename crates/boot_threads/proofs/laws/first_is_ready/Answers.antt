use Rattle.boot_threads.proofs.Firstness.{can_split_eight, all_free, all_back}
use Rattle.boot_threads.proofs.laws.first_is_ready.Goals as goal

pub returns : goal.returns
returns c = record { splits = can_split_eight; free = all_free; only = all_back }
