use Rattle.thread_table.proofs.Closing.Freed.{freed_is_reported}
use Rattle.thread_table.proofs.laws.freed_stay_free.Goals as goal

pub returns : goal.returns
returns c = λ call v stands pcs pending stops element. freed_is_reported call v stands pcs pending stops element
