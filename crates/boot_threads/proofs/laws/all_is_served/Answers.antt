use Rattle.boot_threads.proofs.Typeds.{served_all}
use Rattle.boot_threads.proofs.laws.all_is_served.Goals as goal

pub returns : goal.returns
returns c = served_all
