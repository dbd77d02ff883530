use Rattle.event_theory.proofs.Keeping.Threads.{stop_law, signal_law, deliver_law, done_law}
use Rattle.event_theory.proofs.laws.threads_keep_lawful.Goals as goal

pub returns-clause-stopped : goal.returns-clause-stopped
returns-clause-stopped c = stop_law

pub returns-clause-signalled : goal.returns-clause-signalled
returns-clause-signalled c = signal_law

pub returns-clause-delivered : goal.returns-clause-delivered
returns-clause-delivered c = deliver_law

pub returns-clause-done : goal.returns-clause-done
returns-clause-done c = done_law
