use Rattle.event_theory.proofs.Keeping.Elements.{claim_element_law, raise_element_law, take_element_law, wait_at_law}
use Rattle.event_theory.proofs.Keeping.Threads.{notify_wait_law}
use Rattle.event_theory.proofs.laws.element_queues_keep_lawful.Goals as goal

pub returns-clause-claimed : goal.returns-clause-claimed
returns-clause-claimed c = claim_element_law

pub returns-clause-raised : goal.returns-clause-raised
returns-clause-raised c = raise_element_law

pub returns-clause-taken : goal.returns-clause-taken
returns-clause-taken c = take_element_law

pub returns-clause-notified : goal.returns-clause-notified
returns-clause-notified c = notify_wait_law

pub returns-clause-waited : goal.returns-clause-waited
returns-clause-waited c = wait_at_law
