use Rattle.event_theory.proofs.Keeping.Queues.{claim_law, raise_law, take_law, shut_law}
use Rattle.event_theory.proofs.Keeping.Joins.{join_queue_law}
use Rattle.event_theory.proofs.laws.queues_keep_lawful.Goals as goal

pub returns-clause-claim : goal.returns-clause-claim
returns-clause-claim c = claim_law

pub returns-clause-raise : goal.returns-clause-raise
returns-clause-raise c = raise_law

pub returns-clause-take : goal.returns-clause-take
returns-clause-take c = take_law

pub returns-clause-shut : goal.returns-clause-shut
returns-clause-shut c = shut_law

pub returns-clause-join : goal.returns-clause-join
returns-clause-join c = join_queue_law
