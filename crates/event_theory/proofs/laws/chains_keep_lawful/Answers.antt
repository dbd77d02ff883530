use Rattle.event_theory.proofs.Keeping.Chains.{claim_note_law, raise_note_law, take_note_law, notify_law, round_law, leave_law, join_chain_law}
use Rattle.event_theory.proofs.laws.chains_keep_lawful.Goals as goal

pub returns-clause-claim : goal.returns-clause-claim
returns-clause-claim c = claim_note_law

pub returns-clause-raise : goal.returns-clause-raise
returns-clause-raise c = raise_note_law

pub returns-clause-take : goal.returns-clause-take
returns-clause-take c = take_note_law

pub returns-clause-notify : goal.returns-clause-notify
returns-clause-notify c = notify_law

pub returns-clause-round : goal.returns-clause-round
returns-clause-round c = round_law

pub returns-clause-leave : goal.returns-clause-leave
returns-clause-leave c = leave_law

pub returns-clause-join : goal.returns-clause-join
returns-clause-join c = join_chain_law
