use Rattle.turn_io.proofs.Adding.{queues_add, chains_add, dids_add, stakes_add, each_adds, lines_add}
use Rattle.turn_io.proofs.laws.accounts_add.Goals as goal

pub returns-clause-queue : goal.returns-clause-queue
returns-clause-queue c = queues_add

pub returns-clause-queues : goal.returns-clause-queues
returns-clause-queues c = each_adds queues_add

pub returns-clause-chain : goal.returns-clause-chain
returns-clause-chain c = chains_add

pub returns-clause-stakes : goal.returns-clause-stakes
returns-clause-stakes c = stakes_add dids_add

pub returns-clause-chain_stakes : goal.returns-clause-chain_stakes
returns-clause-chain_stakes c = stakes_add chains_add

pub returns-clause-effect : goal.returns-clause-effect
returns-clause-effect c a b = lines_add a.did b.did
