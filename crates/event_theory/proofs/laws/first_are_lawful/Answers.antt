use Rattle.event_theory.proofs.Keeping.First.{empty_law, full_law}
use Rattle.event_theory.proofs.Keeping.Chains.{empty_chain_law}
use Rattle.event_theory.proofs.Keeping.Meters.{first_meters_law}
use Rattle.event_theory.proofs.laws.first_are_lawful.Goals as goal

pub returns-clause-empty : goal.returns-clause-empty
returns-clause-empty c = empty_law

pub returns-clause-full : goal.returns-clause-full
returns-clause-full c = full_law

pub returns-clause-chain : goal.returns-clause-chain
returns-clause-chain c = empty_chain_law

pub returns-clause-meters : goal.returns-clause-meters
returns-clause-meters c = first_meters_law
