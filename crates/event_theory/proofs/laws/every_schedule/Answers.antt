use Rattle.event_theory.proofs.Keeping.Steps.{schedule_law}
use Rattle.event_theory.proofs.Keeping.Accounts.{account_law}
use Rattle.event_theory.proofs.laws.every_schedule.Goals as goal

pub returns-clause-lawful : goal.returns-clause-lawful
returns-clause-lawful c = schedule_law

pub returns-clause-accounted : goal.returns-clause-accounted
returns-clause-accounted c = account_law
