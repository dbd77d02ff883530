use Rattle.event_theory.proofs.Keeping.Elements.{first_elements_law, join_elements_law}
use Rattle.event_theory.proofs.laws.elements_begin_and_join_lawful.Goals as goal

pub returns-clause-first : goal.returns-clause-first
returns-clause-first c = first_elements_law

pub returns-clause-joined : goal.returns-clause-joined
returns-clause-joined c = join_elements_law
