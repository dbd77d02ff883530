use Rattle.event_theory.proofs.Keeping.Meters.{tick_law, advance_law, set_alarm_law, fire_law, cancel_law}
use Rattle.event_theory.proofs.laws.meters_keep_lawful.Goals as goal

pub returns-clause-tick : goal.returns-clause-tick
returns-clause-tick c = tick_law

pub returns-clause-advance : goal.returns-clause-advance
returns-clause-advance c = advance_law

pub returns-clause-set : goal.returns-clause-set
returns-clause-set c = set_alarm_law

pub returns-clause-fire : goal.returns-clause-fire
returns-clause-fire c = fire_law

pub returns-clause-cancel : goal.returns-clause-cancel
returns-clause-cancel c = cancel_law
