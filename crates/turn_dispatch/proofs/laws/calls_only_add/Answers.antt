use Rattle.turn_dispatch.proofs.Common.{view_of}
use Rattle.turn_dispatch.proofs.OnlyLoads.{signal_only, stop_only, ticket_only}
use Rattle.turn_dispatch.proofs.laws.calls_only_add.Goals as goal

pub returns-clause-stops : goal.returns-clause-stops
returns-clause-stops c = λ call element was old new a. stop_only call element was (view_of old) (view_of new) old.fresh old.valid new.valid a

pub returns-clause-signals : goal.returns-clause-signals
returns-clause-signals c = λ call element signal answer old new a. signal_only call element signal answer (view_of old) (view_of new) old.fresh old.valid new.valid a

pub returns-clause-tickets : goal.returns-clause-tickets
returns-clause-tickets c = λ wait ticket old new a. ticket_only wait ticket (view_of old) (view_of new) old.fresh old.valid new.valid a
