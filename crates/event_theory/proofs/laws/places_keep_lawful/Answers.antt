use Rattle.event_theory.proofs.Keeping.Elements.{put_on_law, take_off_law}
use Rattle.event_theory.proofs.Keeping.Threads.{park_law, start_law}
use Rattle.event_theory.proofs.laws.places_keep_lawful.Goals as goal

pub returns-clause-put : goal.returns-clause-put
returns-clause-put c = put_on_law

pub returns-clause-taken_off : goal.returns-clause-taken_off
returns-clause-taken_off c = take_off_law

pub returns-clause-parked : goal.returns-clause-parked
returns-clause-parked c = park_law

pub returns-clause-started : goal.returns-clause-started
returns-clause-started c = start_law
