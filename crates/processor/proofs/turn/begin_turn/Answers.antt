use Rattle.processor.proofs.Common.{refl, view_of}
use Rattle.processor.proofs.Keeping.{rest_stays}
use Rattle.processor.proofs.Rising.{fallen, began_or_idle}
use Rattle.processor.proofs.turn.begin_turn.Goals as goal

pub returns-clause-station : goal.returns-clause-station
returns-clause-station g c = rest_stays c.args.shared.now c.args.p c.args.parts.now _ c.requires.station (record { queues = refl; chains = refl; heard = refl }) c.begin.ensures.handle c.begin.ensures.frame
    (fallen c.args.parts.now.hand c.begin.new.hand (began_or_idle _ (view_of c.args.parts.now.hand) (view_of c.begin.new.hand) c.begin.result c.begin.ensures.begun)) (refl, refl) refl refl
