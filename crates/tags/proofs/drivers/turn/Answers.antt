use Rattle.tags.specs.Handles.{view_of}
use Rattle.tags.proofs.Working.{more_less}
use Rattle.tags.proofs.drivers.turn.Goals as goal

pub returns-in-Ok-clause-effect : goal.returns-in-Ok-clause-effect
returns-in-Ok-clause-effect g c = more_less (view_of c.args.holder.now) (view_of c.take.new.holder) (view_of c.give_back.new.holder) c.in-Ok.tag c.in-Ok.ensures.effect.more c.give_back.ensures.effect
