use Rattle.std.proofs.Common.{inl, inr, take}
use Rattle.pool.specs.Handles.{view_of}
use Rattle.pool.proofs.Working.{more_less}
use Rattle.pool.proofs.workers.turn.Goals as goal

pub returns-in-Ok-clause-effect : goal.returns-in-Ok-clause-effect
returns-in-Ok-clause-effect g c = more_less (view_of c.args.holder.now) (view_of c.acquire.new.holder) (view_of c.give_back.new.holder) (take c.in-Ok.count c.acquire.new.buffers) c.in-Ok.ensures.effect.more c.give_back.ensures.effect

pub returns-in-Ok-clause-trace : goal.returns-in-Ok-clause-trace
returns-in-Ok-clause-trace g c =
    inr (take c.in-Ok.count c.acquire.new.buffers, view_of c.acquire.new.holder, c.in-Ok.ensures.trace, c.give_back.ensures.trace)
