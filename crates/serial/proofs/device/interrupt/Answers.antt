use Rattle.std.proofs.Common.{rules, [], ◌∷◌, ◌∙◌}
use Rattle.proc_chain.specs.Handles.{view_of}
use Rattle.serial.proofs.Sending.{stays_on, refused_stays, sent_after, sent_left, sent_run}
use Rattle.serial.proofs.device.interrupt.Goals as goal

pub returns-in-Ok-Run-clause-sent : goal.returns-in-Ok-Run-clause-sent
returns-in-Ok-Run-clause-sent g c = sent_after (view_of c.args.end.now) (view_of c.loop.end) (view_of c.serve_all-ran.new.end) (c.args.note ∷ []) c.loop.invariant.stays
    (sent_run (view_of c.loop.end) (view_of c.try_chain.new.end) (view_of c.serve_all-ran.new.end) c.args.note _ _ _ c.in-Ok-Run.field-0-is c.in-Ok-Run.ensures.trace c.in-Ok-Run.ensures.effect c.serve_all-ran.ensures.trace)

pub returns-in-Ok-Left-clause-sent : goal.returns-in-Ok-Left-clause-sent
returns-in-Ok-Left-clause-sent g c = sent_after (view_of c.args.end.now) (view_of c.loop.end) (view_of c.try_chain.new.end) (c.args.note ∷ []) c.loop.invariant.stays
    (sent_left (view_of c.loop.end) (view_of c.try_chain.new.end) c.args.note _ c.in-Ok-Left.field-0-is c.in-Ok-Left.ensures.trace c.in-Ok-Left.ensures.effect)

pub loop-preserved : goal.loop-preserved
loop-preserved g c = record {
  steps = search rules;
  mine = c.in-Err.ensures.ends;
  idle = c.in-Err.ensures.turn.0 ∙ c.loop.invariant.idle;
  stays = stays_on (view_of c.args.end.now) (view_of c.loop.end) (view_of c.try_chain.new.end) c.loop.invariant.stays (refused_stays (view_of c.loop.end) (view_of c.try_chain.new.end) c.in-Err.field-0 c.in-Err.ensures.trace);
}
