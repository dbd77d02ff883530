use Rattle.boot_objects.proofs.Common.{ap, ◌∙◌, rests}
use Rattle.proc_chain.specs.Notes.{notes_put, notes_taken}
use Rattle.boot_objects.proofs.device.split_one.Goals as goal

pub returns-clause-idle : goal.returns-clause-idle
returns-clause-idle c = let s = c.split.ensures in let was = c.requires.idle in (
  record {
    its = s.ends.0;
    idle = (s.turns.0.0 ∙ was.idle.0, s.turns.0.1 ∙ was.idle.1);
    puts = s.effect.puts ∙ was.puts;
    takes = s.effect.takes ∙ was.takes;
  },
  record {
    its = s.ends.1;
    idle = rests c.args.chain.now c.split.result s.ends.1 s.turns.1;
    puts = ap notes_put s.born;
    takes = ap notes_taken s.born;
  },
)
