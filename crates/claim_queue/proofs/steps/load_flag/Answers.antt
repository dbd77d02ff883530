use Rattle.claim_queue.proofs.Common.{arith, mod-lt, ◌<◌, ◌%◌}
use Rattle.claim_queue.proofs.Reading.{flag_raised, flag_low, flag_not_mine}
use Rattle.claim_queue.proofs.steps.load_flag.Goals as goal

pub load-requires-clause-queue : goal.load-requires-clause-queue
load-requires-clause-queue g c = let q = c.requires.queue in let wide = q.3 in let near : c.args.position % c.args.room < c.args.room = mod-lt c.args.position q.4 in (q.0, omega arith)

pub returns-clause-raised : goal.returns-clause-raised
returns-clause-raised g c = let n = c.requires.near in flag_raised _ _ _ _ _ _ c.load.ensures.found c.requires.queue.2 n.0 n.1 c.flag_word.ensures

pub returns-clause-low : goal.returns-clause-low
returns-clause-low g c = let n = c.requires.near in flag_low _ _ _ _ _ _ c.load.ensures.found c.requires.queue.2 n.0 n.1 c.flag_word.ensures

pub returns-clause-not_mine : goal.returns-clause-not_mine
returns-clause-not_mine g c = let n = c.requires.near in flag_not_mine _ _ _ _ _ _ c.load.ensures.found c.requires.queue.2 n.0 n.1 c.flag_word.ensures
