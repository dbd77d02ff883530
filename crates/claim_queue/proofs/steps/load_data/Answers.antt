use Rattle.claim_queue.proofs.Common.{arith, mod-lt, ◌<◌, ◌%◌}
use Rattle.claim_queue.proofs.Reading.{data_item}
use Rattle.claim_queue.proofs.steps.load_data.Goals as goal

pub load-requires-clause-queue : goal.load-requires-clause-queue
load-requires-clause-queue g c = let q = c.requires.queue in let wide = q.3 in let near : c.args.position % c.args.room < c.args.room = mod-lt c.args.position q.4 in (q.0, omega arith)

pub returns-clause-item : goal.returns-clause-item
returns-clause-item g c = let n = c.requires.near in data_item _ _ _ _ _ _ c.load.ensures.found c.requires.queue.2 n.0 n.1 c.data_word.ensures c.requires.raised
