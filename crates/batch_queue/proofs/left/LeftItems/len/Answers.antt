use Rattle.batch_queue.proofs.Common.{sym}
use Rattle.table_theory.proofs.Reading.{read_length}
use Rattle.batch_queue.proofs.left.LeftItems.len.Goals as goal

pub returns : goal.returns
returns c = sym (read_length _ c.args.self.now.start c.args.self.now.count)
