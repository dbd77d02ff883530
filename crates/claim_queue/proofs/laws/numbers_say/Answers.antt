use Rattle.claim_queue.proofs.Common.{of_queues}
use Rattle.table_theory.proofs.Saying.{ends_say}
use Rattle.claim_queue.proofs.Lawful.{head_says, tail_says, raised_says, low_says, item_says}
use Rattle.claim_queue.proofs.laws.numbers_say.Goals as goal

pub returns : goal.returns
returns c = record {
  ends = ends_say of_queues;
  head = head_says;
  tail = tail_says;
  raised = raised_says;
  low = low_says;
  item = item_says;
}
