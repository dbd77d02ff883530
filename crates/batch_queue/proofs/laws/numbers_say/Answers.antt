use Rattle.batch_queue.proofs.Common.{of_batches}
use Rattle.table_theory.proofs.Saying.{ends_say}
use Rattle.batch_queue.proofs.Reporting.{free_says, given_says, head_says, mark_is, not_given_says, not_published_says, parted_says, published_says, tail_says}
use Rattle.batch_queue.proofs.laws.numbers_say.Goals as goal

pub returns : goal.returns
returns c = record {
  ends = ends_say of_batches;
  head = head_says;
  tail = tail_says;
  free = free_says;
  mark = mark_is;
  published = published_says;
  not_published = not_published_says;
  parted = parted_says;
  given = given_says;
  not_given = not_given_says;
}
