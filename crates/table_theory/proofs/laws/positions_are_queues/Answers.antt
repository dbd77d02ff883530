use Rattle.table_theory.proofs.QueueOf.{is_lawful_queue, left_is}
use Rattle.table_theory.proofs.QueueEvents.{claim_event, raised_event, store_event, take_event, shut_event, joined_is}
use Rattle.table_theory.proofs.laws.positions_are_queues.Goals as goal

pub returns : goal.returns
returns c = record {
  lawful = is_lawful_queue;
  left = λ q runs h. left_is q runs h.places;
  claimed = claim_event;
  stored = λ q views seat number index at v w run l here has below is lawful ahead low. store_event q views seat number index at v w run l here has below is lawful ahead low;
  raised = λ q views seat number index at v w run l here has below is lawful ahead low. raised_event q views seat number index at v w run l here has below is lawful ahead low;
  taken = take_event;
  shut = shut_event;
  joined = joined_is;
}
