use Rattle.claim_queue.proofs.Common.{arith, fresh}
use Rattle.claim_queue.proofs.Historic.{claim_has, store_has, raise_has, take_has, shut_has}
use Rattle.table_theory.proofs.Histories.{some_history}
use Rattle.claim_queue.proofs.laws.changes_are_events_of_histories.Goals as goal

pub returns : goal.returns
returns c = record {
  history = λ e r. some_history e.then.object;
  claimed = claim_has;
  stored = λ word found position item m runs r p h. store_has m runs h r.lawful position (fresh item) p (omega arith);
  raised = λ word found position item m runs r p h. raise_has m runs h r.lawful position (record { item = item; stage = 1 }) p (omega arith);
  taken = take_has;
  shut = shut_has;
}
