use Rattle.table_theory.proofs.Histories.{some_history}
use Rattle.batch_queue.specs.Placed.{positions_of}
use Rattle.batch_queue.proofs.Historic.{claim_has, free_has, give_has, part_has, publish_has, publish_run_has, shut_has, take_has}
use Rattle.batch_queue.proofs.laws.changes_are_events_of_histories.Goals as goal

pub returns : goal.returns
returns c = record {
  history = λ e r. some_history (positions_of e.then.object);
  claimed = λ head call number items m runs r some_item h. claim_has m runs h head call number items r some_item;
  published = λ word found a b m runs r batch was h. publish_has m runs h word found a b r batch was;
  published_run = λ word found a b k m runs e r batch was h has start end. publish_run_has m runs h word found a b r batch was k e has start end;
  taken = λ tail new m runs r less h. take_has m runs h tail new r less;
  given = λ word found a b m runs r was less h. give_has m runs h word found a b r was less;
  freed = λ free new m runs r h. free_has m runs h free new r;
  parted = λ word found p end m runs r h. part_has m runs h word found p end r;
  shut = λ head m runs r h. shut_has m runs h head r;
}
