use Rattle.batch_queue.proofs.Eventful.{claim_is, free_is, give_is, part_is, publish_is, shut_is, take_is}
use Rattle.batch_queue.proofs.laws.changes_are_events.Goals as goal

pub returns : goal.returns
returns c = record {
  claimed = λ head items m views seat v w r some_item l at runs takes later. claim_is m views seat v w l at head items r some_item runs takes later;
  published = λ word found a b m views seat number v w e r batch was l at has start end runs takes later. publish_is m views seat v w l at word found a b number e r batch was has start end runs takes later;
  taken = λ tail new m views seat v w r less l at takes runs later. take_is m views seat v w l at tail new r less takes runs later;
  given = λ word found a b m views seat v w r was less l at runs takes later. give_is m views seat v w l at word found a b r was less runs takes later;
  freed = λ free new m views seat v w r l at runs takes later. free_is m views seat v w l at free new r runs takes later;
  parted = λ word found p end m views seat v w r l at runs takes later. part_is m views seat v w l at word found p end r runs takes later;
  shut = λ head m views seat v w r l at runs takes later. shut_is m views seat v w l at head r runs takes later;
}
