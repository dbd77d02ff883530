use Rattle.claim_queue.proofs.Common.{refl, arith, fresh}
use Rattle.claim_queue.proofs.Lawful.{claim_is, store_is, raise_is, take_is, shut_is}
use Rattle.claim_queue.proofs.laws.changes_are_events.Goals as goal

pub returns : goal.returns
returns c = record {
  claimed = claim_is;
  stored = λ word found position item m views seat number index v w e r p l at has below is runs takes later.
      store_is m r.lawful position (fresh item) p (omega arith) views seat number index v w e l at has below is refl runs takes later;
  raised = λ word found position item m views seat number index v w e r p l at has below is runs takes later.
      raise_is m r.lawful position (record { item = item; stage = 1 }) p (omega arith) views seat number index v w e l at has below is runs takes later;
  taken = take_is;
  shut = shut_is;
}
