-- The queue of clients that agreed on no protocol: every put is allowed.
use Rattle.table_theory.specs.declared.protocol.Free.{Free}
use Rattle.batch_queue.specs.declared.ends.BatchQueue as declared

abbrev pub BatchQueue : Type 0
BatchQueue = declared.BatchQueue Free
