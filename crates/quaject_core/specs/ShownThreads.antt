-- The thread element that the machine stores.
use Rattle.event_theory.specs.Elements.{Thread}
use Rattle.quaject_core.specs.Layout.{set_of}
use Rattle.quaject_core.specs.declared.threading.StoredThread.{StoredThread}

-- the element that a stored element represents
abbrev pub thread : StoredThread → Thread
thread stored = record {
  pending = set_of stored.pending;
  done = stored.done;
  stop = stored.stop;
  parked = stored.parked;
}
