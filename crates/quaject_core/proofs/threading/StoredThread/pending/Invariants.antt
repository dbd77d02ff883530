use Rattle.quaject_core.proofs.Common.{◌≡◌, ◌-◌, set_of, bits_from}
use Rattle.quaject_core.proofs.threading.StoredThread.pending.Given as goal

-- The bits from the last signal that was seen on.
abbrev pub invariant-loop-signal : goal.invariant-loop-signal
invariant-loop-signal l = l.bits ≡ bits_from (16 - l.signal) l.signal (set_of l.fn.self.pending)
