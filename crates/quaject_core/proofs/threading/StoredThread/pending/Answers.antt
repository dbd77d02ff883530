use Rattle.std.proofs.Common.{arith, refl}
use Rattle.quaject_core.proofs.Lists.Bits.{bits_next, bits_fit, bits_whole}
use Rattle.quaject_core.proofs.threading.StoredThread.pending.Goals as goal

pub overflow_mul-bits : goal.overflow_mul-bits
overflow_mul-bits c = omega (arith, bits_fit c.loop-signal.signal c.loop-signal.bits _ c.args.self.now.pending (omega arith) (omega arith) c.loop-signal.invariant refl)

pub overflow_add-bits : goal.overflow_add-bits
overflow_add-bits c = omega (arith, bits_fit c.loop-signal.signal c.loop-signal.bits c.from.result c.args.self.now.pending (omega arith) (omega arith) c.loop-signal.invariant c.from.ensures)

pub loop-signal-preserved : goal.loop-signal-preserved
loop-signal-preserved c = bits_next c.loop-signal.signal c.loop-signal.bits c.from.result c.args.self.now.pending (omega arith) (omega arith) c.loop-signal.invariant c.from.ensures

pub returns : goal.returns
returns c = bits_whole c.loop-signal.signal c.loop-signal.bits c.args.self.now.pending (omega arith) c.loop-signal.invariant
