use Rattle.pool.proofs.Common.{◌≡◌, all_buffers}
use Rattle.pool.proofs.pool.all_buffers.Given as goal

abbrev pub invariant-loop-buffer : goal.invariant-loop-buffer
invariant-loop-buffer l = l.buffers.items ≡ all_buffers l.buffer
