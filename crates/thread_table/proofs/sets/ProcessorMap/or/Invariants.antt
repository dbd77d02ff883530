use Rattle.thread_table.proofs.Lists.Entries.{ArePut}
use Rattle.thread_table.proofs.Lists.BitSets.{byte_at}
use Rattle.thread_table.proofs.sets.ProcessorMap.or.Given as goal

-- the processors so far have what was on them in either map
abbrev pub invariant-loop-p : goal.invariant-loop-p
invariant-loop-p l = ArePut 0 (byte_at l.initial.bytes l.other-inside.bytes) l.p l.initial.bytes l.bytes
