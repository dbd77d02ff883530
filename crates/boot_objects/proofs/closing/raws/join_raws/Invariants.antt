use Rattle.boot_objects.proofs.Common.{◌≡◌, ◌+◌, ◌++◌, length, into_iter_items, into_iter_len, TookRaws, ArePartsOf}
use Rattle.boot_objects.proofs.closing.raws.join_raws.Given as goal

abbrev pub invariant-loop-tty : goal.invariant-loop-tty
invariant-loop-tty l = record {
  took : TookRaws (length l.fn.shared.plan.queues) (length l.fn.shared.plan.movers) l.yielded l.initial.parts l.parts;
  parts : ArePartsOf l.fn.shared l.parts;
  raw_is : l.raw ≡ length l.fn.shared.plan.queues + length l.yielded;
  chain_is : l.chain ≡ length l.fn.shared.plan.movers + length l.yielded;
  all : l.yielded ++ into_iter_items l.tty-iterator ≡ l.fn.ttys.items;
  left : into_iter_len l.tty-iterator ≡ length (into_iter_items l.tty-iterator);
}
