use Rattle.boot_objects.proofs.Common.{arith, ◌+◌, ◌∷◌, ◌++◌, [], length, sym, ap, ◌∙◌, append_assoc, length_push, into_iter_items}
use Rattle.boot_objects.proofs.RawGains.{raws_more, next_at, took_at, raw_at}
use Rattle.boot_objects.proofs.closing.raws.join_raws.Goals as goal

pub join_raw-requires-clause-its : goal.join_raw-requires-clause-its
join_raw-requires-clause-its c = let v = c.loop-tty.invariant in let k = length c.loop-tty.yielded in
    raw_at c.args.shared.now c.loop-tty.raw (length c.args.shared.now.plan.queues + k) c.loop-tty.chain (length c.args.shared.now.plan.movers + k) c.in-Some.tty v.raw_is v.chain_is
    (c.requires.ttys k c.in-Some.tty (next_at c.loop-tty.yielded c.in-Some.tty (into_iter_items c.next.new.self) c.args.ttys.items (ap (λ z. c.loop-tty.yielded ++ z) (sym c.in-Some.ensures.steps.0) ∙ v.all)))

pub loop-tty-preserved : goal.loop-tty-preserved
loop-tty-preserved c = let v = c.loop-tty.invariant in let k = length c.loop-tty.yielded in let more = length_push c.loop-tty.yielded c.in-Some.tty in record {
  took = raws_more (length c.args.shared.now.plan.queues) (length c.args.shared.now.plan.movers) c.loop-tty.yielded c.in-Some.tty c.args.parts.now c.loop-tty.parts c.join_raw.new.parts v.took
      (took_at (length c.args.shared.now.plan.queues + k) c.loop-tty.raw (length c.args.shared.now.plan.movers + k) c.loop-tty.chain (c.in-Some.tty ∷ []) c.loop-tty.parts c.join_raw.new.parts v.raw_is v.chain_is c.join_raw.ensures.took);
  parts = c.join_raw.ensures.parts;
  raw_is = let was = v.raw_is in omega arith;
  chain_is = let was = v.chain_is in omega arith;
  all = append_assoc c.loop-tty.yielded (c.in-Some.tty ∷ []) (into_iter_items c.next.new.self) ∙ (ap (λ z. c.loop-tty.yielded ++ z) (sym c.in-Some.ensures.steps.0) ∙ v.all);
  left = let was = v.left in let gone = c.in-Some.ensures.steps.1 in let short = ap length c.in-Some.ensures.steps.0 in omega arith;
}
