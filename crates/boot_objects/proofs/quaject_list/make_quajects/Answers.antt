use Rattle.boot_objects.proofs.Common.{rules, refl, ◌+◌, ◌*◌, ℕ, subst, sym, arith, IsReady, Small, Large, Shares, quaject_shares, IsPlannedAt}
use Rattle.boot_objects.proofs.Lists.{each_pushed, long_pushed, all_pushed, gave_pushed}
use Rattle.boot_objects.proofs.quaject_list.make_quajects.Goals as goal

pub loop-number-preserved : goal.loop-number-preserved
loop-number-preserved c = let v = c.loop-number.invariant.made in let m = c.make_quaject.ensures in let is = c.push_reserved.ensures.items in let xs = c.loop-number.quajects.items in let x = c.make_quaject.result in record {
  room = search rules;
  made = record {
    small_stock = m.small_stock;
    large_stock = m.large_stock;
    number = let long = long_pushed xs c.push_reserved.new.self.items x is in let n = v.number in omega (arith, long, n);
    kinds = each_pushed (IsPlannedAt c.args.plan.now) xs c.push_reserved.new.self.items x is v.kinds (subst (λ (z : ℕ). IsPlannedAt c.args.plan.now z x) (sym v.number) m.kind);
    ready = all_pushed (IsReady c.args.queues.now) xs c.push_reserved.new.self.items x is v.ready m.ready;
    small_gave = gave_pushed quaject_shares (λ (s : Shares) q. s.queues (Small q)) (λ s t q. refl) (c.loop-number.number * 6) 6 ((c.loop-number.number + 1) * 6) xs c.push_reserved.new.self.items x is (omega arith) v.small_gave m.small_gave;
    large_gave = gave_pushed quaject_shares (λ (s : Shares) q. s.queues (Large q)) (λ s t q. refl) (c.loop-number.number * 6) 6 ((c.loop-number.number + 1) * 6) xs c.push_reserved.new.self.items x is (omega arith) v.large_gave m.large_gave;
  };
}
