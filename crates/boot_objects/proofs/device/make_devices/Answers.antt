use Rattle.boot_objects.proofs.Common.{rules, refl, ◌+◌, ℕ, List, length, subst, sym, arith, PlannedMover, PlannedQueue, ClaimQueue, Small, Shares, device_shares, IsStock, IsDevice, IsDeviceOf}
use Rattle.boot_objects.proofs.Lists.{each_pushed, long_pushed, gave_pushed}
use Rattle.boot_objects.proofs.device.make_devices.Goals as goal

pub loop-tty-preserved : goal.loop-tty-preserved
loop-tty-preserved c = let v = c.loop-tty.invariant.made in let m = c.in_ok-make_device.ensures in let is = c.push_reserved.ensures.items in let device = c.in_ok-make_device.field-0 in
    let plan = c.args.plan.now in let tty = c.loop-tty.tty in let chains = c.args.chains.now in let queues = c.args.queues.now in
    let its : IsDeviceOf plan queues chains tty device
    = subst (λ (z : List PlannedMover). IsDevice queues.small.items chains (length plan.queues + tty) (length z + tty) device) c.as_slice-first_chain.ensures
    (subst (λ (z : List PlannedQueue). IsDevice queues.small.items chains (length z + tty) (length c.as_slice-first_chain.result.now + tty) device) c.as_slice-first_raw.ensures
    (subst (λ (z : List (ClaimQueue 64)). IsDevice z chains (length c.as_slice-first_raw.result.now + tty) (length c.as_slice-first_chain.result.now + tty) device) c.as_slice-list.ensures.value m.its)) in record {
      room = search rules;
      made = record {
        stock = subst (λ (z : List (ClaimQueue 64)). IsStock z c.make_device.new.small.items) c.as_slice-list.ensures.value m.stock;
        chain_stock = m.chain_stock;
        number = let long = long_pushed c.loop-tty.devices.items c.push_reserved.new.self.items device is in let n = v.number in omega (arith, long, n);
        each = each_pushed (IsDeviceOf plan queues chains) c.loop-tty.devices.items c.push_reserved.new.self.items device is v.each (subst (λ (z : ℕ). IsDeviceOf plan queues chains z device) (sym v.number) its);
        gave = gave_pushed device_shares (λ (s : Shares) q. s.queues (Small q)) (λ s t q. refl) tty 1 (tty + 1) c.loop-tty.devices.items c.push_reserved.new.self.items device is (omega arith) v.gave m.gave;
        chain_gave = gave_pushed device_shares (λ (s : Shares) q. s.chains q) (λ s t q. refl) tty 1 (tty + 1) c.loop-tty.devices.items c.push_reserved.new.self.items device is (omega arith) v.chain_gave m.chain_gave;
      };
    }
