use Rattle.boot_objects.proofs.Common.{◌≡◌, ◌+◌, ◌*◌, ℕ, length, refl, sym, ap, subst, arith, AllZip-long, Small, Large, stakes, chain_stakes, end_share, chain_end_share, share_at, chain_share_at, Shares, both_shares, MadeDevices, quaject_shares, device_shares, all_shares, quajects_of, opening_shares, end_shares, IsIdleEnd, IsIdleChainEnd, AreQuajectsOf}
use Rattle.boot_objects.specs.Stocks.{shares, chain_shares}
use Rattle.boot_objects.proofs.Dealing.{can_then, gave_more}
use Rattle.boot_objects.proofs.Fresh.{can_whole, whole_here}
use Rattle.boot_objects.proofs.Plans.{few_movers, few_ttys}
use Rattle.boot_objects.proofs.Summed.{share_is, chain_share_is, none_together, all_ends}
use Rattle.boot_objects.proofs.stocked.make_stocked.Goals as goal

pub make_quajects-requires-clause-parts : goal.make_quajects-requires-clause-parts
make_quajects-requires-clause-parts c = let n = c.in_ok-queues.ensures in
    (can_whole end_share 64 c.in_ok-queues.small.items (omega arith) n.small_whole, can_whole end_share 64 c.in_ok-queues.large.items (omega arith) n.large_whole)

pub make_devices-requires-clause-parts : goal.make_devices-requires-clause-parts
make_devices-requires-clause-parts c = let n = c.in_ok-queues.ensures in let few = few_movers c.args.plan.now in let many : ℕ = length c.args.plan.now.movers + length c.args.plan.now.ttys in (
  can_then (many * 6) 8 64 _ (shares c.in_ok-queues.small.items) (shares c.make_quajects.new.small.items) (omega (arith, few)) (can_whole end_share 64 c.in_ok-queues.small.items (omega arith) n.small_whole) c.in_ok-quajects.ensures.small_gave,
  can_whole chain_end_share 8 c.in_ok-chains.ends.items (omega arith) c.in_ok-chains.ensures.whole,
)

pub returns : goal.returns
returns c =
    let n = c.in_ok-queues.ensures in let q = c.in_ok-quajects.ensures in let m = c.in_ok-chains.ensures in
    let plan = c.args.plan.now in let few = few_movers plan in let ttys = few_ttys plan in let many : ℕ = length plan.movers + length plan.ttys in
    let queues = c.in_ok-queues.queues in let chains = c.in_ok-chains.chains.items in let quajects = c.in_ok-quajects.quajects.items in let devices = c.in_ok-devices.devices.items in
    let d : MadeDevices c.args.plan.now queues chains (length c.args.plan.now.ttys) c.make_quajects.new.small.items c.make_devices.new.small.items c.in_ok-chains.ends.items c.make_devices.new.ends.items c.in_ok-devices.devices.items
    = subst (λ z. MadeDevices c.args.plan.now queues z (length c.args.plan.now.ttys) c.make_quajects.new.small.items c.make_devices.new.small.items c.in_ok-chains.ends.items c.make_devices.new.ends.items c.in_ok-devices.devices.items) c.as_slice-list.ensures.value c.in_ok-devices.ensures in
    record {
      sizes = n.sizes;
      begin = record { small_begin = n.small_firsts; large_begin = n.large_firsts; chains_begin = m.firsts };
      over = m.over;
      small_stock = d.stock;
      large_stock = q.large_stock;
      chain_stock = d.chain_stock;
      quajects = subst (AreQuajectsOf c.args.plan.now queues) (sym m.openings) (record { number = q.number; kinds = q.kinds; ready = q.ready });
      devices_are = record { number = d.number; each = d.each };
      splits = (
        can_then 2 1000 1002 _ (shares c.make_quajects.new.small.items) (shares c.make_devices.new.small.items) (omega arith)
            (can_then 36 1002 1038 _ (shares c.in_ok-queues.small.items) (shares c.make_quajects.new.small.items) (omega arith) (can_whole end_share 1038 c.in_ok-queues.small.items (omega arith) n.small_whole) (gave_more (many * 6) 36 (omega (arith, few)) q.small_gave))
            (gave_more (length plan.ttys) 2 ttys d.gave),
        can_then 36 1000 1036 _ (shares c.in_ok-queues.large.items) (shares c.make_quajects.new.large.items) (omega arith) (can_whole end_share 1036 c.in_ok-queues.large.items (omega arith) n.large_whole) (gave_more (many * 6) 36 (omega (arith, few)) q.large_gave),
        can_then 2 1000 1002 _ (chain_shares c.in_ok-chains.ends.items) (chain_shares c.make_devices.new.ends.items) (omega arith) (can_whole chain_end_share 1002 c.in_ok-chains.ends.items (omega arith) m.whole) (gave_more (length plan.ttys) 2 ttys d.chain_gave),
      );
      shares_are = all_ends queues chains (both_shares (end_shares c.make_devices.new.small.items c.make_quajects.new.large.items c.make_devices.new.ends.items) (both_shares (opening_shares chains) (all_shares device_shares devices)))
          (λ i l.
          let long = AllZip-long IsIdleEnd queues.small.items c.in_ok-queues.small.items n.small_stock in
          let whole = whole_here end_share c.in_ok-queues.small.items n.small_whole i (omega (arith, long, l)) in
          let one = q.small_gave.rest i in let two = d.gave.rest i in
          let last : (stakes c.make_devices.new.small.items i).share ≡ share_at c.make_devices.new.small.items i = share_is c.make_devices.new.small.items i in
          let same : (opening_shares chains).queues (Small i) ≡ (all_shares quaject_shares quajects).queues (Small i) = ap (λ z. (all_shares quaject_shares z).queues (Small i)) m.openings in omega (arith, whole, one, two, last, same))
          (λ i l.
          let long = AllZip-long IsIdleEnd queues.large.items c.in_ok-queues.large.items n.large_stock in
          let whole = whole_here end_share c.in_ok-queues.large.items n.large_whole i (omega (arith, long, l)) in
          let one = q.large_gave.rest i in
          let none : (all_shares device_shares devices).queues (Large i) ≡ 0 = none_together device_shares (λ (s : Shares). s.queues (Large i)) refl (λ s t. refl) (λ x. refl) devices in
          let last : (stakes c.make_quajects.new.large.items i).share ≡ share_at c.make_quajects.new.large.items i = share_is c.make_quajects.new.large.items i in
          let same : (opening_shares chains).queues (Large i) ≡ (all_shares quaject_shares quajects).queues (Large i) = ap (λ z. (all_shares quaject_shares z).queues (Large i)) m.openings in omega (arith, whole, one, none, last, same))
          (λ k l.
          let long = AllZip-long IsIdleChainEnd chains c.in_ok-chains.ends.items m.stock in
          let whole = whole_here chain_end_share c.in_ok-chains.ends.items m.whole k (omega (arith, long, l)) in
          let one = d.chain_gave.rest k in
          let none : (opening_shares chains).chains k ≡ 0 = none_together quaject_shares (λ (s : Shares). s.chains k) refl (λ s t. refl) (λ x. refl) (quajects_of chains) in
          let last : (chain_stakes c.make_devices.new.ends.items k).share ≡ chain_share_at c.make_devices.new.ends.items k = chain_share_is c.make_devices.new.ends.items k in omega (arith, whole, one, none, last));
    }
