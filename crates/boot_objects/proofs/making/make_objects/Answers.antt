use Rattle.boot_objects.proofs.Common.{refl, sym, subst, AreEndsOf, AreChainEndsOf, MeterSeat, Hand, IsFirstHand, IsFirstSeat, IsStock, IsChainStock, opening_shares, device_shares, all_shares, end_shares, AreAllEnds, Shares, both_shares, CanGive}
use Rattle.meters.specs.Handles as meters
use Rattle.thread_table.specs.Handles as threads
use Rattle.boot_objects.specs.Stocks.{shares, chain_shares}
use Rattle.boot_objects.proofs.Summed.{owner_whole, no_hand, no_meters}
use Rattle.boot_objects.proofs.Firsts.{first_hand, first_seat}
use Rattle.boot_objects.proofs.Idle.{ends_of, chain_ends_of, did_nothing}
use Rattle.boot_objects.proofs.making.make_objects.Goals as goal

pub returns-in-Ok-new-3-clause-parts : goal.returns-in-Ok-new-3-clause-parts
returns-in-Ok-new-3-clause-parts c = let e = c.in-Ok-new-3.ensures.ends in let s = c.in-Ok.ensures in let made = c.in-Ok.stocked in record {
  hand = subst (λ (z : Hand). threads.IsHandOf c.in-Ok-new.threads z) (sym e.0) c.in-Ok-new.ensures.0;
  queues = record {
    small = subst (λ z. AreEndsOf made.queues.small.items z.items) (sym e.1) (ends_of made.queues.small.items made.small.items s.small_stock);
    large = subst (λ z. AreEndsOf made.queues.large.items z.items) (sym e.2) (ends_of made.queues.large.items made.large.items s.large_stock);
  };
  chains = subst (λ z. AreChainEndsOf made.chains.items z.items) (sym e.3) (chain_ends_of made.chains.items made.ends.items s.chain_stock);
  meters = subst (λ (z : MeterSeat). meters.IsSeatOf c.in-Ok-new-2.meters z) (sym e.4) c.in-Ok-new-2.ensures.0;
}

pub returns-in-Ok-new-3-clause-hand : goal.returns-in-Ok-new-3-clause-hand
returns-in-Ok-new-3-clause-hand c = let n = c.in-Ok-new.ensures in subst (λ (z : Hand). IsFirstHand c.in-Ok-new.threads z) (sym c.in-Ok-new-3.ensures.ends.0) (first_hand c.in-Ok-new.threads c.in-Ok-new.hand n.1 n.2)

pub returns-in-Ok-new-3-clause-effect : goal.returns-in-Ok-new-3-clause-effect
returns-in-Ok-new-3-clause-effect c = let e = c.in-Ok-new-3.ensures.ends in let s = c.in-Ok.ensures in let made = c.in-Ok.stocked in let n = c.in-Ok-new.ensures in let m = c.in-Ok-new-2.ensures in
    did_nothing made.queues made.chains.items c.in-Ok-new.threads c.in-Ok-new-2.meters c.in-Ok-new-3.station.parts
    (subst (λ z. IsStock made.queues.small.items z.items) (sym e.1) s.small_stock) (subst (λ z. IsStock made.queues.large.items z.items) (sym e.2) s.large_stock) (subst (λ z. IsChainStock made.chains.items z.items) (sym e.3) s.chain_stock)
    (subst (λ (z : Hand). IsFirstHand c.in-Ok-new.threads z) (sym e.0) (first_hand c.in-Ok-new.threads c.in-Ok-new.hand n.1 n.2))
    (subst (λ (z : MeterSeat). IsFirstSeat c.in-Ok-new-2.meters z) (sym e.4) (first_seat c.in-Ok-new-2.meters c.in-Ok-new-2.seat m.1 m.2)) c.in-Ok-new-3.ensures.unused

pub returns-in-Ok-new-3-clause-whole : goal.returns-in-Ok-new-3-clause-whole
returns-in-Ok-new-3-clause-whole c = let e = c.in-Ok-new-3.ensures.ends in let made = c.in-Ok.stocked in let chains = made.chains.items in let devices = made.devices.items in
    let rest : Shares = both_shares (opening_shares chains) (all_shares device_shares devices) in let n = c.in-Ok-new.ensures in let m = c.in-Ok-new-2.ensures in
    let parts = c.in-Ok-new-3.station.parts in
    owner_whole _ parts rest (no_hand chains devices) (no_meters chains devices)
    (subst (λ z. AreAllEnds made.queues chains (both_shares (end_shares z.items parts.queues.large.items parts.chains.items) rest)) (sym e.1)
    (subst (λ z. AreAllEnds made.queues chains (both_shares (end_shares made.small.items z.items parts.chains.items) rest)) (sym e.2)
    (subst (λ z. AreAllEnds made.queues chains (both_shares (end_shares made.small.items made.large.items z.items) rest)) (sym e.3) c.in-Ok.ensures.shares_are)))
    (subst (λ (z : Hand). threads.IsOnlyHand z) (sym e.0) (first_hand c.in-Ok-new.threads c.in-Ok-new.hand n.1 n.2).only)
    (subst (λ (z : MeterSeat). meters.IsOnlySeat z) (sym e.4) (first_seat c.in-Ok-new-2.meters c.in-Ok-new-2.seat m.1 m.2).only)

pub returns-in-Ok-new-3-clause-splits : goal.returns-in-Ok-new-3-clause-splits
returns-in-Ok-new-3-clause-splits c = let e = c.in-Ok-new-3.ensures.ends in let s = c.in-Ok.ensures.splits in
    (subst (λ z. CanGive 1000 (shares z.items)) (sym e.1) s.0, subst (λ z. CanGive 1000 (shares z.items)) (sym e.2) s.1, subst (λ z. CanGive 1000 (chain_shares z.items)) (sym e.3) s.2)

pub returns-in-Ok-new-3-clause-plan : goal.returns-in-Ok-new-3-clause-plan
returns-in-Ok-new-3-clause-plan c = refl

pub returns-in-Ok-new-3-clause-unused : goal.returns-in-Ok-new-3-clause-unused
returns-in-Ok-new-3-clause-unused c = c.in-Ok-new-3.ensures.unused

pub returns-in-Ok-new-3-clause-room : goal.returns-in-Ok-new-3-clause-room
returns-in-Ok-new-3-clause-room c = c.in-Ok-new-3.ensures.room

pub returns-in-Ok-new-3-clause-seat : goal.returns-in-Ok-new-3-clause-seat
returns-in-Ok-new-3-clause-seat c = let m = c.in-Ok-new-2.ensures in subst (λ (z : MeterSeat). IsFirstSeat c.in-Ok-new-2.meters z) (sym c.in-Ok-new-3.ensures.ends.4) (first_seat c.in-Ok-new-2.meters c.in-Ok-new-2.seat m.1 m.2)

pub returns-in-Ok-new-3-clause-begin : goal.returns-in-Ok-new-3-clause-begin
returns-in-Ok-new-3-clause-begin c = c.in-Ok.ensures.begin

pub returns-in-Ok-new-3-clause-quajects : goal.returns-in-Ok-new-3-clause-quajects
returns-in-Ok-new-3-clause-quajects c = c.in-Ok.ensures.quajects

pub returns-in-Ok-new-3-clause-devices : goal.returns-in-Ok-new-3-clause-devices
returns-in-Ok-new-3-clause-devices c = c.in-Ok.ensures.devices_are
