-- A station that a processor can use stays one.
use Rattle.processor.proofs.Common.{◌≡◌, ℕ, false, None, get_or, refl, sym, ap, subst, ◌∙◌, chain_shares, view_of, Keeps, View, Shared, Parts, shares, seat_parted, KeepsStation, AreAtRest, shares_of, AreChainEndsOf, AreSameChainEnds, IsIdle, AreQueueEndsOf, AreSameQueueEnds, same_ends_on, same_ends_still, IsFree, IsSameHand, IsRunnable, All, ArePartsOf, AreSameParts}
use Rattle.meters.specs.Handles as meters
use Rattle.processor.proofs.Rising.{NeverFalls}
use Rattle.processor.proofs.Rooming.{room_kept}

pub same_on : (u v w : Parts) → AreSameParts u v → AreSameParts v w → AreSameParts u w
same_on u v w a b = record {
  hand = (b.hand.0 ∙ a.hand.0, b.hand.1 ∙ a.hand.1);
  queues = same_ends_on u.queues v.queues w.queues a.queues b.queues;
  chains = record { tables = b.chains.tables ∙ a.chains.tables; calls = b.chains.calls ∙ a.chains.calls };
  meters = (b.meters.0 ∙ a.meters.0, b.meters.1 ∙ a.meters.1);
}

pub stays_on : (shared : Shared) (p : ℕ) (u v w : Parts) → KeepsStation shared p u v → KeepsStation shared p v w → KeepsStation shared p u w
stays_on shared p u v w a b = record {
  manned = b.manned;
  same = same_on u v w a.same b.same;
  serves = b.serves ∙ a.serves;
  on = b.on ∙ a.on;
  shares_are = b.shares_are ∙ a.shares_are;
  seat = b.seat ∙ a.seat;
}

pub stays_still : (shared : Shared) (p : ℕ) (parts : Parts) → IsRunnable shared p parts → KeepsStation shared p parts parts
stays_still shared p parts h = record {
  manned = h;
  same = record {
    hand = (refl, refl);
    queues = same_ends_still parts.queues;
    chains = record { tables = refl; calls = refl };
    meters = (refl, refl);
  };
  serves = refl;
  on = refl;
  shares_are = refl;
  seat = refl;
}

pub free_still : (p : ℕ) (v w : View) → w.own.serves ≡ v.own.serves → w.own.on ≡ v.own.on → IsFree p v → IsFree p w
free_still p v w s o h = (ap (λ xs. get_or xs p false) s ∙ h.0, ap (λ xs. get_or xs p None) o ∙ h.1)

-- the ends of queues and chains rest
pub rest_stays : (shared : Shared) (p : ℕ) (old new : Parts) → IsRunnable shared p old → AreAtRest old new → IsSameHand old.hand new.hand → Keeps (view_of old.hand) (view_of new.hand)
    → NeverFalls (view_of old.hand) (view_of new.hand) → meters.IsSameSeat old.meters new.meters → (shares new).meters ≡ (shares old).meters → seat_parted new ≡ seat_parted old
    → KeepsStation shared p old new
rest_stays shared p old new h r hand keeps up meter share seat = record {
  manned = record {
    parts_are = record {
      hand = hand.0 ∙ h.parts_are.hand;
      queues = subst (AreQueueEndsOf shared.queues) (sym r.queues) h.parts_are.queues;
      chains = subst (λ z. AreChainEndsOf shared.chains.items z.items) (sym r.chains) h.parts_are.chains;
      meters = meter.0 ∙ h.parts_are.meters;
    };
    free = free_still p (view_of old.hand) (view_of new.hand) keeps.serves keeps.on h.free;
    room = room_kept shared.plan old new h.room r.heard up;
  };
  same = record {
    hand = hand;
    queues = subst (AreSameQueueEnds old.queues) (sym r.queues) (same_ends_still old.queues);
    chains = subst (λ z. AreSameChainEnds old.chains.items z.items) (sym r.chains) (record { tables = refl; calls = refl });
    meters = meter;
  };
  serves = keeps.serves;
  on = keeps.on;
  shares_are = λ i. record {
    queues = shares_of (r.queues i);
    chains = chain_shares (r.chains i).items;
    hand = keeps.share i;
    meters = share i;
  };
  seat = seat;
}

-- the same ends are those of the same objects
pub parts_still : (shared : Shared) (old new : Parts) → ArePartsOf shared old → AreSameParts old new → All IsIdle new.chains.items → ArePartsOf shared new
parts_still shared old new h same idle = record {
  hand = same.hand.0 ∙ h.hand;
  queues = record { small = same.queues.small.tables ∙ h.queues.small; large = same.queues.large.tables ∙ h.queues.large };
  chains = record { tables = same.chains.tables ∙ h.chains.tables; idle = idle };
  meters = same.meters.0 ∙ h.meters;
}
