-- The first hand of a thread table, and the first seat of meters.
use Rattle.boot_objects.proofs.Common.{◌≡◌, ℕ, zero, suc, ◌<◌, true, false, [], ◌∷◌, get_or, refl, ap, ◌∙◌, arith, None, Meters, MeterSeat, ThreadTable, Hand, get_or-copies, IsFirstHand, IsFirstSeat, repeat}
use Rattle.meters.specs.Own.{SeatView}
use Rattle.meters.specs.Handles as meters
use Rattle.meters.specs.Rules as meter_rules
use Rattle.thread_table.specs.Own.{View}
use Rattle.thread_table.specs.Handles as threads
use Rattle.thread_table.specs.Rules as thread_rules

repeated : {A : Type 0} (x d : A) (n i : ℕ) → i < n → get_or (repeat n (x ∷ [])) i d ≡ x
repeated x d zero i l = absurd (omega arith)
repeated x d (suc n) zero l = refl
repeated x d (suc n) (suc i) l = repeated x d n i (omega arith)

pub first_hand : (table : ThreadTable) (hand : Hand) → threads.first_of table ≡ 0 → threads.view_of hand ≡ thread_rules.newcomer (record { first = 0 }) → IsFirstHand table hand
first_hand table hand first knows = record {
  first = first;
  knows = knows;
  only = ap (λ (v : View). v.member.share) knows;
  holds_none = λ element. ap (λ (v : View). thread_rules.has v element) knows ∙ get_or-copies 64 false element;
  free = λ p below. (ap (λ (v : View). thread_rules.serves v p) knows ∙ repeated true false 8 p below, ap (λ (v : View). thread_rules.running v p) knows ∙ get_or-copies 8 None p);
}

pub first_seat : (table : Meters) (seat : MeterSeat) → meters.first_of table ≡ 0 → meters.view_of seat ≡ meter_rules.newcomer (record { clock = 0 }) → IsFirstSeat table seat
first_seat table seat first knows = record { first = first; knows = knows; only = ap (λ (v : SeatView). v.member.share) knows }
