-- The work of a seat of the meters.
use Rattle.processor.proofs.Common.{◌≡◌, ℕ, List, [], ◌∷◌, Result, sym, ap, ◌∙◌, append-nil, Alarm, tick_to, nothing_did, did_both, DidTend, SeatView, Own, DidTick}
use Rattle.meters.specs.declared.gauges.AdvanceRefusal.{AdvanceRefusal}
use Rattle.processor.proofs.Summing.{dids_add}

-- the alarms were tended
pub tended_ticks : (advanced : Result ℕ AdvanceRefusal) (fired : List Alarm) (v w : SeatView) → DidTend advanced fired v w
    → w.own ≡ did_both v.own (record nothing_did { advances = tick_to advanced; fired = fired })
tended_ticks advanced fired v w h = λ i. record {
  ticks = (ap (λ (o : Own). o.ticks) h ∙ sym (append-nil v.own.ticks)) i;
  advances = (h i).advances;
  set = (ap (λ (o : Own). o.set) h ∙ sym (append-nil v.own.set)) i;
  fired = (h i).fired;
  cancelled = (ap (λ (o : Own). o.cancelled) h ∙ sym (append-nil v.own.cancelled)) i;
}

-- the seat's own other parts are unchanged
pub record Remains (v w : SeatView) : Type 0 where
  pub share : w.member.share ≡ v.member.share
  pub parted : ◌≡◌ {A = ℕ × ℕ} (w.member.splits, w.member.joins) (v.member.splits, v.member.joins)

pub tended_remains : (advanced : Result ℕ AdvanceRefusal) (fired : List Alarm) (v w : SeatView) → DidTend advanced fired v w → Remains v w
tended_remains advanced fired v w h = record { share = λ i. (h i).share; parted = λ i. ((h i).splits, (h i).joins) }

-- a gauge was ticked
pub did_tick : (gauge amount : ℕ) (v w : SeatView) → DidTick gauge amount v w → w.own ≡ did_both v.own (record nothing_did { ticks = record { gauge = gauge; amount = amount } ∷ [] })
did_tick gauge amount v w h = λ i. record {
  ticks = (h i).ticks;
  advances = (ap (λ (o : Own). o.advances) h ∙ sym (append-nil v.own.advances)) i;
  set = (ap (λ (o : Own). o.set) h ∙ sym (append-nil v.own.set)) i;
  fired = (ap (λ (o : Own). o.fired) h ∙ sym (append-nil v.own.fired)) i;
  cancelled = (ap (λ (o : Own). o.cancelled) h ∙ sym (append-nil v.own.cancelled)) i;
}

-- nothing was done
pub did_none : (v w : SeatView) → w ≡ v → w.own ≡ did_both v.own nothing_did
did_none v w h = ap (λ (z : SeatView). z.own) h ∙ sym (dids_add.none_last v.own)
