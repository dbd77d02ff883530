-- An element that was put on a processor, or taken off it.
use Rattle.turn_dispatch.proofs.Common.{set, View, IsValidHandView, Steady, AddsToTally, no_events, ◌≡◌, ℕ, true, [], ◌∷◌, Some, None, Option, List, refl, ap, PutsOn, TakesOff, KeepsBut}
use Rattle.event_theory.specs.declared.event.Event.TheVariants as events
use Rattle.turn_dispatch.proofs.Calm.{steady_by}
use Rattle.turn_dispatch.proofs.Tallies.{adds_more}

-- the hand after a step on a processor: these elements are on the processors
pub record Placed (on : List (Option ℕ)) (v w : View) : Type 0 where
  pub keeps : KeepsBut on v w
  pub adds : AddsToTally no_events v w
  pub steady : Steady v w

pub put_is : (call p element : ℕ) (v w : View) → v.own.fresh ≡ true → ∥ IsValidHandView v ∥₁ → ∥ IsValidHandView w ∥₁ → PutsOn call p element v w → Placed (set v.own.on p (Some element)) v w
put_is call p element v w up before following a =
    let h = a.3.has in
    let more : AddsToTally no_events v w = adds_more no_events v w (record { event = events.On call p element; number = 0; signals = [] } ∷ []) (ap (λ (z : View). z.own.made) h) refl in
    record {
      keeps = record { first = ap (λ (z : View). z.own.first) h; serves = ap (λ (z : View). z.own.serves) h; on_are = ap (λ (z : View). z.own.on) h; share = ap (λ (z : View). z.member.share) h };
      adds = more;
      steady = steady_by no_events v w (λ e. refl) up before following more a.3.calm;
    }

pub off_is : (call p element : ℕ) (v w : View) → v.own.fresh ≡ true → ∥ IsValidHandView v ∥₁ → ∥ IsValidHandView w ∥₁ → TakesOff call p element v w → Placed (set v.own.on p None) v w
off_is call p element v w up before following a =
    let h = a.3.has in
    let more : AddsToTally no_events v w = adds_more no_events v w (record { event = events.Off call p; number = 0; signals = [] } ∷ []) (ap (λ (z : View). z.own.made) h) refl in
    record {
      keeps = record { first = ap (λ (z : View). z.own.first) h; serves = ap (λ (z : View). z.own.serves) h; on_are = ap (λ (z : View). z.own.on) h; share = ap (λ (z : View). z.member.share) h };
      adds = more;
      steady = steady_by no_events v w (λ e. refl) up before following more a.3.calm;
    }
