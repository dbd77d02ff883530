-- The sum of events, one after the other.
use Rattle.turn_dispatch.proofs.Common.{cond, ◌==◌, flat_map-append, append-nil, sum_by-append, is_done, MadeEvent, View, Tally, tally, followed_by, no_events, AddsToTally, step_by, ◌≡◌, ◌+◌, ℕ, List, [], ◌∷◌, ◌++◌, refl, sym, ap, ◌∙◌, subst, arith, count_by, flat_map, append_assoc, sum_by-cons, Event, steps_by}
use Rattle.event_theory.specs.declared.event.Event.TheVariants as events
use Rattle.turn_dispatch.proofs.MadeBy.{done_by, signalled_by, delivered_by, retired_by, taken_by}

pub tally_more : (a b : List MadeEvent) → tally (a ++ b) ≡ followed_by (tally a) (tally b)
tally_more a b = λ i. record {
  done = flat_map-append done_by a b i;
  signalled = flat_map-append signalled_by a b i;
  delivered = flat_map-append delivered_by a b i;
  retired = flat_map-append retired_by a b i;
  taken = flat_map-append taken_by a b i;
}

pub behind_more : (a b c : Tally) → followed_by (followed_by a b) c ≡ followed_by a (followed_by b c)
behind_more a b c = λ i. record {
  done = append_assoc a.done b.done c.done i;
  signalled = append_assoc a.signalled b.signalled c.signalled i;
  delivered = append_assoc a.delivered b.delivered c.delivered i;
  retired = append_assoc a.retired b.retired c.retired i;
  taken = append_assoc a.taken b.taken c.taken i;
}

pub behind_none : (a : Tally) → followed_by a no_events ≡ a
behind_none a = λ i. record {
  done = append-nil a.done i;
  signalled = append-nil a.signalled i;
  delivered = append-nil a.delivered i;
  retired = append-nil a.retired i;
  taken = append-nil a.taken i;
}

-- a hand that made no event adds nothing
pub adds_none : (v w : View) → w.own.made ≡ v.own.made → AddsToTally no_events v w
adds_none v w same = ap tally same ∙ sym (behind_none (tally v.own.made))

pub adds_on : (a b : Tally) (u v w : View) → AddsToTally a u v → AddsToTally b v w → AddsToTally (followed_by a b) u w
adds_on a b u v w x y = y ∙ (ap (λ (t : Tally). followed_by t b) x ∙ behind_more (tally u.own.made) a b)

-- an addition of nothing, before another addition or after it
pub adds_after : (a : Tally) (u v w : View) → AddsToTally no_events u v → AddsToTally a v w → AddsToTally a u w
adds_after a u v w x y = adds_on no_events a u v w x y

pub adds_before : (a : Tally) (u v w : View) → AddsToTally a u v → AddsToTally no_events v w → AddsToTally a u w
adds_before a u v w x y = subst (λ (t : Tally). AddsToTally t u w) (behind_none a) (adds_on a no_events u v w x y)

-- the sum of events that are listed after those before
pub adds_more : (a : Tally) (v w : View) (l : List MadeEvent) → w.own.made ≡ v.own.made ++ l → tally l ≡ a → AddsToTally a v w
adds_more a v w l grew is = ap tally grew ∙ (tally_more v.own.made l ∙ ap (followed_by (tally v.own.made)) is)

-- the steps of an element that a tally reports
abbrev pub reported_steps : ℕ → Tally → ℕ
reported_steps e t = count_by (λ (p : ℕ × ℕ). p.0 == e) t.done

one_told : (e : ℕ) (event : Event) (number : ℕ) → count_by (λ (p : ℕ × ℕ). p.0 == e) (step_by event number) ≡ cond (is_done e event) 1 0
one_told e (events.Done call element) number = sum_by-cons (λ (p : ℕ × ℕ). cond (p.0 == e) 1 0) (element, number) [] ∙ plus_none (cond (element == e) 1 0)
  where
    plus_none : (n : ℕ) → n + 0 ≡ n
    plus_none n = omega arith
one_told e event number = refl

-- they are those that the list reports
pub told_by : (e : ℕ) (made : List MadeEvent) → steps_by e made ≡ reported_steps e (tally made)
told_by e [] = refl
told_by e (m ∷ ms) =
    let a : steps_by e (m ∷ ms) ≡ cond (is_done e m.event) 1 0 + steps_by e ms = sum_by-cons (λ (x : MadeEvent). cond (is_done e x.event) 1 0) m ms in
    let b : reported_steps e (tally (m ∷ ms)) ≡ count_by (λ (p : ℕ × ℕ). p.0 == e) (done_by m) + reported_steps e (tally ms) = sum_by-append (λ (p : ℕ × ℕ). cond (p.0 == e) 1 0) (done_by m) (flat_map done_by ms) in
    let c = one_told e m.event m.number in
    let d = told_by e ms in
    omega arith

-- so the list reports as many more as were added
pub reported_more : (e : ℕ) (a : Tally) (v w : View) → AddsToTally a v w → steps_by e w.own.made ≡ steps_by e v.own.made + reported_steps e a
reported_more e a v w adds =
    let b : reported_steps e (tally w.own.made) ≡ reported_steps e (tally v.own.made) + reported_steps e a = ap (reported_steps e) adds ∙ sum_by-append (λ (p : ℕ × ℕ). cond (p.0 == e) 1 0) (tally v.own.made).done a.done in
    let x = told_by e v.own.made in
    let y = told_by e w.own.made in
    omega arith
