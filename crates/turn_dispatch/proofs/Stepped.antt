-- Counting a step.
use Rattle.turn_dispatch.proofs.Common.{inl, inr, cond, sum_by-append, is_done, View, ReadPc, steps_in, MayStep, done_at, IsValidHandView, AddsToTally, no_events, ◌≡◌, ◌≢◌, ⊎_elim, ℕ, ◌+◌, ◌<◌, Bool, true, false, [], ◌∷◌, ◌++◌, get_or, List, None, Ok, refl, sym, ap, ◌∙◌, subst, arith, eqb, eqb_tells, Event, DoneAnswer, with_step, Past, one_step}
use Rattle.event_theory.specs.declared.event.Event.TheVariants as events
use Rattle.turn_dispatch.specs.Countings.{SteadyBut}
use Rattle.turn_dispatch.proofs.Calm.{Goes, acts_goes, acts_held, steps_more, steady, done_is}
use Rattle.turn_dispatch.proofs.OnlyLoads.{counts_looks}
use Rattle.turn_dispatch.proofs.Tallies.{reported_steps}

-- a hand still has an element, if what it has is unchanged
same_may : (v w : View) (e : ℕ) → w.own.held ≡ v.own.held → w.own.serves ≡ v.own.serves → w.own.on ≡ v.own.on → MayStep v e → MayStep w e
same_may v w e held serve stand (inl h) = inl (ap (λ xs. get_or xs e false) held ∙ h)
same_may v w e held serve stand (inr h) = inr (h.0, ap (λ xs. get_or xs h.0 false) serve ∙ h.1, ap (λ xs. get_or xs h.0 None) stand ∙ h.2)

-- the tally of a counted step
pub record StepIs (call element number : ℕ) (v w : View) : Type 0 where
  pub adds : AddsToTally (one_step element (done_at v.seen.object element)) v w
  pub number_is : number ≡ done_at v.seen.object element + 1
  pub done_is : done_at w.seen.object element ≡ number
  pub steady : SteadyBut element v w

-- one more step of the element, if its own event counted it
done_more : (e call number : ℕ) (past : List Event) → steps_in e (past ++ events.Done call e ∷ []) ≡ steps_in e past + reported_steps e (one_step e number)
done_more e call number past = sum_by-append (λ (event : Event). cond (is_done e event) 1 0) past (events.Done call e ∷ [])

pub own_step : (e number : ℕ) → reported_steps e (one_step e number) ≡ 1
own_step e number = ⊎_elim (λ same. ap (λ (b : Bool). 0 + cond b 1 0) same.0) (λ other. absurd (other.1 refl)) (eqb_tells e e)

-- the events after which the step was counted, and what it adds
pub step_counts : (call element number : ℕ) (v w : View) → (c : DoneAnswer call v element (Ok number) w) → steps_in element w.seen.object ≡ c.0 + 1
step_counts call element number v w c =
    let s : steps_in element w.seen.object ≡ steps_in element c.2.object + reported_steps element (one_step element c.0) = ap (λ (z : Past). steps_in element z.object) c.6.seen ∙ done_more element call c.0 c.2.object in
    let o = own_step element c.0 in
    let k = c.5 in
    omega arith

pub step_goes : (call element number : ℕ) (v w : View) → (c : DoneAnswer call v element (Ok number) w) → Goes (one_step element c.0) v w
step_goes call element number v w c = acts_goes (one_step element c.0) v w (with_step v (events.Done call element) c.0) _ _ record { first = refl; serves = refl; on = refl; share = refl } refl refl c.6

-- the number of steps done that was found is that of all that were counted
pub found_steps : (element found : ℕ) (v w : View) → ∥ IsValidHandView w ∥₁ → ReadPc element v found w → found ≡ done_at w.seen.object element
found_steps element found v w reported c = c.1 ∙ (ap (λ (z : Past). steps_in element z.object) (sym c.2.seen) ∙ sym (done_is w element reported))

pub spent_is : (element found : ℕ) (v w : View) → element < 64 → v.own.fresh ≡ true → MayStep v element → ∥ IsValidHandView v ∥₁ → ∥ IsValidHandView w ∥₁ → ReadPc element v found w → done_at v.seen.object element ≡ found
spent_is element found v w low up may before following c =
    let g = counts_looks element found v w c in
    let s = steps_more no_events v w element up g.0.adds g.0.calm.calm low may (same_may v w element g.1 g.0.keeps.serves g.0.keeps.on may) in
    let f = found_steps element found v w following c in
    let x = done_is v element before in
    let y = done_is w element following in
    omega arith

pub steady_spent : (element found : ℕ) (v w : View) → v.own.fresh ≡ true → ∥ IsValidHandView v ∥₁ → ∥ IsValidHandView w ∥₁ → ReadPc element v found w → SteadyBut element v w
steady_spent element found v w up before following c e low other may after = steady no_events v w (λ x. refl) up before following (counts_looks element found v w c).0 e low may after

pub step_is : (call element number : ℕ) (v w : View) → element < 64 → v.own.fresh ≡ true → MayStep v element → ∥ IsValidHandView v ∥₁ → ∥ IsValidHandView w ∥₁ → DoneAnswer call v element (Ok number) w → StepIs call element number v w
step_is call element number v w low up may before following c = record {
  adds = subst (λ (n : ℕ). AddsToTally (one_step element n) v w) known goes.adds;
  number_is = let k = known in omega (arith, c.3, k);
  done_is = now ∙ sym c.3;
  steady = λ e below other has after.
      let m = steps_more (one_step element c.0) v w e up goes.adds goes.calm.calm below has after in
      let n = none e other in
      let x = done_is v e before in
      let y = done_is w e following in
      omega arith;
}
  where
    goes : Goes (one_step element c.0) v w
    goes = step_goes call element number v w c

    still : MayStep w element
    still = same_may v w element (acts_held v w (with_step v (events.Done call element) c.0) _ c.6) goes.keeps.serves goes.keeps.on may

    now : done_at w.seen.object element ≡ c.0 + 1
    now = done_is w element following ∙ step_counts call element number v w c

    known : c.0 ≡ done_at v.seen.object element
    known =
        let m = steps_more (one_step element c.0) v w element up goes.adds goes.calm.calm low may still in
        let o = own_step element c.0 in
        let x = done_is v element before in
        let y = done_is w element following in
        let n = now in
        omega arith

    none : (e : ℕ) → e ≢ element → reported_steps e (one_step element c.0) ≡ 0
    none e other = ⊎_elim (λ (same : (eqb element e ≡ true) × (element ≡ e)). absurd (other (sym same.1))) (λ (differ : (eqb element e ≡ false) × (element ≢ e)). ap (λ (b : Bool). 0 + cond b 1 0) differ.0) (eqb_tells element e)
