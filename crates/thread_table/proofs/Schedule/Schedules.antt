-- What a schedule leads to.
use Rattle.thread_table.proofs.Common.{◌≡◌, List, [], ◌∷◌, ◌++◌, ◌∙◌, refl, sym, ap, subst, arith, Ok, Result, result_unwrap_or, Elements, schedule_law, IsLawfulElements, Queue, Reaches, State, first_state, step, Event, Refusal, ELEMENTS, QueueGrows, Grows, Begins}
use Rattle.event_theory.proofs.Keeping.Steps.{reaches_more}
use Rattle.event_theory.proofs.Keeping.Accounts.{account_law}
use Rattle.event_theory.specs.Accounts.{IsAccounted}
use Rattle.thread_table.specs.Schedules.{after, begun, state_after, elements_after, IsAllowed}

after_is : (s : State) (events : List Event) (t : State) → Reaches s events t → after s events ≡ t
unfolding after
after_is s [] t r = sym r
after_is s (e ∷ es) t r = ap (λ (z : Result State Refusal). after (result_unwrap_or z s) es) r.1 ∙ after_is r.0 es t r.2

-- one event more
pub after_more : (events : List Event) (event : Event) (t : State) → IsAllowed events → step event (state_after events) ≡ Ok t
    → (state_after (events ++ event ∷ []) ≡ t) × IsAllowed (events ++ event ∷ [])
unfolding state_after IsAllowed
after_more events event t allowed ok =
    let r : Reaches begun (events ++ event ∷ []) t = reaches_more begun events (after begun events) event t allowed ok in
    let is : after begun (events ++ event ∷ []) ≡ t = after_is begun (events ++ event ∷ []) t r in
    (is, subst (Reaches begun (events ++ event ∷ [])) (sym is) r)

allowed_first : (s : State) (past rest : List Event) (t : State) → Reaches s (past ++ rest) t → Reaches s past (after s past)
unfolding after
allowed_first s [] rest t r = refl
allowed_first s (e ∷ es) rest t r = let same : result_unwrap_or (step e s) s ≡ r.0 = ap (λ (z : Result State Refusal). result_unwrap_or z s) r.1 in
    (r.0, r.1, subst (λ (z : State). Reaches r.0 es (after z es)) (sym same) (allowed_first r.0 es rest t r.2))

-- the first of events that were allowed were allowed
pub allowed_before : (past events : List Event) → Begins past events → IsAllowed events → IsAllowed past
unfolding state_after IsAllowed
allowed_before past events b allowed = allowed_first begun past b.0 (after begun events) (subst (λ (z : List Event). Reaches begun z (after begun events)) (sym b.1) allowed)

-- events that were allowed lead from the first state to the one that they are said to lead to
pub reached : (events : List Event) → IsAllowed events → Reaches (first_state ELEMENTS) events (state_after events)
unfolding IsAllowed begun
reached events allowed = allowed

-- which agrees with what they did
pub accounted : (events : List Event) → IsAllowed events → IsAccounted (first_state ELEMENTS) events (state_after events)
accounted events allowed = account_law 64 events (state_after events) (reached events allowed)

-- no event
pub after_none : (state_after [] ≡ first_state ELEMENTS) × IsAllowed []
unfolding state_after IsAllowed after begun
after_none = (refl, refl)

-- what an event makes of the elements is what the elements' event makes
pub elements_after_more : (events : List Event) (event : Event) (t : State) (f : Elements) → t.elements ≡ f → state_after (events ++ event ∷ []) ≡ t → elements_after (events ++ event ∷ []) ≡ f
unfolding elements_after
elements_after_more events event t f is same = ap (λ (z : State). z.elements) same ∙ is

pub elements_of : (events : List Event) → elements_after events ≡ (state_after events).elements
unfolding elements_after
elements_of events = refl

pub lawful_after : (events : List Event) → IsAllowed events → IsLawfulElements (elements_after events)
unfolding elements_after
lawful_after events allowed = (schedule_law 64 events (state_after events) (reached events allowed)).elements

pub queue_refl : (q : Queue) → QueueGrows q q
queue_refl q = record { longer = omega arith; further = omega arith; items = λ run h. refl; raised = λ run h. h }

pub queue_trans : (p q r : Queue) → QueueGrows p q → QueueGrows q r → QueueGrows p r
queue_trans p q r a b = let la = a.longer in let lb = b.longer in let fa = a.further in let fb = b.further in record {
  longer = omega arith;
  further = omega arith;
  items = λ run h. b.items run (omega arith) ∙ a.items run h;
  raised = λ run h. b.raised run (a.raised run h);
}

pub grows_refl : (e : Elements) → Grows e e
grows_refl e ring = queue_refl _

pub grows_trans : (e f g : Elements) → Grows e f → Grows f g → Grows e g
grows_trans e f g a b ring = queue_trans _ _ _ (a ring) (b ring)

after_first : (s : State) (past rest : List Event) (t : State) → Reaches s (past ++ rest) t → Reaches (after s past) rest t
unfolding after
after_first s [] rest t r = r
after_first s (e ∷ es) rest t r = let same : result_unwrap_or (step e s) s ≡ r.0 = ap (λ (z : Result State Refusal). result_unwrap_or z s) r.1 in subst (λ (z : State). Reaches (after z es) rest t) (sym same) (after_first r.0 es rest t r.2)

-- the rest of events that were allowed leads on from what the first of them lead to
pub following : (past rest : List Event) → IsAllowed (past ++ rest) → Reaches (state_after past) rest (state_after (past ++ rest))
unfolding state_after IsAllowed
following past rest allowed = after_first begun past rest (after begun (past ++ rest)) allowed
