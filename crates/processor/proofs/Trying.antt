-- What a step comes to that was tried, by what was done: how it is counted, what its ends did, and what they know.
use Rattle.processor.proofs.Common.{◌≡◌, ◌+◌, ◌<◌, ⊎_elim, ℕ, Bool, true, false, cond, List, [], ◌∷◌, ◌++◌, map, length, refl, sym, ap, subst, ◌∙◌, arith, eqb_tells, append-nil, QueueIndex, Counted, CountAnswer, IsNumber, counted_step, Tally, AddsToTally, followed_by, call_of, view_of, View, done_at, Keeps, StepOutcome, Rescheduled, Shared, Parts, shown_in, is_done, raised_by, saw_shut, FollowsStep, trying, Climbs, Went, numbers_of, Key, program, Goes, is_last, QueueEnds, know_shut, EndsWorked, heard_shut, said_shut, slice_get_within, has, IsFree, Moved, queues_by, QueuesDid, RanStep, adds_on}
use Rattle.std.proofs.lemmas.Bool.{leb-true, and_parts as split}
use Rattle.turn_dispatch.proofs.Calm as calm
use Rattle.turn_dispatch.specs.declared.counting.Counted.TheVariants as counted
use Rattle.processor.specs.declared.step_outcome.StepOutcome.TheVariants as step_outcomes
use Rattle.processor.specs.declared.phases.Moved.TheVariants as moveds
use Rattle.processor.specs.declared.phases.HearAnswer.TheVariants as hears
use Rattle.processor.specs.declared.phases.SayAnswer.TheVariants as says
use Rattle.processor.specs.Entries.{IsOver, count_of, gone}
use Rattle.meters.specs.Handles as seats
use Rattle.processor.proofs.Logging.{known_done}
use Rattle.processor.proofs.Placing.{queues_worked, chains_worked, seat_worked}
use Rattle.processor.proofs.Fitted.{few_steps}
use Rattle.processor.proofs.Rising.{NeverFalls, fallen, rises_on}
use Rattle.processor.proofs.Summing.{none_shows}
use Rattle.processor.proofs.Tallying.{StepAdds, moved_adds, raises_done, step_adds}

-- the end of a queue knows that the queue is shut, if a step was answered so
reported_so : (step_outcome : StepOutcome) (line : List ℕ) (old new : QueueEnds) → QueuesDid step_outcome line old new → (queue : QueueIndex) → saw_shut step_outcome queue ≡ true → know_shut new queue ≡ true
reported_so (step_outcomes.Say queue says.Over) line old new d q at = said_shut queue line old new d q at
reported_so (step_outcomes.Hear queue (hears.Over woken)) line old new d q at = heard_shut queue line old new d q at
reported_so step_outcome line old new d q at = cc

-- a step is counted by its number if it is done
counted_so : (call element : ℕ) (done : Bool) (number : ℕ) (answer : Counted) (did after v w : View) → CountAnswer call element done did answer after → IsNumber answer element v w
    → number ≡ done_at v.seen.object element → number < 64 → answer ≡ count_of done number
counted_so call element true number (counted.Done m) did after v w a is now low = ap counted.Done (is.0 ∙ ap (λ z. z + 1) (sym now))
counted_so call element true number counted.Spent did after v w a is now low = absurd (let p = is.0 in omega arith)
counted_so call element false number counted.Undone did after v w a is now low = refl
counted_so call element done number answer did after v w a is now low = absurd a

-- its number is between
count_climbs : (answer : Counted) (element number t : ℕ) (u v w : View) → NeverFalls u w → NeverFalls v w → number ≡ done_at u.seen.object element → IsNumber answer element u v
    → Climbs (numbers_of t (counted_step answer element number).done) (done_at u.seen.object t) (done_at w.seen.object t)
count_climbs counted.Undone element number t u v w up on now is = up t
count_climbs counted.Spent element number t u v w up on now is = up t
count_climbs (counted.Done m) element number t u v w up on now is = ⊎_elim
    (λ same. subst (λ z. Climbs z (done_at u.seen.object t) (done_at w.seen.object t)) (sym (ap (λ (b : Bool). map (λ (key : Key). key.1) (cond b ((element, number) ∷ []) [])) same.0))
    (let a = ap (done_at u.seen.object) same.1 in let b = ap (done_at w.seen.object) same.1 in let m = is.0 in let n = is.1 in let o = on element in (omega arith, omega arith)))
    (λ other. subst (λ z. Climbs z (done_at u.seen.object t) (done_at w.seen.object t)) (sym (ap (λ (b : Bool). map (λ (key : Key). key.1) (cond b ((element, number) ∷ []) [])) other.0)) (up t))
    (eqb_tells t element)

pub gone_done : (moved : Moved) (e n : ℕ) → (gone moved e n).done ≡ []
gone_done (moveds.Freed true) e n = refl
gone_done (moveds.Freed false) e n = refl
gone_done moved e n = refl

-- after the last step no step is left
over_so : (call : ℕ) (step_outcome : StepOutcome) (done : Bool) (steps e n : ℕ) (moved : Moved) (v w : View) → Goes call step_outcome (is_last done n steps) e moved v w → IsOver moved (n + 1) steps
over_so call step_outcome done steps e n (moveds.Freed moved) v w g = leb-true steps (n + 1) (split done _ g.2).1
over_so call step_outcome done steps e n moved v w g = tt

-- an element that goes to the free ones did one more step
gone_so : (call call' : ℕ) (step_outcome : StepOutcome) (done : Bool) (steps e n : ℕ) (moved : Moved) (answer : Counted) (did after u v w : View) → Goes call step_outcome (is_last done n steps) e moved v w
    → CountAnswer call' e done did answer after → IsNumber answer e u v → n ≡ done_at u.seen.object e → n < 64 → gone moved e (done_at v.seen.object e) ≡ gone moved e (n + 1)
gone_so call call' step_outcome done steps e n (moveds.Freed moved) answer did after u v w g c is now low = ap (gone (moveds.Freed moved) e) (one_more done answer (split done _ g.2).0 c is)
  where
    one_more : (done : Bool) (answer : Counted) → done ≡ true → CountAnswer call' e done did answer after → IsNumber answer e u v → done_at v.seen.object e ≡ n + 1
    one_more true (counted.Done m) d c is = is.1 ∙ (is.0 ∙ ap (λ z. z + 1) (sym now))
    one_more true counted.Spent d c is = absurd (let p = is.0 in omega arith)
    one_more true counted.Undone d c is = absurd c
    one_more false answer d c is = absurd cc
gone_so call call' step_outcome done steps e n moved answer did after u v w g c is now low = refl

-- a step was tried on a processor, and its element moved on after it
module _ (shared : Shared) (p e n : ℕ) (sent : Rescheduled) (line : List ℕ) (old new : Parts) (low : e < 64) (now : n ≡ done_at (view_of old.hand).seen.object e) (held : has (view_of old.hand) e ≡ true) (free : IsFree p (view_of old.hand))
    (r : RanStep shared p e n sent line old new) where
  adds : StepAdds sent.tried.step_outcome sent.tried.counted e (view_of old.hand) (view_of r.stepped)
  adds = step_adds (call_of old.hand) shared.plan p e sent.tried.step_outcome sent.tried.counted old.hand r.stepped low held free r.ran

  moved : calm.Goes (gone sent.moved e (done_at (view_of r.stepped).seen.object e)) (view_of r.stepped) (view_of new.hand)
  moved = moved_adds (call_of old.hand) sent.tried.step_outcome (is_last (is_done sent.tried.step_outcome) n (length (program shared.plan e))) e sent.moved r.stepped new.hand low adds.held r.goes

  few : n < 64
  few = let within = slice_get_within (program shared.plan e) n r.step r.is in let most = few_steps shared.plan e in omega arith

  worked : EndsWorked (queues_by sent.tried.step_outcome line) old.queues new.queues
  worked = queues_worked sent.tried.step_outcome line old.queues new.queues r.ends.queues

  up : NeverFalls (view_of old.hand) (view_of r.stepped)
  up = fallen old.hand r.stepped adds.later

  on : NeverFalls (view_of r.stepped) (view_of new.hand)
  on = fallen r.stepped new.hand moved.later

  abbrev counts : Tally
  counts = counted_step sent.tried.counted e n

  adds_here : AddsToTally (followed_by (raised_by sent.tried.step_outcome) counts) (view_of old.hand) (view_of r.stepped)
  adds_here = subst (λ z. AddsToTally (followed_by (raised_by sent.tried.step_outcome) (counted_step sent.tried.counted e z)) (view_of old.hand) (view_of r.stepped)) (sym now) adds.adds

  more_here : AddsToTally (gone sent.moved e (n + 1)) (view_of r.stepped) (view_of new.hand)
  more_here = subst (λ z. AddsToTally z (view_of r.stepped) (view_of new.hand)) (gone_so (call_of old.hand) (call_of old.hand) sent.tried.step_outcome (is_done sent.tried.step_outcome) (length (program shared.plan e)) e n sent.moved sent.tried.counted r.ran.did r.ran.after (view_of old.hand) (view_of r.stepped) (view_of new.hand) r.goes r.ran.counts adds.number now few) moved.adds

  all : AddsToTally (trying e n sent line).hand (view_of old.hand) (view_of new.hand)
  all = adds_on (followed_by (raised_by sent.tried.step_outcome) counts) (gone sent.moved e (n + 1)) (view_of old.hand) (view_of r.stepped) (view_of new.hand) adds_here more_here

  one : (trying e n sent line).hand.done ≡ counts.done
  one = ap (λ z. (z ++ counts.done) ++ (gone sent.moved e (n + 1)).done) (raises_done sent.tried.step_outcome) ∙ (ap (λ z. counts.done ++ z) (gone_done sent.moved e (n + 1)) ∙ append-nil counts.done)

  pub ran_went : Went (FollowsStep shared.plan e n sent line) (trying e n sent line) (saw_shut sent.tried.step_outcome) old new × Keeps (view_of old.hand) (view_of new.hand)
  ran_went = (
    record {
      planned = record {
        step = r.step;
        is = r.is;
        step_outcome = r.step_outcome;
        counts = counted_so (call_of old.hand) e (is_done sent.tried.step_outcome) n sent.tried.counted r.ran.did r.ran.after (view_of old.hand) (view_of r.stepped) r.ran.counts adds.number now few;
        over = over_so (call_of old.hand) sent.tried.step_outcome (is_done sent.tried.step_outcome) (length (program shared.plan e)) e n sent.moved (view_of r.stepped) (view_of new.hand) r.goes;
      };
      done = record {
        did = λ i. record {
          queues = worked.did i;
          chains = (chains_worked shared.chains.items sent.tried.step_outcome old.chains.items new.chains.items r.ends.chains).0 i;
          hand = all i;
          meters = (seat_worked sent.tried.step_outcome (seats.view_of old.meters) (seats.view_of new.meters) r.ends.seat).0 i;
          heard = r.lines i;
          shown = (ap shown_in r.signals ∙ none_shows (shown_in old.signals)) i;
        };
        order = λ t. subst (λ z. Climbs (numbers_of t z) (known_done old t) (known_done new t)) (sym one)
            (count_climbs sent.tried.counted e n t (view_of old.hand) (view_of r.stepped) (view_of new.hand) (rises_on (view_of old.hand) (view_of r.stepped) (view_of new.hand) up on) on now adds.number);
        queues = worked.sound;
      };
      reported = reported_so sent.tried.step_outcome line old.queues new.queues r.ends.queues;
    },
    calm.keeps_on (view_of old.hand) (view_of r.stepped) (view_of new.hand) adds.keeps moved.keeps,
  )
