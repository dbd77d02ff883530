-- What a step adds to the tally of its hand, by what the hand did. The views in between are not those of hands.
use Rattle.processor.proofs.Common.{◌≡◌, ◌==◌, ◌+◌, ◌<◌, ◌||◌, ◌&&◌, inl, inr, ℕ, Bool, true, false, List, [], ◌∷◌, Option, Some, None, get_or, set, zero, suc, refl, sym, ap, subst, ◌∙◌, arith, count_by, Keeps, BootPlan, View, view_of, done_at, serves, is_in, CountAnswer, IsNumber, counted_step, Counted, AddsToTally, followed_by, no_events, StepOutcome, is_done, raised_by, Stepped, Goes, not, Begins, Hand, has, IsFree, IsOn, one_step, more_has, retired_goes, sent_goes, waited_goes, own_step, step_counts, step_goes, adds_after, adds_before, adds_more, adds_on, reported_steps, Moved, gone, HandDid, WokeBySay, WokeByHear}
use Rattle.event_theory.specs.declared.event.Event.TheVariants as events
use Rattle.table_theory.proofs.Ends.{begins_trans}
use Rattle.thread_table.specs.Entries.{steps_in, with_event}
use Rattle.thread_table.specs.Layout.{most_done}
use Rattle.thread_table.specs.Schedules.{Past}
use Rattle.thread_table.specs.Views.{quiet}
use Rattle.turn_dispatch.specs.declared.counting.Counted.TheVariants as counted
use Rattle.turn_dispatch.specs.declared.waking.Woken.{Woken}
use Rattle.turn_dispatch.proofs.Calm as calm
use Rattle.turn_dispatch.proofs.OnlyLoads.{counts_looks, signal_goes}
use Rattle.turn_dispatch.proofs.Wakes.{woken_is, resumed_is}
use Rattle.processor.specs.declared.phases.Moved.TheVariants as moveds
use Rattle.processor.specs.declared.step_outcome.StepOutcome.TheVariants as step_outcomes
use Rattle.processor.specs.declared.phases.Ticket.{Ticket}
use Rattle.processor.specs.declared.phases.HearAnswer.{HearAnswer}
use Rattle.processor.specs.declared.phases.HearAnswer.TheVariants as hears
use Rattle.processor.specs.declared.phases.SayAnswer.{SayAnswer}
use Rattle.processor.specs.declared.phases.SayAnswer.TheVariants as says
use Rattle.processor.specs.Pipes.{TicketFor, WokeFor}

-- nothing was done
still : (v w : View) → v.own.fresh ≡ true → w ≡ v → calm.Goes no_events v w
still v w up same = subst (calm.Goes no_events v) (sym same) (calm.looks_none v up).0

ticketed : (wait : Option ℕ) (ticket : Option Ticket) (v w : View) → v.own.fresh ≡ true → TicketFor wait v ticket w → calm.OnlyLoads v w
ticketed None None v w up a = subst (calm.OnlyLoads v) (sym a) (calm.looks_none v up)
ticketed (Some wait) (Some ticket) v w up a = calm.acts_look v w _ a.1.3
ticketed wait ticket v w up a = absurd a

-- those who wait were woken, and the hand holds what it held
woken_for : (call : ℕ) (wait : Option ℕ) (woken : Option Woken) (v w : View) → v.own.fresh ≡ true → WokeFor call wait v woken w
    → calm.Goes no_events v w × ((e : ℕ) → e < 64 → has v e ≡ true → has w e ≡ true)
woken_for call None None v w up a = (still v w up a, λ e low held. ap (λ (z : View). has z e) a ∙ held)
woken_for call (Some wait) (Some woken) v w up a = let k = woken_is call wait woken v w up a in
    (k.0, λ e low held. (k.1 e low).0 ∙ ap (λ (b : Bool). b || (is_in woken.taken e && not (is_in woken.ready e))) held)
woken_for call wait woken v w up a = absurd a

said_goes : (call : ℕ) (wait : Option ℕ) (ticket : Option Ticket) (answer : SayAnswer) (v w : View) → v.own.fresh ≡ true → WokeBySay call wait ticket answer v w → calm.Goes no_events v w
said_goes call wait ticket (says.Put woken) v w up a = (woken_for call wait woken v w up a).0
said_goes call wait ticket says.Over v w up a = still v w up a
said_goes call wait ticket (says.Refused unsaid) v w up a = still v w up a.1

heard_goes : (call : ℕ) (wait : Option ℕ) (ticket : Option Ticket) (answer : HearAnswer) (v w : View) → v.own.fresh ≡ true → WokeByHear call wait ticket answer v w → calm.Goes no_events v w
heard_goes call wait ticket (hears.Taken woken) v w up a = (woken_for call wait woken v w up a).0
heard_goes call wait ticket (hears.Over woken) v w up a = (woken_for call wait woken v w up a).0
heard_goes call wait ticket (hears.Refused unheard) v w up a = still v w up a.1

-- the one try of a step
tried_goes : (call : ℕ) (plan : BootPlan) (o : StepOutcome) (v w : View) → v.own.fresh ≡ true → HandDid call plan o v w → calm.Goes (raised_by o) v w
tried_goes call plan (step_outcomes.Say queue answer) v w up a = let l = ticketed _ a.0 v a.1 up a.2 in
    calm.goes_after no_events v a.1 w l.0 (said_goes call _ a.0 answer a.1 w l.0.calm.fresh a.3) (calm.left v a.1 w l.1)
tried_goes call plan (step_outcomes.Hear queue answer) v w up a = let l = ticketed _ a.0 v a.1 up a.2 in
    calm.goes_after no_events v a.1 w l.0 (heard_goes call _ a.0 answer a.1 w l.0.calm.fresh a.3) (calm.left v a.1 w l.1)
tried_goes call plan (step_outcomes.Wake wait woken) v w up a = (woken_is call wait woken v w up a).0
tried_goes call plan (step_outcomes.Signal thread signal answer) v w up a = (signal_goes call thread signal answer v w a).0
tried_goes call plan (step_outcomes.Stop thread was_clear) v w up a =
    calm.acts_goes no_events v w (with_event (quiet v) (events.Stop call thread)) _ _ record { first = refl; serves = refl; on = refl; share = refl } refl refl a.3
tried_goes call plan (step_outcomes.Start thread answer) v w up a = (resumed_is call thread answer v w a).0
tried_goes call plan (step_outcomes.Close queue was_open readers writers) v w up a = let first = woken_for call _ readers v a.0 up a.1 in
    calm.goes_after no_events v a.0 w first.0 (woken_for call _ writers a.0 w first.0.calm.fresh a.2).0 (λ e low held after. first.1 e low held)
tried_goes call plan o v w up a = still v w up a

-- an element on a processor is there after the try
pub tried_on : (call : ℕ) (plan : BootPlan) (p e : ℕ) (o : StepOutcome) (old : Hand) (w : View) → IsOn p e (view_of old) → HandDid call plan o (view_of old) w → IsOn p e w
tried_on call plan p e o old w on a = calm.still_on p e (view_of old) w (tried_goes call plan o (view_of old) w old.fresh a).keeps on

-- an element's number of steps done before its step was counted, and after it
abbrev IsNumberBy : Counted → ℕ → ℕ → Type 0
IsNumberBy (counted.Done number) before after = (number ≡ before + 1) × (after ≡ number)
IsNumberBy counted.Undone before after = after ≡ before
IsNumberBy counted.Spent before after = (before ≡ most_done) × (after ≡ most_done)

number_is : (answer : Counted) (e : ℕ) (v w : View) (before after : ℕ) → done_at v.seen.object e ≡ before → done_at w.seen.object e ≡ after → IsNumberBy answer before after → IsNumber answer e v w
number_is (counted.Done number) e v w before after a b n = (n.0 ∙ ap (λ z. z + 1) (sym a), b ∙ n.1)
number_is counted.Undone e v w before after a b n = b ∙ (n ∙ sym a)
number_is counted.Spent e v w before after a b n = (a ∙ n.0, b ∙ n.1)

-- the step of an element on a processor was counted, if it is done
record CountDid (e : ℕ) (answer : Counted) (v w : View) : Type 0 where
  goes : calm.Goes (counted_step answer e (steps_in e v.seen.object)) v w
  number : IsNumberBy answer (steps_in e v.seen.object) (steps_in e w.seen.object)

count_did : (call p e : ℕ) (done : Bool) (answer : Counted) (v w : View) → e < 64 → v.own.fresh ≡ true → IsOn p e v → CountAnswer call e done v answer w → CountDid e answer v w
count_did call p e true (counted.Done number) v w low up on c =
    let g = step_goes call e number v w c in
    let there = calm.still_on p e v w g.keeps on in
    let more = calm.steps_more (one_step e c.0) v w e up g.adds g.calm.calm low (inr (p, on.0, on.1)) (inr (p, there.0, there.1)) in
    let one = own_step e c.0 in
    let after = step_counts call e number v w c in
    let same : c.0 ≡ steps_in e v.seen.object = omega arith in
    record { goes = subst (λ (n : ℕ). calm.Goes (one_step e n) v w) same g; number = (c.3 ∙ ap (λ z. z + 1) same, after ∙ sym c.3) }
count_did call p e true counted.Spent v w low up on c =
    let g = (counts_looks e most_done v w c).0 in
    let there = calm.still_on p e v w g.keeps on in
    let more = calm.steps_more no_events v w e up g.adds g.calm.calm low (inr (p, on.0, on.1)) (inr (p, there.0, there.1)) in
    let after : steps_in e w.seen.object ≡ most_done = ap (λ (z : Past). steps_in e z.object) c.2.seen ∙ sym c.1 in
    let before : steps_in e v.seen.object ≡ most_done = omega arith in
    record { goes = g; number = (before, after) }
count_did call p e false counted.Undone v w low up on c = record { goes = still v w up c; number = ap (λ (z : View). steps_in e z.seen.object) c }
count_did call p e done answer v w low up on c = absurd c

pub raises_done : (o : StepOutcome) → (raised_by o).done ≡ []
raises_done (step_outcomes.Signal thread signal answer) = refl
raises_done o = refl

-- an element was put on a processor that had none, and was then taken off again
on_back : (xs : List (Option ℕ)) (p e : ℕ) → get_or xs p None ≡ None → set (set xs p (Some e)) p None ≡ xs
on_back [] p e none = refl
on_back (x ∷ xs) zero e none = ap (λ y. y ∷ xs) (sym none)
on_back (x ∷ xs) (suc p) e none = ap (λ ys. x ∷ ys) (on_back xs p e none)

-- a step that was tried on a processor, and counted
pub record StepAdds (o : StepOutcome) (answer : Counted) (e : ℕ) (v w : View) : Type 0 where
  pub adds : AddsToTally (followed_by (raised_by o) (counted_step answer e (done_at v.seen.object e))) v w
  pub number : IsNumber answer e v w
  pub held : has w e ≡ true
  pub keeps : Keeps v w
  pub later : Begins v.seen.object w.seen.object

pub step_adds : (call : ℕ) (plan : BootPlan) (p e : ℕ) (o : StepOutcome) (answer : Counted) (old new : Hand) → e < 64 → has (view_of old) e ≡ true → IsFree p (view_of old)
    → Stepped call plan p e o answer (view_of old) (view_of new) → StepAdds o answer e (view_of old) (view_of new)
step_adds call plan p e o answer old new low held free s =
    let v = view_of old in
    let w = view_of new in
    let puts = s.puts.3 in
    let takes = s.takes.3 in
    let up : s.on.own.fresh ≡ true = ap (λ (z : View). z.own.fresh) puts.has in
    let on : IsOn p e s.on = (ap (λ (z : View). serves z p) puts.has ∙ free.0, s.puts.1) in
    let tried = tried_goes call plan o s.on s.did up s.does in
    let did : IsOn p e s.did = calm.still_on p e s.on s.did tried.keeps on in
    let count = count_did call p e (is_done o) answer s.did s.after low tried.calm.fresh did s.counts in
    let after : IsOn p e s.after = calm.still_on p e s.did s.after count.goes.keeps did in
    let back : has w e ≡ true = more_has e s.after w s.takes.2 in
    let first : AddsToTally no_events v s.on = adds_more no_events v s.on (record { event = events.On call p e; number = 0; signals = [] } ∷ []) (ap (λ (z : View). z.own.made) puts.has) refl in
    let last : AddsToTally no_events s.after w = adds_more no_events s.after w (record { event = events.Off call p; number = 0; signals = [] } ∷ []) (ap (λ (z : View). z.own.made) takes.has) refl in
    let none : reported_steps e (raised_by o) ≡ 0 = ap (λ (xs : List (ℕ × ℕ)). count_by (λ (d : ℕ × ℕ). d.0 == e) xs) (raises_done o) in
    let a = calm.steps_more no_events v s.on e old.fresh first puts.calm low (inl held) (inr (p, on.0, on.1)) in
    let b = calm.steps_more (raised_by o) s.on s.did e up tried.adds tried.calm.calm low (inr (p, on.0, on.1)) (inr (p, did.0, did.1)) in
    let d = calm.steps_more no_events s.after w e count.goes.calm.fresh last takes.calm low (inr (p, after.0, after.1)) (inl back) in
    let x = calm.done_is v e old.valid in
    let y = calm.done_is w e new.valid in
    let begun : done_at v.seen.object e ≡ steps_in e s.did.seen.object = omega arith in
    let ended : done_at w.seen.object e ≡ steps_in e s.after.seen.object = omega arith in
    let both = calm.keeps_on s.on s.did s.after tried.keeps count.goes.keeps in
    let step = counted_step answer e (steps_in e s.did.seen.object) in
    let all = adds_on (raised_by o) step v s.did s.after (adds_after (raised_by o) v s.on s.did first tried.adds) count.goes.adds in
    record {
      adds = subst (λ (n : ℕ). AddsToTally (followed_by (raised_by o) (counted_step answer e n)) v w) (sym begun) (adds_before (followed_by (raised_by o) step) v s.after w all last);
      number = number_is answer e v w (steps_in e s.did.seen.object) (steps_in e s.after.seen.object) begun ended count.number;
      held = back;
      keeps = record {
        first = ap (λ (z : View). z.own.first) takes.has ∙ (both.first ∙ ap (λ (z : View). z.own.first) puts.has);
        serves = ap (λ (z : View). z.own.serves) takes.has ∙ (both.serves ∙ ap (λ (z : View). z.own.serves) puts.has);
        on = ap (λ (z : View). z.own.on) takes.has ∙ (ap (λ (xs : List (Option ℕ)). set xs p None) (both.on ∙ ap (λ (z : View). z.own.on) puts.has) ∙ on_back v.own.on p e free.1);
        share = ap (λ (z : View). z.member.share) takes.has ∙ (both.share ∙ ap (λ (z : View). z.member.share) puts.has);
      };
      later = begins_trans v.seen.object s.on.seen.object w.seen.object puts.later (begins_trans s.on.seen.object s.did.seen.object w.seen.object tried.later
          (begins_trans s.did.seen.object s.after.seen.object w.seen.object count.goes.later takes.later));
    }

-- an element that moved on after its step
pub moved_adds : (call : ℕ) (o : StepOutcome) (last : Bool) (e : ℕ) (moved : Moved) (old new : Hand) → e < 64 → has (view_of old) e ≡ true → Goes call o last e moved (view_of old) (view_of new)
    → calm.Goes (gone moved e (done_at (view_of old).seen.object e)) (view_of old) (view_of new)
moved_adds call o last e (moveds.Ticketed answer) old new low held g = (waited_goes call g.0.wait e g.0.number answer (view_of old) (view_of new) old.fresh g.2).0
moved_adds call o last e (moveds.Waits moved) old new low held g = sent_goes call _ e moved (view_of old) (view_of new) (λ z. omega arith) old.fresh g.3
moved_adds call o last e (moveds.Freed moved) old new low held g = retired_goes call e moved (view_of old) (view_of new) low old.fresh held old.valid new.valid g.3
moved_adds call o last e (moveds.Ready moved) old new low held g = sent_goes call 0 e moved (view_of old) (view_of new) (λ z. omega arith) old.fresh g.3
