-- How many steps each call makes, and that it makes none for a split or a join.
use Rattle.thread_table.proofs.Common.{◌≡◌, inl, inr, ℕ, zero, suc, ◌+◌, ◌≤◌, Bool, true, false, List, [], ◌∷◌, ◌++◌, ◌∙◌, refl, ap, arith, length, length-append, Result, Ok, Err, Option, Some, None, load, Step, View, Lost, NextRefusal, PerformsEvents, tail_word, MoveAnswer, WaitAnswer, BeforeAnswer, NotifiedNow, IsTicket, StartAnswer, ParkAnswer, DeliverAnswer, ReadPc, DoneAnswer, TakesOff}
use Rattle.thread_table.specs.declared.moves.MoveRefusal.{MoveRefusal}
use Rattle.thread_table.specs.declared.moves.MoveRefusal.TheVariants as moves
use Rattle.thread_table.specs.declared.takings.NextRefusal.TheVariants as nexts
use Rattle.thread_table.specs.declared.states.Signalled.{Signalled}
use Rattle.thread_table.specs.declared.states.Signalled.TheVariants as signalled
use Rattle.thread_table.specs.declared.states.Started.{Started}
use Rattle.thread_table.specs.declared.states.Started.TheVariants as started
use Rattle.thread_table.specs.declared.programs.Spent.{Spent}
use Rattle.thread_table.specs.Answers.{TakesAfter, StoppedNow, SignalAnswer, IsPending, PutsOn}
use Rattle.thread_table.specs.Client.{OnlySteps}

-- the call added so many entries
pub bound_by : (n : ℕ) (v w now : View) (es : List Step) → PerformsEvents v es now w → now.member ≡ v.member → length es ≤ n → OnlySteps n v w
bound_by n v w now es a member few = record {
  steps = (let is = ap (λ (z : List Step). length z) a.adds.entries_are ∙ length-append v.steps es in omega (arith, is, few));
  part = ap (λ (z : View). z.member) a.has ∙ member;
}

together : (n : ℕ) (xs ys : List Step) → length xs + length ys ≤ n → length (xs ++ ys) ≤ n
together n xs ys few = let is = length-append xs ys in omega (arith, is, few)

pub take_bound : (n : ℕ) (before : List Step) (call ring : ℕ) (v w : View) (r : Result ℕ NextRefusal) → length before + 3 ≤ n → TakesAfter before call v ring r w → OnlySteps n v w
take_bound n before call ring v w (Ok element) few (tail, place, r, s, t, up, is, more, acts) = bound_by n v w _ _ acts refl (together n before _ few)
take_bound n before call ring v w (Err nexts.NoneReady) few (tail, place, r, s, t, low, acts) = bound_by n v w _ _ acts refl (together n before _ few)
take_bound n before call ring v w (Err (nexts.Lost seen)) few (tail, place, r, s, t, less, acts) = bound_by n v w _ _ acts refl (together n before _ few)

pub move_bound : (call ring element : ℕ) (v w : View) (r : Result (Unit {0}) MoveRefusal) → MoveAnswer call v ring element r w → OnlySteps 3 v w
move_bound call ring element v w (Ok done) (word, a) = bound_by 3 v w _ _ a.7 refl (omega arith)
move_bound call ring element v w (Err moves.Spent) (word, r, last, acts) = bound_by 3 v w _ _ acts refl (omega arith)
move_bound call ring element v w (Err (moves.Lost seen)) (word, (r, s, low, ne, acts)) = bound_by 3 v w _ _ acts refl (omega arith)
move_bound call ring element v w (Err (moves.Moved mark)) a = absurd a

pub wait_bound : (call wait element ticket : ℕ) (v w : View) (r : Result (Unit {0}) MoveRefusal) → WaitAnswer call v wait element ticket r w → OnlySteps 3 v w
wait_bound call wait element ticket v w (Ok done) (word, is, a) = bound_by 3 v w _ _ a.7 refl (omega arith)
wait_bound call wait element ticket v w (Err moves.Spent) (word, r, last, acts) = bound_by 3 v w _ _ acts refl (omega arith)
wait_bound call wait element ticket v w (Err (moves.Lost seen)) (word, before, is, (r, s, some, ne, acts)) = bound_by 3 v w _ _ acts refl (omega arith)
wait_bound call wait element ticket v w (Err (moves.Moved mark)) (word, r, some, ne, inl (is, acts)) = bound_by 3 v w _ _ acts refl (omega arith)
wait_bound call wait element ticket v w (Err (moves.Moved mark)) (word, r, some, ne, inr (before, seen, s, is, acts)) = bound_by 3 v w _ _ acts refl (omega arith)

pub ticket_bound : (wait ticket : ℕ) (v w : View) → IsTicket v wait ticket w → OnlySteps 1 v w
ticket_bound wait ticket v w (word, r, is, acts) = bound_by 1 v w _ _ acts refl (omega arith)

pub stop_bound : (call element : ℕ) (was : Bool) (v w : View) → StoppedNow call v element was w → OnlySteps 1 v w
stop_bound call element was v w (word, r, is, acts) = bound_by 1 v w _ _ acts refl (omega arith)

pub start_bound : (call element : ℕ) (v w : View) (r : Result Started Lost) → StartAnswer call v element r w → OnlySteps 2 v w
start_bound call element v w (Ok started.NotStopped) a = bound_by 2 v w _ _ a.3 refl (omega arith)
start_bound call element v w (Ok started.Cleared) a = bound_by 2 v w _ _ a.4 refl (omega arith)
start_bound call element v w (Ok started.Held) a = bound_by 2 v w _ _ a.1.4 refl (omega arith)
start_bound call element v w (Err lost) a = bound_by 2 v w _ _ a.5 refl (omega arith)

pub park_bound : (call element : ℕ) (v w : View) (r : Result Bool Lost) → ParkAnswer call v element r w → OnlySteps 2 v w
park_bound call element v w (Ok true) a = bound_by 2 v w _ _ a.1.4 refl (omega arith)
park_bound call element v w (Ok false) a = bound_by 2 v w _ _ a.3 refl (omega arith)
park_bound call element v w (Err lost) a = bound_by 2 v w _ _ a.5 refl (omega arith)

pub signal_bound : (call element signal : ℕ) (v w : View) (r : Signalled) → SignalAnswer call v element signal r w → OnlySteps 1 v w
signal_bound call element signal v w signalled.Raised a = bound_by 1 v w _ _ a.3 refl (omega arith)
signal_bound call element signal v w signalled.Merged a = bound_by 1 v w _ _ a.3 refl (omega arith)

pub pending_bound : (element mask : ℕ) (v w : View) → IsPending v element mask w → OnlySteps 1 v w
pending_bound element mask v w a = bound_by 1 v w _ _ a.3 refl (omega arith)

pub deliver_bound : (call element : ℕ) (v w : View) (r : Result ℕ Lost) → DeliverAnswer call v element r w → OnlySteps 2 v w
deliver_bound call element v w (Ok zero) a = bound_by 2 v w _ _ a.3 refl (omega arith)
deliver_bound call element v w (Ok (suc mask)) a = bound_by 2 v w _ _ a.4 refl (omega arith)
deliver_bound call element v w (Err lost) a = bound_by 2 v w _ _ a.5 refl (omega arith)

pub pc_bound : (n element found : ℕ) (v w : View) → 1 ≤ n → ReadPc element v found w → OnlySteps n v w
pc_bound n element found v w few a = bound_by n v w _ _ a.2 refl (omega (arith, few))

pub step_bound : (call element : ℕ) (v w : View) (r : Result ℕ Spent) → DoneAnswer call v element r w → OnlySteps 2 v w
step_bound call element v w (Ok number) a = bound_by 2 v w _ _ a.6 refl (omega arith)
step_bound call element v w (Err spent) a = pc_bound 2 element 4294967295 v w (omega arith) a

pub on_bound : (call p element : ℕ) (v w : View) → PutsOn call p element v w → OnlySteps 1 v w
on_bound call p element v w a = bound_by 1 v w _ _ a.3 refl (omega arith)

pub off_bound : (call p element : ℕ) (v w : View) → TakesOff call p element v w → OnlySteps 1 v w
off_bound call p element v w a = bound_by 1 v w _ _ a.3 refl (omega arith)

-- the call made no step
pub no_steps : (n : ℕ) (v : View) → OnlySteps n v v
no_steps n v = record { steps = omega arith; part = refl }

pub notify_bound : (call wait head : ℕ) (v w : View) → NotifiedNow call v wait head w → OnlySteps 1 v w
notify_bound call wait head v w a = bound_by 1 v w _ _ a.3 refl (omega arith)

pub before_bound : (call ring head : ℕ) (v w : View) (r : Result (Option ℕ) NextRefusal) → BeforeAnswer call v ring head r w → OnlySteps 4 v w
before_bound call ring head v w (Ok None) a = bound_by 4 v w _ _ a.3 refl (omega arith)
before_bound call ring head v w (Ok (Some element)) a = take_bound 4 (load (tail_word ring) a.0 a.1 ∷ []) call ring v w (Ok element) (omega arith) a.3
before_bound call ring head v w (Err r) a = take_bound 4 (load (tail_word ring) a.0 a.1 ∷ []) call ring v w (Err r) (omega arith) a.3
