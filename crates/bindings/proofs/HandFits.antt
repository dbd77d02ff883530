-- The numbers in a refusal have 32 bits.
use Rattle.bindings.proofs.Calls.{◌≡◌, ◌<◌, ◌+◌, ◌∙◌, ℕ, Bool, Option, Result, Ok, Err, get_or, ap, arith, HeldHand}
use Rattle.std.proofs.Math.Bridge.{le_prop}
use Rattle.thread_table.proofs.Common.{∥∥₁_elim, slice_get-get_or, Queue, empty_queue, tail_word, state_word}
use Rattle.thread_table.proofs.Common.{IsValidHandView, of_hands, ring_at, IsLawfulQueue, IsValidStep, Step}
use Rattle.thread_table.proofs.Common.{Elements, every_at, view_of}
use Rattle.thread_table.specs.Answers.{WasChanged, HasStop, HasSignals}
use Rattle.table_theory.proofs.Reaching.{entries_real}
use Rattle.thread_table.specs.Schedules.{elements_after}
use Rattle.thread_table.proofs.Events.SingleRuns.{within_room}
use Rattle.thread_table.proofs.Schedule.Schedules.{lawful_after}
use Rattle.thread_table.specs.declared.takings.NextRefusal.TheVariants as nexts
use Rattle.bindings.specs.HandStates.{Lost, Started, IsFitState, WasStarted, WasParked, WereDelivered}
use Rattle.bindings.specs.HandTakings.{NextRefusal, IsFit, IsFitBefore, WasTaken, WasTriedBefore}

-- a tail is a position
small_tail : (first ring : ℕ) (e : Step) → ring < 18 → e.word ≡ tail_word ring → IsValidStep (of_hands first) e → e.found < 4294967296
small_tail first ring e below there r =
    let elements : Elements = elements_after e.then.object in
    let q : Queue = ring_at elements ring in
    let shows = r.shows in
    let l = shows.rings ring below in
    let many = shows.queues in
    let lawful : IsLawfulQueue q = every_at IsLawfulQueue elements.rings ring q (slice_get-get_or elements.rings ring (empty_queue 64) (omega arith)) (lawful_after e.then.object r.lawful).rings in
    let room = within_room q 64 lawful l.single l.capacity in let following = room.0 in let bounded = l.bounded in
    let is : e.found ≡ first + q.taken = r.is ∙ (ap (λ (i : ℕ). get_or r.words i 0) there ∙ l.tail) in omega arith

-- a state word
small_state : (first element : ℕ) (e : Step) → element < 64 → e.word ≡ state_word element → IsValidStep (of_hands first) e → e.found < 4294967296
small_state first element e below there r = let shows = r.shows in let small = (shows.states element below).bounded in
    let is : e.found ≡ get_or r.words (state_word element) 0 = r.is ∙ ap (λ (i : ℕ). get_or r.words i 0) there in omega arith

pub fit_taking : (line : ℕ) (x y : HeldHand) (answer : Result ℕ NextRefusal) → line < 18 → WasTaken line answer x y → IsFit answer
fit_taking line x y (Ok element) below a = tt
fit_taking line x y (Err nexts.NoneReady) below a = omega arith
fit_taking line x y (Err (nexts.Lost seen)) below a = let w = view_of y.hand in
    ∥∥₁_elim y.hand.valid le_prop (λ (h : IsValidHandView w). small_tail w.own.first line _ below (λ i. tail_word line)
    (entries_real (of_hands w.own.first) (view_of x.hand) w _ h.list a.1.6.adds).1.1.0)

fit_changed : (Allows : ℕ → Type 0) (element : ℕ) (x y : HeldHand) (seen : ℕ) → element < 64 → WasChanged Allows (view_of x.hand) element seen (view_of y.hand) → seen < 4294967296
fit_changed Allows element x y seen below a = let w = view_of y.hand in
    ∥∥₁_elim y.hand.valid le_prop (λ (h : IsValidHandView w). small_state w.own.first element _ below (λ i. state_word element)
    (entries_real (of_hands w.own.first) (view_of x.hand) w _ h.list a.5.adds).1.0)

pub fit_start : (element : ℕ) (x y : HeldHand) (answer : Result Started Lost) → element < 64 → WasStarted element answer x y → IsFitState answer
fit_start element x y (Ok s) below a = tt
fit_start element x y (Err lost) below a = fit_changed HasStop element x y lost.seen below a.1

pub fit_park : (element : ℕ) (x y : HeldHand) (answer : Result Bool Lost) → element < 64 → WasParked element answer x y → IsFitState answer
fit_park element x y (Ok b) below a = tt
fit_park element x y (Err lost) below a = fit_changed HasStop element x y lost.seen below a.1

pub fit_delivery : (element : ℕ) (x y : HeldHand) (answer : Result ℕ Lost) → element < 64 → WereDelivered element answer x y → IsFitState answer
fit_delivery element x y (Ok mask) below a = tt
fit_delivery element x y (Err lost) below a = fit_changed HasSignals element x y lost.seen below a.1

pub fit_before : (wait head : ℕ) (x y : HeldHand) (answer : Result (Option ℕ) NextRefusal) → wait < 16 → WasTriedBefore wait head answer x y → IsFitBefore answer
fit_before wait head x y (Ok taken) below a = tt
fit_before wait head x y (Err nexts.NoneReady) below a = omega arith
fit_before wait head x y (Err (nexts.Lost seen)) below a = let w = view_of y.hand in
    ∥∥₁_elim y.hand.valid le_prop (λ (h : IsValidHandView w). small_tail w.own.first (wait + 2) _ (omega arith) (λ i. tail_word (wait + 2))
    (entries_real (of_hands w.own.first) (view_of x.hand) w _ h.list a.1.3.6.adds).1.1.1.0)
