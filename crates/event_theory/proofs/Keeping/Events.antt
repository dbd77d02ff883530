-- What each event does to pending signals, steps done and alarms.
use Rattle.std.proofs.Common.{◌≡◌, ◌≢◌, ℕ, ◌+◌, ◌%◌, Bool, true, false, not, ◌&&◌, ◌||◌, cond, List, [], ◌∷◌, ◌++◌, ◌∙◌, set, refl, sym, ap, subst, eqb, ltb, ◌==◌, append-nil, arith, Option, Some, None, slice_get, ok_or, Result, Ok, ◌⊎◌, inl, inr}
use Rattle.std.proofs.lemmas.Bool.Decides.{eqb_tells, nat_tests}
use Rattle.std.specs.List.{list_any, position}
use Rattle.event_theory.specs.Accounts.{pending_in, done_in, delivered, one_alarm}
use Rattle.event_theory.specs.Results.{◌>>=◌, refused_if, at, change_at}
use Rattle.event_theory.specs.Queues.{claim, raise, take_first}
use Rattle.event_theory.specs.Chains.{with_number}
use Rattle.event_theory.specs.Elements.{Elements, Thread, let_go, let_all_go, put_by, is_busy, holds, is_put, change_thread, claim_element, raise_element, take_element, put_on, take_off, stop, park, start, signal, deliver, done}
use Rattle.event_theory.specs.Meters.{Meters, is_empty, standing, tick, advance, set_alarm, fire, cancel}
use Rattle.event_theory.specs.Marks.{notify_wait, wait_ring, wait_at}
use Rattle.event_theory.specs.declared.alarm.Alarm.{Alarm}
use Rattle.event_theory.specs.declared.refusal.Refusal.{Refusal}
use Rattle.event_theory.specs.declared.refusal.Refusal.TheVariants.{UnknownName, Full, NotHeld, NotRaised, ProcessorBusy, NotStopped, Moved}
use Rattle.event_theory.proofs.Lists.Inversions.{then_ok, test_ok, given_ok, some_ok, change_ok}
use Rattle.event_theory.proofs.Keeping.Places.{slice_get_set_same, slice_get_set_other}

-- what a change of the threads made pending, what it delivered, and which element it gave a step more
pub record ThreadsAdd (made delivered : ℕ → ℕ → Bool) (stepped : ℕ → Bool) (old new : List Thread) : Type 0 where
  pub pending : (element number : ℕ) → cond (made element number) 1 0 + cond (pending_in number (slice_get old element)) 1 0
      ≡ cond (delivered element number) 1 0 + cond (pending_in number (slice_get new element)) 1 0
  pub done : (element : ℕ) → done_in (slice_get new element) ≡ done_in (slice_get old element) + cond (stepped element) 1 0

-- which alarms a change of the meters set, fired and cancelled
pub record MetersAdd (more_set more_fired more_cancelled : List Alarm) (old new : Meters) : Type 0 where
  pub set : new.set ≡ old.set ++ more_set
  pub fired : new.fired ≡ old.fired ++ more_fired
  pub cancelled : new.cancelled ≡ old.cancelled ++ more_cancelled

abbrev pub no_signal : ℕ → ℕ → Bool
no_signal element number = false

abbrev pub no_element : ℕ → Bool
no_element element = false

pub threads_stay : (threads : List Thread) → ThreadsAdd no_signal no_signal no_element threads threads
threads_stay threads = record { pending = λ element number. refl; done = λ element. omega arith }

pub meters_stay : (m : Meters) → MetersAdd [] [] [] m m
meters_stay m = record { set = sym (append-nil m.set); fired = sym (append-nil m.fired); cancelled = sym (append-nil m.cancelled) }

-- an event of the elements that leaves the threads
abbrev pub LeavesThreads : (Elements → Result Elements Refusal) → Type 0
LeavesThreads event = (s t : Elements) → event s ≡ Ok t → s.threads ≡ t.threads

pub claim_element_leaves : (ring call : ℕ) (items : List ℕ) → LeavesThreads (claim_element ring call items)
claim_element_leaves ring call items s t ok =
    let a = test_ok _ UnknownName _ t ok in
    let b = then_ok (change_at ring (claim 1 call items) s.rings) _ t a.1 in
    let c = then_ok (let_all_go call items s.held) _ t b.2 in
    ap (λ (x : Elements). x.threads) (given_ok _ t c.2)

pub raise_element_leaves : (ring call run index : ℕ) → LeavesThreads (raise_element ring call run index)
raise_element_leaves ring call run index s t ok =
    let a = then_ok (change_at ring (raise call run index) s.rings) _ t ok in
    ap (λ (x : Elements). x.threads) (given_ok _ t a.2)

pub take_element_leaves : (ring call count : ℕ) → LeavesThreads (take_element ring call count)
take_element_leaves ring call count s t ok =
    let a = then_ok (at ring s.rings) _ t ok in
    let b = then_ok (take_first 1 count a.0) _ t a.2 in
    ap (λ (x : Elements). x.threads) (given_ok _ t b.2)

pub put_on_leaves : (call processor element : ℕ) → LeavesThreads (put_on call processor element)
put_on_leaves call processor element s t ok =
    let a = then_ok (at element s.threads) _ t ok in
    let b = then_ok (at processor s.processors) _ t a.2 in
    let c = then_ok (let_go call element s.held) _ t b.2 in
    let d = test_ok (is_busy b.0) ProcessorBusy _ t c.2 in
    ap (λ (x : Elements). x.threads) (given_ok _ t d.1)

pub take_off_leaves : (call processor : ℕ) → LeavesThreads (take_off call processor)
take_off_leaves call processor s t ok =
    let a = then_ok (at processor s.processors >>= put_by call) _ t ok in
    ap (λ (x : Elements). x.threads) (given_ok _ t a.2)

pub notify_wait_leaves : (wait : ℕ) → LeavesThreads (notify_wait wait)
notify_wait_leaves wait s t ok =
    let a = then_ok (change_at wait (λ count. Ok ((count + 1) % 4294967296)) s.notified) _ t ok in
    ap (λ (x : Elements). x.threads) (given_ok _ t a.2)

pub wait_at_leaves : (call wait element ticket : ℕ) → LeavesThreads (wait_at call wait element ticket)
wait_at_leaves call wait element ticket s t ok =
    let a = then_ok (at element s.threads) _ t ok in
    let b = then_ok (at wait s.notified) _ t a.2 in
    let c = then_ok (let_go call element s.held) _ t b.2 in
    let d = test_ok (not (eqb b.0 ticket)) Moved _ t c.2 in
    let e = then_ok (change_at (wait_ring wait) (claim 1 call (element ∷ [])) s.rings) _ t d.1 in
    ap (λ (x : Elements). x.threads) (given_ok _ t e.2)

thread_by : (Q : Bool → Option Thread → Option Thread → Type 0) (threads : List Thread) (index : ℕ) (old new : Thread) (element : ℕ) → slice_get threads index ≡ Some old
    → Q true (Some old) (Some new) → ((found : Option Thread) → Q false found found)
    → ((eqb index element ≡ true) × (index ≡ element)) ⊎ ((eqb index element ≡ false) × (index ≢ element))
    → Q (eqb index element) (slice_get threads element) (slice_get (set threads index new) element)
thread_by Q threads index old new element there here apart (inl same) =
    let a : Some old ≡ slice_get threads element = sym there ∙ ap (slice_get threads) same.1 in
    let b : Some new ≡ slice_get (set threads index new) element =
    sym (slice_get_set_same threads index old new there) ∙ ap (slice_get (set threads index new)) same.1 in
    rw (same.0, sym a, sym b) here
thread_by Q threads index old new element there here apart (inr differ) =
    rw (differ.0, slice_get_set_other threads index element new differ.1) (apart (slice_get threads element))

-- what holds of a thread before and after, if one of the threads changed
thread_after : (Q : Bool → Option Thread → Option Thread → Type 0) (threads : List Thread) (index : ℕ) (old new : Thread) (element : ℕ) → slice_get threads index ≡ Some old
    → Q true (Some old) (Some new) → ((found : Option Thread) → Q false found found)
    → Q (eqb index element) (slice_get threads element) (slice_get (set threads index new) element)
thread_after Q threads index old new element there here apart =
    thread_by Q threads index old new element there here apart (eqb_tells index element)

-- one thread changed, and pending signals, deliveries and steps are those of this thread
thread_adds : (made delivered : Bool → ℕ → Option Thread → Bool) (stepped : Bool → Bool) (threads : List Thread) (index : ℕ) (old new : Thread) → slice_get threads index ≡ Some old
    → ((number : ℕ) → made false number ≡ λ found. false) → ((number : ℕ) → delivered false number ≡ λ found. false) → stepped false ≡ false
    → ((number : ℕ) → cond (made true number (Some old)) 1 0 + cond (old.pending number) 1 0 ≡ cond (delivered true number (Some old)) 1 0 + cond (new.pending number) 1 0)
    → new.done ≡ old.done + cond (stepped true) 1 0
    → ThreadsAdd (λ element number. made (eqb index element) number (slice_get threads element)) (λ element number. delivered (eqb index element) number (slice_get threads element)) (λ element. stepped (eqb index element)) threads (set threads index new)
thread_adds made delivered stepped threads index old new there no_made no_delivered no_step pending done = record {
  pending = λ element number. thread_after
      (λ here before after. cond (made here number before) 1 0 + cond (pending_in number before) 1 0 ≡ cond (delivered here number before) 1 0 + cond (pending_in number after) 1 0)
      threads index old new element there (pending number) (λ found. rw (no_made number, no_delivered number) refl);
  done = λ element. thread_after (λ here before after. done_in after ≡ done_in before + cond (stepped here) 1 0)
      threads index old new element there done (λ found. rw no_step (omega arith));
}

-- an event changes one thread
change_adds : (made delivered : Bool → ℕ → Option Thread → Bool) (stepped : Bool → Bool) (index : ℕ) (change : Thread → Result Thread Refusal) (s t : Elements) → change_thread index change s ≡ Ok t
    → ((number : ℕ) → made false number ≡ λ found. false) → ((number : ℕ) → delivered false number ≡ λ found. false) → stepped false ≡ false
    → ((old new : Thread) → change old ≡ Ok new
    → ((number : ℕ) → cond (made true number (Some old)) 1 0 + cond (old.pending number) 1 0 ≡ cond (delivered true number (Some old)) 1 0 + cond (new.pending number) 1 0)
    × (new.done ≡ old.done + cond (stepped true) 1 0))
    → ThreadsAdd (λ element number. made (eqb index element) number (slice_get s.threads element)) (λ element number. delivered (eqb index element) number (slice_get s.threads element)) (λ element. stepped (eqb index element)) s.threads t.threads
change_adds made delivered stepped index change s t ok no_made no_delivered no_step changed =
    let a = then_ok (change_at index change s.threads) _ t ok in
    let d = change_ok index change s.threads a.0 a.1 in
    let h = changed d.0 d.1 d.3 in
    let is : set s.threads index d.1 ≡ t.threads = sym d.4 ∙ ap (λ (x : Elements). x.threads) (given_ok _ t a.2) in
    rw (sym is) (thread_adds made delivered stepped s.threads index d.0 d.1 d.2 no_made no_delivered no_step h.0 h.1)

abbrev no_thread : Bool → ℕ → Option Thread → Bool
no_thread here number found = false

-- a thread whose pending signals and steps are those of before
thread_stays : (threads : List Thread) (index : ℕ) (old new : Thread) → slice_get threads index ≡ Some old → new.pending ≡ old.pending → new.done ≡ old.done
    → ThreadsAdd no_signal no_signal no_element threads (set threads index new)
thread_stays threads index old new there pending done =
    thread_adds no_thread no_thread (λ here. false) threads index old new there (λ number. refl) (λ number. refl) refl
    (λ number. rw pending refl) (rw done (omega arith))

-- an event of the elements that leaves pending signals and steps
abbrev pub AddsNothing : (Elements → Result Elements Refusal) → Type 0
AddsNothing event = (s t : Elements) → event s ≡ Ok t → ThreadsAdd no_signal no_signal no_element s.threads t.threads

pub stop_adds : (element : ℕ) → AddsNothing (stop element)
stop_adds element s t ok =
    change_adds no_thread no_thread (λ here. false) element (λ thread. Ok (record thread { stop = true })) s t ok
    (λ number. refl) (λ number. refl) refl
    (λ old new is. let e : record old { stop = true } ≡ new = given_ok _ new is in
    (λ number. ap (λ (x : Thread). 0 + cond (x.pending number) 1 0) e, ap (λ (x : Thread). x.done) (sym e) ∙ omega arith))

pub park_adds : (call element : ℕ) → AddsNothing (park call element)
park_adds call element s t ok =
    let a = then_ok (at element s.threads) _ t ok in
    let b = then_ok (let_go call element s.held) _ t a.2 in
    let c = test_ok (not a.0.stop) NotStopped _ t b.2 in
    let there : slice_get s.threads element ≡ Some a.0 = some_ok (slice_get s.threads element) UnknownName a.0 a.1 in
    let is : set s.threads element (record a.0 { parked = true }) ≡ t.threads = ap (λ (x : Elements). x.threads) (given_ok _ t c.1) in
    rw (sym is) (thread_stays s.threads element a.0 (record a.0 { parked = true }) there refl refl)

pub start_adds : (call element : ℕ) → AddsNothing (start call element)
start_adds call element s t ok =
    let a = then_ok (at element s.threads) _ t ok in
    let c = test_ok (not a.0.stop) NotStopped _ t a.2 in
    let there : slice_get s.threads element ≡ Some a.0 = some_ok (slice_get s.threads element) UnknownName a.0 a.1 in
    let is : set s.threads element (record a.0 { stop = false; parked = false }) ≡ t.threads = ap (λ (x : Elements). x.threads) (given_ok _ t c.1) in
    rw (sym is) (thread_stays s.threads element a.0 (record a.0 { stop = false; parked = false }) there refl refl)

-- a number joins a set, once more if it wasn't in the set
joins : (number other : ℕ) (is : Bool) → cond (eqb number other && not is) 1 0 + cond is 1 0 ≡ 0 + cond (cond (eqb other number) true is) 1 0
joins number other true = grind (arith, nat_tests)
joins number other false = grind (arith, nat_tests)

pub signal_adds : (element number : ℕ) (s t : Elements) → signal element number s ≡ Ok t
    → ThreadsAdd (λ e n. (eqb element e && eqb number n) && not (pending_in n (slice_get s.threads e))) no_signal no_element s.threads t.threads
signal_adds element number s t ok =
    change_adds (λ here n found. (here && eqb number n) && not (pending_in n found)) no_thread (λ here. false) element
    (λ thread. Ok (record thread { pending = with_number true number thread.pending })) s t ok
    (λ n. refl) (λ n. refl) refl
    (λ old new is. let e : record old { pending = with_number true number old.pending } ≡ new = given_ok _ new is in
    (λ n. joins number n (old.pending n) ∙ ap (λ (x : Thread). 0 + cond (x.pending n) 1 0) e, ap (λ (x : Thread). x.done) (sym e) ∙ omega arith))

pub deliver_adds : (call element : ℕ) (s t : Elements) → deliver call element s ≡ Ok t
    → ThreadsAdd no_signal (λ e n. eqb element e && pending_in n (slice_get s.threads e)) no_element s.threads t.threads
deliver_adds call element s t ok =
    change_adds no_thread (λ here n found. here && pending_in n found) (λ here. false) element
    (λ thread. refused_if (not (holds call element s)) NotHeld (Ok (record thread { pending = λ signal. false }))) s t ok
    (λ n. refl) (λ n. refl) refl
    (λ old new is.
    let a = test_ok (not (holds call element s)) NotHeld _ new is in
    let e : record old { pending = λ signal. false } ≡ new = given_ok _ new a.1 in
    (λ n. rw (sym e) (omega arith), ap (λ (x : Thread). x.done) (sym e) ∙ omega arith))

pub done_adds : (call element : ℕ) (s t : Elements) → done call element s ≡ Ok t
    → ThreadsAdd no_signal no_signal (λ e. eqb element e) s.threads t.threads
done_adds call element s t ok =
    change_adds no_thread no_thread (λ here. here) element
    (λ thread.
    refused_if (thread.done == 4294967295) Full
    (refused_if (not (holds call element s || list_any (is_put call element) s.processors)) NotHeld
    (Ok (record thread { done = thread.done + 1 })))) s t ok
    (λ n. refl) (λ n. refl) refl
    (λ old new is.
    let a = test_ok (eqb old.done 4294967295) Full _ new is in
    let b = test_ok (not (holds call element s || list_any (is_put call element) s.processors)) NotHeld _ new a.1 in
    let e : record old { done = old.done + 1 } ≡ new = given_ok _ new b.1 in
    (λ n. ap (λ (x : Thread). 0 + cond (x.pending n) 1 0) e, ap (λ (x : Thread). x.done) (sym e)))

-- an event of the meters that sets, fires and cancels nothing
abbrev pub LeavesAlarms : (Meters → Result Meters Refusal) → Type 0
LeavesAlarms event = (m n : Meters) → event m ≡ Ok n → MetersAdd [] [] [] m n

pub tick_leaves : (gauge amount : ℕ) → LeavesAlarms (tick gauge amount)
tick_leaves gauge amount m n ok =
    let a = then_ok (change_at gauge (λ value. Ok ((value + amount) % 18446744073709551616)) m.gauges) _ n ok in
    let is : record m { gauges = a.0 } ≡ n = given_ok _ n a.2 in
    subst (MetersAdd [] [] [] m) is (record { set = sym (append-nil m.set); fired = sym (append-nil m.fired); cancelled = sym (append-nil m.cancelled) })

pub advance_leaves : LeavesAlarms advance
advance_leaves m n ok =
    let a = test_ok (eqb m.clock 4294967295) Full _ n ok in
    let is : record m { clock = m.clock + 1 } ≡ n = given_ok _ n a.1 in
    subst (MetersAdd [] [] [] m) is (record { set = sym (append-nil m.set); fired = sym (append-nil m.fired); cancelled = sym (append-nil m.cancelled) })

pub set_adds : (alarm : Alarm) (m n : Meters) → set_alarm alarm m ≡ Ok n → MetersAdd (alarm ∷ []) [] [] m n
set_adds alarm m n ok =
    let a = then_ok (ok_or (position is_empty m.slots) Full) _ n ok in
    let is : record m { slots = set m.slots a.0 (Some alarm); set = m.set ++ alarm ∷ [] } ≡ n = given_ok _ n a.2 in
    subst (MetersAdd (alarm ∷ []) [] [] m) is (record { set = refl; fired = sym (append-nil m.fired); cancelled = sym (append-nil m.cancelled) })

pub fire_adds : (slot : ℕ) (m n : Meters) → fire slot m ≡ Ok n → MetersAdd [] (one_alarm (standing slot m)) [] m n
fire_adds slot m n ok =
    let a = then_ok (standing slot m) _ n ok in
    let b = test_ok (ltb m.clock a.0.due) NotRaised _ n a.2 in
    let is : record m { slots = set m.slots slot None; fired = m.fired ++ a.0 ∷ [] } ≡ n = given_ok _ n b.1 in
    let more : one_alarm (standing slot m) ≡ a.0 ∷ [] = ap one_alarm a.1 in
    rw more (subst (MetersAdd [] (a.0 ∷ []) [] m) is (record { set = sym (append-nil m.set); fired = refl; cancelled = sym (append-nil m.cancelled) }))

pub cancel_adds : (slot : ℕ) (m n : Meters) → cancel slot m ≡ Ok n → MetersAdd [] [] (one_alarm (standing slot m)) m n
cancel_adds slot m n ok =
    let a = then_ok (standing slot m) _ n ok in
    let is : record m { slots = set m.slots slot None; cancelled = m.cancelled ++ a.0 ∷ [] } ≡ n = given_ok _ n a.2 in
    let more : one_alarm (standing slot m) ≡ a.0 ∷ [] = ap one_alarm a.1 in
    rw more (subst (MetersAdd [] [] (a.0 ∷ []) m) is (record { set = sym (append-nil m.set); fired = sym (append-nil m.fired); cancelled = refl }))
