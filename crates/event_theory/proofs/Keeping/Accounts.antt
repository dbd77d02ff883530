-- Each schedule is accounted for.
use Rattle.std.proofs.Common.{◌≡◌, ℕ, zero, suc, ◌+◌, Bool, true, false, cond, List, [], ◌∷◌, ◌++◌, ◌∙◌, map, filter, refl, sym, ap, subst, eqb, append-nil, append_assoc, arith, slice_get, Result, Ok}
use Rattle.std.proofs.lemmas.List.Sums.{sum_by-cons}
use Rattle.std.specs.List.{count_by, flat_map, range_with_len, repeat}
use Rattle.std.specs.Result.{result_unwrap_or}
use Rattle.event_theory.specs.Accounts.{moves, pending_in, done_in, is_pending, done_of, is_done, made_pending, delivered, done_numbers, set_by, fired_by, cancelled_by, IsAccounted}
use Rattle.event_theory.specs.Results.{at, change_at}
use Rattle.event_theory.specs.Queues.{Queue}
use Rattle.event_theory.specs.Chains.{Chain}
use Rattle.event_theory.specs.Elements.{Elements, new_thread, start, signal, deliver, done}
use Rattle.event_theory.specs.Meters.{Meters, set_alarm, fire, cancel}
use Rattle.event_theory.specs.States.{State, first_state, make_queue, make_chain, in_queue, in_chain, in_elements, in_meters, set_for, join, effect, counted, step}
use Rattle.event_theory.specs.Schedules.{Reaches}
use Rattle.event_theory.specs.Marks.{wait_ring}
use Rattle.event_theory.specs.declared.alarm.Alarm.{Alarm}
use Rattle.event_theory.specs.declared.event.Event.{Event}
use Rattle.event_theory.specs.declared.event.Event.TheVariants as events
use Rattle.event_theory.specs.declared.names.QueueName.TheVariants as names
use Rattle.event_theory.specs.declared.refusal.Refusal.{Refusal}
use Rattle.event_theory.specs.declared.refusal.Refusal.TheVariants.{UnknownName, TooLong, Full}
use Rattle.event_theory.proofs.Lists.Inversions.{then_ok, test_ok, given_ok}
use Rattle.event_theory.proofs.Keeping.Events.{ThreadsAdd, MetersAdd, no_signal, no_element, threads_stay, meters_stay, LeavesThreads, AddsNothing, LeavesAlarms, claim_element_leaves, raise_element_leaves, take_element_leaves, put_on_leaves, take_off_leaves, notify_wait_leaves, wait_at_leaves, stop_adds, park_adds, start_adds, signal_adds, deliver_adds, done_adds, tick_leaves, advance_leaves, set_adds, fire_adds, cancel_adds}

-- what a change of a state adds to its threads and to its meters
record Adds (made delivered : ℕ → ℕ → Bool) (stepped : ℕ → Bool) (more_set more_fired more_cancelled : List Alarm) (s t : State) : Type 0 where
  threads : ThreadsAdd made delivered stepped s.elements.threads t.elements.threads
  meters : MetersAdd more_set more_fired more_cancelled s.meters t.meters

-- an event did what its account says
abbrev Accounts : Event → State → State → Type 0
Accounts event s t =
    Adds (λ element number. made_pending element number (event, s)) (λ element number. delivered element number (event, s)) (λ element. is_done element event)
    (set_by event) (fired_by event s) (cancelled_by event s) s t

-- a change that adds nothing
abbrev Silent : (State → Result State Refusal) → Type 0
Silent event = (s t : State) → event s ≡ Ok t → Adds no_signal no_signal no_element [] [] [] s t

queue_silent : (number : ℕ) (event : Queue → Result Queue Refusal) → Silent (in_queue number event)
queue_silent number event s t ok =
    let a = then_ok (change_at number event s.queues) _ t ok in
    subst (Adds no_signal no_signal no_element [] [] [] s) (given_ok _ t a.2)
    (record { threads = threads_stay s.elements.threads; meters = meters_stay s.meters })

chain_silent : (number : ℕ) (event : Chain → Result Chain Refusal) → Silent (in_chain number event)
chain_silent number event s t ok =
    let a = then_ok (change_at number event s.chains) _ t ok in
    subst (Adds no_signal no_signal no_element [] [] [] s) (given_ok _ t a.2)
    (record { threads = threads_stay s.elements.threads; meters = meters_stay s.meters })

make_queue_silent : (capacity : ℕ) → Silent (make_queue capacity)
make_queue_silent capacity s t ok =
    let a = test_ok _ TooLong _ t ok in
    let b = test_ok _ Full _ t a.1 in
    subst (Adds no_signal no_signal no_element [] [] [] s) (given_ok _ t b.1)
    (record { threads = threads_stay s.elements.threads; meters = meters_stay s.meters })

make_chain_silent : Silent make_chain
make_chain_silent s t ok =
    let b = test_ok _ Full _ t ok in
    subst (Adds no_signal no_signal no_element [] [] [] s) (given_ok _ t b.1)
    (record { threads = threads_stay s.elements.threads; meters = meters_stay s.meters })

join_silent : (call other : ℕ) → Silent (join call other)
join_silent call other s t ok =
    let a = test_ok (eqb call other) UnknownName _ t ok in
    subst (Adds no_signal no_signal no_element [] [] [] s) (given_ok _ t a.1)
    (record { threads = threads_stay s.elements.threads; meters = meters_stay s.meters })

in_elements_adds : (made delivered : ℕ → ℕ → Bool) (stepped : ℕ → Bool) (event : Elements → Result Elements Refusal) (s t : State)
    → ((e : Elements) → event s.elements ≡ Ok e → ThreadsAdd made delivered stepped s.elements.threads e.threads)
    → in_elements event s ≡ Ok t → Adds made delivered stepped [] [] [] s t
in_elements_adds made delivered stepped event s t adds ok =
    let a = then_ok (event s.elements) _ t ok in
    subst (Adds made delivered stepped [] [] [] s) (given_ok _ t a.2)
    (record { threads = adds a.0 a.1; meters = meters_stay s.meters })

elements_silent : (event : Elements → Result Elements Refusal) → AddsNothing event → Silent (in_elements event)
elements_silent event adds s t ok = in_elements_adds no_signal no_signal no_element event s t (adds s.elements) ok

elements_leave : (event : Elements → Result Elements Refusal) → LeavesThreads event → Silent (in_elements event)
elements_leave event leaves =
    elements_silent event (λ s t ok. subst (ThreadsAdd no_signal no_signal no_element s.threads) (leaves s t ok) (threads_stay s.threads))

in_meters_adds : (more_set more_fired more_cancelled : List Alarm) (event : Meters → Result Meters Refusal) (s t : State)
    → ((m : Meters) → event s.meters ≡ Ok m → MetersAdd more_set more_fired more_cancelled s.meters m)
    → in_meters event s ≡ Ok t → Adds no_signal no_signal no_element more_set more_fired more_cancelled s t
in_meters_adds more_set more_fired more_cancelled event s t adds ok =
    let a = then_ok (event s.meters) _ t ok in
    subst (Adds no_signal no_signal no_element more_set more_fired more_cancelled s) (given_ok _ t a.2)
    (record { threads = threads_stay s.elements.threads; meters = adds a.0 a.1 })

meters_silent : (event : Meters → Result Meters Refusal) → LeavesAlarms event → Silent (in_meters event)
meters_silent event leaves s t ok = in_meters_adds [] [] [] event s t (leaves s.meters) ok

set_for_adds : (alarm : Alarm) (s t : State) → set_for alarm s ≡ Ok t → Adds no_signal no_signal no_element (alarm ∷ []) [] [] s t
set_for_adds alarm s t ok =
    let a = then_ok (at alarm.element s.elements.threads) _ t ok in
    in_meters_adds (alarm ∷ []) [] [] (set_alarm alarm) s t (set_adds alarm s.meters) a.2

effect_accounts : (event : Event) (s t : State) → effect event s ≡ Ok t → Accounts event s t
effect_accounts (events.Queue capacity) = make_queue_silent capacity
effect_accounts events.Chain = make_chain_silent
effect_accounts (events.Claim call (names.Bytes queue) items) = queue_silent queue _
effect_accounts (events.Claim call (names.Notes chain) items) = chain_silent chain _
effect_accounts (events.Claim call names.Ready items) = elements_leave _ (claim_element_leaves 0 call items)
effect_accounts (events.Claim call names.Free items) = elements_leave _ (claim_element_leaves 1 call items)
effect_accounts (events.Claim call (names.Wait wait) items) = elements_leave _ (claim_element_leaves (wait_ring wait) call items)
effect_accounts (events.Raise call (names.Bytes queue) run index) = queue_silent queue _
effect_accounts (events.Raise call (names.Notes chain) run index) = chain_silent chain _
effect_accounts (events.Raise call names.Ready run index) = elements_leave _ (raise_element_leaves 0 call run index)
effect_accounts (events.Raise call names.Free run index) = elements_leave _ (raise_element_leaves 1 call run index)
effect_accounts (events.Raise call (names.Wait wait) run index) = elements_leave _ (raise_element_leaves (wait_ring wait) call run index)
effect_accounts (events.Take call (names.Bytes queue) count) = queue_silent queue _
effect_accounts (events.Take call (names.Notes chain) count) = chain_silent chain _
effect_accounts (events.Take call names.Ready count) = elements_leave _ (take_element_leaves 0 call count)
effect_accounts (events.Take call names.Free count) = elements_leave _ (take_element_leaves 1 call count)
effect_accounts (events.Take call (names.Wait wait) count) = elements_leave _ (take_element_leaves (wait_ring wait) call count)
effect_accounts (events.On call processor element) = elements_leave _ (put_on_leaves call processor element)
effect_accounts (events.Off call processor) = elements_leave _ (take_off_leaves call processor)
effect_accounts (events.Stop call element) = elements_silent _ (stop_adds element)
effect_accounts (events.Park call element) = elements_silent _ (park_adds call element)
effect_accounts (events.Start call element) = elements_silent _ (start_adds call element)
effect_accounts (events.Signal call element number) = λ s t. in_elements_adds _ no_signal no_element (signal element number) s t (signal_adds element number s.elements)
effect_accounts (events.Deliver call element) = λ s t. in_elements_adds no_signal _ no_element (deliver call element) s t (deliver_adds call element s.elements)
effect_accounts (events.Done call element) = λ s t. in_elements_adds no_signal no_signal _ (done call element) s t (done_adds call element s.elements)
effect_accounts (events.Notify call chain) = chain_silent chain _
effect_accounts (events.NotifyWait call wait) = elements_leave _ (notify_wait_leaves wait)
effect_accounts (events.Round call chain) = chain_silent chain _
effect_accounts (events.Leave call chain) = chain_silent chain _
effect_accounts (events.Tick call gauge amount) = meters_silent _ (tick_leaves gauge amount)
effect_accounts (events.Advance call) = meters_silent _ advance_leaves
effect_accounts (events.Set call due element number) = set_for_adds _
effect_accounts (events.Fire call slot) = λ s t. in_meters_adds [] _ [] (fire slot) s t (fire_adds slot s.meters)
effect_accounts (events.Cancel call slot) = λ s t. in_meters_adds [] [] _ (cancel slot) s t (cancel_adds slot s.meters)
effect_accounts (events.Shut call queue) = queue_silent queue _
effect_accounts (events.WaitAt call wait element ticket) = elements_leave _ (wait_at_leaves call wait element ticket)
effect_accounts (events.Join call other) = join_silent call other

step_accounts : (event : Event) (s t : State) → step event s ≡ Ok t → Accounts event s t
step_accounts event s t ok =
    let a = then_ok (effect event s) _ t ok in
    let h = effect_accounts event s a.0 a.1 in
    subst (Accounts event s) (given_ok (counted a.0) t a.2) (record { threads = h.threads; meters = h.meters })

-- what a list of moves did, from the one state to the other
record Totals (s : State) (taken : List (Event × State)) (t : State) : Type 0 where
  pending : (element number : ℕ) → count_by (made_pending element number) taken + cond (is_pending element number s) 1 0
      ≡ count_by (delivered element number) taken + cond (is_pending element number t) 1 0
  done : (element : ℕ) → (number : ℕ) × (done_of element t ≡ done_of element s + number) × (done_numbers element taken ≡ range_with_len (done_of element s + 1) number)
  set : t.meters.set ≡ s.meters.set ++ flat_map (λ move. set_by move.0) taken
  fired : t.meters.fired ≡ s.meters.fired ++ flat_map (λ move. fired_by move.0 move.1) taken
  cancelled : t.meters.cancelled ≡ s.meters.cancelled ++ flat_map (λ move. cancelled_by move.0 move.1) taken

no_moves : (s : State) → Totals s [] s
no_moves s = record {
  pending = λ element number. refl;
  done = λ element. (0, omega arith, refl);
  set = sym (append-nil s.meters.set);
  fired = sym (append-nil s.meters.fired);
  cancelled = sym (append-nil s.meters.cancelled);
}

-- the numbers that follow a first one, if it is given
numbers_more : (given : Bool) (first next last : ℕ) (numbers : List ℕ) → next ≡ first + cond given 1 0
    → (count : ℕ) × (last ≡ next + count) × (numbers ≡ range_with_len (next + 1) count)
    → (count : ℕ) × (last ≡ first + count) × (cond given ((first + 1) ∷ numbers) numbers ≡ range_with_len (first + 1) count)
numbers_more true first next last numbers step rest =
    (suc rest.0, omega (arith, step, rest.1), ap (λ xs. (first + 1) ∷ xs) (rest.2 ∙ ap (λ n. range_with_len (n + 1) rest.0) step))
numbers_more false first next last numbers step rest =
    let same : next ≡ first = omega (arith, step) in
    (rest.0, omega (arith, step, rest.1), rest.2 ∙ ap (λ n. range_with_len (n + 1) rest.0) same)

map_kept : {A B : Type 0} (f : A → B) (kept : Bool) (x : A) (xs : List A) → map f (cond kept (x ∷ xs) xs) ≡ cond kept (f x ∷ map f xs) (map f xs)
map_kept f true x xs = refl
map_kept f false x xs = refl

numbers_kept : (element : ℕ) (event : Event) (s : State) (taken : List (Event × State))
    → done_numbers element ((event, s) ∷ taken) ≡ cond (is_done element event) ((done_of element s + 1) ∷ done_numbers element taken) (done_numbers element taken)
numbers_kept element event s taken =
    map_kept (λ (move : Event × State). done_of element move.1 + 1) (is_done element event) (event, s) (filter (λ (move : Event × State). is_done element move.0) taken)

alarms_more : (old more rest middle new : List Alarm) → middle ≡ old ++ more → new ≡ middle ++ rest → new ≡ old ++ (more ++ rest)
alarms_more old more rest middle new first then = then ∙ (ap (λ xs. xs ++ rest) first ∙ append_assoc old more rest)

-- one move more at the front
one_move : (event : Event) (s next t : State) (taken : List (Event × State)) → Accounts event s next → Totals next taken t → Totals s ((event, s) ∷ taken) t
one_move event s next t taken first rest = record {
  pending = λ element number. omega (
    arith,
    first.threads.pending element number,
    rest.pending element number,
    sum_by-cons (λ move. cond (made_pending element number move) 1 0) (event, s) taken,
    sum_by-cons (λ move. cond (delivered element number move) 1 0) (event, s) taken,
  );
  done = λ element.
      let more = numbers_more (is_done element event) (done_of element s) (done_of element next) (done_of element t) (done_numbers element taken) (first.threads.done element) (rest.done element) in
      (more.0, more.1, numbers_kept element event s taken ∙ more.2);
  set = alarms_more s.meters.set _ _ next.meters.set t.meters.set first.meters.set rest.set;
  fired = alarms_more s.meters.fired _ _ next.meters.fired t.meters.fired first.meters.fired rest.fired;
  cancelled = alarms_more s.meters.cancelled _ _ next.meters.cancelled t.meters.cancelled first.meters.cancelled rest.cancelled;
}

reached_totals : (s : State) (events : List Event) (t : State) → Reaches s events t → Totals s (moves s events) t
reached_totals s [] t there = subst (Totals s []) (sym there) (no_moves s)
reached_totals s (event ∷ events) t there =
    let next : moves s (event ∷ events) ≡ (event, s) ∷ moves there.0 events =
    ap (λ said. (event, s) ∷ moves (result_unwrap_or said s) events) there.1 in
    rw next (one_move event s there.0 t (moves there.0 events) (step_accounts event s there.0 there.1) (reached_totals there.0 events t there.2))

-- at first no signal is pending, and no step is done
none_pending : (count element number : ℕ) → pending_in number (slice_get (repeat count (new_thread ∷ [])) element) ≡ false
none_pending zero element number = refl
none_pending (suc count) zero number = refl
none_pending (suc count) (suc element) number = none_pending count element number

none_done : (count element : ℕ) → done_in (slice_get (repeat count (new_thread ∷ [])) element) ≡ 0
none_done zero element = refl
none_done (suc count) zero = refl
none_done (suc count) (suc element) = none_done count element

numbers_from_start : (first last : ℕ) (numbers : List ℕ) → first ≡ 0
    → (count : ℕ) × (last ≡ first + count) × (numbers ≡ range_with_len (first + 1) count) → numbers ≡ range_with_len 1 last
numbers_from_start first last numbers start given =
    let many : given.0 ≡ last = omega (arith, start, given.1) in
    let one : first + 1 ≡ 1 = omega (arith, start) in
    given.2 ∙ (ap (λ n. range_with_len n given.0) one ∙ ap (range_with_len 1) many)

pub account_law : (count : ℕ) (events : List Event) (s : State) → Reaches (first_state count) events s → IsAccounted (first_state count) events s
account_law count events s there =
    let h = reached_totals (first_state count) events s there in
    record {
      pending = λ element number.
          let none : cond (is_pending element number (first_state count)) 1 0 ≡ 0 = ap {B = ℕ} (λ b. cond b 1 0) (none_pending count element number) in
          omega (arith, h.pending element number, none);
      done = λ element. numbers_from_start (done_of element (first_state count)) (done_of element s) _ (none_done count element) (h.done element);
      set = h.set;
      fired = h.fired;
      cancelled = h.cancelled;
    }
