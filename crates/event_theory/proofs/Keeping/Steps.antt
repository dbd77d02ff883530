-- Each event keeps a lawful state, and so does each schedule.
use Rattle.std.proofs.Common.{◌≡◌, ℕ, zero, suc, get_or, List, [], ◌∷◌, ◌++◌, ◌∙◌, map, refl, sym, ap, subst, eqb, Result, Ok, Err, arith}
use Rattle.std.specs.List.{All}
use Rattle.std.proofs.lemmas.List.Elements.{All-set, All-append, All-map}
use Rattle.event_theory.specs.Results.{at, change_at, Changes}
use Rattle.event_theory.specs.Queues.{Queue, empty_queue, claim, take_first, join_queue}
use Rattle.event_theory.specs.Chains.{Chain, empty_chain, join_chain}
use Rattle.event_theory.specs.Elements.{Elements, done}
use Rattle.event_theory.specs.Meters.{Meters, set_alarm}
use Rattle.event_theory.specs.States.{State, first_state, make_queue, make_chain, in_queue, in_chain, in_elements, in_meters, set_for, join, effect, step}
use Rattle.event_theory.specs.Schedules.{Reaches}
use Rattle.event_theory.specs.Lawful.{IsLawful, IsLawfulQueue, IsLawfulChain, IsLawfulElements, IsLawfulMeters}
use Rattle.event_theory.specs.Marks.{shut, wait_ring}
use Rattle.event_theory.specs.declared.alarm.Alarm.{Alarm}
use Rattle.event_theory.specs.declared.event.Event.{Event}
use Rattle.event_theory.specs.declared.event.Event.TheVariants as events
use Rattle.event_theory.specs.declared.names.QueueName.TheVariants as names
use Rattle.event_theory.specs.declared.refusal.Refusal.{Refusal}
use Rattle.event_theory.specs.declared.refusal.Refusal.TheVariants.{UnknownName, TooLong, Full}
use Rattle.event_theory.proofs.Lists.Inversions.{then_ok, test_ok, given_ok, change_ok}
use Rattle.event_theory.proofs.Keeping.Queues.{claim_law, raise_law, take_law, shut_law}
use Rattle.event_theory.proofs.Keeping.Joins.{join_queue_law}
use Rattle.event_theory.proofs.Keeping.First.{empty_law}
use Rattle.event_theory.proofs.Keeping.Chains.{empty_chain_law, claim_note_law, raise_note_law, take_note_law, notify_law, round_law, leave_law, join_chain_law}
use Rattle.event_theory.proofs.Keeping.Meters.{first_meters_law, tick_law, advance_law, set_alarm_law, fire_law, cancel_law}
use Rattle.event_theory.proofs.Keeping.Elements.{every_at, claim_element_law, raise_element_law, take_element_law, wait_at_law, put_on_law, take_off_law, join_elements_law, first_elements_law}
use Rattle.event_theory.proofs.Keeping.Threads.{stop_law, signal_law, deliver_law, done_law, park_law, start_law, notify_wait_law}

-- an event keeps what holds of a part
abbrev pub Keeps : {A : Type 0} → (A → Type 0) → (A → Result A Refusal) → Type 0
Keeps {A} P event = (a b : A) → P a → event a ≡ Ok b → P b

-- a change of one in a list keeps what holds of all
all_changed : {A : Type 0} (P : A → Type 0) (index : ℕ) (event : A → Result A Refusal) (xs ys : List A) → Keeps P event → All P xs → change_at index event xs ≡ Ok ys → All P ys
all_changed P index event xs ys keeps all ok =
    let h = change_ok index event xs ys ok in
    subst (All P) (sym h.4) (All-set P xs index h.1 (keeps h.0 h.1 (every_at P xs index h.0 h.2 all) h.3) all)

all_none : {A : Type 0} (P : A → Type 0) → All P []
all_none P k d within = absurd (omega arith)

all_one : {A : Type 0} (P : A → Type 0) (x : A) → P x → All P (x ∷ [])
all_one P x h zero d within = h
all_one P x h (suc k) d within = absurd (omega arith)

queue_step : (number : ℕ) (event : Queue → Result Queue Refusal) → Keeps IsLawfulQueue event → Keeps IsLawful (in_queue number event)
queue_step number event keeps s t lawful ok =
    let h = then_ok (change_at number event s.queues) _ t ok in
    subst IsLawful (given_ok _ t h.2) (record {
      queues = all_changed IsLawfulQueue number event s.queues h.0 keeps lawful.queues h.1;
      chains = lawful.chains;
      elements = lawful.elements;
      meters = lawful.meters;
    })

chain_step : (number : ℕ) (event : Chain → Result Chain Refusal) → Keeps IsLawfulChain event → Keeps IsLawful (in_chain number event)
chain_step number event keeps s t lawful ok =
    let h = then_ok (change_at number event s.chains) _ t ok in
    subst IsLawful (given_ok _ t h.2) (record {
      queues = lawful.queues;
      chains = all_changed IsLawfulChain number event s.chains h.0 keeps lawful.chains h.1;
      elements = lawful.elements;
      meters = lawful.meters;
    })

elements_step : (event : Elements → Result Elements Refusal) → Keeps IsLawfulElements event → Keeps IsLawful (in_elements event)
elements_step event keeps s t lawful ok =
    let h = then_ok (event s.elements) _ t ok in
    subst IsLawful (given_ok _ t h.2) (record {
      queues = lawful.queues;
      chains = lawful.chains;
      elements = keeps s.elements h.0 lawful.elements h.1;
      meters = lawful.meters;
    })

meters_step : (event : Meters → Result Meters Refusal) → Keeps IsLawfulMeters event → Keeps IsLawful (in_meters event)
meters_step event keeps s t lawful ok =
    let h = then_ok (event s.meters) _ t ok in
    subst IsLawful (given_ok _ t h.2) (record {
      queues = lawful.queues;
      chains = lawful.chains;
      elements = lawful.elements;
      meters = keeps s.meters h.0 lawful.meters h.1;
    })

make_queue_law : (capacity : ℕ) → Keeps IsLawful (make_queue capacity)
make_queue_law capacity s t lawful ok =
    let a = test_ok _ TooLong _ t ok in
    let b = test_ok _ Full _ t a.1 in
    subst IsLawful (given_ok _ t b.1) (record {
      queues = All-append IsLawfulQueue s.queues (empty_queue capacity ∷ []) lawful.queues (all_one IsLawfulQueue (empty_queue capacity) (empty_law capacity));
      chains = lawful.chains;
      elements = lawful.elements;
      meters = lawful.meters;
    })

make_chain_law : Keeps IsLawful make_chain
make_chain_law s t lawful ok =
    let b = test_ok _ Full _ t ok in
    subst IsLawful (given_ok _ t b.1) (record {
      queues = lawful.queues;
      chains = All-append IsLawfulChain s.chains (empty_chain ∷ []) lawful.chains (all_one IsLawfulChain empty_chain empty_chain_law);
      elements = lawful.elements;
      meters = lawful.meters;
    })

set_for_law : (alarm : Alarm) → Keeps IsLawful (set_for alarm)
set_for_law alarm s t lawful ok =
    let h = then_ok (at alarm.element s.elements.threads) _ t ok in
    meters_step (set_alarm alarm) (set_alarm_law alarm) s t lawful h.2

all_mapped : {A : Type 0} (P : A → Type 0) (f : A → A) (xs : List A) → ((a : A) → P a → P (f a)) → All P xs → All P (map f xs)
all_mapped P f xs keeps all = All-map P f xs (λ k d within. keeps (get_or xs k d) (all k d within))

join_law : (call other : ℕ) → Keeps IsLawful (join call other)
join_law call other s t lawful ok =
    let a = test_ok (eqb call other) UnknownName _ t ok in
    subst IsLawful (given_ok _ t a.1) (record {
      queues = all_mapped IsLawfulQueue (join_queue call other) s.queues (join_queue_law call other) lawful.queues;
      chains = all_mapped IsLawfulChain (join_chain call other) s.chains (λ c h. join_chain_law call other c a.0 h) lawful.chains;
      elements = join_elements_law call other s.elements lawful.elements;
      meters = lawful.meters;
    })

claim_own : (call : ℕ) (items : List ℕ) → Keeps IsLawfulQueue (λ q. claim q.capacity call items q)
claim_own call items q r lawful ok = claim_law q.capacity call items q r lawful ok

take_own : (count : ℕ) → Keeps IsLawfulQueue (λ q. take_first q.capacity count q)
take_own count q r lawful ok = take_law q.capacity count q r lawful ok

shut_own : Keeps IsLawfulQueue (λ q. Ok (shut q))
shut_own q r lawful ok = subst IsLawfulQueue (given_ok (shut q) r ok) (shut_law q lawful)

effect_law : (event : Event) → Keeps IsLawful (effect event)
effect_law (events.Queue capacity) = make_queue_law capacity
effect_law events.Chain = make_chain_law
effect_law (events.Claim call (names.Bytes queue) items) = queue_step queue _ (claim_own call items)
effect_law (events.Claim call (names.Notes chain) items) = chain_step chain _ (claim_note_law call items)
effect_law (events.Claim call names.Ready items) = elements_step _ (claim_element_law 0 call items)
effect_law (events.Claim call names.Free items) = elements_step _ (claim_element_law 1 call items)
effect_law (events.Claim call (names.Wait wait) items) = elements_step _ (claim_element_law (wait_ring wait) call items)
effect_law (events.Raise call (names.Bytes queue) run index) = queue_step queue _ (raise_law call run index)
effect_law (events.Raise call (names.Notes chain) run index) = chain_step chain _ (raise_note_law call run index)
effect_law (events.Raise call names.Ready run index) = elements_step _ (raise_element_law 0 call run index)
effect_law (events.Raise call names.Free run index) = elements_step _ (raise_element_law 1 call run index)
effect_law (events.Raise call (names.Wait wait) run index) = elements_step _ (raise_element_law (wait_ring wait) call run index)
effect_law (events.Take call (names.Bytes queue) count) = queue_step queue _ (take_own count)
effect_law (events.Take call (names.Notes chain) count) = chain_step chain _ (take_note_law call count)
effect_law (events.Take call names.Ready count) = elements_step _ (take_element_law 0 call count)
effect_law (events.Take call names.Free count) = elements_step _ (take_element_law 1 call count)
effect_law (events.Take call (names.Wait wait) count) = elements_step _ (take_element_law (wait_ring wait) call count)
effect_law (events.On call processor element) = elements_step _ (put_on_law call processor element)
effect_law (events.Off call processor) = elements_step _ (take_off_law call processor)
effect_law (events.Stop call element) = elements_step _ (stop_law element)
effect_law (events.Park call element) = elements_step _ (park_law call element)
effect_law (events.Start call element) = elements_step _ (start_law call element)
effect_law (events.Signal call element number) = elements_step _ (signal_law element number)
effect_law (events.Deliver call element) = elements_step _ (deliver_law call element)
effect_law (events.Done call element) = elements_step _ (done_law call element)
effect_law (events.Notify call chain) = chain_step chain _ (notify_law call)
effect_law (events.NotifyWait call wait) = elements_step _ (notify_wait_law wait)
effect_law (events.Round call chain) = chain_step chain _ (round_law call)
effect_law (events.Leave call chain) = chain_step chain _ (leave_law call)
effect_law (events.Tick call gauge amount) = meters_step _ (tick_law gauge amount)
effect_law (events.Advance call) = meters_step _ advance_law
effect_law (events.Set call due element number) = set_for_law _
effect_law (events.Fire call slot) = meters_step _ (fire_law slot)
effect_law (events.Cancel call slot) = meters_step _ (cancel_law slot)
effect_law (events.Shut call queue) = queue_step queue _ shut_own
effect_law (events.WaitAt call wait element ticket) = elements_step _ (wait_at_law call wait element ticket)
effect_law (events.Join call other) = join_law call other

pub step_law : (event : Event) (s t : State) → IsLawful s → step event s ≡ Ok t → IsLawful t
step_law event s t lawful ok =
    let h = then_ok (effect event s) _ t ok in
    let next = effect_law event s h.0 lawful h.1 in
    subst IsLawful (given_ok _ t h.2) (record { queues = next.queues; chains = next.chains; elements = next.elements; meters = next.meters })

pub first_law : (count : ℕ) → IsLawful (first_state count)
first_law count = record { queues = all_none IsLawfulQueue; chains = all_none IsLawfulChain; elements = first_elements_law count; meters = first_meters_law }

reached_law : (s : State) (events : List Event) (t : State) → IsLawful s → Reaches s events t → IsLawful t
reached_law s [] t lawful there = subst IsLawful (sym there) lawful
reached_law s (event ∷ events) t lawful there = reached_law there.0 events t (step_law event s there.0 lawful there.1) there.2

pub schedule_law : (count : ℕ) (events : List Event) (s : State) → Reaches (first_state count) events s → IsLawful s
schedule_law count events s there = reached_law (first_state count) events s (first_law count) there

-- what an event makes of a lawful state is lawful, also if the event is refused
pub changed_law : (event : Event) (result : Result (Unit {0}) Refusal) (old new : State) → IsLawful old → Changes result (step event old) old new → IsLawful new
changed_law event (Ok done) old new lawful h = step_law event old new lawful h
changed_law event (Err refusal) old new lawful h = subst IsLawful (sym h.0) lawful

-- one event more
pub reaches_more : (s : State) (events : List Event) (t : State) (event : Event) (u : State) → Reaches s events t → step event t ≡ Ok u → Reaches s (events ++ event ∷ []) u
reaches_more s [] t event u there next = (u, ap (step event) (sym there) ∙ next, refl)
reaches_more s (e ∷ events) t event u there next = (there.0, there.1, reaches_more there.0 events t event u there.2 next)
