-- The state of the core, and the effect of each event on it.
use Rattle.std.specs.Prelude.{ℕ, Bool, true, false, ◌+◌, ◌%◌, nat_le, nat_lt, ◌==◌, ◌||◌, List, [], ◌∷◌, ◌++◌, length}
use Rattle.std.specs.Prelude.{map, Result, Ok}
use Rattle.event_theory.specs.Results.{◌>>=◌, refused_if, at, change_at}
use Rattle.event_theory.specs.Queues.{Queue, empty_queue, claim, raise, take_first, join_queue}
use Rattle.event_theory.specs.Chains.{Chain, empty_chain, claim_note, raise_note, take_note, notify, round, leave}
use Rattle.event_theory.specs.Chains.{join_chain}
use Rattle.event_theory.specs.Elements.{Elements, first_elements, claim_element, raise_element, take_element, put_on}
use Rattle.event_theory.specs.Elements.{take_off, stop, park, start, signal, deliver, done}
use Rattle.event_theory.specs.Elements.{join_elements}
use Rattle.event_theory.specs.Meters.{Meters, first_meters, tick, advance, set_alarm, fire, cancel}
use Rattle.event_theory.specs.Marks.{shut, notify_wait, wait_ring, wait_at}
use Rattle.event_theory.specs.declared.alarm.Alarm.{Alarm}
use Rattle.event_theory.specs.declared.event.Event.{Event}
use Rattle.event_theory.specs.declared.event.Event.TheVariants as events
use Rattle.event_theory.specs.declared.names.QueueName.TheVariants as names
use Rattle.event_theory.specs.declared.refusal.Refusal.{Refusal}
use Rattle.event_theory.specs.declared.refusal.Refusal.TheVariants.{UnknownName, TooLong, Full}
use Rattle.event_theory.specs.Numbers.{u64_values}

-- the byte queues and the chains by their numbers, the thread elements, the meters, and how many events were allowed,
-- modulo 2^64
pub record State : Type 0 where
  pub queues : List Queue
  pub chains : List Chain
  pub elements : Elements
  pub meters : Meters
  pub events : ℕ

abbrev pub first_state : ℕ → State
first_state count = record {
  queues = [];
  chains = [];
  elements = first_elements count;
  meters = first_meters;
  events = 0;
}

-- a new queue, with the next number
abbrev pub make_queue : ℕ → State → Result State Refusal
make_queue capacity s =
    refused_if (capacity == 0 || nat_lt 256 capacity) TooLong
    (refused_if (nat_le 8 (length s.queues)) Full
    (Ok (record s { queues = s.queues ++ empty_queue capacity ∷ [] })))

-- a new chain, with the next number
abbrev pub make_chain : State → Result State Refusal
make_chain s = refused_if (nat_le 8 (length s.chains)) Full (Ok (record s { chains = s.chains ++ empty_chain ∷ [] }))

-- one byte queue, one chain, the elements or the meters change
abbrev pub in_queue : ℕ → (Queue → Result Queue Refusal) → State → Result State Refusal
in_queue number change s = change_at number change s.queues >>= λ queues. Ok (record s { queues = queues })

abbrev pub in_chain : ℕ → (Chain → Result Chain Refusal) → State → Result State Refusal
in_chain number change s = change_at number change s.chains >>= λ chains. Ok (record s { chains = chains })

abbrev pub in_elements : (Elements → Result Elements Refusal) → State → Result State Refusal
in_elements change s = change s.elements >>= λ elements. Ok (record s { elements = elements })

abbrev pub in_meters : (Meters → Result Meters Refusal) → State → Result State Refusal
in_meters change s = change s.meters >>= λ meters. Ok (record s { meters = meters })

-- an alarm is set for an element that exists
abbrev pub set_for : Alarm → State → Result State Refusal
set_for alarm s = at alarm.element s.elements.threads >>= λ thread. in_meters (set_alarm alarm) s

-- all that the other call owns, holds, runs, owes or put on a processor becomes the call's
abbrev pub join : ℕ → ℕ → State → Result State Refusal
join call other s = refused_if (call == other) UnknownName (Ok (record s {
  queues = map (join_queue call other) s.queues;
  chains = map (join_chain call other) s.chains;
  elements = join_elements call other s.elements;
}))

-- the effect of an event, except for the count of events
abbrev pub effect : Event → State → Result State Refusal
effect (events.Queue capacity) = make_queue capacity
effect events.Chain = make_chain
effect (events.Claim call (names.Bytes queue) items) = in_queue queue (λ q. claim q.capacity call items q)
effect (events.Claim call (names.Notes chain) items) = in_chain chain (claim_note call items)
effect (events.Claim call names.Ready items) = in_elements (claim_element 0 call items)
effect (events.Claim call names.Free items) = in_elements (claim_element 1 call items)
effect (events.Claim call (names.Wait wait) items) = in_elements (claim_element (wait_ring wait) call items)
effect (events.Raise call (names.Bytes queue) run index) = in_queue queue (raise call run index)
effect (events.Raise call (names.Notes chain) run index) = in_chain chain (raise_note call run index)
effect (events.Raise call names.Ready run index) = in_elements (raise_element 0 call run index)
effect (events.Raise call names.Free run index) = in_elements (raise_element 1 call run index)
effect (events.Raise call (names.Wait wait) run index) = in_elements (raise_element (wait_ring wait) call run index)
effect (events.Take call (names.Bytes queue) count) = in_queue queue (λ q. take_first q.capacity count q)
effect (events.Take call (names.Notes chain) count) = in_chain chain (take_note call count)
effect (events.Take call names.Ready count) = in_elements (take_element 0 call count)
effect (events.Take call names.Free count) = in_elements (take_element 1 call count)
effect (events.Take call (names.Wait wait) count) = in_elements (take_element (wait_ring wait) call count)
effect (events.On call processor element) = in_elements (put_on call processor element)
effect (events.Off call processor) = in_elements (take_off call processor)
effect (events.Stop call element) = in_elements (stop element)
effect (events.Park call element) = in_elements (park call element)
effect (events.Start call element) = in_elements (start call element)
effect (events.Signal call element number) = in_elements (signal element number)
effect (events.Deliver call element) = in_elements (deliver call element)
effect (events.Done call element) = in_elements (done call element)
effect (events.Notify call chain) = in_chain chain (notify call)
effect (events.NotifyWait call wait) = in_elements (notify_wait wait)
effect (events.Round call chain) = in_chain chain (round call)
effect (events.Leave call chain) = in_chain chain (leave call)
effect (events.Tick call gauge amount) = in_meters (tick gauge amount)
effect (events.Advance call) = in_meters advance
effect (events.Set call due element number) = set_for (record { due = due; element = element; signal = number })
effect (events.Fire call slot) = in_meters (fire slot)
effect (events.Cancel call slot) = in_meters (cancel slot)
effect (events.Shut call queue) = in_queue queue (λ q. Ok (shut q))
effect (events.WaitAt call wait element ticket) = in_elements (wait_at call wait element ticket)
effect (events.Join call other) = join call other

-- storage may have to grow for the event
abbrev pub may_grow : Event → Bool
may_grow (events.Queue capacity) = true
may_grow events.Chain = true
may_grow (events.Claim call queue items) = true
may_grow (events.Raise call queue run index) = true
may_grow (events.Take call queue count) = true
may_grow (events.Set call due element number) = true
may_grow (events.Fire call slot) = true
may_grow (events.Cancel call slot) = true
may_grow (events.WaitAt call wait element ticket) = true
may_grow (events.Join call other) = true
may_grow event = false

abbrev pub counted : State → State
counted s = record s { events = (s.events + 1) % u64_values }

-- the state after an event, or the reason why the event isn't allowed
abbrev pub step : Event → State → Result State Refusal
step event s = effect event s >>= λ next. Ok (counted next)
