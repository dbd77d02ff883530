-- The results of the calls: all entries that a call added, how their numbers compare, and what the hand then has. The
-- numbers and moments are those of the entries, which the list of w fixes.
use Rattle.std.specs.Prelude.{◌≡◌, ◌≢◌, ◌⊎◌, ◌+◌, ◌-◌, ◌/◌, ◌%◌, ◌<◌, ◌==◌, ℕ, zero, suc, Bool, true, false, not}
use Rattle.std.specs.Prelude.{List, [], ◌∷◌, ◌++◌, slice_set, filter, Result, Ok, Err, Some, None}
use Rattle.std.specs.List.{range_with_len}
use Rattle.std.specs.Int.{bit_at}
use Rattle.event_theory.specs.declared.event.Event.{Event}
use Rattle.event_theory.specs.declared.event.Event.TheVariants as events
use Rattle.thread_table.specs.Own.{View}
use Rattle.thread_table.specs.declared.takings.NextRefusal.{NextRefusal}
use Rattle.thread_table.specs.declared.takings.NextRefusal.TheVariants as nexts
use Rattle.thread_table.specs.declared.moves.MoveRefusal.{MoveRefusal}
use Rattle.thread_table.specs.declared.moves.MoveRefusal.TheVariants as moves
use Rattle.thread_table.specs.declared.states.Started.{Started}
use Rattle.thread_table.specs.declared.states.Started.TheVariants as started
use Rattle.thread_table.specs.declared.states.Signalled.{Signalled}
use Rattle.thread_table.specs.declared.states.Signalled.TheVariants as signalled
use Rattle.thread_table.specs.declared.states.Lost.{Lost}
use Rattle.thread_table.specs.declared.programs.Spent.{Spent}
use Rattle.thread_table.specs.declared.layout.TheConstants.{NOTIFY, STOP}
use Rattle.thread_table.specs.Schedules.{Past, state_after, ring_name}
use Rattle.thread_table.specs.Layout.{processor_word, state_word, done_word, head_word, tail_word, place_word}
use Rattle.thread_table.specs.Layout.{wait_ring, stop_bit, cell_bit, last_head, most_done}
use Rattle.thread_table.specs.Makers.{made_in}
use Rattle.thread_table.specs.Views.{quiet, with_held, with_start, with_on, with_off, count_of, having_found}
use Rattle.thread_table.specs.Rules.{running}
use Rattle.table_theory.specs.Ledgers.{load}
use Rattle.thread_table.specs.Entries.{Step, change, PerformsEvents, with_event, steps_in, HoldsMore, HoldsLess}
use Rattle.thread_table.specs.Entries.{take_event, claim_event}

-- The result of a taking that is made after these entries: the tail is loaded, then the place at it. Ok: the place was
-- raised, the exchange found the same tail, and the hand holds the element. NoneReady: the place was not raised, and
-- the tail was found again. Lost: a tail past the first one was found.
abbrev pub TakesAfter : List Step → ℕ → View → ℕ → Result ℕ NextRefusal → View → Type 0
TakesAfter before call v ring (Ok element) w = (tail place : ℕ) × (r s t : Past)
    × (place / 256 ≡ tail + 1) × (element ≡ place % 256) × HoldsMore element v w
    × PerformsEvents v (before ++ load (tail_word ring) tail r ∷ load (place_word ring tail) place s
    ∷ change (tail_word ring) tail t (take_event call ring) ∷ [])
    (with_event (with_held v element true) (take_event call ring)) w
TakesAfter before call v ring (Err nexts.NoneReady) w = (tail place : ℕ) × (r s t : Past)
    × (place / 256 ≢ tail + 1)
    × PerformsEvents v (before ++ load (tail_word ring) tail r ∷ load (place_word ring tail) place s
    ∷ load (tail_word ring) tail t ∷ []) (quiet v) w
TakesAfter before call v ring (Err (nexts.Lost seen)) w = (tail place : ℕ) × (r s t : Past)
    × (tail < seen)
    × PerformsEvents v (before ++ load (tail_word ring) tail r ∷ load (place_word ring tail) place s
    ∷ load (tail_word ring) seen t ∷ []) (quiet v) w

-- the result of a taking
abbrev pub TakeAnswer : ℕ → View → ℕ → Result ℕ NextRefusal → View → Type 0
TakeAnswer call v ring answer w = TakesAfter [] call v ring answer w

-- the position, and the number of notifies, of a head word
abbrev pub head_in : ℕ → ℕ
head_in word = word % NOTIFY

abbrev pub mark_in : ℕ → ℕ
mark_in word = word / NOTIFY

-- the event by which the hand raises the place of this position
abbrev pub raise_event : ℕ → View → ℕ → ℕ → Event
raise_event call v ring position = events.Raise call (ring_name ring) (position - v.own.first) 0

-- the view after these two events moved the element, the first one made at this schedule
abbrev pub with_move : View → ℕ → Event → Past → Event → View
with_move v element claim past raise = record v {
  own = record v.own {
    held = slice_set v.own.held element false;
    claimed = None;
    counted = None;
    made = v.own.made ++ made_in claim (state_after past.object)
        ∷ record { event = raise; number = 0; signals = [] } ∷ [];
  };
}

-- The head word was loaded, with a position left, and the exchange found the same word: the event claims the position
-- for the element. Up to the exchange no step of the element was counted. Then the place was raised, and the hand no
-- longer holds the element.
abbrev pub MovedBy : ℕ → View → ℕ → ℕ → Event → ℕ → View → Type 0
MovedBy call v ring element event word w = (place : ℕ) × (r s t : Past)
    × (head_in word < last_head) × (steps_in element s.object ≡ steps_in element v.seen.object) × HoldsLess element v w
    × PerformsEvents v (load (head_word ring) word r ∷ change (head_word ring) word s event
    ∷ change (place_word ring (head_in word)) place t (raise_event call v ring (head_in word)) ∷ [])
    (with_move v element event s (raise_event call v ring (head_in word))) w

-- the head word was loaded, and its head is the last position
abbrev pub WasSpent : View → ℕ → View → Type 0
WasSpent v ring w = (word : ℕ) × (r : Past) × (head_in word ≡ last_head)
    × PerformsEvents v (load (head_word ring) word r ∷ []) (quiet v) w

-- the head word was loaded, with a position left, but the exchange found another word
abbrev pub Overtaken : View → ℕ → ℕ → ℕ → View → Type 0
Overtaken v ring word seen w = (r s : Past) × (head_in word < last_head) × (seen ≢ word)
    × PerformsEvents v (load (head_word ring) word r ∷ load (head_word ring) seen s ∷ []) (quiet v) w

-- the result of a move without a ticket: the element is in the queue; or no position was left (Spent); or another hand
-- changed the head word first (Lost); never Moved
abbrev pub MoveAnswer : ℕ → View → ℕ → ℕ → Result (Unit {0}) MoveRefusal → View → Type 0
MoveAnswer call v ring element (Ok done) w =
    (word : ℕ) × MovedBy call v ring element (claim_event call ring element) word w
MoveAnswer call v ring element (Err moves.Spent) w = WasSpent v ring w
MoveAnswer call v ring element (Err (moves.Lost seen)) w = (word : ℕ) × Overtaken v ring word seen w
MoveAnswer call v ring element (Err (moves.Moved mark)) w = ⊥

-- the ticket is the number of notifies in the head word, which was loaded
abbrev pub IsTicket : View → ℕ → ℕ → View → Type 0
IsTicket v wait ticket w = (word : ℕ) × (r : Past) × (ticket ≡ mark_in word)
    × PerformsEvents v (load (head_word (wait_ring wait)) word r ∷ []) (quiet v) w

-- A number of notifies other than the ticket was found. It was in the head word that was loaded, with a position left.
-- Or it was in the word that the exchange found, and the loaded word had the ticket.
abbrev pub HasMoved : View → ℕ → ℕ → ℕ → View → Type 0
HasMoved v wait ticket mark w = (word : ℕ) × (r : Past) × (head_in word < last_head) × (mark ≢ ticket)
    × (((mark ≡ mark_in word) × PerformsEvents v (load (head_word (wait_ring wait)) word r ∷ []) (quiet v) w)
    ⊎ ((mark_in word ≡ ticket) × (seen : ℕ) × (s : Past) × (mark ≡ mark_in seen)
    × PerformsEvents v
    (load (head_word (wait_ring wait)) word r ∷ load (head_word (wait_ring wait)) seen s ∷ []) (quiet v) w))

-- the result of a wait with a ticket: the element is in the wait queue; or no position was left; or another hand moved
-- first, and the ticket is still good; or the number of notifies is no longer the ticket
abbrev pub WaitAnswer : ℕ → View → ℕ → ℕ → ℕ → Result (Unit {0}) MoveRefusal → View → Type 0
WaitAnswer call v wait element ticket (Ok done) w = (word : ℕ) × (mark_in word ≡ ticket)
    × MovedBy call v (wait_ring wait) element (events.WaitAt call wait element ticket) word w
WaitAnswer call v wait element ticket (Err moves.Spent) w = WasSpent v (wait_ring wait) w
WaitAnswer call v wait element ticket (Err (moves.Lost seen)) w =
    (word : ℕ) × (mark_in word ≡ ticket) × (mark_in seen ≡ ticket) × Overtaken v (wait_ring wait) word seen w
WaitAnswer call v wait element ticket (Err (moves.Moved mark)) w = HasMoved v wait ticket mark w

abbrev pub is_in : ℕ → ℕ → Bool
is_in mask number = bit_at mask number == 1

-- the stop bit was set by one step, and the result is whether it was clear before
abbrev pub StoppedNow : ℕ → View → ℕ → Bool → View → Type 0
StoppedNow call v element was_clear w = (word : ℕ) × (r : Past) × (was_clear ≡ not (is_in word stop_bit))
    × PerformsEvents v (change (state_word element) word r (events.Stop call element) ∷ [])
    (with_event (quiet v) (events.Stop call element)) w

-- the signal was made pending by one step, and `was_pending` is whether it was pending before
abbrev pub SignalledNow : ℕ → View → ℕ → ℕ → Bool → View → Type 0
SignalledNow call v element number was_pending w = (word : ℕ) × (r : Past) × (is_in word number ≡ was_pending)
    × PerformsEvents v (change (state_word element) word r (events.Signal call element number) ∷ [])
    (with_event (quiet v) (events.Signal call element number)) w

-- the result of a signal: Merged if the signal was pending before, else Raised
abbrev pub SignalAnswer : ℕ → View → ℕ → ℕ → Signalled → View → Type 0
SignalAnswer call v element number signalled.Raised w = SignalledNow call v element number false w
SignalAnswer call v element number signalled.Merged w = SignalledNow call v element number true w

-- the state word was loaded and satisfies `Is`, the exchange found the same word, and the event was made
abbrev pub Exchanged : (ℕ → Type 0) → View → ℕ → Event → View → View → Type 0
Exchanged Is v element event now w = (word : ℕ) × (r s : Past) × Is word
    × PerformsEvents v (load (state_word element) word r ∷ change (state_word element) word s event ∷ []) now w

-- the state word was loaded and satisfies `Is`, but the exchange found another word
abbrev pub WasChanged : (ℕ → Type 0) → View → ℕ → ℕ → View → Type 0
WasChanged Is v element seen w = (word : ℕ) × (r s : Past) × Is word × (seen ≢ word)
    × PerformsEvents v (load (state_word element) word r ∷ load (state_word element) seen s ∷ []) (quiet v) w

-- the state word was loaded and satisfies `Is`
abbrev pub FoundState : (ℕ → Type 0) → View → ℕ → View → Type 0
FoundState Is v element w = (word : ℕ) × (r : Past) × Is word
    × PerformsEvents v (load (state_word element) word r ∷ []) (quiet v) w

-- the state word was loaded, and the mask is the signals that were pending in it
abbrev pub IsPending : View → ℕ → ℕ → View → Type 0
IsPending v element mask w = FoundState (λ word. mask ≡ word % STOP) v element w

-- the stop bit of a state word is set, or clear
abbrev pub HasStop : ℕ → Type 0
HasStop word = is_in word stop_bit ≡ true

abbrev pub HasNoStop : ℕ → Type 0
HasNoStop word = is_in word stop_bit ≡ false

-- the stop bit of the state word is set, and the stop cell's bit is `parked`
abbrev pub HasCell : Bool → ℕ → Type 0
HasCell parked word = HasStop word × (is_in word cell_bit ≡ parked)

-- a signal of a state word is pending
abbrev pub HasSignals : ℕ → Type 0
HasSignals word = 0 < word % STOP

-- the stop bit was cleared, and `parked` is whether the element was in its stop cell
abbrev pub StartedNow : ℕ → View → ℕ → Bool → View → Type 0
StartedNow call v element parked w = Exchanged (HasCell parked) v element (events.Start call element)
    (with_event (with_start v element parked) (events.Start call element)) w

-- the result of a start: the stop bit was clear; or it was cleared, and the hand holds the element if the element was
-- parked; or the state word was changed between the load and the exchange
abbrev pub StartAnswer : ℕ → View → ℕ → Result Started Lost → View → Type 0
StartAnswer call v element (Ok started.NotStopped) w = FoundState HasNoStop v element w
StartAnswer call v element (Ok started.Cleared) w = StartedNow call v element false w
StartAnswer call v element (Ok started.Held) w = HoldsMore element v w × StartedNow call v element true w
StartAnswer call v element (Err lost) w = WasChanged HasStop v element lost.seen w

-- the result of a park: true if the element was put into its stop cell, and no step of it was counted in the call;
-- false if the stop bit was clear; Lost if the state word was changed between the load and the exchange
abbrev pub ParkAnswer : ℕ → View → ℕ → Result Bool Lost → View → Type 0
ParkAnswer call v element (Ok true) w = HoldsLess element v w
    × Exchanged HasStop v element (events.Park call element)
    (with_event (with_held v element false) (events.Park call element)) w
    × (steps_in element w.seen.object ≡ steps_in element v.seen.object)
ParkAnswer call v element (Ok false) w = FoundState HasNoStop v element w
ParkAnswer call v element (Err lost) w = WasChanged HasStop v element lost.seen w

-- the signals of a mask, in order
abbrev pub signals_in : ℕ → List ℕ
signals_in mask = filter (is_in mask) (range_with_len 0 16)

-- the view after these signals of an element were delivered
abbrev pub with_delivery : View → Event → ℕ → View
with_delivery v event mask = record v {
  own = record v.own {
    counted = None;
    made = v.own.made ++ record { event = event; number = 0; signals = signals_in mask } ∷ [];
  };
}

-- the result of a delivery: the mask of the pending signals that were delivered; 0, and no event, if none was pending;
-- or Lost if the state word was changed between the load and the exchange
abbrev pub DeliverAnswer : ℕ → View → ℕ → Result ℕ Lost → View → Type 0
DeliverAnswer call v element (Ok zero) w = FoundState (λ word. word % STOP ≡ 0) v element w
DeliverAnswer call v element (Ok (suc mask)) w = Exchanged (λ word. word % STOP ≡ suc mask) v element
    (events.Deliver call element) (with_delivery v (events.Deliver call element) (suc mask)) w
DeliverAnswer call v element (Err lost) w = WasChanged HasSignals v element lost.seen w

-- the number of steps done of the element was found: all those that were counted up to the load
abbrev pub ReadPc : ℕ → View → ℕ → View → Type 0
ReadPc element v found w = (r : Past) × (found ≡ steps_in element r.object)
    × PerformsEvents v (load (done_word element) found r ∷ []) (having_found v (count_of element found)) w

-- the hand counts one step of an element, which had done `number` steps
abbrev pub with_step : View → Event → ℕ → View
with_step v event number = record v {
  own = record v.own {
    counted = None;
    made = v.own.made ++ record { event = event; number = number; signals = [] } ∷ [];
  };
}

-- the result of a step done: the new number of steps, one more than was found; or Spent, if 4,294,967,295 steps were
-- found
abbrev pub DoneAnswer : ℕ → View → ℕ → Result ℕ Spent → View → Type 0
DoneAnswer call v element (Ok number) w = (count : ℕ) × (r s : Past) × (number ≡ count + 1)
    × (count ≡ steps_in element r.object) × (count ≡ steps_in element s.object)
    × PerformsEvents v
    (load (done_word element) count r ∷ change (done_word element) count s (events.Done call element) ∷ [])
    (with_step v (events.Done call element) count) w
DoneAnswer call v element (Err spent) w = ReadPc element v most_done w

-- an element that the hand held was put on a processor, whose word was 0
abbrev pub PutsOn : ℕ → ℕ → ℕ → View → View → Type 0
PutsOn call p element v w = (r : Past) × (running w p ≡ Some element) × HoldsLess element v w
    × PerformsEvents v (change (processor_word p) 0 r (events.On call p element) ∷ [])
    (with_event (with_on v p element) (events.On call p element)) w

-- the element was taken off the processor, whose word was one more than the element's number
abbrev pub TakesOff : ℕ → ℕ → ℕ → View → View → Type 0
TakesOff call p element v w = (r : Past) × (running w p ≡ None) × HoldsMore element v w
    × PerformsEvents v (change (processor_word p) (element + 1) r (events.Off call p) ∷ [])
    (with_event (with_off v p element) (events.Off call p)) w
