-- What each call did, what its answer means, and why it was refused, for the call's caller: by the events that it made,
-- by what the hand holds, and by what was so at a moment of the call. A moment's events are those of all hands so far.
use Rattle.std.specs.Prelude.{◌≡◌, ◌≢◌, ◌⊎◌, ◌+◌, ◌*◌, ◌<◌, ◌≤◌, ◌&&◌, ◌||◌, ℕ, zero, suc, Bool, true, false, not}
use Rattle.std.specs.Prelude.{List, [], ◌∷◌, ◌++◌, map, take, flat_map, length, slice_set, slice_index_or}
use Rattle.std.specs.Prelude.{Some, None, Option}
use Rattle.std.specs.List.{AllByRecursion}
use Rattle.std.specs.Option.{option_or}
use Rattle.event_theory.specs.Elements.{Thread}
use Rattle.event_theory.specs.Queues.{Queue, left}
use Rattle.event_theory.specs.declared.event.Event.{Event}
use Rattle.event_theory.specs.declared.event.Event.TheVariants as events
use Rattle.table_theory.specs.Ends.{Begins}
use Rattle.table_theory.specs.Ledgers.{ExtendsTrace}
use Rattle.table_theory.specs.Moments.{AtSomeMoment, AtTwoMoments, AreEvents, Does, StepsAtMost}
use Rattle.table_theory.specs.Sharing.{given}
use Rattle.thread_table.specs.declared.layout.TheConstants.{ELEMENTS, PROCESSORS, NOTIFY}
use Rattle.thread_table.specs.declared.moves.MoveRefusal.{MoveRefusal}
use Rattle.thread_table.specs.declared.moves.MoveRefusal.TheVariants as moves
use Rattle.thread_table.specs.declared.places.Place.{Place}
use Rattle.thread_table.specs.declared.places.Place.TheVariants as places
use Rattle.thread_table.specs.declared.rule.MadeEvent.{MadeEvent}
use Rattle.thread_table.specs.declared.states.Signalled.{Signalled}
use Rattle.thread_table.specs.declared.states.Signalled.TheVariants as signalled
use Rattle.thread_table.specs.declared.states.Started.{Started}
use Rattle.thread_table.specs.declared.states.Started.TheVariants as started
use Rattle.thread_table.specs.declared.takings.NextRefusal.{NextRefusal}
use Rattle.thread_table.specs.declared.takings.NextRefusal.TheVariants as nexts
use Rattle.thread_table.specs.Answers.{is_in}
use Rattle.thread_table.specs.Closings.{StandsAt}
use Rattle.thread_table.specs.Entries.{Step, HoldsMore, HoldsLess, take_event}
use Rattle.thread_table.specs.Layout.{wait_ring, last_head}
use Rattle.thread_table.specs.Makers.{AreMade}
use Rattle.thread_table.specs.Own.{View}
use Rattle.thread_table.specs.Rules.{has, serves, running, done_at}
use Rattle.thread_table.specs.Schedules.{elements_after, ring_at, thread_at, ring_name}
use Rattle.thread_table.specs.Shown.{StateShows, mark_of}

-- TERMS

-- an element queue after these events
abbrev pub queue_after : List Event → ℕ → Queue
queue_after past ring = ring_at (elements_after past) ring

-- the positions of an element queue's head and tail after these events: that of the next place that is claimed, and
-- that of the oldest element that is left
abbrev pub head_after : View → ℕ → List Event → ℕ
head_after v ring past = v.own.first + length (queue_after past ring).history

abbrev pub tail_after : View → ℕ → List Event → ℕ
tail_after v ring past = v.own.first + (queue_after past ring).taken

-- how many notifies a wait queue has had after these events, modulo 2^32
abbrev pub notifies_after : ℕ → List Event → ℕ
notifies_after ring past = mark_of (elements_after past) ring

-- an element's stop bit, stop cell and signals after these events
abbrev pub thread_after : List Event → ℕ → Thread
thread_after past element = thread_at (elements_after past) element

-- the events that the hand lists as its own
abbrev pub events_of : View → List Event
events_of v = map (λ (m : MadeEvent). m.event) v.own.made

-- the call made just these events, in this order, each at one of its steps, and the hand lists them after all others
abbrev pub Made : View → List Event → View → Type 0
Made v events w = (events_of w ≡ events_of v ++ events)
    × Does (λ event past next. next ≡ past ++ event ∷ []) (λ past next. next ≡ past) v events w

-- the call made no event, the hand holds what it held, and its list of events is as it was
abbrev pub MadeNothing : View → View → Type 0
MadeNothing v w = Made v [] w × (w.own.held ≡ v.own.held) × (w.own.made ≡ v.own.made)

-- the call made just these events, and the hand holds what it held
abbrev pub MadeOnly : View → List Event → View → Type 0
MadeOnly v events w = Made v events w × (w.own.held ≡ v.own.held)

-- the hand has the share that it had, and the call split no hand off and joined none
abbrev pub KeepsPart : View → View → Type 0
KeepsPart v w = w.member ≡ v.member

-- the call made at most so many steps, and none of them was for a split or a join
pub record OnlySteps (number : ℕ) (v w : View) : Type 0 where
  pub steps : StepsAtMost number v w
  pub part : KeepsPart v w

-- these steps made no event
abbrev pub MadeNone : List Step → Type 0
MadeNone steps = AreEvents (λ event past next. next ≡ past ++ event ∷ []) (λ past next. next ≡ past) steps []

-- the call made this event at one of its steps, and Holds was true of all events before it
pub record MadeWhen (v : View) (event : Event) (Holds : List Event → Type 0) (w : View) : Type 0 where
  pub before : List Step
  pub step : Step
  pub after : List Step
  pub adds : ExtendsTrace v (before ++ step ∷ after) w
  pub makes : step.next.object ≡ step.then.object ++ event ∷ []
  pub holds : Holds step.then.object

-- TAKINGS

-- the hand took the element out of the queue: it holds the element, which it did not hold, and all that it held
abbrev pub Took : ℕ → ℕ → ℕ → View → View → Type 0
Took call ring element v w = HoldsMore element v w × Made v (take_event call ring ∷ []) w

-- the element was the oldest in the queue when it was taken
abbrev pub TookOldest : ℕ → ℕ → ℕ → View → View → Type 0
TookOldest call ring element v w =
    MadeWhen v (take_event call ring) (λ past. take 1 (left (queue_after past ring)) ≡ element ∷ []) w

-- why no element was taken: the place at the tail was not raised; or the tail moved on during the call, to `seen`
abbrev pub WhyNotTaken : ℕ → NextRefusal → View → View → Type 0
WhyNotTaken ring nexts.NoneReady v w =
    AtSomeMoment v w (λ past. (queue_after past ring).raised (queue_after past ring).taken 0 ≡ false)
WhyNotTaken ring (nexts.Lost seen) v w = AtTwoMoments v w (λ past later.
    (tail_after v ring past < tail_after v ring later) × (tail_after v ring later ≡ seen))

-- MOVES

-- The hand put the element into the queue and no longer holds it: by this event it claimed the next place, after all
-- that were claimed before, and then it raised that place.
abbrev pub Moved : ℕ → ℕ → ℕ → Event → View → View → Type 0
Moved call ring element event v w = HoldsLess element v w × (run : ℕ)
    × Made v (event ∷ events.Raise call (ring_name ring) run 0 ∷ []) w
    × MadeWhen v event (λ past. length (queue_after past ring).history ≡ run) w

-- another hand claimed a place of the queue between two moments, or made a notify
abbrev pub HeadMoved : ℕ → List Event → List Event → Type 0
HeadMoved ring past later = (length (queue_after past ring).history < length (queue_after later ring).history)
    ⊎ (notifies_after ring past ≢ notifies_after ring later)

-- the head word shows the head, in its low half, and the number of notifies, in its high half
abbrev pub ShowsHead : View → ℕ → List Event → ℕ → Type 0
ShowsHead v ring past word = word ≡ head_after v ring past + notifies_after ring past * NOTIFY

-- why no element was put into the queue: no position was left; or one was left, and another hand was first
abbrev pub WhyNotMoved : ℕ → MoveRefusal → View → View → Type 0
WhyNotMoved ring moves.Spent v w = AtSomeMoment v w (λ past. head_after v ring past ≡ last_head)
WhyNotMoved ring (moves.Lost seen) v w = AtTwoMoments v w (λ past later. (head_after v ring past < last_head)
    × HeadMoved ring past later × ShowsHead v ring later seen)
WhyNotMoved ring (moves.Moved mark) v w = ⊥

-- Why no element was put into the wait queue with a ticket. Spent: no position was left. Lost: another hand was first,
-- and the ticket was good before and after. Moved: a position was left, and the number of notifies was another one,
-- `mark`
abbrev pub WhyNotWaited : ℕ → ℕ → MoveRefusal → View → View → Type 0
WhyNotWaited wait ticket moves.Spent v w = AtSomeMoment v w (λ past. head_after v (wait_ring wait) past ≡ last_head)
WhyNotWaited wait ticket (moves.Lost seen) v w = AtTwoMoments v w (λ past later.
    (notifies_after (wait_ring wait) past ≡ ticket)
    × (head_after v (wait_ring wait) past < head_after v (wait_ring wait) later)
    × (notifies_after (wait_ring wait) later ≡ ticket) × ShowsHead v (wait_ring wait) later seen)
WhyNotWaited wait ticket (moves.Moved mark) v w = (mark ≢ ticket)
    × AtSomeMoment v w (λ past. head_after v (wait_ring wait) past < last_head)
    × AtSomeMoment v w (λ past. notifies_after (wait_ring wait) past ≡ mark)

-- the ticket was the number of notifies of the wait queue
abbrev pub IsTicketOf : ℕ → ℕ → View → View → Type 0
IsTicketOf wait ticket v w = AtSomeMoment v w (λ past. notifies_after (wait_ring wait) past ≡ ticket)

-- the call waited while its ticket was good: no notify came between the ticket and the claim
abbrev pub WaitedInTime : ℕ → ℕ → ℕ → ℕ → View → View → Type 0
WaitedInTime call wait element ticket v w = MadeWhen v (events.WaitAt call wait element ticket)
    (λ past. notifies_after (wait_ring wait) past ≡ ticket) w

-- STOP BITS AND SIGNALS

-- The call had something to do, as Has says of the element. Then another hand changed the element's stop bit, stop cell
-- or signals, to those that `seen` shows
abbrev pub WhyLost : (Thread → Type 0) → ℕ → ℕ → View → View → Type 0
WhyLost Has element seen v w = AtTwoMoments v w (λ past later. Has (thread_after past element)
    × (StateShows (thread_after past element) seen → ⊥) × StateShows (thread_after later element) seen)

-- the stop bit is set; a start and a park then have something to do
abbrev pub IsStopped : Thread → Type 0
IsStopped thread = thread.stop ≡ true

-- not all signals are clear; a delivery then has something to do
abbrev pub HasPending : Thread → Type 0
HasPending thread = ((signal : ℕ) → signal < 16 → thread.pending signal ≡ false) → ⊥

-- the effect of a start: nothing; or its event, and the hand then holds the element, if it was in its stop cell
abbrev pub StartDid : ℕ → ℕ → Started → View → View → Type 0
StartDid call element started.NotStopped v w = MadeNothing v w
StartDid call element started.Cleared v w = MadeOnly v (events.Start call element ∷ []) w
StartDid call element started.Held v w = HoldsMore element v w × Made v (events.Start call element ∷ []) w

-- what a start found: the stop bit was clear; or it was set, and the element was not in its stop cell, or was
abbrev pub StartFound : ℕ → ℕ → Started → View → View → Type 0
StartFound call element started.NotStopped v w = AtSomeMoment v w (λ past. (thread_after past element).stop ≡ false)
StartFound call element started.Cleared v w = MadeWhen v (events.Start call element)
    (λ past. ((thread_after past element).stop ≡ true) × ((thread_after past element).parked ≡ false)) w
StartFound call element started.Held v w = MadeWhen v (events.Start call element)
    (λ past. ((thread_after past element).stop ≡ true) × ((thread_after past element).parked ≡ true)) w

-- the effect of a park: the element is in its stop cell, and the hand no longer holds it; or nothing
abbrev pub ParkDid : ℕ → ℕ → Bool → View → View → Type 0
ParkDid call element true v w = HoldsLess element v w × Made v (events.Park call element ∷ []) w
ParkDid call element false v w = MadeNothing v w

-- what a park found: the stop bit was set, or clear
abbrev pub ParkFound : ℕ → ℕ → Bool → View → View → Type 0
ParkFound call element true v w = MadeWhen v (events.Park call element)
    (λ past. (thread_after past element).stop ≡ true) w
ParkFound call element false v w = AtSomeMoment v w (λ past. (thread_after past element).stop ≡ false)

-- whether the stop bit was clear when it was set
abbrev pub StopFound : ℕ → ℕ → Bool → View → View → Type 0
StopFound call element was_clear v w = MadeWhen v (events.Stop call element)
    (λ past. was_clear ≡ not (thread_after past element).stop) w

-- whether the signal was pending already when it was made pending
abbrev pub SignalFound : ℕ → ℕ → ℕ → Signalled → View → View → Type 0
SignalFound call element signal signalled.Raised v w = MadeWhen v (events.Signal call element signal)
    (λ past. (thread_after past element).pending signal ≡ false) w
SignalFound call element signal signalled.Merged v w = MadeWhen v (events.Signal call element signal)
    (λ past. (thread_after past element).pending signal ≡ true) w

-- the signals of the mask are those that are pending after these events
abbrev pub ArePending : ℕ → ℕ → List Event → Type 0
ArePending element mask past = (signal : ℕ) → signal < 16
    → (thread_after past element).pending signal ≡ is_in mask signal

-- the signals of the mask were those that were pending
abbrev pub WerePending : ℕ → ℕ → View → View → Type 0
WerePending element mask v w = AtSomeMoment v w (ArePending element mask)

-- the effect of a delivery, and what it found: the signals of the mask were pending and are delivered; or none was
abbrev pub DeliverDid : ℕ → ℕ → ℕ → View → View → Type 0
DeliverDid call element zero v w = MadeNothing v w
DeliverDid call element (suc mask) v w = MadeOnly v (events.Deliver call element ∷ []) w

abbrev pub DeliverFound : ℕ → ℕ → ℕ → View → View → Type 0
DeliverFound call element zero v w = AtSomeMoment v w (ArePending element 0)
DeliverFound call element (suc mask) v w = MadeWhen v (events.Deliver call element) (ArePending element (suc mask)) w

-- STEPS DONE

-- the element had done this number of steps
abbrev pub HadDone : ℕ → ℕ → View → View → Type 0
HadDone element number v w = AtSomeMoment v w (λ past. done_at past element ≡ number)

-- with the step that the call counted, the element has done this number of steps
abbrev pub StepFound : ℕ → ℕ → ℕ → View → View → Type 0
StepFound call element number v w = MadeWhen v (events.Done call element) (λ past. done_at past element + 1 ≡ number) w

-- PROCESSORS

-- the hand put the element, which it no longer holds, on the processor, where nothing was
abbrev pub PutOn : ℕ → ℕ → ℕ → View → View → Type 0
PutOn call processor element v w = (running v processor ≡ None) × HoldsLess element v w
    × (w.own.on ≡ slice_set v.own.on processor (Some element)) × Made v (events.On call processor element ∷ []) w

-- the hand took the element, which it then holds, off the processor, where it was
abbrev pub TookOff : ℕ → ℕ → ℕ → View → View → Type 0
TookOff call processor element v w = (running v processor ≡ Some element) × HoldsMore element v w
    × (w.own.on ≡ slice_set v.own.on processor None) × Made v (events.Off call processor ∷ []) w

-- the hand serves the processors that it served, has its part of the share, and counts positions from the same first
abbrev pub ServesSame : View → View → Type 0
ServesSame v w = (w.own.serves ≡ v.own.serves) × (w.member.share ≡ v.member.share) × (w.own.first ≡ v.own.first)

-- NOTIFIES AND WAKES

-- the head that a notify found: the position after the last place that was claimed before it
abbrev pub NotifyFound : ℕ → ℕ → ℕ → View → View → Type 0
NotifyFound call wait head v w = MadeWhen v (events.NotifyWait call wait)
    (λ past. head_after v (wait_ring wait) past ≡ head) w

-- the effect of a try to take before a position: nothing, or a taking
abbrev pub BeforeDid : ℕ → ℕ → Option ℕ → View → View → Type 0
BeforeDid call ring None v w = MadeNothing v w
BeforeDid call ring (Some element) v w = Took call ring element v w

-- what such a try found: each place before the position was taken; or not each, and then the oldest element of the
-- queue
abbrev pub BeforeFound : ℕ → ℕ → ℕ → Option ℕ → View → View → Type 0
BeforeFound call ring head None v w = AtSomeMoment v w (λ past. head ≤ tail_after v ring past)
BeforeFound call ring head (Some element) v w = AtSomeMoment v w (λ past. tail_after v ring past < head)
    × TookOldest call ring element v w

-- why such a try took nothing: not each place before the position was taken, and it was refused as a taking is
abbrev pub WhyNotBefore : ℕ → ℕ → NextRefusal → View → View → Type 0
WhyNotBefore ring head refusal v w = AtSomeMoment v w (λ past. tail_after v ring past < head)
    × WhyNotTaken ring refusal v w

-- the takings of a wake: so many from this queue
abbrev pub takings : ℕ → ℕ → ℕ → List Event
takings call ring zero = []
takings call ring (suc number) = take_event call ring ∷ takings call ring number

-- The call made one notify, and then takings alone. The hand holds the elements of the mask, none of which it held, and
-- all that it held.
abbrev pub Woke : ℕ → ℕ → ℕ → View → View → Type 0
Woke call wait mask v w = ((e : ℕ) → e < ELEMENTS → has w e ≡ (has v e || is_in mask e))
    × ((e : ℕ) → e < ELEMENTS → is_in mask e ≡ true → has v e ≡ false)
    × (number : ℕ) × Made v (events.NotifyWait call wait ∷ takings call (wait_ring wait) number) w

-- After the call's notify, and at most three steps before its last taking, a place that was claimed before the notify
-- was not yet taken.
pub record TookLastInTime (call wait : ℕ) (v w : View) : Type 0 where
  pub before : List Step
  pub notify : Step
  pub between : List Step
  pub look : Step
  pub soon : List Step
  pub taking : Step
  pub rest : List Step
  pub adds : ExtendsTrace v (before ++ notify ∷ (between ++ look ∷ (soon ++ taking ∷ rest))) w
  pub makes : notify.next.object ≡ notify.then.object ++ events.NotifyWait call wait ∷ []
  pub low : tail_after v (wait_ring wait) look.then.object < head_after v (wait_ring wait) notify.then.object
  pub near : length soon ≤ 2
  pub only : MadeNone soon
  pub takes : taking.next.object ≡ taking.then.object ++ take_event call (wait_ring wait) ∷ []
  pub last : MadeNone rest

-- the call took no more than it had to: nothing, or its last taking was in time
abbrev pub WokeNoMore : ℕ → ℕ → View → View → Type 0
WokeNoMore call wait v w = Made v (events.NotifyWait call wait ∷ []) w ⊎ TookLastInTime call wait v w

-- each place that was claimed before the call's notify was taken, by this hand or by others, at a later moment
pub record WokeAllBefore (call wait : ℕ) (v w : View) : Type 0 where
  pub before : List Step
  pub notify : Step
  pub between : List Step
  pub last : Step
  pub after : List Step
  pub adds : ExtendsTrace v (before ++ notify ∷ (between ++ last ∷ after)) w
  pub makes : notify.next.object ≡ notify.then.object ++ events.NotifyWait call wait ∷ []
  pub reached : head_after v (wait_ring wait) notify.then.object ≤ tail_after v (wait_ring wait) last.then.object

-- one of these steps found the place at the tail not raised
pub record FoundUnraised (ring : ℕ) (steps : List Step) : Type 0 where
  pub before : List Step
  pub step : Step
  pub after : List Step
  pub are : steps ≡ before ++ step ∷ after
  pub low : (queue_after step.then.object ring).raised (queue_after step.then.object ring).taken 0 ≡ false

-- the tail moved on between two of these steps
pub record FoundTailMoved (v : View) (ring : ℕ) (steps : List Step) : Type 0 where
  pub before : List Step
  pub first : Step
  pub between : List Step
  pub second : Step
  pub after : List Step
  pub are : steps ≡ before ++ first ∷ (between ++ second ∷ after)
  pub moved : tail_after v ring first.then.object < tail_after v ring second.then.object

-- One try of a wake, in at most four steps: it took one element. Or it took none, since the place at the tail was not
-- raised, or the tail moved on.
abbrev pub IsWakeTry : ℕ → ℕ → View → List Step → Type 0
IsWakeTry call ring v steps = (length steps ≤ 4)
    × (AreEvents (λ event past next. next ≡ past ++ event ∷ []) (λ past next. next ≡ past) steps
    (take_event call ring ∷ [])
    ⊎ (MadeNone steps × (FoundUnraised ring steps ⊎ FoundTailMoved v ring steps)))

-- after its notify, and until its last look, the call tried to take without a pause
pub record TriedAlways (call wait : ℕ) (v w : View) : Type 0 where
  pub notify : Step
  pub tries : List (List Step)
  pub last : Step
  pub adds : ExtendsTrace v (notify ∷ (flat_map (λ try. try) tries ++ last ∷ [])) w
  pub makes : notify.next.object ≡ notify.then.object ++ events.NotifyWait call wait ∷ []
  pub each : AllByRecursion (IsWakeTry call (wait_ring wait) v) tries

-- HANDS

-- the hand no longer serves the processors of the mask, and the new hand serves these
abbrev pub GaveProcessors : ℕ → View → View → View → Type 0
GaveProcessors mask old new born = (p : ℕ) → p < PROCESSORS
    → (serves new p ≡ (serves old p && not (is_in mask p))) × (serves born p ≡ is_in mask p)

-- the new hand holds no element, has none on a processor, and made no event
pub record HasNothing (born : View) : Type 0 where
  pub holds : (e : ℕ) → e < ELEMENTS → has born e ≡ false
  pub runs : (p : ℕ) → p < PROCESSORS → running born p ≡ None
  pub made : born.own.made ≡ []

-- The effect of a split: the new hand has the processors of the mask, and nothing else. It has seen all events that the
-- other hand has seen, and counts positions from the same first. The hand made no event.
pub record DidSplit (mask : ℕ) (old new born : View) : Type 0 where
  pub gave : GaveProcessors mask old new born
  pub nothing : HasNothing born
  pub knows : born.seen.object ≡ new.seen.object
  pub first : born.own.first ≡ old.own.first
  pub made : Made old [] new

-- the hand keeps the elements that it holds, those on its processors, the events that it made, and the first position
pub record KeepsElements (v w : View) : Type 0 where
  pub held : w.own.held ≡ v.own.held
  pub on : w.own.on ≡ v.own.on
  pub made : w.own.made ≡ v.own.made
  pub first : w.own.first ≡ v.own.first

-- the new hand gets half of the share, but at most 2^21 parts, and the hand keeps the rest
abbrev pub PartsShare : View → View → View → Type 0
PartsShare old new born = (born.member.share ≡ given old.member.share)
    × (new.member.share + born.member.share ≡ old.member.share)

-- The effect of a join: the hand has what both hands had, which are their elements, their processors and the elements
-- on them, and the events that they made. It has seen all that both had seen.
pub record HasBoth (v u w : View) : Type 0 where
  pub holds : (e : ℕ) → has w e ≡ (has v e || has u e)
  pub serves : (p : ℕ) → serves w p ≡ (serves v p || serves u p)
  pub runs : (p : ℕ) → running w p ≡ option_or (running v p) (running u p)
  pub made : w.own.made ≡ v.own.made ++ u.own.made
  pub knows : Begins v.course w.course × Begins u.course w.course

-- no element was held, and no processor served, by both hands, and the hand has the share of both
pub record AddsShare (v u w : View) : Type 0 where
  pub apart : (e : ℕ) → (has v e && has u e) ≡ false
  pub alone : (p : ℕ) → (serves v p && serves u p) ≡ false
  pub share : w.member.share ≡ v.member.share + u.member.share

-- the hand has seen all events of the table, and lists each of them except the joins once
abbrev pub ListsAll : View → Type 0
ListsAll v = AreMade v.seen.object (v.own.made ∷ [])

-- The lists of a closed table, by the number of the element: its place after all events, how many steps it had done,
-- its pending signals, and its stop bit
pub record ReportsElements (call : ℕ) (v : View) (all : List Place) (pcs pending : List ℕ) (stops : ℕ) : Type 0 where
  pub place : (x : ℕ) → x < ELEMENTS → StandsAt call x (elements_after v.seen.object) (slice_index_or all x places.Held)
  pub steps : (x : ℕ) → x < ELEMENTS → slice_index_or pcs x 0 ≡ done_at v.seen.object x
  pub signals : (x : ℕ) → x < ELEMENTS → ArePending x (slice_index_or pending x 0) v.seen.object
  pub stopped : (x : ℕ) → x < ELEMENTS → (thread_after v.seen.object x).stop ≡ is_in stops x
