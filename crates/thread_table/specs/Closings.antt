-- The result of closing a table.
use Rattle.std.specs.Prelude.{◌≡◌, ◌≢◌, ◌+◌, ◌%◌, ◌<◌, ◌≤◌, ◌==◌, ℕ, zero, suc, Bool, true, false, List, [], ◌∷◌}
use Rattle.std.specs.Prelude.{Option, Some, None, slice_index_or}
use Rattle.std.specs.List.{list_any}
use Rattle.std.specs.Int.{bit_at}
use Rattle.event_theory.specs.Accounts.{IsAccounted}
use Rattle.event_theory.specs.Appearances.{is_on}
use Rattle.event_theory.specs.Elements.{Elements, holds}
use Rattle.event_theory.specs.Queues.{Queue, left}
use Rattle.event_theory.specs.States.{first_state}
use Rattle.event_theory.specs.declared.event.Event.{Event}
use Rattle.table_theory.specs.Ledgers.{load}
use Rattle.table_theory.specs.Sharing.{IsWhole, IsCount}
use Rattle.thread_table.specs.declared.places.Place.{Place}
use Rattle.thread_table.specs.declared.places.Place.TheVariants as places
use Rattle.thread_table.specs.Own.{View}
use Rattle.thread_table.specs.Schedules.{Past, state_after, elements_after, IsAllowed, ring_at, thread_at}
use Rattle.thread_table.specs.declared.layout.TheConstants.{PROCESSORS, ELEMENTS, RINGS, NOTIFY}
use Rattle.thread_table.specs.Layout.{processor_word, state_word, head_word, tail_word, place_word, ready_ring}
use Rattle.thread_table.specs.Layout.{ends_word, free_ring, wait_ring, cell_bit}
use Rattle.thread_table.specs.Rules.{HandIs, done_at}
use Rattle.thread_table.specs.Views.{quiet}
use Rattle.thread_table.specs.Makers.{AreMade, StepsOnce}
use Rattle.thread_table.specs.Retiring.{AreRetired}
use Rattle.thread_table.specs.Entries.{PerformsEvents}
use Rattle.thread_table.specs.Answers.{is_in}

abbrev pub word_at : List ℕ → ℕ → ℕ
word_at words i = slice_index_or words i 0

-- the processor whose word names the element; none if no processor's word does
abbrev pub ProcessorOf : ℕ → List ℕ → Option ℕ → Type 0
ProcessorOf element words None = (p : ℕ) → p < PROCESSORS → word_at words (processor_word p) ≢ element + 1
ProcessorOf element words (Some p) = (p < PROCESSORS) × (word_at words (processor_word p) ≡ element + 1)

-- the element is in a place of the queue that is claimed and not taken
abbrev pub IsIn : ℕ → List ℕ → ℕ → Type 0
IsIn element words ring = (position : ℕ) × (word_at words (tail_word ring) ≤ position)
    × (position < word_at words (head_word ring) % NOTIFY)
    × (word_at words (place_word ring position) % 256 ≡ element)

abbrev pub RingOf : ℕ → List ℕ → Option ℕ → Type 0
RingOf element words None = (ring : ℕ) → ring < RINGS → IsIn element words ring → ⊥
RingOf element words (Some ring) = (ring < RINGS) × IsIn element words ring

abbrev pub ring_place : ℕ → Place
ring_place zero = places.Ready
ring_place (suc zero) = places.Free
ring_place (suc (suc wait)) = places.Wait wait

abbrev pub place_by : Option ℕ → Option ℕ → Bool → Place
place_by (Some p) ring parked = places.Processor p
place_by None (Some ring) parked = ring_place ring
place_by None None true = places.Stopped
place_by None None false = places.Held

-- the element's place by the words: a processor, else an element queue, else its stop cell; else the element is held
abbrev pub PlaceOf : ℕ → List ℕ → Place → Type 0
PlaceOf element words place = (seat : Option ℕ) × (ring : Option ℕ) × ProcessorOf element words seat
    × RingOf element words ring
    × (place ≡ place_by seat ring (bit_at (word_at words (state_word element)) cell_bit == 1))

abbrev pub is_left : ℕ → Queue → Bool
is_left element q = list_any (λ item. item == element) (left q)

-- the element is in this place; for Held: the call holds the element
abbrev pub StandsAt : ℕ → ℕ → Elements → Place → Type 0
StandsAt call element e (places.Processor p) = is_on element (slice_index_or e.processors p None) ≡ true
StandsAt call element e places.Ready = is_left element (ring_at e ready_ring) ≡ true
StandsAt call element e places.Free = is_left element (ring_at e free_ring) ≡ true
StandsAt call element e (places.Wait wait) = is_left element (ring_at e (wait_ring wait)) ≡ true
StandsAt call element e places.Stopped = (thread_at e element).parked ≡ true
StandsAt call element e places.Held = holds call element e ≡ true

-- the bits of the mask are the signals that are pending after these events
abbrev pub ArePending : ℕ → List Event → ℕ → Type 0
ArePending element schedule mask = (signal : ℕ) → signal < 16
    → (thread_at (elements_after schedule) element).pending signal ≡ is_in mask signal

-- The table is closed by a hand that has the whole, so the hand has seen all events and lists each event except the
-- joins once. One event of the list counts each step that an element has done. Each signal was made pending as often as
-- it was delivered, once more if it is pending. Each element's place, steps, pending signals and stop bit are those
-- that are reported.
pub record ClosedNow (call : ℕ) (v : View) (stands : List Place) (pcs pending : List ℕ) (stops : ℕ) : Type 0 where
  pub whole : IsWhole v.member.share
  pub allowed : IsAllowed v.seen.object
  pub accounted : IsAccounted (first_state ELEMENTS) v.seen.object (state_after v.seen.object)
  pub hand : HandIs call (quiet v) (elements_after v.seen.object)
  pub made : AreMade v.seen.object (v.own.made ∷ [])
  pub steps_once : StepsOnce v.own.made (elements_after v.seen.object)
  pub retired : AreRetired v.seen.object
  pub places : (x : ℕ) → x < ELEMENTS
      → StandsAt call x (elements_after v.seen.object) (slice_index_or stands x places.Held)
  pub steps : (x : ℕ) → x < ELEMENTS → slice_index_or pcs x 0 ≡ done_at v.seen.object x
  pub signals : (x : ℕ) → x < ELEMENTS → ArePending x v.seen.object (slice_index_or pending x 0)
  pub stopped : (x : ℕ) → x < ELEMENTS → (thread_at (elements_after v.seen.object) x).stop ≡ is_in stops x

-- other hands exist: the number of hands was found, this hand included, and this hand doesn't have the whole
pub record WereOpen (v : View) (others : ℕ) (w : View) : Type 0 where
  pub some_other : 0 < others
  pub not_whole : IsWhole v.member.share → ⊥
  pub past : Past
  pub acts : PerformsEvents v (load ends_word (others + 1) past ∷ []) (quiet v) w
  pub number : others + 1 ≡ past.ends
  pub count : IsCount v.member.share (others + 1)
