-- The result of waking all: one notify, and then tries to take.
use Rattle.std.specs.Prelude.{◌≡◌, ◌≢◌, ◌⊎◌, ◌+◌, ◌/◌, ◌%◌, ◌<◌, ◌≤◌, ◌==◌, ◌||◌, ℕ, Bool, true, false, List, [], ◌∷◌}
use Rattle.std.specs.Prelude.{◌++◌, flat_map, Result, Ok, Err, Option, Some, None}
use Rattle.std.specs.List.{AllByRecursion}
use Rattle.event_theory.specs.declared.event.Event.TheVariants as events
use Rattle.thread_table.specs.declared.rule.MadeEvent.{MadeEvent}
use Rattle.thread_table.specs.Own.{View}
use Rattle.thread_table.specs.declared.takings.NextRefusal.{NextRefusal}
use Rattle.thread_table.specs.declared.layout.TheConstants.{ELEMENTS}
use Rattle.thread_table.specs.Layout.{head_word, tail_word, place_word, wait_ring}
use Rattle.thread_table.specs.Schedules.{Past}
use Rattle.thread_table.specs.Rules.{has}
use Rattle.thread_table.specs.Views.{quiet}
use Rattle.table_theory.specs.Ledgers.{load}
use Rattle.thread_table.specs.Entries.{Step, change, PerformsEvents, with_event, take_event, steps_in}
use Rattle.thread_table.specs.Answers.{TakesAfter, is_in, head_in}

-- One try to take, after the tail was found. Took: the tail and the place there were loaded, and the tail was
-- exchanged. Missed: another number was found in place of the exchange, or by it.
pub data Try : Type 0 where
  took : (before tail place : ℕ) (q r s t : Past) → Try
  missed : (before tail place seen : ℕ) (q r s t : Past) → Try

-- the entries of a try
abbrev pub entries_of : ℕ → ℕ → Try → List Step
entries_of call ring (took before tail place q r s t) = load (tail_word ring) before q ∷ load (tail_word ring) tail r
    ∷ load (place_word ring tail) place s ∷ change (tail_word ring) tail t (take_event call ring) ∷ []
entries_of call ring (missed before tail place seen q r s t) = load (tail_word ring) before q
    ∷ load (tail_word ring) tail r ∷ load (place_word ring tail) place s ∷ load (tail_word ring) seen t ∷ []

-- The tail was found below the head. Took: the place was raised. Missed: the place was not raised and the tail was
-- found again, or a tail past it was found.
abbrev pub IsTry : ℕ → Try → Type 0
IsTry head (took before tail place q r s t) = (before < head) × (place / 256 ≡ tail + 1)
IsTry head (missed before tail place seen q r s t) = (before < head)
    × (((seen ≡ tail) × (place / 256 ≢ tail + 1)) ⊎ (tail < seen))

-- the event that a try made, as the hand lists it
abbrev pub made_by_try : ℕ → ℕ → Try → List MadeEvent
made_by_try call ring (took before tail place q r s t) =
    record { event = take_event call ring; number = 0; signals = [] } ∷ []
made_by_try call ring (missed before tail place seen q r s t) = []

-- the elements that these tries took
abbrev pub taken_in : List Try → List ℕ
taken_in [] = []
taken_in (took before tail place q r s t ∷ tries) = place % 256 ∷ taken_in tries
taken_in (missed before tail place seen q r s t ∷ tries) = taken_in tries

-- whether a number is in a list
abbrev pub is_among : List ℕ → ℕ → Bool
is_among [] e = false
is_among (x ∷ xs) e = e == x || is_among xs e

-- no number is twice in the list
abbrev pub AreApart : List ℕ → Type 0
AreApart [] = Unit {0}
AreApart (x ∷ xs) = (is_among xs x ≡ false) × AreApart xs

-- no step of the element that the try took was counted since
abbrev pub IsStill : View → Try → Type 0
IsStill w (took before tail place q r s t) = steps_in (place % 256) w.seen.object ≡ steps_in (place % 256) t.object
IsStill w (missed before tail place seen q r s t) = Unit {0}

-- the view after one notify and these tries, holding what w holds
abbrev pub with_wakes : View → ℕ → ℕ → List Try → View → View
with_wakes v call wait tries w = record v {
  own = record v.own {
    held = w.own.held;
    counted = None;
    made = v.own.made ++ record { event = events.NotifyWait call wait; number = 0; signals = [] }
        ∷ flat_map (made_by_try call (wait_ring wait)) tries;
  };
}

-- The mask has the elements that were taken, each once. The hand did not hold them before, and holds them now beside
-- what it held. The call made one notify, and then tried to take, each time after it found the tail below the head that
-- the notify had found. It ended when it found the tail at or past that head. All else that the hand has is as it was.
pub record WokeAll (call : ℕ) (v : View) (wait mask : ℕ) (w : View) : Type 0 where
  pub holds : (e : ℕ) → e < ELEMENTS → has w e ≡ (has v e || is_in mask e)
  pub woken : (e : ℕ) → e < ELEMENTS → is_in mask e ≡ true → has v e ≡ false
  pub tries : List Try
  pub mask_is : (e : ℕ) → e < ELEMENTS → is_in mask e ≡ is_among (taken_in tries) e
  -- no element is taken twice
  pub apart : AreApart (taken_in tries)
  pub word : ℕ
  pub tail : ℕ
  pub first : Past
  pub last : Past
  pub each : AllByRecursion (IsTry (head_in word)) tries
  pub still : AllByRecursion (IsStill w) tries
  pub reached : head_in word ≤ tail
  pub acts : PerformsEvents v (change (head_word (wait_ring wait)) word first (events.NotifyWait call wait)
      ∷ flat_map (entries_of call (wait_ring wait)) tries ++ load (tail_word (wait_ring wait)) tail last ∷ [])
      (with_wakes v call wait tries w) w

-- one notify was made, and `head` is the head that it found
abbrev pub NotifiedNow : ℕ → View → ℕ → ℕ → View → Type 0
NotifiedNow call v wait head w = (word : ℕ) × (r : Past) × (head ≡ head_in word)
    × PerformsEvents v (change (head_word (wait_ring wait)) word r (events.NotifyWait call wait) ∷ [])
    (with_event (quiet v) (events.NotifyWait call wait)) w

-- the result of a try to take before a position: the tail was found at or past the position (None); or the tail was
-- found below it, and a taking followed, which had this result
abbrev pub BeforeAnswer : ℕ → View → ℕ → ℕ → Result (Option ℕ) NextRefusal → View → Type 0
BeforeAnswer call v ring head (Ok None) w = (tail : ℕ) × (q : Past) × (head ≤ tail)
    × PerformsEvents v (load (tail_word ring) tail q ∷ []) (quiet v) w
BeforeAnswer call v ring head (Ok (Some element)) w = (tail : ℕ) × (q : Past) × (tail < head)
    × TakesAfter (load (tail_word ring) tail q ∷ []) call v ring (Ok element) w
BeforeAnswer call v ring head (Err refusal) w = (tail : ℕ) × (q : Past) × (tail < head)
    × TakesAfter (load (tail_word ring) tail q ∷ []) call v ring (Err refusal) w
