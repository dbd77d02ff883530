-- The result of each step for its hand. A step adds one entry to the hand's list and to the course of all hands' steps
-- that it has seen: the word's number, the number found there, and the schedule before and after.
use Rattle.std.specs.Prelude.{◌≡◌, ◌≢◌, ◌⊎◌, ℕ, ◌+◌, ◌-◌, ◌≤◌, Bool, true, false, ◌&&◌, ◌||◌, if◌then◌else◌, List, []}
use Rattle.std.specs.Prelude.{◌∷◌, ◌++◌, slice_index_or, Some, None, Option}
use Rattle.atomic_table.specs.Table.{Me, Step}
use Rattle.table_theory.specs.declared.views.Part.{Part}
use Rattle.table_theory.specs.Ends.{Begins}
use Rattle.table_theory.specs.Ledgers as ends
use Rattle.table_theory.specs.Ledgers.{load}
use Rattle.table_theory.specs.Sharing.{IsWhole, IsCount, given}
use Rattle.event_theory.specs.Lawful.{IsLawfulElements}
use Rattle.event_theory.specs.declared.event.Event.{Event}
use Rattle.thread_table.specs.Own.{View}
use Rattle.thread_table.specs.declared.rule.HandState.{HandState}
use Rattle.thread_table.specs.Schedules.{Past, Course, elements_after, IsAllowed}
use Rattle.std.specs.Int.{bit_at}
use Rattle.std.specs.Int.Bits.{bit_or, bit_and}
use Rattle.event_theory.specs.declared.event.Event.TheVariants as events
use Rattle.thread_table.specs.declared.layout.TheConstants.{CELL, SIGNAL_BITS, STOP_BITS}
use Rattle.thread_table.specs.Layout.{ends_word, done_word, stop_bit}
use Rattle.thread_table.specs.Shown.{WordsShow}
use Rattle.thread_table.specs.Rules.{HandIs, Seen, IsSteady, done_at, has, nothing_of, serving}
use Rattle.thread_table.specs.Entries.{PerformsEvents, change}
use Rattle.thread_table.specs.Telling.{IsValidHandView}
use Rattle.thread_table.specs.Views.{quiet, having_found, count_of, after_event}

-- The schedule that a step of the hand found: allowed, no earlier than what the hand had seen, with no step undone, and
-- with words that show its elements. If the hand has counted its joins, no step was counted of what it has, and if it
-- also has the whole, it had seen all. It took in no hand with which it shared an element or a processor.
pub record Sees (v : View) (schedule : List Event) : Type 0 where
  pub allowed : IsAllowed schedule
  pub lawful : IsLawfulElements (elements_after schedule)
  pub seen : Seen v schedule
  pub done : (element : ℕ) → done_at v.seen.object element ≤ done_at schedule element
  pub steady : IsSteady v schedule
  pub newest : IsWhole v.member.share → v.own.fresh ≡ true → v.seen.object ≡ schedule
  pub undoubled : v.own.doubled ≡ false
  pub words : List ℕ
  pub shows : WordsShow v.own.first (elements_after schedule) words

-- One step of the hand: the hand found this schedule, and this number in the word. Then it has what `now` has.
pub record Stepped (v : View) (e : ends.Step (List Event)) (now w : View) : Type 0 where
  pub sees : Sees v e.then.object
  pub is : e.found ≡ slice_index_or sees.words e.word 0
  pub acts : PerformsEvents v (e ∷ []) now w
  pub valid : IsValidHandView w

-- the hand found a number in a word, and nothing else changed for the hand
abbrev pub Found : View → ℕ → ℕ → View → Type 0
Found v word found w = Stepped v (load word found w.seen) (quiet v) w

-- the hand found the number of steps that the element had done
abbrev pub ReadPc : ℕ → View → ℕ → View → Type 0
ReadPc element v found w =
    Stepped v (load (done_word element) found w.seen) (having_found v (count_of element found)) w

-- the hand made this event: the schedule is the one before it, with the event at its end
pub record HandDid (call : ℕ) (v : View) (word found : ℕ) (event : Event) (w : View) : Type 0 where
  pub before : Past
  pub hand : HandIs call v (elements_after before.object)
  pub step : Stepped v (change word found before event) (after_event event before.object v) w

-- the view of the hand agrees with the elements as the hand has seen them
abbrev pub HandStands : ℕ → View → Type 0
HandStands call v = HandIs call v (elements_after v.seen.object)

-- the result of each step: `Does` holds, what the hand carries stays, and its view agrees with what it has seen
abbrev pub StepShows : ℕ → Type 0 → Me Unit View → Me Unit View → Type 0
StepShows call Does m m' = (m'.1 ≡ m.1) × Does × HandStands call m'.0

abbrev pub finds : ℕ → Step Unit → Me Unit View → ℕ → Me Unit View → Type 0
finds call st m r m' = StepShows call (Found m.0 st.word r m'.0) m m'

-- a step that is the event, whatever number it found
abbrev pub makes : ℕ → Event → Step Unit → Me Unit View → ℕ → Me Unit View → Type 0
makes call event st m r m' = StepShows call (HandDid call m.0 st.word r event m'.0) m m'

-- a store that is the event; the number that it found is not known
abbrev pub stores : ℕ → Event → Step Unit → Me Unit View → ℕ → Me Unit View → Type 0
stores call event st m r m' = StepShows call ((found : ℕ) × HandDid call m.0 st.word found event m'.0) m m'

-- a step that is the event if it found the number that was expected, and else only finds another number
abbrev pub tries : ℕ → Event → Step Unit → Me Unit View → ℕ → Me Unit View → Type 0
tries call event st m r m' = StepShows call ((r ≡ st.first → HandDid call m.0 st.word st.first event m'.0)
    × (r ≢ st.first → Found m.0 st.word r m'.0)) m m'

-- a compare-and-swap of an element's state word to `new` is one of these: the park of an element that the hand holds,
-- whose stop bit is set; the start of one whose stop bit is set; or a delivery to one that the hand holds
abbrev pub IsTurn : Event → ℕ → ℕ → View → ℕ → ℕ → Type 0
IsTurn event call element v old new =
    ((event ≡ events.Park call element) × (has v element ≡ true) × (bit_at old stop_bit ≡ 1) × (new ≡ bit_or old CELL))
    ⊎ ((event ≡ events.Start call element) × (bit_at old stop_bit ≡ 1) × (new ≡ bit_and old SIGNAL_BITS))
    ⊎ ((event ≡ events.Deliver call element) × (has v element ≡ true) × (new ≡ bit_and old STOP_BITS))

abbrev pub reads_pc : ℕ → ℕ → Step Unit → Me Unit View → ℕ → Me Unit View → Type 0
reads_pc call element st m r m' = StepShows call (ReadPc element m.0 r m'.0) m m'

-- the counts of a hand after one more split, and after one more join
abbrev pub with_split : Part → Part
with_split m = record m { ends = m.ends + 1; splits = m.splits + 1 }

abbrev pub with_join : Part → Part
with_join m = record m { ends = m.ends - 1; joins = m.joins + 1 }

-- the view after a step that came after all steps of the course: the hand has seen what the step left
abbrev pub after : View → Course → ends.Step (List Event) → View
after v past e = record v {
  own = record v.own { counted = None; fresh = true };
  seen = e.next;
  steps = v.steps ++ e ∷ [];
  course = past ++ e ∷ [];
  joined = past ++ e ∷ [];
  joined_first = v.first;
}

-- the number of hands was found and made one more
pub record CountedUp (v : View) (found : ℕ) (w : View) : Type 0 where
  pub past : Course
  pub follows : Begins v.course past
  pub newest : IsWhole v.member.share → past ≡ v.course
  pub before : Past
  pub same : w ≡ after (record v { member = with_split v.member }) past (ends.count_up ends_word before)
  pub sees : Sees v before.object
  pub valid : IsValidHandView w

-- the number of hands was found and made one less
pub record CountedDown (v : View) (found : ℕ) (w : View) : Type 0 where
  pub past : Course
  pub follows : Begins v.course past
  pub joined : Begins v.joined past
  pub one_object : v.joined_first ≡ v.first
  pub before : Past
  pub same : w ≡ after (record v { member = with_join v.member }) past (ends.count_down ends_word before)
  pub sees : Sees v before.object
  pub valid : IsValidHandView w

-- the number of hands was found; it is 1 exactly if this hand has the whole
pub record Tallied (v : View) (found : ℕ) (w : View) : Type 0 where
  pub looked : Found v ends_word found w
  pub number : found ≡ w.seen.ends
  pub count : IsCount v.member.share found

abbrev pub counts_up : ℕ → Step Unit → Me Unit View → ℕ → Me Unit View → Type 0
counts_up call st m r m' = StepShows call (CountedUp m.0 r m'.0) m m'

abbrev pub counts_down : ℕ → Step Unit → Me Unit View → ℕ → Me Unit View → Type 0
counts_down call st m r m' = StepShows call (CountedDown m.0 r m'.0) m m'

-- the result of finding the number of hands, for the hand of this call
abbrev pub HasTallied : ℕ → View → ℕ → View → Type 0
HasTallied call v found w = Tallied v found w × HandStands call w

-- the marks of the first list without those of the second
abbrev pub parted : List Bool → List Bool → List Bool
parted [] marks = []
parted (b ∷ bs) [] = b ∷ bs
parted (b ∷ bs) (m ∷ ms) = (if m then false else b) ∷ parted bs ms

-- the marks of either list
abbrev pub either : List Bool → List Bool → List Bool
either [] marks = []
either (b ∷ bs) [] = b ∷ bs
either (b ∷ bs) (m ∷ ms) = (if b then true else m) ∷ either bs ms

-- whether both lists have a mark at the same index
abbrev pub any_both : List Bool → List Bool → Bool
any_both [] marks = false
any_both (b ∷ bs) [] = false
any_both (b ∷ bs) (m ∷ ms) = (b && m) || any_both bs ms

-- the elements of the first list, and at an index where the first has none, that of the second
abbrev pub either_on : List (Option ℕ) → List (Option ℕ) → List (Option ℕ)
either_on [] others = []
either_on (x ∷ xs) [] = x ∷ xs
either_on (None ∷ xs) (y ∷ ys) = y ∷ either_on xs ys
either_on (Some x ∷ xs) (y ∷ ys) = Some x ∷ either_on xs ys

-- the view that a split leaves which gives so many parts and the processors of the mask
abbrev pub rest_without : ℕ → List Bool → View → View
rest_without parts mask v =
    record (ends.rest_without parts v) { own = record v.own { serves = parted v.own.serves mask; counted = None } }

-- the view of a new hand, which has so many parts and serves the processors of the mask
abbrev pub newborn_with : ℕ → List Bool → View → View
newborn_with parts mask v = ends.newborn_with parts (serving v.own.first mask) v

-- both views, if nobody says how many parts are given
abbrev pub rest_of : List Bool → View → View
rest_of mask v = rest_without (given v.member.share) mask v

abbrev pub newborn : List Bool → View → View
newborn mask v = newborn_with (given v.member.share) mask v

-- the contents of a hand after it took in another, which had `e`
abbrev pub had_by_both : HandState → HandState → HandState
had_by_both d e = record {
  first = d.first;
  held = either d.held e.held;
  serves = either d.serves e.serves;
  on = either_on d.on e.on;
  claimed = None;
  counted = None;
  made = d.made ++ e.made;
  fresh = false;
  doubled = d.doubled || e.doubled || any_both d.held e.held || any_both d.serves e.serves;
}

-- the view of a hand that took in a hand with the view w
abbrev pub both : View → View → View
both v w = ends.both had_by_both v w

-- the view of a hand that was taken in
abbrev pub emptied : View → View
emptied v = ends.emptied (nothing_of v.own.first) v
