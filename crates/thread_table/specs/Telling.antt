-- A hand's list is true: each step, and each join, found the schedule that the one before it left, and the number that
-- its word had then.
use Rattle.std.specs.Prelude.{◌≡◌, ℕ, false, List, [], ◌∷◌, ◌++◌}
use Rattle.event_theory.specs.declared.event.Event.{Event}
use Rattle.table_theory.specs.Ledgers as ends
use Rattle.thread_table.specs.Own.{View}
use Rattle.thread_table.specs.Layout.{ends_word}
use Rattle.thread_table.specs.Schedules.{elements_after, IsAllowed, Grows}
use Rattle.thread_table.specs.Shown.{WordsShow}

-- one more event, which is allowed in its turn
abbrev pub Happens : List Event → List Event → Type 0
Happens past next = (event : Event) × (next ≡ past ++ event ∷ []) × IsAllowed next
    × Grows (elements_after past) (elements_after next)

-- the parameters that the theory of tables takes from this table, with this first position of each element queue
abbrev pub of_hands : ℕ → ends.ObjectModel (List Event)
of_hands first = record {
  ends_word = ends_word;
  Shows = λ events words. WordsShow first (elements_after events) words;
  IsLawful = IsAllowed;
  Happens = Happens;
}

-- the step found its schedule, with words that show it, and made one event of it, or none
abbrev pub IsValidHandStep : ℕ → ends.Step (List Event) → Type 0
IsValidHandStep first e = ends.IsValidStep (of_hands first) e

-- The hand's list is true, of a table that began with no event. Each event that the hand has seen was allowed in its
-- turn. The hand took in no other with which it shared an element or a processor.
pub record IsValidHandView (v : View) : Type 0 where
  pub list : ends.IsValidView (of_hands v.own.first) v
  pub first : v.first ≡ []
  pub allowed : IsAllowed v.seen.object
  pub undoubled : v.own.doubled ≡ false
