-- The joins among the steps, and the hands that were joined: a join makes an event, but is a step on no word.
use Rattle.std.specs.Prelude.{◌≡◌, ◌==◌, ℕ, ◌+◌, ◌≤◌, Bool, false, if◌then◌else◌, List, [], ◌∷◌, ◌++◌, length, count_by}
use mathlib.Core.Option.{some}
use lib.ListN.{get_elem?}
use Rattle.event_theory.specs.declared.event.Event.{Event}
use Rattle.event_theory.specs.declared.event.Event.TheVariants as events
use Rattle.table_theory.specs.Sharing.{total}
use Rattle.table_theory.specs.Ledgers.{Step, change}
use Rattle.thread_table.specs.declared.layout.TheConstants.{WORDS}
use Rattle.thread_table.specs.Own.{View}
use Rattle.thread_table.specs.Makers.{is_join}
use Rattle.thread_table.specs.Schedules.{Past, Course}

-- the number after the last word's, which is that of no word
abbrev pub no_word : ℕ
no_word = WORDS

-- the entry of a join
abbrev pub joining : Past → ℕ → ℕ → Step (List Event)
joining before call other = change no_word 0 before (before.object ++ events.Join call other ∷ [])

-- each of these entries is a join's, and they are as many as the joins of the schedule
pub record AreJoins (schedule : List Event) (joins : Course) : Type 0 where
  pub each : (i : ℕ) (e : Step (List Event)) → get_elem? joins i ≡ some e → (call : ℕ) × (other : ℕ)
      × (e ≡ joining e.then call other)
  pub all : count_by is_join schedule ≡ length joins

-- whether the event joins this hand to another
abbrev pub is_join_of : ℕ → Event → Bool
is_join_of hand (events.Join call other) = other == hand
is_join_of hand event = false

-- how often the hand was joined to another
abbrev pub times_joined : ℕ → List Event → ℕ
times_joined hand schedule = count_by (is_join_of hand) schedule

-- how many joins the hand has yet to count: one, if it exists, took in another hand and has made no step since
abbrev pub uncounted : View → ℕ
uncounted v = if v.own.fresh then 0 else (if v.member.ends == 0 then 0 else 1)

-- The joins of the schedule are as many as the hands have counted or are about to count. Each hand that no longer
-- exists was joined once, and no other number was ever joined.
pub record AreJoined (schedule : List Event) (views : List View) : Type 0 where
  pub number : count_by is_join schedule ≡ total (λ v. v.member.joins) views + total uncounted views
  pub once : (hand : ℕ) (v : View) → get_elem? views hand ≡ some v → v.member.ends ≡ 0
      → times_joined hand schedule ≡ 1
  pub never : (hand : ℕ) (v : View) → get_elem? views hand ≡ some v → 1 ≤ v.member.ends
      → times_joined hand schedule ≡ 0
  pub strange : (hand : ℕ) → length views ≤ hand → times_joined hand schedule ≡ 0
