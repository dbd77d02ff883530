-- The answers to counting a step.
use Rattle.std.specs.Prelude.{◌≡◌, ◌+◌, ◌<◌, ◌≢◌, ℕ, Bool, true, false, Ok}
use Rattle.thread_table.specs.declared.layout.TheConstants.{ELEMENTS}
use Rattle.thread_table.specs.Layout.{most_done}
use Rattle.thread_table.specs.Own.{View}
use Rattle.thread_table.specs.Answers.{DoneAnswer, ReadPc}
use Rattle.thread_table.specs.Rules.{MayStep, done_at}
use Rattle.turn_dispatch.specs.declared.counting.Counted.{Counted}
use Rattle.turn_dispatch.specs.declared.counting.Counted.TheVariants as counted
use Rattle.turn_dispatch.specs.Tallies.{Tally, no_events, one_step}

-- A step that isn't done made no step of the table. Otherwise one more step was counted, or the number of steps done
-- was found to be 4,294,967,295
abbrev pub CountAnswer : ℕ → ℕ → Bool → View → Counted → View → Type 0
CountAnswer call element false v counted.Undone w = w ≡ v
CountAnswer call element true v (counted.Done number) w = DoneAnswer call v element (Ok number) w
CountAnswer call element true v counted.Spent w = ReadPc element v most_done w
CountAnswer call element done v answer w = ⊥

-- the step that was counted, if any, with the element's number of steps done before it
abbrev pub counted_step : Counted → ℕ → ℕ → Tally
counted_step (counted.Done number) element before = one_step element before
counted_step answer element before = no_events

-- the element's number of steps done grew by one if a step was counted, and otherwise is unchanged
abbrev pub IsNumber : Counted → ℕ → View → View → Type 0
IsNumber (counted.Done number) element v w =
    (number ≡ done_at v.seen.object element + 1) × (done_at w.seen.object element ≡ number)
IsNumber counted.Undone element v w = done_at w.seen.object element ≡ done_at v.seen.object element
IsNumber counted.Spent element v w =
    (done_at v.seen.object element ≡ most_done) × (done_at w.seen.object element ≡ most_done)

-- between the two views no step was counted of any other element that the hand has in both
abbrev pub SteadyBut : ℕ → View → View → Type 0
SteadyBut element v w = (e : ℕ) → e < ELEMENTS → e ≢ element → MayStep v e → MayStep w e
    → done_at w.seen.object e ≡ done_at v.seen.object e
