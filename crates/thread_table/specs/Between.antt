-- The properties that hold between any two steps.
use Rattle.std.specs.Prelude.{◌≡◌, ℕ, ◌<◌, ◌≤◌, true, false, List, [], ◌∷◌, map, length, slice_index_or, Some}
use mathlib.Core.Option.{some}
use lib.ListN.{get_elem?}
use Rattle.atomic_table.specs.Table as tables
use Rattle.event_theory.specs.Accounts.{IsAccounted}
use Rattle.event_theory.specs.Appearances.{appearances}
use Rattle.event_theory.specs.Elements.{holds}
use Rattle.event_theory.specs.Lawful.{IsLawful}
use Rattle.event_theory.specs.Schedules.{Reaches}
use Rattle.event_theory.specs.States.{State, first_state}
use Rattle.event_theory.specs.declared.event.Event.{Event}
use Rattle.table_theory.specs.Courses.{IsCourse}
use Rattle.table_theory.specs.Ends.{Begins}
use Rattle.table_theory.specs.Ledgers.{EndsStand, opened}
use Rattle.thread_table.specs.declared.rule.Shape.{Shape}
use Rattle.thread_table.specs.Own.{View}
use Rattle.thread_table.specs.Schedules.{ring_at, element_at}
use Rattle.thread_table.specs.declared.layout.TheConstants.{ELEMENTS, RINGS}
use Rattle.thread_table.specs.Layout.{ends_word}
use Rattle.thread_table.specs.Shown.{WordsShow}
use Rattle.thread_table.specs.Rules.{HandIs, IsOpen, serves, nothing_of, now_of}
use Rattle.thread_table.specs.Joins.{AreJoins, AreJoined}
use Rattle.thread_table.specs.Makers.{AreMade, made_of}
use Rattle.thread_table.specs.Retiring.{AreRetired}
use Rattle.thread_table.specs.Views.{claim_of}

-- Each event of the hands was allowed in its turn. The events lead from the core's first state with 64 elements to a
-- lawful state. The words show its elements, and the hands have them. Each element has exactly one appearance. Each
-- signal became pending as often as it was delivered, once more if it is pending. An element's done events gave 1, 2,
-- .. up to its steps done.
pub record ShowsElements (key : Shape) (s : tables.State Unit View) : Type 0 where
  pub events : List Event
  pub core : State
  pub reached : Reaches (first_state ELEMENTS) events core
  pub lawful : IsLawful core
  pub once : (element : ℕ) → element < ELEMENTS → appearances element core.elements ≡ 1
  pub accounted : IsAccounted (first_state ELEMENTS) events core
  pub shown : WordsShow key.first core.elements s.words
  pub hands : (j : ℕ) (v : View) → get_elem? s.views j ≡ some v → HandIs j v core.elements × Begins v.seen.object events
  -- the hands list the events except the joins, each once
  pub made : AreMade events (map made_of s.views)
  -- the runs of the free elements' queue, after those with which it began, are the claims among the events, in order
  pub retired : AreRetired events
  -- a processor is served by at most one hand
  pub sole : (i j p : ℕ) (u v : View) → get_elem? s.views i ≡ some u → get_elem? s.views j ≡ some v
      → serves u p ≡ true → serves v p ≡ true → i ≡ j
  -- each run that isn't raised is the claim of a hand, which is about to raise it
  pub owned : (ring run : ℕ) → ring < RINGS → IsOpen ring run core.elements → (j : ℕ) × (v : View)
      × (get_elem? s.views j ≡ some v)
      × (v.own.claimed ≡ Some (claim_of ring run (element_at (ring_at core.elements ring) run)))
  -- the first word has the number of the hands that exist
  pub ends : EndsStand (nothing_of key.first) (slice_index_or s.words ends_word 0) s.views
  -- the joins of the schedule are the hands': each hand that no longer exists was joined once, and no other hand ever
  pub joined : AreJoined events s.views
  -- the steps of the hands and the joins lead from no event to these events; the view `joiner`, of no hand, has the
  -- joins; and each hand has seen all of them up to its own last step
  pub joiner : View
  pub are_joins : AreJoins events joiner.steps
  pub course : IsCourse (λ v. v.steps) (λ v. v.course) (opened []) (now_of events s.words) (joiner ∷ s.views)
  pub no_others : (call element : ℕ) → length s.views ≤ call → holds call element core.elements ≡ false
