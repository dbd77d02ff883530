-- The answers to waking all elements that wait, and to a start.
use Rattle.std.specs.Prelude.{◌≡◌, ◌<◌, ◌||◌, ◌&&◌, ℕ, zero, suc, not, Bool, true, false, Result, Ok, Err}
use Rattle.std.specs.Prelude.{Option, Some, None}
use Rattle.thread_table.specs.declared.layout.TheConstants.{ELEMENTS}
use Rattle.thread_table.specs.Layout.{ready_ring}
use Rattle.thread_table.specs.Own.{View}
use Rattle.thread_table.specs.declared.states.Lost.{Lost}
use Rattle.thread_table.specs.declared.states.Started.TheVariants as started
use Rattle.thread_table.specs.Answers.{StartAnswer, is_in}
use Rattle.thread_table.specs.Entries.{HoldsMore}
use Rattle.thread_table.specs.Rules.{has}
use Rattle.thread_table.specs.Wakes.{WokeAll}
use Rattle.turn_dispatch.specs.declared.waking.Woken.{Woken}
use Rattle.turn_dispatch.specs.declared.waking.Resumed.{Resumed}
use Rattle.turn_dispatch.specs.declared.waking.Resumed.TheVariants as resumed
use Rattle.turn_dispatch.specs.Holdings.{HoldsSame}
use Rattle.turn_dispatch.specs.Sendings.{Sent}

-- an element of the mask was made ready, or the ring had no position left; an element outside the mask was not moved
abbrev pub OneReady : ℕ → ℕ → Bool → Bool → View → View → Type 0
OneReady call element true moved v w = Sent call ready_ring element moved v w
OneReady call element false moved v w = (w ≡ v) × (moved ≡ false)

-- the element with this number, if it is in the mask
abbrev pub IsMember : ℕ → ℕ → Option ℕ → Type 0
IsMember mask number (Some element) = (is_in mask number ≡ true) × (element ≡ number)
IsMember mask number None = is_in mask number ≡ false

-- the hand holds each element of the mask
abbrev pub CanWake : ℕ → View → Type 0
CanWake mask v = (e : ℕ) → e < ELEMENTS → is_in mask e ≡ true → has v e ≡ true

-- each taken element below this number was made ready, the lowest first, as far as the ring had positions left
abbrev pub AllReady : ℕ → Woken → View → ℕ → View → Type 0
AllReady call woken v zero w = w ≡ v
AllReady call woken v (suc n) w = (u : View) × AllReady call woken v n u
    × OneReady call n (is_in woken.taken n) (is_in woken.ready n) u w

-- all that waited were taken, by one notify and the takings after it; each was made ready if the ring had a position
-- left
pub record Woke (call wait : ℕ) (woken : Woken) (v w : View) : Type 0 where
  pub between : View
  pub took : WokeAll call v wait woken.taken between
  pub sent : AllReady call woken between ELEMENTS w

-- In addition to what it held, the hand holds the elements that it took and that were not made ready. It held none of
-- those taken
abbrev pub HoldsWoken : Woken → View → View → Type 0
HoldsWoken woken v w = (e : ℕ) → e < ELEMENTS
    → (has w e ≡ (has v e || (is_in woken.taken e && not (is_in woken.ready e))))
    × (is_in woken.taken e ≡ true → has v e ≡ false)

-- the answer to a start; an element from its stop cell was made ready, or is held if the ring has no position left
abbrev pub ResumeAnswer : ℕ → ℕ → Result Resumed Lost → View → View → Type 0
ResumeAnswer call element (Ok resumed.NotStopped) v w = StartAnswer call v element (Ok started.NotStopped) w
ResumeAnswer call element (Ok resumed.Cleared) v w = StartAnswer call v element (Ok started.Cleared) w
ResumeAnswer call element (Ok resumed.Ready) v w = (held : View)
    × StartAnswer call v element (Ok started.Held) held × Sent call ready_ring element true held w
ResumeAnswer call element (Ok resumed.Held) v w = (held : View)
    × StartAnswer call v element (Ok started.Held) held × Sent call ready_ring element false held w
ResumeAnswer call element (Err lost) v w = StartAnswer call v element (Err lost) w

-- the hand holds the same elements, and this one if it couldn't be made ready
abbrev pub ResumeHolds : ℕ → Result Resumed Lost → View → View → Type 0
ResumeHolds element (Ok resumed.Held) v w = HoldsMore element v w
ResumeHolds element answer v w = HoldsSame v w
