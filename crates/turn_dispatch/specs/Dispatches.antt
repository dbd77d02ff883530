-- How a turn begins: with an element from the ready ring, or with none.
use Rattle.std.specs.Prelude.{ℕ, true, false, Result, Ok, Err}
use Rattle.thread_table.specs.Layout.{ready_ring}
use Rattle.thread_table.specs.Own.{View}
use Rattle.thread_table.specs.declared.states.Lost.{Lost}
use Rattle.thread_table.specs.Answers.{TakeAnswer, ParkAnswer, DeliverAnswer, ReadPc}
use Rattle.thread_table.specs.Entries.{HoldsMore}
use Rattle.turn_dispatch.specs.declared.dispatch.Begun.{Begun}
use Rattle.turn_dispatch.specs.declared.dispatch.Idle.{Idle}
use Rattle.turn_dispatch.specs.declared.dispatch.Idle.TheVariants as idle
use Rattle.turn_dispatch.specs.Holdings.{HoldsSame}
use Rattle.turn_dispatch.specs.Sendings.{Sent}

-- the element was taken from the ready ring, and its stop bit was clear
pub record Awake (call element : ℕ) (v w : View) : Type 0 where
  pub taken : View
  pub took : TakeAnswer call v ready_ring (Ok element) taken
  pub runs : ParkAnswer call taken element (Ok false) w

-- The element was awake. Then one try to deliver its signals was made, and its number of steps done was read
pub record Began (call : ℕ) (begun : Begun) (v w : View) : Type 0 where
  pub awake : View
  pub ready : View
  pub woke : Awake call begun.element v awake
  pub delivered : DeliverAnswer call awake begun.element begun.delivered ready
  pub counted : ReadPc begun.element ready begun.number w

-- Why no element is at hand: none was taken; or the stop bit of the one taken was set, and it was parked; or the try to
-- park it was lost, and then it was sent to the ready ring
abbrev pub WasIdle : ℕ → Idle → View → View → Type 0
WasIdle call (idle.NothingReady refusal) v w = TakeAnswer call v ready_ring (Err refusal) w
WasIdle call (idle.Parked element) v w = (taken : View) × TakeAnswer call v ready_ring (Ok element) taken
    × ParkAnswer call taken element (Ok true) w
WasIdle call (idle.ParkLost element lost ready) v w = (taken : View) × TakeAnswer call v ready_ring (Ok element) taken
    × (held : View) × ParkAnswer call taken element (Err lost) held × Sent call ready_ring element ready held w

-- the hand holds the same elements, and one more if that was neither parked nor made ready
abbrev pub IdleHolds : Idle → View → View → Type 0
IdleHolds (idle.NothingReady refusal) v w = HoldsSame v w
IdleHolds (idle.Parked element) v w = HoldsSame v w
IdleHolds (idle.ParkLost element lost true) v w = HoldsSame v w
IdleHolds (idle.ParkLost element lost false) v w = HoldsMore element v w

-- the mask of the signals that were delivered, empty if the try was lost
abbrev pub mask_of : Result ℕ Lost → ℕ
mask_of (Ok mask) = mask
mask_of (Err lost) = 0
