-- The effects of the calls of meters on an end of them. Each definition states what the library's call states.
use Rattle.std.specs.Prelude.{◌≡◌, ℕ, Bool, List, Result, MatchResult, Ok, Err}
use Rattle.std.specs.Arc.{arc_value}
use Rattle.meters.specs.Answers.{Ticked, AdvancedNow, NotAdvanced, SetNow, NotSet, CancelledNow, FiredNow, Loaded}
pub use Rattle.meters.specs.Handles.{view_of, first_of, IsSameSeat}
use Rattle.meters.specs.Layout.{gauge_word, clock_word}
use Rattle.meters.specs.Own.{DidNothing}
use Rattle.meters.specs.Rules.{newcomer}
use Rattle.meters.specs.Closings.{ClosedNow}
use Rattle.table_theory.specs.Sharing.{the_whole}
pub use Rattle.meters.specs.declared.close.Metered.{Metered}
pub use Rattle.event_theory.specs.declared.alarm.Alarm.{Alarm}
pub use Rattle.meters.specs.declared.alarms.SetRefusal.{SetRefusal}
pub use Rattle.meters.specs.declared.gauges.AdvanceRefusal.{AdvanceRefusal}
use Rattle.meters.specs.Handles as meters
use Rattle.meters.specs.Endings as endings
use Rattle.bindings.specs.Shares.{AllOf, WasDivided, WasJoined}
pub use Rattle.bindings.specs.Kinds.{HeldSeat}

-- the same end of the same meters
abbrev pub IsSameHeld : HeldSeat → HeldSeat → Type 0
IsSameHeld x y = (arc_value y.meters ≡ arc_value x.meters) × IsSameSeat x.seat y.seat

-- the same end of the same meters, with an unchanged share
abbrev pub IsKept : HeldSeat → HeldSeat → Type 0
IsKept x y = IsSameHeld x y × (y.share ≡ x.share)

-- both are ends of the same meters
abbrev pub AreOfOneTable : HeldSeat → HeldSeat → Type 0
AreOfOneTable x y = meters.AreOfOneTable x.seat y.seat

-- the only end of new meters with this clock and this mark
abbrev pub IsNewSeat : ℕ → ℕ → HeldSeat → Type 0
IsNewSeat clock mark x = (first_of (arc_value x.meters) ≡ clock)
    × (view_of x.seat ≡ newcomer (record { clock = clock }))
    × AllOf mark x.share

-- `split` made `born`, an end of the same meters, with a part of the share of x
abbrev pub SplitBy : HeldSeat → HeldSeat → HeldSeat → Type 0
SplitBy x y born = IsSameHeld x y × (arc_value born.meters ≡ arc_value x.meters)
    × WasDivided x.share y.share born.share
    × endings.SplitBy (view_of x.seat) (view_of y.seat)
    × endings.IsNewEnd (view_of x.seat) (view_of y.seat) (view_of born.seat)

-- `join` took in the end `other`, with its parts of the share
abbrev pub Joined : HeldSeat → HeldSeat → HeldSeat → Type 0
Joined x y other = IsSameHeld x y × endings.JoinedBy (view_of x.seat) (view_of other.seat) (view_of y.seat)
    × WasJoined x.share y.share other.share

-- `tick` gave the value that the gauge had before
abbrev pub WasTicked : ℕ → ℕ → ℕ → HeldSeat → HeldSeat → Type 0
WasTicked gauge amount before x y = IsKept x y × Ticked (view_of x.seat) gauge amount before (view_of y.seat)

-- `advance` gave this answer
abbrev pub WasAdvanced : Result ℕ AdvanceRefusal → HeldSeat → HeldSeat → Type 0
WasAdvanced answer x y = IsKept x y × MatchResult answer
    (λ clock. AdvancedNow (view_of x.seat) clock (view_of y.seat))
    (λ r. NotAdvanced (view_of x.seat) r (view_of y.seat))

-- `try_set` gave this answer
abbrev pub WasSet : Alarm → Result ℕ SetRefusal → HeldSeat → HeldSeat → Type 0
WasSet alarm answer x y = IsKept x y × MatchResult answer
    (λ slot. SetNow (view_of x.seat) slot alarm (view_of y.seat)) (λ r. NotSet (view_of x.seat) r (view_of y.seat))

-- `cancel` gave this answer
abbrev pub WasCancelled : ℕ → Alarm → Bool → HeldSeat → HeldSeat → Type 0
WasCancelled slot alarm answer x y = IsKept x y × CancelledNow (view_of x.seat) slot alarm answer (view_of y.seat)

-- `due` gave these alarms
abbrev pub WereFired : List Alarm → HeldSeat → HeldSeat → Type 0
WereFired alarms x y = IsKept x y × FiredNow (view_of x.seat) alarms (view_of y.seat)

-- `gauge` gave this value
pub record WasGauge (gauge value : ℕ) (x y : HeldSeat) : Type 0 where
  pub same : IsKept x y
  pub effect : DidNothing (view_of x.seat) (view_of y.seat)
  pub trace : Loaded (view_of x.seat) (gauge_word gauge) value (view_of y.seat)

-- `clock` gave this tick
pub record WasClock (clock : ℕ) (x y : HeldSeat) : Type 0 where
  pub same : IsKept x y
  pub effect : DidNothing (view_of x.seat) (view_of y.seat)
  pub trace : Loaded (view_of x.seat) clock_word clock (view_of y.seat)

-- the end has all parts, and closed the meters as the library's `close` states; or the end is unchanged
abbrev pub Ended : Result Metered HeldSeat → HeldSeat → Type 0
Ended (Ok c) x = (x.share.parts ≡ the_whole)
    × ClosedNow (first_of (arc_value x.meters)) (view_of x.seat) c.gauges c.clock c.alarms.items
Ended (Err y) x = y ≡ x
