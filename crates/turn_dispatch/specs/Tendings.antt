-- Tending the alarms: the clock advances, and the signals of the alarms that are due are raised.
use Rattle.std.specs.Prelude.{◌≡◌, ℕ, List, [], ◌∷◌, ◌++◌, Result, Ok, Err, MatchResult}
use Rattle.event_theory.specs.declared.alarm.Alarm.{Alarm}
use Rattle.meters.specs.declared.gauges.AdvanceRefusal.{AdvanceRefusal}
use Rattle.meters.specs.Own.{SeatView, own_of}
use Rattle.meters.specs.Answers.{AdvancedNow, NotAdvanced, FiredNow}
use Rattle.thread_table.specs.Own.{View}
use Rattle.thread_table.specs.declared.states.Signalled.{Signalled}
use Rattle.thread_table.specs.Answers.{SignalAnswer}

-- one try to advance the clock was made, and then the alarms that were due were fired
pub record Fires (advanced : Result ℕ AdvanceRefusal) (fired : List Alarm) (v w : SeatView) : Type 0 where
  pub between : SeatView
  pub moved : MatchResult advanced (λ clock. AdvancedNow v clock between) (λ refusal. NotAdvanced v refusal between)
  pub fires : FiredNow between fired w

-- the tick to which the clock was advanced, if it was
abbrev pub tick_to : Result ℕ AdvanceRefusal → List ℕ
tick_to (Ok clock) = clock ∷ []
tick_to (Err refusal) = []

-- the seat's own lists grew by the advance, if made, and by the fired alarms, and are otherwise unchanged
abbrev pub DidTend : Result ℕ AdvanceRefusal → List Alarm → SeatView → SeatView → Type 0
DidTend advanced fired v w =
    own_of w ≡ record (own_of v) { advances = v.own.advances ++ tick_to advanced; fired = v.own.fired ++ fired }

-- each alarm's signal was raised at its element, in the order of the alarms
abbrev pub RaisedAll : ℕ → List Alarm → View → View → Type 0
RaisedAll call [] v w = w ≡ v
RaisedAll call (alarm ∷ alarms) v w = (u : View) × (answer : Signalled)
    × SignalAnswer call v alarm.element alarm.signal answer u × RaisedAll call alarms u w
