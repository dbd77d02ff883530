-- An end's own: what it did, and its share. The contract of each call says how it changes.
use Rattle.std.specs.Prelude.{◌≡◌, ℕ, ◌+◌, ◌-◌, List, [], ◌∷◌, ◌++◌}
use Rattle.event_theory.specs.declared.alarm.Alarm.{Alarm}
use Rattle.table_theory.specs.declared.views.EndState.{EndState}
use Rattle.table_theory.specs.Ledgers.{ObjectModel}
use Rattle.table_theory.specs.Sharing.{kept}
use Rattle.meters.specs.Layout.{ends_word}
use Rattle.meters.specs.declared.rule.MeterOps.{MeterOps}
use Rattle.meters.specs.declared.rule.Reading.{Reading}
use Rattle.meters.specs.declared.rule.Tick.{Tick}
use Rattle.meters.specs.Changes.{IsLawful, Becomes}
use Rattle.meters.specs.Words.{WordsShow}

-- the view of an end of the meters: what it knows
abbrev pub SeatView : Type 0
SeatView = EndState MeterOps Reading

-- the record of an end that did nothing
abbrev pub nothing_did : MeterOps
nothing_did = record { ticks = []; advances = []; set = []; fired = []; cancelled = [] }

-- the record of what two ends did together
abbrev pub did_both : MeterOps → MeterOps → MeterOps
did_both d e = record {
  ticks = d.ticks ++ e.ticks;
  advances = d.advances ++ e.advances;
  set = d.set ++ e.set;
  fired = d.fired ++ e.fired;
  cancelled = d.cancelled ++ e.cancelled;
}

-- the parameters that the theory of tables takes from the table of the meters
abbrev pub of_meters : ObjectModel Reading
of_meters = record { ends_word = ends_word; Shows = WordsShow; IsLawful = IsLawful; Happens = Becomes }

-- an end's own: its ticks, the ticks that it moved the clock on to, the alarms that it set, fired and cancelled, how
-- often it was split and took in another end, its loads that no list has, and its share
pub record Own : Type 0 where
  pub ticks : List Tick
  pub advances : List ℕ
  pub set : List Alarm
  pub fired : List Alarm
  pub cancelled : List Alarm
  pub splits : ℕ
  pub joins : ℕ
  pub unlisted : ℕ
  pub share : ℕ

-- the end's own, by what it knows
abbrev pub own_of : SeatView → Own
own_of v = record {
  ticks = v.own.ticks;
  advances = v.own.advances;
  set = v.own.set;
  fired = v.own.fired;
  cancelled = v.own.cancelled;
  splits = v.member.splits;
  joins = v.member.joins;
  unlisted = v.member.unlisted;
  share = v.member.share;
}

-- the end's own is as it was
abbrev pub DidNothing : SeatView → SeatView → Type 0
DidNothing v w = own_of w ≡ own_of v

-- one event more, and nothing else: a tick of this gauge by this amount; a move of the clock on to this tick; an alarm
-- set; an alarm cancelled; these alarms fired
abbrev pub DidTick : ℕ → ℕ → SeatView → SeatView → Type 0
DidTick gauge amount v w =
    own_of w ≡ record (own_of v) { ticks = v.own.ticks ++ record { gauge = gauge; amount = amount } ∷ [] }

abbrev pub DidAdvance : ℕ → SeatView → SeatView → Type 0
DidAdvance clock v w = own_of w ≡ record (own_of v) { advances = v.own.advances ++ clock ∷ [] }

abbrev pub DidSet : Alarm → SeatView → SeatView → Type 0
DidSet alarm v w = own_of w ≡ record (own_of v) { set = v.own.set ++ alarm ∷ [] }

abbrev pub DidCancel : Alarm → SeatView → SeatView → Type 0
DidCancel alarm v w = own_of w ≡ record (own_of v) { cancelled = v.own.cancelled ++ alarm ∷ [] }

abbrev pub DidFire : List Alarm → SeatView → SeatView → Type 0
DidFire alarms v w = own_of w ≡ record (own_of v) { fired = v.own.fired ++ alarms }

-- one split more, one load more that no list has, and the share that is kept
abbrev pub DidSplit : SeatView → SeatView → Type 0
DidSplit v w = own_of w ≡ record (own_of v) {
  splits = v.member.splits + 1;
  unlisted = v.member.unlisted + 1;
  share = kept v.member.share;
}

-- one split more, one load more that no list has, and the share without these parts
abbrev pub DidSplitShare : ℕ → SeatView → SeatView → Type 0
DidSplitShare parts v w = own_of w ≡ record (own_of v) {
  splits = v.member.splits + 1;
  unlisted = v.member.unlisted + 1;
  share = v.member.share - parts;
}

-- the end then has what both had, with one join more, and one load more that no list has
abbrev pub DidBoth : SeatView → SeatView → SeatView → Type 0
DidBoth v u w = own_of w ≡ record {
  ticks = v.own.ticks ++ u.own.ticks;
  advances = v.own.advances ++ u.own.advances;
  set = v.own.set ++ u.own.set;
  fired = v.own.fired ++ u.own.fired;
  cancelled = v.own.cancelled ++ u.own.cancelled;
  splits = v.member.splits + u.member.splits;
  joins = v.member.joins + u.member.joins + 1;
  unlisted = v.member.unlisted + u.member.unlisted + 1;
  share = v.member.share + u.member.share;
}
