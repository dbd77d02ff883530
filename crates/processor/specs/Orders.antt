-- The order of a step's actions at different tables, and of the calls of the gate among them, by what the gate was shown:
-- a hand and other ends at one moment, and the end beside which it was called.
use Rattle.std.specs.Prelude.{◌≡◌, ◌+◌, ℕ, suc, List, [], ◌∷◌, length, Option, Some, None}
use Rattle.std.specs.Global.{Vec}
use Rattle.std.specs.List.{All}
use Rattle.atomic_table.specs.Seated.{TableId}
use Rattle.boot_data.specs.declared.boot_plan.BootPlan.{BootPlan}
use Rattle.meters.specs.declared.ends.MeterSeat.{MeterSeat}
use Rattle.proc_chain.specs.declared.ends.ChainEnd.{ChainEnd}
use Rattle.quajects.specs.contracts.any.AnyQuajectQuaject.TheImpl.{ghosts}
use Rattle.quajects.specs.declared.any.AnyQuaject.{AnyQuaject}
use Rattle.quajects.specs.declared.world.Queues.{Queues}
use Rattle.thread_table.specs.declared.hand.Hand.{Hand}
use Rattle.turn_io.specs.declared.queue_ends.QueueEnds.{QueueEnds}
use Rattle.turn_io.specs.declared.gate.Point.TheVariants.{Turn}
use Rattle.turn_io.specs.EndLists.{IsIdle}
use Rattle.turn_io.specs.Points.{Beside, HearPointAt, PokePointAt, SayPointsAt}
use Rattle.processor.specs.declared.step_outcome.StepOutcome.{StepOutcome}
use Rattle.processor.specs.declared.step_outcome.StepOutcome.TheVariants as step_outcomes
use Rattle.processor.specs.declared.outcome.TurnResult.{TurnResult}
use Rattle.processor.specs.declared.outcome.TurnResult.TheVariants as hads
use Rattle.processor.specs.declared.outcome.TurnOutcome.{TurnOutcome}
use Rattle.processor.specs.declared.outcome.TurnOutcome.TheVariants as outcomes
use Rattle.processor.specs.declared.shared.Shared.{Shared}
use Rattle.processor.specs.declared.station.Parts.{Parts}
use Rattle.processor.specs.Entries.{LogEntry}
use Rattle.processor.specs.Pipes.{readers_of, writers_of}
use Rattle.processor.specs.Points.{Calls, GateSaw, points_out}
use Rattle.processor.specs.Queues.{waits_at}
use Rattle.processor.specs.Running.{EndsDid}
use Rattle.processor.specs.Sights.{Sights, Views}
use Rattle.processor.specs.Stations.{AreSameParts}
use Rattle.processor.specs.Tries.{said}
use Rattle.processor.specs.Turns.{BegunAt, CameOf, HadTurn, TendedBy}

-- the number of steps that a hand had made, with the hand's table and its number there
pub record Count : Type 0 where
  pub table : TableId
  pub hand : ℕ
  pub steps : ℕ

-- the count of a hand
abbrev pub count_of : Hand → Count
count_of hand = record { table = hand.seat.table_id; hand = hand.seat.id; steps = length hand.seat.me.0.steps }

-- the count after one step more
abbrev pub one_more : Count → Count
one_more count = record count { steps = count.steps + 1 }

-- the count after a ticket was read, which is one step if there is a wait queue
abbrev pub after_ticket : Option ℕ → Count → Count
after_ticket None count = count
after_ticket (Some wait) count = one_more count

-- One hand with this count of steps was shown twice: to the old gate beside ends in their old state, and to the new gate
-- beside them in their new state. All that these ends did in between, and each call of the gate in between, came after
-- those steps of the hand, and before all other steps of the hand
pub record Stood {G E : Type 0} (shown : G → Hand → E → Type 0) (count : Count) (gate gate' : G) (old new : E) : Type 0
  where
    pub hand : Hand
    pub counted : count_of hand ≡ count
    pub before : shown gate hand old
    pub after : shown gate' hand new

-- For a step that began at this count of the hand: the try at a queue came after the reading of the ticket, if the
-- queue is a pipe, and before the wakes. A queue was shut before the wakes
abbrev pub QueuesInOrder : {G : Type 0} → Sights G → BootPlan → Count → StepOutcome → G → G → QueueEnds → QueueEnds
    → Type 0
QueuesInOrder S plan start (step_outcomes.Say queue answer) gate gate' old new =
    Stood S.queues (after_ticket (writers_of (waits_at plan queue)) start) gate gate' old new
QueuesInOrder S plan start (step_outcomes.Hear queue answer) gate gate' old new =
    Stood S.queues (after_ticket (readers_of (waits_at plan queue)) start) gate gate' old new
QueuesInOrder S plan start (step_outcomes.Close queue was_open readers writers) gate gate' old new =
    Stood S.queues start gate gate' old new
QueuesInOrder S plan start step_outcome gate gate' old new = Unit {0}

-- for a step that began at this count of the hand: a poke, with its Turn, came before all other steps of the hand
abbrev pub ChainsInOrder : {G : Type 0} → Sights G → Count → StepOutcome → G → G
    → Vec (ChainEnd AnyQuaject Queues ghosts) → Vec (ChainEnd AnyQuaject Queues ghosts) → Type 0
ChainsInOrder S start (step_outcomes.Poke mover answer) gate gate' old new = Stood S.chains start gate gate' old new
ChainsInOrder S start step_outcome gate gate' old new = Unit {0}

-- for a step that began at this count of the hand: a tick came before all other steps of the hand
abbrev pub SeatInOrder : {G : Type 0} → Sights G → Count → StepOutcome → G → G → MeterSeat → MeterSeat → Type 0
SeatInOrder S start (step_outcomes.Tick gauge amount before) gate gate' old new = Stood S.seat start gate gate' old new
SeatInOrder S start step_outcome gate gate' old new = Unit {0}

-- How far the ends were when the gate was called in a step with this result. `Claimed` came between the claim of a say
-- and its raises, and `Raised` after the raises; `TakeAnswered` after the try of a hear; and `Chained` between the try of
-- a poke and its Turn. For any other step, and for a say that put no line, the gate was not called
abbrev pub SawStep : {G : Type 0} → Beside G → ℕ → StepOutcome → List ℕ → G → G → QueueEnds → QueueEnds
    → List (ChainEnd AnyQuaject Queues ghosts) → List (ChainEnd AnyQuaject Queues ghosts) → Type 0
SawStep B p (step_outcomes.Say queue answer) line gate gate' queues queues' chains chains' =
    SayPointsAt B p queue line (said answer) gate gate' queues queues'
SawStep B p (step_outcomes.Hear queue answer) line gate gate' queues queues' chains chains' =
    HearPointAt B p queue gate gate' queues queues'
SawStep B p (step_outcomes.Poke mover answer) line gate gate' queues queues' chains chains' =
    PokePointAt B p mover 0 answer gate gate' chains chains'
SawStep B p step_outcome line gate gate' queues queues' chains chains' = gate' ≡ gate

-- A step that began at this count of the hand did its parts in order. The gate was called as `SawStep` says, and each of
-- these calls came after the reading of a ticket and before the wakes
pub record InOrder {G : Type 0} (V : Views G) (plan : BootPlan) (p : ℕ) (start : Count) (step_outcome : StepOutcome)
    (line : List ℕ) (gate gate' : G) (old new : Parts) : Type 0 where
  pub queues : QueuesInOrder V.sights plan start step_outcome gate gate' old.queues new.queues
  pub chains : ChainsInOrder V.sights start step_outcome gate gate' old.chains new.chains
  pub seat : SeatInOrder V.sights start step_outcome gate gate' old.meters new.meters
  pub points : SawStep V.beside p step_outcome line gate gate' old.queues new.queues old.chains.items new.chains.items

-- The one try of a step that began at this count of the hand, at all ends except the hand: it had this effect, in order.
-- The ends are the same ones, none of a chain has a Turn, and the lines heard and the signals are unchanged
pub record TriedAtEnds {G : Type 0} (V : Views G) (shared : Shared) (p : ℕ) (start : Count) (step_outcome : StepOutcome)
    (line : List ℕ) (gate gate' : G) (old new : Parts) : Type 0 where
  pub did : EndsDid shared step_outcome line old new
  pub order : InOrder V shared.plan p start step_outcome line gate gate' old new
  pub same : AreSameParts old new
  pub idle : All IsIdle new.chains.items
  pub heard : new.heard ≡ old.heard
  pub signals : new.signals ≡ old.signals

-- The step of an element's turn did its parts in order. It began after the element was put on the processor, which is
-- one step of the hand. For a turn without a step the gate was not called
abbrev pub TurnResultInOrder : {G : Type 0} → Views G → BootPlan → ℕ → TurnResult → List ℕ → G → G → Parts → Parts
    → Type 0
TurnResultInOrder V plan p (hads.Retired moved) line gate gate' old new = gate' ≡ gate
TurnResultInOrder V plan p (hads.Ran sent) line gate gate' old new =
    InOrder V plan p (one_more (count_of old.hand)) sent.tried.step_outcome line gate gate' old new

-- the result of an element's turn, if one was at hand, with its parts in order
abbrev pub CameInOrder : {G : Type 0} → Views G → Shared → ℕ → TurnOutcome → List ℕ → G → G → Parts → Parts → Type 0
CameInOrder V shared p (outcomes.Idle idle) line gate gate' old new =
    CameOf shared p (outcomes.Idle idle) line old new × (gate' ≡ gate)
CameInOrder V shared p (outcomes.OfElement begun had) line gate gate' old new = (mid : Parts) × BegunAt begun old mid
    × HadTurn shared p begun.element begun.number had line mid new
    × TurnResultInOrder V shared.plan p had line gate gate' mid new

-- the result of a turn, with its parts in order
abbrev pub TurnInOrder : {G : Type 0} → Views G → Shared → ℕ → LogEntry → G → G → Parts → Parts → Type 0
TurnInOrder V shared p entry gate gate' old new = (mid : Parts) × TendedBy p entry.tended old mid
    × CameInOrder V shared p entry.outcome entry.line gate gate' mid new

-- a turn, after the gate was called with its number: the gate was called at the points of its step, in order, and then
-- it got the turn's entry
abbrev pub EndedInOrder : {G : Type 0} → Views G → Calls G → Shared → ℕ → LogEntry → G → G → Parts → Parts → Type 0
EndedInOrder {G} V T shared p entry gate gate' old new = (ran : G) × TurnInOrder V shared p entry gate ran old new
    × GateSaw T.observes p (points_out entry.outcome) gate ran × T.learns ran p entry gate'

-- The turns of the log, one after the other, the first with this number. In each the gate was called with the turn's
-- number, then in order at the points of its step, and then it got the turn's entry; it was never called otherwise.
-- Each turn did its parts in order
abbrev pub TurnsInOrder : {G : Type 0} → Views G → Calls G → Shared → ℕ → ℕ → List LogEntry → Parts → Parts → G → G
    → Type 0
TurnsInOrder V T shared p number [] old new gate gate' = (new ≡ old) × (gate' ≡ gate)
TurnsInOrder {G} V T shared p number (entry ∷ log) old new gate gate' = (between : Parts) × (begun reported : G)
    × T.observes gate p (Turn number) begun
    × EndedInOrder V T shared p entry begun reported old between
    × TurnsInOrder V T shared p (suc number) log between new reported gate'

-- Processor p had this many turns. The log has the result of each, in order, and each was reported to the gate. Each
-- turn did its parts in order, and the gate was called in order
pub record RanTurnsInOrder {G : Type 0} (V : Views G) (T : Calls G) (shared : Shared) (p turns : ℕ) (gate gate' : G)
    (old new : Parts) : Type 0 where
  pub log : List LogEntry
  pub many : length log ≡ turns
  pub order : TurnsInOrder V T shared p 0 log old new gate gate'
