-- A log grows by the turns of a run, one after the other.
use Rattle.boot_log.proofs.Common.{◌≡◌, ◌<◌, ◌^◌, ℕ, List, [], ◌∷◌, length, refl, ap, ◌∙◌, LogEntry, IsRecordOf, Grows, is_kept, Kept, Room, nothing_kept}
use Rattle.turn_io.specs.declared.gate.Point.{Point}
use Rattle.processor.specs.Points.{Calls, GateSaw, GateSawTurn, HookedTurns, calls, points_out}
use Rattle.processor.specs.declared.shared.Shared.{Shared}
use Rattle.processor.specs.declared.station.Parts.{Parts}
use Rattle.boot_log.specs.declared.recorder.Recorder.{Recorder}
use Rattle.boot_log.proofs.Growth.{Grew, GrewBy, grew_if, record_of, room_stays}

-- A gate that stays at each point, and whose log grows at the end of each turn. It has a clock, and the number that the
-- clock said last
pub record IsRecorder {G K : Type 0} (T : Calls G) (says : K → ℕ → ℕ → Type 0) (clock : G → K) (last : G → ℕ) (log : G → Kept) : Type 0 where
  pub stays : (old new : G) (p : ℕ) (point : Point) → T.observes old p point new → new ≡ old
  pub keeps : (old new : G) (p : ℕ) (turn : LogEntry) → T.learns old p turn new → clock new ≡ clock old
  pub grows : (old new : G) (p : ℕ) (turn : LogEntry) → T.learns old p turn new → Grew (says (clock old)) turn (last old) (last new) (log old) (log new)

-- a recorder stays at all points of a step
pub stays_by : {G K : Type 0} (T : Calls G) (says : K → ℕ → ℕ → Type 0) (clock : G → K) (last : G → ℕ) (log : G → Kept) → IsRecorder T says clock last log → (p : ℕ) (points : List Point) (old new : G) → GateSaw T.observes p points old new → new ≡ old
stays_by T says clock last log is p [] old new saw = saw
stays_by T says clock last log is p (point ∷ points) old new saw = stays_by T says clock last log is p points saw.0 new saw.2 ∙ is.stays old saw.0 p point saw.1

-- at the end of a turn: the clock is the same, and the log grew by the turn
pub record GrewTurn {G K : Type 0} (says : K → ℕ → ℕ → Type 0) (clock : G → K) (last : G → ℕ) (log : G → Kept) (turn : LogEntry) (old new : G) : Type 0 where
  pub keeps : clock new ≡ clock old
  pub grows : Grew (says (clock old)) turn (last old) (last new) (log old) (log new)

-- a recorder's log grows by a turn
pub grew_turn : {G K : Type 0} (T : Calls G) (says : K → ℕ → ℕ → Type 0) (clock : G → K) (last : G → ℕ) (log : G → Kept) → IsRecorder T says clock last log → (p number : ℕ) (turn : LogEntry) (old new : G) → GateSawTurn T p number turn old new → GrewTurn says clock last log turn old new
grew_turn T says clock last log is p number turn old new saw =
    let begun = saw.0 in
    let ran = saw.2.0 in
    let same : ran ≡ old = stays_by T says clock last log is p (points_out turn.outcome) begun ran saw.2.1 ∙ is.stays old begun p _ saw.1 in
    let grew : GrewTurn says clock last log turn ran new = record { keeps = is.keeps ran new p turn saw.2.2; grows = is.grows ran new p turn saw.2.2 } in
    rw same at grew

-- a recorder's log grows by the turns of a run
pub grew_hooked : {G K : Type 0} (T : Calls G) (says : K → ℕ → ℕ → Type 0) (clock : G → K) (last : G → ℕ) (log : G → Kept) → IsRecorder T says clock last log → (shared : Shared) (p number : ℕ) (turns : List LogEntry) (old new : Parts) (gate gate' : G) → HookedTurns T shared p number turns old new gate gate' → GrewBy (says (clock gate)) turns (last gate) (last gate') (log gate) (log gate')
grew_hooked T says clock last log is shared p number [] old new gate gate' ran = (ap last ran.1, ap log ran.1)
grew_hooked T says clock last log is shared p number (turn ∷ turns) old new gate gate' ran =
    let next = ran.1 in
    let grew : GrewTurn says clock last log turn gate next = grew_turn T says clock last log is p number turn gate next ran.3 in
    let keeps = grew.keeps in
    let later : GrewBy (says (clock next)) turns (last next) (last gate') (log next) (log gate') = grew_hooked T says clock last log is shared p _ turns ran.0 new next gate' ran.4 in
    (last next, log next, grew.grows, rw keeps at later)

-- the calls of a recorder
abbrev pub recorder_calls : {C : Type 0} → (C → ℕ → ℕ → Type 0) → Calls (Recorder C)
recorder_calls {C} says = calls (λ (old : Recorder C) p point (new : Recorder C). new ≡ old)
    (λ (old : Recorder C) p turn (new : Recorder C). (new.clock ≡ old.clock) × Grows (says old.clock) turn old.last new.last old.log new.log)

-- a recorder is one
pub recorder_is : {C : Type 0} (says : C → ℕ → ℕ → Type 0) → IsRecorder {G = Recorder C} {K = C} (recorder_calls says) says (λ r. r.clock) (λ r. r.last) (λ r. r.log)
recorder_is {C} says = record {
  stays = λ old new p point saw. saw;
  keeps = λ old new p turn learned. learned.0;
  grows = λ old new p turn learned. grew_if (is_kept turn old.log) (says old.clock) turn old.last new.last old.log new.log refl learned.1;
}

-- a recorder's log is the record of the turns that it was called in
pub recorded : {C : Type 0} (says : C → ℕ → ℕ → Type 0) (shared : Shared) (p number : ℕ) (turns : List LogEntry) (old new : Parts) (room : Room) (gate gate' : Recorder C) → HookedTurns (recorder_calls says) shared p number turns old new gate gate' → length turns < 2 ^ 64 → gate.log ≡ nothing_kept room → IsRecordOf (says gate.clock) gate.last turns gate'.log
recorded {C} says shared p number turns old new room gate gate' ran few none =
    let grew : GrewBy (says gate.clock) turns gate.last gate'.last gate.log gate'.log =
    grew_hooked {G = Recorder C} {K = C} (recorder_calls says) says (λ r. r.clock) (λ r. r.last) (λ r. r.log) (recorder_is says) shared p number turns old new gate gate' ran in
    record_of (says gate.clock) gate.last gate'.last turns room gate.log gate'.log none grew few

-- the room of a recorder's log stays
pub keeps_room : {C : Type 0} (says : C → ℕ → ℕ → Type 0) (shared : Shared) (p number : ℕ) (turns : List LogEntry) (old new : Parts) (gate gate' : Recorder C) → HookedTurns (recorder_calls says) shared p number turns old new gate gate' → gate'.log.room ≡ gate.log.room
keeps_room {C} says shared p number turns old new gate gate' ran =
    room_stays (says gate.clock) turns gate.last gate'.last gate.log gate'.log
    (grew_hooked {G = Recorder C} {K = C} (recorder_calls says) says (λ r. r.clock) (λ r. r.last) (λ r. r.log) (recorder_is says) shared p number turns old new gate gate' ran)
