-- Each recorder of a boot has the front of the turns of its processor.
use Rattle.boot_view.proofs.Common.{◌<◌, ◌^◌, ◌+◌, ◌∙◌, ℕ, List, [], ◌∷◌, length, ap, subst, All, AllZip, Recorder, Kept, LogEntry, HookedTurns, Shared, HookSaw, HooksSaw, RunsOf, HasFrontOf, IsNewRecorder, room_for}
use Rattle.std.proofs.lemmas.List.Elements.{All-head, All-tail}
use Rattle.boot_log.proofs.Runs.{keeps_room, recorded, recorder_calls}
use Rattle.processor.specs.declared.station.Parts.{Parts}

-- the recorder of a processor has the front of its turns
has : {C : Type 0} (says : C → ℕ → ℕ → Type 0) (clock : C) (from turns : ℕ) (shared : Shared) (p : ℕ) (log : List LogEntry) (old new : Parts) (gate gate' : Recorder C) → length log < 2 ^ 64 → IsNewRecorder clock from (room_for turns) gate → HookedTurns (recorder_calls says) shared p 0 log old new gate gate' → HasFrontOf (says clock) from (room_for turns) log gate'
has {C} says clock from turns shared p log old new gate gate' few empty ran =
    let front = recorded says shared p 0 log old new (room_for turns) gate gate' ran few empty.log_is in
    record {
      front = rw (empty.reads, empty.starts) at front;
      room_is = keeps_room says shared p 0 log old new gate gate' ran ∙ ap (λ (kept : Kept). kept.room) empty.log_is;
    }

saw_has : {C : Type 0} (says : C → ℕ → ℕ → Type 0) (ran : RunsOf (Recorder C)) (clock : C) (from turns : ℕ) (shared : Shared) (p : ℕ) (gate gate' : Recorder C) (log : List LogEntry) → turns < 2 ^ 64 → IsNewRecorder clock from (room_for turns) gate → HookSaw ran (recorder_calls says) shared p turns gate gate' log → HasFrontOf (says clock) from (room_for turns) log gate'
saw_has says ran clock from turns shared p gate gate' log few empty saw =
    let ran_log = saw.turned.log in
    let few_log : length ran_log < 2 ^ 64 = rw saw.turned.many few in
    subst (λ (l : List LogEntry). HasFrontOf (says clock) from (room_for turns) l gate') saw.log_is
    (has says clock from turns shared p ran_log saw.old.parts saw.new.parts gate gate' few_log empty saw.turned.reported)

-- each recorder has the front of the turns of its processor
pub all_have : {C : Type 0} (says : C → ℕ → ℕ → Type 0) (ran : RunsOf (Recorder C)) (clock : C) (from turns : ℕ) (shared : Shared) (p : ℕ) (gates back : List (Recorder C)) (logs : List (List LogEntry)) → turns < 2 ^ 64 → All (IsNewRecorder clock from (room_for turns)) gates → HooksSaw ran (recorder_calls says) shared p turns gates back logs → AllZip (HasFrontOf (says clock) from (room_for turns)) logs back
all_have says ran clock from turns shared p [] [] [] few empty saw = tt
all_have says ran clock from turns shared p [] [] (log ∷ logs) few empty saw = absurd saw
all_have says ran clock from turns shared p [] (gate' ∷ back) logs few empty saw = absurd saw
all_have says ran clock from turns shared p (gate ∷ gates) [] logs few empty saw = absurd saw
all_have says ran clock from turns shared p (gate ∷ gates) (gate' ∷ back) [] few empty saw = absurd saw
all_have says ran clock from turns shared p (gate ∷ gates) (gate' ∷ back) (log ∷ logs) few empty saw =
    (saw_has says ran clock from turns shared p gate gate' log few (All-head (IsNewRecorder clock from (room_for turns)) gate gates empty) saw.0, all_have says ran clock from turns shared (p + 1) gates back logs few (All-tail (IsNewRecorder clock from (room_for turns)) gate gates empty) saw.1)
