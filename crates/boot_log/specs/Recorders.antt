-- A recorder before its boot.
use Rattle.std.specs.Prelude.{◌≡◌, ℕ}
use Rattle.boot_log.specs.declared.recorder.Recorder.{Recorder}
use Rattle.boot_log.specs.Kept.{Room, nothing_kept}

-- the recorder reads this clock, from this time on, has kept nothing so far, and has this room
pub record IsNewRecorder {C : Type 0} (clock : C) (from : ℕ) (room : Room) (recorder : Recorder C) : Type 0 where
  pub reads : recorder.clock ≡ clock
  pub starts : recorder.last ≡ from
  pub log_is : recorder.log ≡ nothing_kept room
