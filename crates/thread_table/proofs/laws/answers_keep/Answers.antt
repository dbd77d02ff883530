use Rattle.thread_table.proofs.Hands.Unchanged.{keeps_by, take_keeps, move_keeps, wait_keeps, stop_keeps, start_keeps, park_keeps, signal_keeps, deliver_keeps, done_keeps, notify_keeps, before_keeps}
use Rattle.thread_table.proofs.Common.{refl}
use Rattle.thread_table.proofs.laws.answers_keep.Goals as goal

pub returns : goal.returns
returns c = record {
  takes = take_keeps;
  moves = move_keeps;
  waits = wait_keeps;
  stops = stop_keeps;
  starts = start_keeps;
  parks = park_keeps;
  signals = signal_keeps;
  delivers = deliver_keeps;
  trace = done_keeps;
  wakes = λ call wait mask v w a. keeps_by v w _ _ a.acts refl refl refl refl;
  notifies = notify_keeps;
  befores = before_keeps;
}
