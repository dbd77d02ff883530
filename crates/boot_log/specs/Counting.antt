-- The turns of lines that are counted: at queues that only threads use, line by line, and before any turn that a log
-- missed.
use Rattle.std.specs.Prelude.{ℕ, ◌==◌, ◌&&◌, ◌||◌, Bool, List, nat_lt}
use Rattle.std.specs.List.{list_all}
use Rattle.boot_data.specs.declared.boot_plan.BootPlan.{BootPlan}
use Rattle.boot_log.specs.declared.line_turn.LineTurn.{LineTurn}
use Rattle.boot_log.specs.Kept.{Kept, end_of}
use Rattle.boot_log.specs.Queues.{has_single_lines, is_of_threads}

-- The log has each turn of its processor that ended by this time: none was missed, or the last one that is kept ended
-- later
abbrev pub has_all_until : ℕ → ℕ → Kept → Bool
has_all_until from time log = log.missed == 0 || nat_lt time (end_of from log.entries)

-- the logs have each turn that ended by the end of this one
abbrev pub is_known : ℕ → List Kept → LineTurn → Bool
is_known from logs turn = list_all (has_all_until from turn.ended) logs

-- the turn is counted: only threads use its queue, line by line, and the logs have each turn up to its end
abbrev pub is_counted : BootPlan → ℕ → List Kept → LineTurn → Bool
is_counted plan from logs turn =
    is_of_threads plan turn.queue && is_known from logs turn && has_single_lines plan turn.queue
