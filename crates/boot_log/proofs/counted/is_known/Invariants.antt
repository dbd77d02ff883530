use Rattle.boot_log.proofs.Common.{◌≡◌, drop, list_all, has_all_until, kept_in}
use Rattle.boot_log.proofs.counted.is_known.Given as goal

-- the logs that are left decide
abbrev pub invariant-loop-log : goal.invariant-loop-log
invariant-loop-log l =
    list_all (has_all_until l.from l.turn.ended) (kept_in (drop l.log-index l.logs))
    ≡ list_all (has_all_until l.from l.turn.ended) (kept_in l.logs)
