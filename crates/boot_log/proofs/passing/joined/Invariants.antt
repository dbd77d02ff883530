use Rattle.boot_log.proofs.Common.{◌≡◌, ◌++◌, drop, filter_map, kept_in, passing_of}
use Rattle.boot_log.proofs.passing.joined.Given as goal

-- with those of the takings that are left, all lines that passed are in the list
abbrev pub invariant-loop-heard : goal.invariant-loop-heard
invariant-loop-heard l =
    l.all.items ++ filter_map (passing_of (kept_in l.logs) l.puts l.takings) (drop l.heard-index l.takings)
    ≡ filter_map (passing_of (kept_in l.logs) l.puts l.takings) l.takings
