-- The work of all processors of a boot.
use Rattle.std.specs.Prelude.{List, flat_map}
use Rattle.processor.specs.Accounts.{Account}
use Rattle.processor.specs.Entries.{LogEntry}
use Rattle.processor.specs.Logs.{sum_of}

-- the work of the processors: the logs one after the other, summed
abbrev pub total_of : List (List LogEntry) → Account
total_of logs = sum_of (flat_map (λ log. log) logs)
