-- A line that was heard, as it is printed.
use Rattle.boot_data.specs.Hearing.{NamedLine}
use Rattle.boot_script.specs.declared.report_printing.HeardLine.{HeardLine}

-- the printed parts of a line: the name of its thread, the number of its step, and its bytes
abbrev pub shown : HeardLine → NamedLine
shown line = record { thread = line.thread.now; step = line.step; bytes = line.bytes.now }
