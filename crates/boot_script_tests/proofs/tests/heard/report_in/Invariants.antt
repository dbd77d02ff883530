use Rattle.std.specs.List.{AllByRecursion}
use Rattle.boot_data.specs.Hearing.{IsPlace}
use Rattle.boot_script_tests.proofs.tests.heard.report_in.Given as goal

abbrev pub invariant-loop-processor : goal.invariant-loop-processor
invariant-loop-processor l = AllByRecursion (IsPlace l.processors.items) l.places.items
