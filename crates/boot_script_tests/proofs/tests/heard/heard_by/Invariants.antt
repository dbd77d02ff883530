use Rattle.std.proofs.Common.{◌≡◌, length}
use Rattle.boot_script_tests.proofs.tests.heard.heard_by.Given as goal

abbrev pub invariant-loop-line : goal.invariant-loop-line
invariant-loop-line l = record {
  number : length l.heard.lines ≡ l.line-index;
  room : l.heard.room ≡ length l.lines;
  longest : l.heard.longest ≡ 256;
}
