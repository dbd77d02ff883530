use Rattle.std.proofs.Common.{◌≡◌, ◌≤◌, drop, length}
use Rattle.boot_script.proofs.text.same_word.Given as goal

-- fewer bytes are left
abbrev pub decreases-loop-left : goal.decreases-loop-left
decreases-loop-left l = l.left

-- The bytes after those that are left are the same in both words.
abbrev pub invariant-loop-left : goal.invariant-loop-left
invariant-loop-left l = record {
  same : drop l.left l.one ≡ drop l.left l.other;
  within : l.left ≤ length l.one;
}
