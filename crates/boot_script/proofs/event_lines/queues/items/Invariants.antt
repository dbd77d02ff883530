use Rattle.boot_script.proofs.Common.{◌≡◌, ℕ, length, min, ScriptRefusal, numbers_of}
use Rattle.boot_script.proofs.Basics.Gathered.{IsGathered}
use Rattle.boot_script.proofs.event_lines.queues.items.Given as goal

-- The items so far, and the words that are left, are those of the line.
abbrev pub invariant-loop-words : goal.invariant-loop-words
invariant-loop-words l = record {
  gathered : IsGathered ℕ ScriptRefusal l.kept l.items.items (numbers_of 18446744073709551615 l.words) (numbers_of 18446744073709551615 l.fn.words);
  counted : l.count ≡ min (length gathered.front) 18446744073709551615;
}

abbrev pub decreases-loop-words : goal.decreases-loop-words
decreases-loop-words l = length l.words
