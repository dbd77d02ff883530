use Rattle.tags.proofs.Common.{◌≡◌, all_tags}
use Rattle.tags.proofs.tags.all_tags.Given as goal

abbrev pub invariant-loop-tag : goal.invariant-loop-tag
invariant-loop-tag g l = l.tags.items ≡ all_tags l.tag
