use Rattle.tags.proofs.Common.{◌≡◌, ◌≤◌, ℕ, List, length, map, take, Some}
use Rattle.tags.proofs.tags.left_tags.Given as goal

abbrev pub invariant-loop-place : goal.invariant-loop-place
invariant-loop-place g l = record {
  few : length l.tags.items ≤ l.place-index;
  are : (tags : List ℕ) → l.left.items ≡ map Some tags → l.tags.items ≡ take l.place-index tags;
}
