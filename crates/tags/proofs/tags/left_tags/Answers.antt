use Rattle.std.proofs.Common.{◌∙◌, ℕ, ap, length, arith}
use Rattle.arrayvec.specs.ArrayVec.{ArrayVec}
use Rattle.tags.proofs.Left.{more_left, none_left}
use Rattle.tags.proofs.tags.left_tags.Goals.{in-Some, in_default}
use Rattle.tags.proofs.tags.left_tags.Goals as goal

pub loop-place-preserved : goal.loop-place-preserved
loop-place-preserved g c = elim c.match-place.branch [
  | in-Some w ↦ record {
    few = let n = w.push.ensures.len in let f = c.loop-place.invariant.few in let e = ap (λ (z : ArrayVec ℕ). length z.items) w.tags-is in omega arith;
    are = λ tags all. ap (λ (z : ArrayVec ℕ). z.items) w.tags-is ∙ more_left _ _ c.loop-place.place-index c.as_slice-place-items.ensures.value c.loop-place-test.true tags all _ _ w.in-Some.tag w.in-Some.is w.push.ensures.items (c.loop-place.invariant.are tags all);
  }
  | in_default w ↦ record {
    few = let f = c.loop-place.invariant.few in let e = ap (λ (z : ArrayVec ℕ). length z.items) w.tags-is in omega arith;
    are = λ tags all. absurd (none_left _ _ c.loop-place.place-index c.as_slice-place-items.ensures.value c.loop-place-test.true tags all w.in_default.is);
  }
]
