use Rattle.std.proofs.Common.{◌≡◌, ℕ, arith}
use Rattle.tags.specs.Handles.{held_by}
use Rattle.tags.proofs.Working.{all_left}
use Rattle.tags.proofs.drivers.run_drivers.Goals as goal

pub returns : goal.returns
returns g c =
    let none : (x : ℕ) → held_by c.join.new.holder x ≡ 0 = λ x.
    (let j = c.join.ensures.effect x in let a = c.join-back.ensures.first.1 x in let b = c.join-back.ensures.second.1 x in
    let s = c.split-other.ensures.effect.0 x in let o = c.split-other.ensures.effect.1 x in
    let n = c.in_ok-tags.ensures.holder.1 x in omega arith) in
    all_left _ 4 c.in-Ok.left.items (held_by c.join.new.holder) c.in_ok-tags.ensures.pool.1 none c.in-Ok.ensures.effect
