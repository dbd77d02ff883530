use Rattle.std.proofs.Common.{◌≡◌, ℕ, arith}
use Rattle.batch_queue.specs.Lefts.{items_left}
use Rattle.pool.specs.Handles.{held_by}
use Rattle.pool.proofs.Working.{all_left}
use Rattle.pool.proofs.workers.run_workers.Goals as goal

pub returns : goal.returns
returns g c =
    let none : (x : ℕ) → held_by c.join.new.holder x ≡ 0 = λ x.
    (let j = c.join.ensures.effect x in let a = c.join-back.ensures.first.1 x in let b = c.join-back.ensures.second.1 x in
    let s = c.split-other.ensures.effect.0 x in let o = c.split-other.ensures.effect.1 x in
    let t = c.turn.ensures.effect x in let n = c.in_ok-pool.ensures.holder.1 x in omega arith) in
    all_left c.in_ok-pool.pool.count 8 (items_left c.in-Ok.left) (held_by c.join.new.holder) c.in_ok-pool.ensures.pool.1 none c.in-Ok.ensures.effect
