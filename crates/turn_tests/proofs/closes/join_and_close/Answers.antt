use Rattle.std.proofs.Common.{rules, arith, ◌≡◌, ◌+◌, ℕ, List, map, ap, sym, subst, ◌∙◌}
use Rattle.std.proofs.Math.Nat.{add-zero}
use Rattle.std.specs.List.{All}
use Rattle.claim_queue.specs.declared.ends.QueueEnd.{QueueEnd}
use Rattle.claim_queue.specs.Handles.{IsOnlyEnd}
use Rattle.claim_queue.specs.declared.rule.QueueOps.{QueueOps}
use Rattle.turn_io.specs.Accounts.{Stake, queue_shares}
use Rattle.turn_io.specs.EndLists.{queue_table, end_table, end_share, share_at}
use Rattle.turn_io.proofs.Places.{as_long}
use Rattle.boot_objects.proofs.Summed.{share_is}
use Rattle.boot_objects.proofs.Lent.{came_back}
use Rattle.boot_objects.proofs.Whole.{only_one}
use Rattle.turn_tests.proofs.closes.join_and_close.Goals as goal

pub close_queues-requires : goal.close_queues-requires
close_queues-requires g c =
    let queues = c.args.queues.items in let ends = c.args.ends in let other = c.args.other in let lent = c.as_mut_slice in let new = c.join_at.new.ends in
    let back = came_back end_table ends lent.result.now new c.join_at.ensures.handle.tables lent.ensures.len in
    let fit : map end_table new ≡ map queue_table queues = c.join_at.ensures.ends ∙ ap (map queue_table) c.as_slice.ensures.value in
    let long = as_long end_table queue_table new queues fit in let one = c.requires.one in
    let same : queue_shares lent.result.now 0 ≡ share_at ends.items 0 = ap (λ (z : List (QueueEnd 64)). queue_shares z 0) lent.ensures.value ∙ share_is ends.items 0 in
    let sum : share_at new 0 ≡ queue_shares lent.result.now 0 + (end_share other + 0) = sym (share_is new 0) ∙ ap (λ (f : ℕ → Stake QueueOps). (f 0).share) c.join_at.ensures.gained.stakes_are in
    let whole = only_one new (omega arith) (sum ∙ ((λ i. same i + add-zero (end_share other) i) ∙ c.requires.whole)) in (
      omega arith,
      (
        omega arith,
        (
          omega arith,
          (
            subst (λ (z : List (QueueEnd 64)). map end_table z ≡ map queue_table queues) (sym back) fit,
            (subst (λ (z : List (QueueEnd 64)). All IsOnlyEnd z) (sym back) whole, search rules),
          ),
        ),
      ),
    )
