-- What a closed queue was put and taken, by its last end.
use Rattle.boot_objects.proofs.Common.{◌≡◌, ◌-◌, ◌≤◌, ℕ, Bool, true, false, map, length, Some, sym, ap, ◌∙◌, arith, length-map, ClaimQueue, QueueEnd, view_of, IsClosed, drop, drop-map, length-drop, item_of, first_of}
use Rattle.table_theory.specs.declared.queues.Positions.{Positions}
use Rattle.claim_queue.specs.declared.close.Closed.{Closed}
use Rattle.claim_queue.specs.Closings.{ClosedNow, shown}
use Rattle.claim_queue.specs.Rules.{times_shut}

one_shut : (q : Positions) (b : Bool) → q.shut ≡ b → times_shut q ≤ 1
one_shut q true e = let h : times_shut q ≡ 1 = cc in omega arith
one_shut q false e = let h : times_shut q ≡ 0 = cc in omega arith

pub is_closed : {n : ℕ} (queue : ClaimQueue n) (end : QueueEnd n) (closed : Closed n) → closed.first ≡ first_of queue → ClosedNow (view_of end) closed.first closed.put closed.taken closed.left.items → IsClosed queue end closed
is_closed queue end closed starts c = let q = (view_of end).seen.object in let items = map item_of q.places in record {
  starts = starts;
  now = c;
  items = items;
  put_is = c.puts ∙ sym (length-map q.places item_of);
  settled = c.settled;
  left_number = ap length c.left_is ∙ length-map (drop q.taken q.places) shown ∙ length-drop q.taken q.places ∙ (λ i. sym c.puts i - sym c.taken_is i);
  left_is = λ up. c.raised up ∙ ap (map Some) (sym (drop-map item_of q.taken q.places) ∙ ap (λ (z : ℕ). drop z items) (sym c.taken_is));
  shut_once = let once = c.shut_once in let most = one_shut q q.shut (λ i. q.shut) in omega arith;
}
