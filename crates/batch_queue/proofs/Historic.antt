-- Which event the change of a real step is, of the queue with each of its histories.
use Rattle.batch_queue.proofs.Common.{AreIn, Batch, BatchState, Cell, IsBatch, IsValidStep, IsStop, List, AbsState, Owned, Positions, Step, [], ap, arith, change, false, free_word, get_elem?, get_or, head_of, head_word, items_of, length, length-append, mark, of_batches, phase_at, positions_of, raised_run, run, set, some, subst, sym, tail_word, with_batch, with_freed, with_part, with_back, with_up, with_raises, with_shut, with_take, with_taken, stage_at, ℕ, ◌+◌, ◌++◌, ◌-◌, ◌<◌, ◌∙◌, ◌∷◌, ◌≡◌, ◌≤◌}
use Rattle.std.specs.Prelude.{Ok}
use Rattle.event_theory.specs.Marks.{shut}
use Rattle.event_theory.specs.Queues.{claim, take_first}
use Rattle.table_theory.specs.Positioned as positions
use Rattle.table_theory.specs.QueueOf.{IsEventOf, IsHistory, no_event}
use Rattle.table_theory.specs.Raises.{AreAt, Spot, raise_all, raise_each}
use Rattle.table_theory.proofs.Histories.{claim_of, none_of, of_run, publish_of, raises_of, shut_of, take_of}
use Rattle.table_theory.proofs.Saying.{real_change}
use Rattle.batch_queue.proofs.Eventful.{claim_open, take_whole}
use Rattle.batch_queue.proofs.Growing.{batch_below, batch_items, below_head, freed_taken, real_lawful}
use Rattle.batch_queue.proofs.Placing as placing
use Rattle.batch_queue.proofs.Reporting.{free_says, head_says, tail_says}

module _ (m : AbsState BatchState) (runs : List (Owned Batch)) (h : IsHistory (positions_of m.object) runs) where
  abbrev o : BatchState
  o = m.object

  abbrev q : Positions
  q = positions_of o

  pub claim_has : (head call number : ℕ) (items : List ℕ) → IsValidStep of_batches (change head_word head m (with_batch o items)) → 0 < length items
      → (o.shut ≡ false) × (head ≡ length (items_of o)) × IsEventOf q runs (claim o.room call items) (positions_of (with_batch o items)) (runs ++ (call, number, run head items) ∷ [])
  claim_has head call number items r some_item = let e : Step BatchState = change head_word head m (with_batch o items) in
      let is_open = claim_open o (with_batch o items) items (λ _. with_batch o items) (real_change of_batches e r) in let new = real_lawful e r in let within = new.within in let is = ap length (batch_items o items) in let n = length-append (items_of o) items in
      let reported = (head_says e (λ _. head_word) r).0 in let z : mark o.shut ≡ 0 = ap mark is_open in let here : head ≡ length (items_of o) = omega arith in let c = placing.cells_length (items_of o) o.phases in let f = freed_taken o r.lawful in
      let same = placing.claimed o items r.lawful in let at_head : head_of q ≡ head = omega arith in (
        is_open,
        here,
        subst (λ (z : Positions). IsEventOf q runs (claim o.room call items) z (runs ++ (call, number, run head items) ∷ [])) (sym same)
            (subst (λ (z : ℕ). IsEventOf q runs (claim o.room call items) (positions.with_claim q items) (runs ++ (call, number, run z items) ∷ [])) at_head
            (claim_of q runs h (placing.lawful_positions o r.lawful) call number items some_item (omega arith) is_open)),
      )

  pub take_has : (tail new : ℕ) → IsValidStep of_batches (change tail_word tail m (with_taken o new)) → o.taken < new
      → (tail ≡ o.taken) × IsStop o new × IsEventOf q runs (take_first o.room (new - o.taken)) (positions_of (with_taken o new)) runs
  take_has tail new r less = let e : Step BatchState = change tail_word tail m (with_taken o new) in let t = take_whole o (with_taken o new) new less (λ _. with_taken o new) (real_change of_batches e r) in let le = t.0 in let n : ℕ = new - o.taken in let c = placing.cells_length (items_of o) o.phases in
      let same : positions_of (with_taken o new) ≡ with_take q n = placing.taken o new r.lawful (omega arith) le t.2 ∙ (let z : new ≡ o.taken + n = omega arith in λ i. record q { taken = z i }) in (
        tail_says e (λ _. tail_word) r,
        t.1,
        subst (λ (z : Positions). IsEventOf q runs (take_first o.room n) z runs) (sym same)
            (take_of q runs h (placing.lawful_positions o r.lawful) n (omega arith) (omega arith) (λ i b. let up = t.2 (o.taken + i) (omega arith) (omega arith) in placing.cells_up (items_of o) o.phases (o.taken + i) (omega arith) (omega arith))),
      )

  -- a step that leaves the positions as they are is no event
  still : (r : Positions) → positions.Lawful q → r ≡ q → IsEventOf q runs no_event r runs
  still r lawful same = subst (λ (z : Positions). IsEventOf q runs no_event z runs) (sym same) (none_of q runs h lawful)

  pub give_has : (word found a b : ℕ) → IsValidStep of_batches (change word found m (with_back o a b)) → AreIn o 2 a b → a < b → IsEventOf q runs no_event (positions_of (with_back o a b)) runs
  give_has word found a b r was less = still (positions_of (with_back o a b)) (placing.lawful_positions o r.lawful) (placing.given o a b r.lawful (below_head o 2 a b r.lawful (omega arith) was less) was)

  pub free_has : (free new : ℕ) → IsValidStep of_batches (change free_word free m (with_freed o new)) → (free ≡ o.freed) × IsEventOf q runs no_event (positions_of (with_freed o new)) runs
  free_has free new r = (free_says (change free_word free m (with_freed o new)) (λ _. free_word) r, none_of q runs h (placing.lawful_positions o r.lawful))

  pub part_has : (word found p end : ℕ) → IsValidStep of_batches (change word found m (with_part o p end)) → IsEventOf q runs no_event (positions_of (with_part o p end)) runs
  part_has word found p end r = none_of q runs h (placing.lawful_positions o r.lawful)

  pub shut_has : (head : ℕ) → IsValidStep of_batches (change head_word head m (with_shut o)) → IsEventOf q runs (λ c. Ok (shut c)) (positions_of (with_shut o)) runs
  shut_has head r = shut_of q runs h (placing.lawful_positions o r.lawful)

  -- a batch of which nothing is published
  module _ (word found a b : ℕ) (r : IsValidStep of_batches (change word found m (with_up o a b))) (batch : IsBatch o.batches a b) (was : AreIn o 0 a b) where
    low : (x : ℕ) → a ≤ x → x < b → stage_at q x < 2
    low x from to = let below = batch_below o a b batch in let cell = placing.cell_at (items_of o) o.phases x (omega arith) r.lawful.long in
        subst (λ (z : Cell). z.stage < 2) (sym cell) (placing.cell_none (get_or (items_of o) x 0) (phase_at o x) (was x from to))

    same : (n : ℕ) → a + n ≡ b → positions_of (with_up o a b) ≡ with_raises q a n
    same n end = let below = batch_below o a b batch in ap (λ (z : ℕ). positions_of (with_up o a z)) (sym end) ∙ placing.published o a n r.lawful (omega arith)

    pub publish_has : (spots : List Spot) × AreAt runs a spots b × (left : List (Owned Batch)) × IsEventOf q runs (raise_each spots) (positions_of (with_up o a b)) left
    publish_has = let n : ℕ = b - a in let some_item = r.lawful.solid a b batch in let below = batch_below o a b batch in let c = placing.cells_length (items_of o) o.phases in let end : a + n ≡ b = omega arith in
        let all = raises_of q runs h (placing.lawful_positions o r.lawful) a n (omega arith) (λ x from to. low x from (omega arith)) in let from : 0 + a ≡ a = omega arith in let to : 0 + a + n ≡ b = omega arith in
        (all.0, subst (λ (z : ℕ). AreAt runs z all.0 b) from (subst (AreAt runs (0 + a) all.0) to all.1), all.2, subst (λ (z : Positions). IsEventOf q runs (raise_each all.0) z all.2) (sym (same n end)) all.3)

    pub publish_run_has : (k : ℕ) (e : Owned Batch) → get_elem? runs k ≡ some e → e.2.start ≡ a → a + length e.2.places ≡ b
        → IsEventOf q runs (raise_all e.0 k 0 (length e.2.places)) (positions_of (with_up o a b)) (set runs k (e.0, e.1, raised_run e.2 0 (length e.2.places)))
    publish_run_has k e has start end = let n : ℕ = length e.2.places in
        subst (λ (z : Positions). IsEventOf q runs (raise_all e.0 k 0 n) z (set runs k (e.0, e.1, raised_run e.2 0 n))) (sym (same n end))
        (publish_of q runs h (placing.lawful_positions o r.lawful) k a e has (omega arith)
        (λ x below. subst (λ (z : Cell). z.stage < 2) (sym (of_run q runs h k x (a + x) e has below (omega arith)).same) (low (a + x) (omega arith) (omega arith))))
