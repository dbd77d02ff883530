-- Which event of the core the change of a real step is.
use Rattle.batch_queue.proofs.Common.{with_part, AreIn, Batch, BatchState, Becomes, Cell, IsBatch, IsValidStep, IsStop, Lawful, List, AbsState, Owned, Positions, QueueView, Step, ViewsShow, [], ap, arith, at_below, at_map, at_set, blank, cell_of, change, dec_lt, dite, false, free_word, get_elem?, get_or, head_of, head_word, history_of, inl, inr, is_lawful_queue, items_of, length, length-append, map, map-set, mark, of_batches, phase_at, positions_of, raised_run, refl, run, set, set-set, set_again, set_here, some, subst, sym, tail_word, take, taking, was_claimed, was_freed, was_given, was_parted, was_published, was_shut, was_taken, with_batch, with_freed, with_back, with_up, with_raises, with_shut, with_take, with_taken, ℕ, ⊎_elim, ◌++◌, ◌+◌, ◌-◌, ◌<◌, ◌∙◌, ◌∷◌, ◌≡◌, ◌≤◌, ◌⊎◌}
use Rattle.std.specs.Prelude.{Ok}
use Rattle.event_theory.specs.Marks.{shut}
use Rattle.event_theory.specs.Queues.{claim, take_first}
use Rattle.table_theory.specs.Listing.{runs_of, takes_of, IsListed}
use Rattle.table_theory.specs.Positioned as positions
use Rattle.table_theory.specs.QueueOf.{IsEvent, no_event, queue_of}
use Rattle.table_theory.proofs.QueueEvents.{claim_event, shut_event, take_event}
use Rattle.table_theory.proofs.Saying.{real_change}
use Rattle.table_theory.proofs.Listing.{run_stands}
use Rattle.table_theory.specs.Raises.{raise_all}
use Rattle.batch_queue.proofs.Growing.{batch_below, batch_items, below_head, freed_taken, real_lawful}
use Rattle.batch_queue.proofs.Placing as placing
use Rattle.batch_queue.proofs.Raising.{published, view_after}
use Rattle.batch_queue.proofs.Reporting.{free_says, head_says, tail_says}

abbrev pub Change : BatchState → BatchState → Type 0
Change o r = (r ≡ o) ⊎ Becomes o r

one_more : (bs : List (List ℕ)) (b : List ℕ) → bs ++ b ∷ [] ≡ bs → ⊥
one_more bs b e = let n = length-append bs (b ∷ []) in let l = ap length e in omega arith

-- if a batch was claimed, the queue was open
pub claim_open : (o r : BatchState) (items : List ℕ) → r ≡ with_batch o items → Change o r → o.shut ≡ false
claim_open o r items is (inl same) = absurd (one_more o.batches items (ap (λ (z : BatchState). z.batches) (sym is ∙ same)))
claim_open o r items is (inr (was_claimed claim some_item is_open fits e)) = is_open
claim_open o r items is (inr (was_published a b less batch was e)) = absurd (one_more o.batches items (ap (λ (z : BatchState). z.batches) (sym is ∙ e)))
claim_open o r items is (inr (was_taken new less le edge was e)) = absurd (one_more o.batches items (ap (λ (z : BatchState). z.batches) (sym is ∙ e)))
claim_open o r items is (inr (was_given a b less taking was e)) = absurd (one_more o.batches items (ap (λ (z : BatchState). z.batches) (sym is ∙ e)))
claim_open o r items is (inr (was_freed new less edge was e)) = absurd (one_more o.batches items (ap (λ (z : BatchState). z.batches) (sym is ∙ e)))
claim_open o r items is (inr (was_shut e)) = absurd (one_more o.batches items (ap (λ (z : BatchState). z.batches) (sym is ∙ e)))
claim_open o r items is (inr (was_parted p end within e)) = absurd (one_more o.batches items (ap (λ (z : BatchState). z.batches) (sym is ∙ e)))

-- what was taken was published, and up to where a batch ends or was parted
abbrev pub Taken : BatchState → ℕ → Type 0
Taken o new = (new ≤ length (items_of o)) × IsStop o new × AreIn o 1 o.taken new

pub take_whole : (o r : BatchState) (new : ℕ) → o.taken < new → r ≡ with_taken o new → Change o r → Taken o new
take_whole o r new less is (inl same) = absurd (let e = ap (λ (z : BatchState). z.taken) (sym is ∙ same) in omega arith)
take_whole o r new less is (inr (was_claimed claim some_item is_open fits e)) = absurd (let t = ap (λ (z : BatchState). z.taken) (sym is ∙ e) in omega arith)
take_whole o r new less is (inr (was_published a b less' batch was e)) = absurd (let t = ap (λ (z : BatchState). z.taken) (sym is ∙ e) in omega arith)
take_whole o r new less is (inr (was_taken to less' le stop was e)) = let same : to ≡ new = ap (λ (z : BatchState). z.taken) (sym e ∙ is) in subst (λ (z : ℕ). (z ≤ length (items_of o)) × IsStop o z × AreIn o 1 o.taken z) same (le, stop, was)
take_whole o r new less is (inr (was_given a b less' taking was e)) = absurd (let t = ap (λ (z : BatchState). z.taken) (sym is ∙ e) in omega arith)
take_whole o r new less is (inr (was_freed to less' edge was e)) = absurd (let t = ap (λ (z : BatchState). z.taken) (sym is ∙ e) in omega arith)
take_whole o r new less is (inr (was_shut e)) = absurd (let t = ap (λ (z : BatchState). z.taken) (sym is ∙ e) in omega arith)
take_whole o r new less is (inr (was_parted p end within e)) = absurd (let t = ap (λ (z : BatchState). z.taken) (sym is ∙ e) in omega arith)

-- the same views with another of one end, which has the same lists
record Again (q : Positions) (views : List QueueView) (seat : ℕ) (w : QueueView) (log : List (Owned Batch)) : Type 0 where
  shown : ViewsShow q (set views seat w)
  same : shown.lists.runs ≡ log

again : (q : Positions) (views : List QueueView) (seat : ℕ) (v w : QueueView) (l : ViewsShow q views) → get_elem? views seat ≡ some v → w.runs ≡ v.runs → w.takes ≡ v.takes → positions.Grows w.queue q → Again q views seat w l.lists.runs
again q views seat v w l at runs takes later =
    let same_runs : map runs_of views ≡ map runs_of (set views seat w) = sym (map-set runs_of views seat w ∙ (ap (set (map runs_of views) seat) runs ∙ set_again (map runs_of views) seat v.runs (at_map runs_of views seat v at))) in
    let same_takes : map takes_of views ≡ map takes_of (set views seat w) = sym (map-set takes_of views seat w ∙ (ap (set (map takes_of views) seat) takes ∙ set_again (map takes_of views) seat v.takes (at_map takes_of views seat v at))) in record {
      shown = record {
        lists = record {
          runs = l.lists.runs;
          takes = l.lists.takes;
          runs_are = subst (IsListed q.first q.places l.lists.runs) same_runs l.lists.runs_are;
          takes_are = subst (IsListed q.first (take q.taken q.places) l.lists.takes) same_takes l.lists.takes_are;
        };
        seen = λ j u e. ⊎_elim (λ t. subst (λ (z : QueueView). positions.Grows z.queue q) t.1 later) (λ t. l.seen j u t.1) (at_set views seat j w u e);
      };
      same = refl;
    }

-- a step that leaves the positions as they are is no event
nothing_event : (q : Positions) (views : List QueueView) (seat : ℕ) (v w : QueueView) (l : ViewsShow q views) → positions.Lawful q → get_elem? views seat ≡ some v → w.runs ≡ v.runs → w.takes ≡ v.takes → positions.Grows w.queue q → IsEvent q q seat v w no_event
nothing_event q views seat v w l lawful at runs takes later = let a = again q views seat v w l at runs takes later in record {
  views = views;
  here = at;
  shown = l;
  new_shown = a.shown;
  lawful = is_lawful_queue q l.lists.runs lawful (history_of q views l);
  made = ap (λ (z : List (Owned Batch)). Ok (queue_of q z)) (sym a.same);
}

module _ (m : AbsState BatchState) (views : List QueueView) (seat : ℕ) (v w : QueueView) (l : ViewsShow (positions_of m.object) views) (at : get_elem? views seat ≡ some v) where
  abbrev o : BatchState
  o = m.object

  abbrev q : Positions
  q = positions_of o

  pub claim_is : (head : ℕ) (items : List ℕ) → IsValidStep of_batches (change head_word head m (with_batch o items)) → 0 < length items → w.runs ≡ v.runs ++ run head items ∷ [] → w.takes ≡ v.takes → positions.Grows w.queue (positions_of (with_batch o items))
      → (o.shut ≡ false) × (head ≡ length (items_of o)) × IsEvent q (positions_of (with_batch o items)) seat v w (claim o.room seat items)
  claim_is head items r some_item runs takes later = let e : Step BatchState = change head_word head m (with_batch o items) in
      let is_open = claim_open o (with_batch o items) items refl (real_change of_batches e r) in let new = real_lawful e r in let within = new.within in let is = ap length (batch_items o items) in let n = length-append (items_of o) items in
      let h = (head_says e refl r).0 in let z : mark o.shut ≡ 0 = ap mark is_open in let here : head ≡ length (items_of o) = omega arith in let c = placing.cells_length (items_of o) o.phases in let f = freed_taken o r.lawful in
      let same = placing.claimed o items r.lawful in let at_head : head ≡ head_of q = omega arith in (
        is_open,
        here,
        subst (λ (z : Positions). IsEvent q z seat v w (claim o.room seat items)) (sym same)
            (claim_event q views seat v w items l at (placing.lawful_positions o r.lawful) some_item (omega arith) is_open (runs ∙ ap (λ (z : ℕ). v.runs ++ run z items ∷ []) at_head) takes (subst (λ (z : Positions). positions.Grows w.queue z) same later)),
      )

  pub take_is : (tail new : ℕ) → IsValidStep of_batches (change tail_word tail m (with_taken o new)) → o.taken < new → w.takes ≡ v.takes ++ taking q (new - o.taken) ∷ [] → w.runs ≡ v.runs → positions.Grows w.queue (positions_of (with_taken o new))
      → (tail ≡ o.taken) × IsStop o new × IsEvent q (positions_of (with_taken o new)) seat v w (take_first o.room (new - o.taken))
  take_is tail new r less takes runs later = let e : Step BatchState = change tail_word tail m (with_taken o new) in let t = take_whole o (with_taken o new) new less refl (real_change of_batches e r) in let le = t.0 in let n : ℕ = new - o.taken in let c = placing.cells_length (items_of o) o.phases in
      let same : positions_of (with_taken o new) ≡ with_take q n = placing.taken o new r.lawful (omega arith) le t.2 ∙ (let z : new ≡ o.taken + n = omega arith in λ i. record q { taken = z i }) in (
        tail_says e refl r,
        t.1,
        subst (λ (z : Positions). IsEvent q z seat v w (take_first o.room n)) (sym same)
            (take_event q views seat n v w l at (placing.lawful_positions o r.lawful) (omega arith) (omega arith) (λ i h. let up = t.2 (o.taken + i) (omega arith) (omega arith) in placing.cells_up (items_of o) o.phases (o.taken + i) (omega arith) (omega arith)) takes runs (subst (λ (z : Positions). positions.Grows w.queue z) same later)),
      )

  pub shut_is : (head : ℕ) → IsValidStep of_batches (change head_word head m (with_shut o)) → w.runs ≡ v.runs → w.takes ≡ v.takes → positions.Grows w.queue (positions_of (with_shut o)) → IsEvent q (positions_of (with_shut o)) seat v w (λ c. Ok (shut c))
  shut_is head r runs takes later = shut_event q views seat v w l at (placing.lawful_positions o r.lawful) runs takes later

  pub give_is : (word found a b : ℕ) → IsValidStep of_batches (change word found m (with_back o a b)) → AreIn o 2 a b → a < b → w.runs ≡ v.runs → w.takes ≡ v.takes → positions.Grows w.queue (positions_of (with_back o a b)) → IsEvent q (positions_of (with_back o a b)) seat v w no_event
  give_is word found a b r was less runs takes later = let same = placing.given o a b r.lawful (below_head o 2 a b r.lawful (omega arith) was less) was in
      subst (λ (z : Positions). IsEvent q z seat v w no_event) (sym same) (nothing_event q views seat v w l (placing.lawful_positions o r.lawful) at runs takes (subst (λ (z : Positions). positions.Grows w.queue z) same later))

  pub free_is : (free new : ℕ) → IsValidStep of_batches (change free_word free m (with_freed o new)) → w.runs ≡ v.runs → w.takes ≡ v.takes → positions.Grows w.queue (positions_of (with_freed o new)) → (free ≡ o.freed) × IsEvent q (positions_of (with_freed o new)) seat v w no_event
  free_is free new r runs takes later = (free_says (change free_word free m (with_freed o new)) refl r, nothing_event q views seat v w l (placing.lawful_positions o r.lawful) at runs takes later)

  pub part_is : (word found p end : ℕ) → IsValidStep of_batches (change word found m (with_part o p end)) → w.runs ≡ v.runs → w.takes ≡ v.takes → positions.Grows w.queue (positions_of (with_part o p end)) → IsEvent q (positions_of (with_part o p end)) seat v w no_event
  part_is word found p end r runs takes later = nothing_event q views seat v w l (placing.lawful_positions o r.lawful) at runs takes later

  -- nothing of such a run is raised
  low_is : (number : ℕ) (e : Batch) (a : ℕ) {b : ℕ} → get_elem? v.runs number ≡ some e → e.start ≡ a → Lawful o → AreIn o 0 a b → a + length e.places ≤ b → (i : ℕ) → i < length e.places → (get_or e.places i blank).stage < 2
  low_is number e a has start lawful was long i below = let t = run_stands q views seat number v e l.lists at has in let s = t.start in let w = t.within in let c = placing.cells_length (items_of o) o.phases in let here : t.at + i ≡ a + i = omega arith in
      let cell : get_or e.places i blank ≡ cell_of (get_or (items_of o) (a + i) 0) (phase_at o (a + i)) = sym (t.same i below) ∙ (ap (positions.place_at q) here ∙ placing.cell_at (items_of o) o.phases (a + i) (omega arith) lawful.long) in
      let low = placing.cell_none (get_or (items_of o) (a + i) 0) (phase_at o (a + i)) (was (a + i) (omega arith) (omega arith)) in subst (λ (z : Cell). z.stage < 2) (sym cell) low

  pub publish_is : (word found a b number : ℕ) (e : Batch) → IsValidStep of_batches (change word found m (with_up o a b)) → IsBatch o.batches a b → AreIn o 0 a b → get_elem? v.runs number ≡ some e → e.start ≡ a → a + length e.places ≡ b
      → w.runs ≡ set v.runs number (raised_run e 0 (length e.places)) → w.takes ≡ v.takes → positions.Grows w.queue (positions_of (with_up o a b))
      → (k : ℕ) × (event : IsEvent q (positions_of (with_up o a b)) seat v w (raise_all seat k 0 (length e.places))) × (get_elem? event.shown.lists.runs k ≡ some (seat, number, e))
  publish_is word found a b number e r batch was has start end runs takes later = let n : ℕ = length e.places in let some_item = r.lawful.solid a b batch in let below = batch_below o a b batch in let lawful = placing.lawful_positions o r.lawful in
      let taken_before : o.taken ≤ a = dite (dec_lt a o.taken) (λ y. let two = r.lawful.before a y in let z = was a (omega arith) some_item in absurd (omega arith)) (λ no. omega arith) in
      let same : positions_of (with_up o a b) ≡ with_raises q a n = ap (λ (z : ℕ). positions_of (with_up o a z)) (sym end) ∙ placing.published o a n r.lawful (omega arith) in
      let p = published q views seat number a v e l at has (omega arith) (omega arith) lawful taken_before (λ i h. low_is number e a has start r.lawful was (omega arith) i h) (λ i. placing.cells_low (items_of o) o.phases i) in let event = p.1 in
      let after : QueueView = view_after q a v number e in let then : List QueueView = set event.views seat after in
      let x = again (with_raises q a n) then seat after w event.new_shown (set_here event.views seat after (at_below event.views seat v event.here)) runs takes (subst (λ (z : Positions). positions.Grows w.queue z) same later) in
      let y = subst (λ (z : List QueueView). (shown : ViewsShow (with_raises q a n) z) × (shown.lists.runs ≡ event.new_shown.lists.runs)) (set-set event.views seat after w) (x.shown, x.same) in
      subst (λ (z : Positions). (k : ℕ) × (event : IsEvent q z seat v w (raise_all seat k 0 n)) × (get_elem? event.shown.lists.runs k ≡ some (seat, number, e))) (sym same) (
        p.0,
        record { views = event.views; here = event.here; shown = event.shown; new_shown = y.0; lawful = event.lawful; made = event.made ∙ ap (λ (z : List (Owned Batch)). Ok (queue_of (with_raises q a n) z)) (sym y.1) },
        p.2,
      )
