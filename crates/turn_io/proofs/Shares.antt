-- The sum of each kind of step at a queue, by its evidence: the lines, the share and the shuts of an end.
use Rattle.turn_io.proofs.Common.{◌≡◌, ◌<◌, ◌≤◌, ℕ, zero, suc, ◌+◌, take, Bool, true, false, refl, List, [], ◌∷◌, map, length, sym, ap, subst, ◌∙◌, arith, Result, length-map, QueueEnd, Owns, RaisedFrom, Batch, Part, AllRaised, valid_end, still_shut, Heard, HasRaised, end_knows_shut, idle_queue, both_queue, lines_of, Ok, append-nil, length-drop, ClaimRefusal, TakeRefusal, view_of, line_of, TakesInOrder, View, of_queues, with_shutting, Raised, IsPut, IsBegun, IsLine, TookItems, scanned, InOrder, Distinct, by_both, seen_room, put_of, AtQueue, put_if, shut_if, taken_if, ClaimedInOrder, TookInOrder, end_share, Said, HasShut}
use Rattle.std.specs.Prelude.{Err, IfOk, MatchBool, drop}
use Rattle.std.proofs.Math.Bridge.{le_prop}
use Rattle.claim_queue.specs.Answers.{ClaimedItems}
use Rattle.claim_queue.specs.Layout.{tail_word}
use Rattle.table_theory.specs.declared.queues.Cell.{Cell}
use Rattle.table_theory.specs.declared.queues.Positions.{Positions}
use Rattle.table_theory.specs.Ledgers.{IsValidView, load, change}
use Rattle.table_theory.specs.Positioned.{item_of, with_take}
use Rattle.claim_queue.proofs.Answered.{Does, does, refused_own, put_own, took_own, refused_take_own}
use Rattle.claim_queue.proofs.Growing.{reaches_grow}
use Rattle.claim_queue.proofs.Lining.{put_line, took_line, raised_put}
use Rattle.claim_queue.proofs.Ordered.{order_of, answer_order, refused_claim, put_order, refused_order, took_order, shut_order}
use Rattle.table_theory.proofs.Saying.{passes_split}
use Rattle.table_theory.proofs.Reaching.{passes_since}
use Rattle.turn_io.proofs.Telling.{none_more}

-- The end did this in addition, and has the share that it had. If it had raised all that it claimed, it still has; if
-- it had claimed in order, or taken in order, it still has; and if it knew that its queue is shut, it still knows
pub record EndWorked {n : ℕ} (more : AtQueue) (old new : QueueEnd n) : Type 0 where
  pub did : lines_of (view_of new).own ≡ both_queue (lines_of (view_of old).own) more
  pub share : end_share new ≡ end_share old
  pub raised : HasRaised old → HasRaised new
  pub claimed : ClaimedInOrder old → ClaimedInOrder new
  pub took : TookInOrder old → TookInOrder new
  pub known : end_knows_shut old ≡ true → end_knows_shut new ≡ true

-- stretches that have no lines are none
pub none_of : (stretches : List Batch) → map line_of stretches ≡ [] → stretches ≡ []
none_of [] e = refl
none_of (x ∷ xs) e = absurd cc

-- a line that was claimed, and then raised
pub said_put : (room : ℕ) (v u w : View) (start : ℕ) (line items : List ℕ) (raised : ℕ) → items ≡ line → raised ≡ 0 → Distinct u.own.runs → Owns u start items raised → ClaimedItems room v start line u → RaisedFrom room start items u w (length items) → IsPut room v start line w
said_put room v u w start line items raised is none distinct own c r = put_of room v u w start line distinct
    (subst (λ (z : List ℕ). Owns u start z 0) is (subst (λ (z : ℕ). Owns u start items z) none own)) c
    (subst (λ (z : List ℕ). RaisedFrom room start z u w (length z)) is r)

-- one more place was raised, because one was left
pub raised_next : (room : ℕ) (u w : View) (start start' raised i : ℕ) (items items' : List ℕ) (b : Bool) (A B : Type 0) → MatchBool b A ((raised ≡ length items') × B) → MatchBool b (Raised room u start' items' raised w) (w ≡ u)
    → start' ≡ start → items' ≡ items → raised ≡ i → i < length items → Raised room u start items i w
raised_next room u w start start' raised i items items' true A B p h s e r below = subst (λ (z : ℕ). Raised room u z items i w) s (subst (λ (z : List ℕ). Raised room u start' z i w) e (subst (λ (z : ℕ). Raised room u start' items' z w) r h))
raised_next room u w start start' raised i items items' false A B p h s e r below = let long = p.0 in let same = ap length e in absurd (omega arith)

short_take : (k : ℕ) (l : List Cell) → length (take k l) ≤ length l
short_take zero l = omega arith
short_take (suc k) [] = omega arith
short_take (suc k) (x ∷ l) = let h = short_take k l in omega arith

module _ {n : ℕ} (old new : QueueEnd n) where
  takes_by : (IsValidView of_queues (view_of old) → IsValidView of_queues (view_of new) → TakesInOrder (view_of new)) → TakesInOrder (view_of new)
  takes_by f = order_of (view_of old) (view_of new) (valid_end old) (valid_end new) f

  -- no line was put and none taken, and the queue was shut this often
  same_worked : (shuts : ℕ) → (d : Does (view_of old) (record (view_of old).own { shuts = (view_of old).own.shuts + shuts }) (view_of new)) → (TakesInOrder (view_of old) → TakesInOrder (view_of new)) → EndWorked (record idle_queue { shuts = shuts }) old new
  same_worked shuts d took = let runs : (view_of new).own.runs ≡ (view_of old).own.runs = λ k. (d.did k).runs in record {
    did = λ k. record { put = (ap (map line_of) runs ∙ sym (append-nil _)) k; taken = ((λ k. map line_of (d.did k).takes) ∙ sym (append-nil _)) k; shuts = (d.did k).shuts };
    share = ap (λ (z : Part). z.share) d.member;
    raised = λ up. subst AllRaised (sym runs) up;
    claimed = λ up. subst InOrder (sym runs) up;
    took = took;
    known = still_shut old new d.steps d.adds;
  }

  -- an end that put and took no line, and didn't shut the queue
  none_worked : Does (view_of old) (view_of old).own (view_of new) → (TakesInOrder (view_of old) → TakesInOrder (view_of new)) → EndWorked idle_queue old new
  none_worked d took = same_worked 0 (record { steps = d.steps; adds = d.adds; did = d.did ∙ (λ k. record (view_of old).own { shuts = none_more (view_of old).own.shuts (view_of old).own.shuts refl k }); member = d.member }) took

  -- a line that was put, all of it raised, or a claim that was refused
  pub said_worked : {A : Type 0} (line : List ℕ) (r : Result A ClaimRefusal) → Said line r old new → EndWorked (put_if r line) old new
  said_worked line (Ok done) (start, h) = let p = put_line n (view_of old) (view_of new) start line h in let d = put_own n (view_of old) (view_of new) start line h in record {
    did = λ k. record { put = p.puts k; taken = (p.takes ∙ sym (append-nil _)) k; shuts = none_more _ _ (λ k. (d.did k).shuts) k };
    share = p.share;
    raised = raised_put n (view_of old) (view_of new) start line h;
    claimed = answer_order n (view_of old) (view_of new) line (Ok start) (h.0, [], tt, h.1);
    took = λ up. takes_by (λ x y. put_order (view_of old) (view_of new) x y n start line h up);
    known = still_shut old new d.steps d.adds;
  }
  said_worked line (Err r) h = none_worked (refused_own n (length line) (view_of old) (view_of new) r h) (λ up. takes_by (λ x y. refused_claim (view_of old) (view_of new) x y n (length line) r h up))

  -- a line that was taken, or a taking that was refused
  pub heard_worked : {A : Type 0} (line : List ℕ) (r : Result A TakeRefusal) → Heard line r old new → EndWorked (taken_if r line) old new
  heard_worked line (Ok done) (is, t) = let p = took_line n (view_of old) (view_of new) line t in let d = took_own n (view_of old) (view_of new) line t in let runs : (view_of new).own.runs ≡ (view_of old).own.runs = λ k. (d.did k).runs in record {
    did = λ k. record { put = (p.puts ∙ sym (append-nil _)) k; taken = p.takes k; shuts = none_more _ _ (λ k. (d.did k).shuts) k };
    share = p.share;
    raised = λ up. subst AllRaised (sym runs) up;
    claimed = λ up. subst InOrder (sym runs) up;
    took = λ up. takes_by (λ x y. took_order (view_of old) (view_of new) x y n line is.1 t up);
    known = still_shut old new d.steps d.adds;
  }
  heard_worked line (Err r) (none, h) = none_worked (refused_take_own (IsBegun n) (IsLine n) n (view_of old) (view_of new) r h)
      (λ up. takes_by (λ x y. refused_order (view_of old) (view_of new) x y (IsBegun n) (IsLine n) n r h up))

  pub shut_worked : (was_open : Bool) → HasShut was_open old new → EndWorked (shut_if was_open) old new
  shut_worked was_open h = same_worked ((shut_if was_open).shuts) (does (view_of old) (view_of new) (with_shutting (view_of old).own was_open) _ h.3)
      (λ up. takes_by (λ x y. shut_order (view_of old) (view_of new) x y was_open h up))

  -- a line that was taken is no longer than the queue has places
  line_fits : (line : List ℕ) → TookItems n (view_of old) line (view_of new) → length line ≤ n
  line_fits line (tail, m, o, scan, are, first, made) = by_both old new le_prop (λ x y. (let q : Positions = o.object in
      let (reached, real, leaves) = passes_split of_queues (view_of old).seen (view_of new).seen (load tail_word tail m ∷ scanned n tail scan) (change tail_word tail o (with_take q (length line))) [] (passes_since of_queues (view_of old) (view_of new) _ x y made.adds) in
      let room : q.room ≡ n = (reaches_grow (view_of old).seen o reached).room ∙ seen_room old in
      let few : length (drop q.taken q.places) ≤ n = (let within = real.lawful.within in let long = length-drop q.taken q.places in omega arith) in
      let short = short_take (length line) (drop q.taken q.places) in
      let long : length (take (length line) (drop q.taken q.places)) ≡ length line = sym (length-map (take (length line) (drop q.taken q.places)) item_of) ∙ ap length first in
      omega arith))

  -- a line that was heard has an item, and no more than the queue has places
  pub heard_long : (line : List ℕ) (r : Result Unit TakeRefusal) → Heard line r old new → IfOk r (λ done. (0 < length line) × (length line ≤ n))
  heard_long line (Ok done) h = (h.0.1, line_fits line h.1)
  heard_long line (Err refusal) h = tt
