-- The steps of a claim, taken together.
use Rattle.claim_queue.proofs.Common.{◌≢◌, ℕ, ◌+◌, ◌<◌, ◌≤◌, List, [], ◌∷◌, ◌++◌, length, subst, arith, Batch, Positions, IsPast, Step, load, Performed, made_then, head_word, tail_word, View, run, with_run, OnlyLoads, Found, Claimed, Fits, Refused, ClaimedItems, Lost}
use Rattle.claim_queue.specs.Answers.{ShutMeanwhile}
use Rattle.claim_queue.proofs.Reading.{found_head}

-- some steps, and then a look
pub then_look : (v u w : View) (xs : List (Step Positions)) (i r : ℕ) → Performed v xs v.own u → Found u i r w → Performed v (xs ++ load i r w.seen ∷ []) v.own w
then_look v u w xs i r a f = made_then v u w xs (load i r w.seen ∷ []) v.own (λ d. d) a f.made

-- the head and the tail were found, with room between them
module _ (room : ℕ) (items : List ℕ) (u v b : View) (head tail : ℕ) (x : Found u head_word head v) (y : Found v tail_word tail b) (bounded : head + length items < 4294967296) (there : head + length items ≤ tail + room) where
  two : Performed u (load head_word head v.seen ∷ load tail_word tail b.seen ∷ []) u.own b
  two = then_look u v b (load head_word head v.seen ∷ []) tail_word tail x.made y

  pub shut_meanwhile : (w : View) (found : ℕ) → Found b head_word found w → 4294967296 ≤ found → ShutMeanwhile (λ entries. OnlyLoads u entries w) room (length items)
  shut_meanwhile w found z marked = (head, tail, found, v.seen, b.seen, w.seen, (bounded, there), marked, then_look u b w (load head_word head v.seen ∷ load tail_word tail b.seen ∷ []) head_word found two z)

  pub was_lost : (w : View) (found : ℕ) → Fits room (length items) → Found b head_word found w → found < 4294967296 → found ≢ head → Refused room u (length items) (Lost found) w
  was_lost w found fits z is_open ne = let h = (found_head u v head x (omega arith)).1 in let h' = (found_head b w found z is_open).1 in let g = y.grows.longer in let f = y.grows.first in let g' = z.grows.longer in let f' = z.grows.first in
      (fits, head, tail, v.seen, b.seen, w.seen, (bounded, there), is_open, omega arith, then_look u b w (load head_word head v.seen ∷ load tail_word tail b.seen ∷ []) head_word found two z)

  pub claimed_items : (w : View) → Fits room (length items) → Claimed b head items w → ClaimedItems room u head items w
  claimed_items w fits (at, past, step) =
      (subst (λ (z : List Batch). IsPast z head) (λ i. (two.did i).runs) past, (tail, v.seen, b.seen, at, fits, (bounded, there), made_then u b w _ _ u.own (λ d. with_run d (run head items)) two step.made))
