-- How many steps a call makes at most, by its evidence.
use Rattle.claim_queue.proofs.Common.{◌≡◌, ℕ, ◌+◌, ◌*◌, ◌≤◌, List, [], ◌∷◌, length, length-append, ap, arith, inl, inr, length-map, Positions, Step, load, change, with_take, ClaimRefusal, NoItems, TooLong, Closed, Spent, Full, Lost, TakeRefusal, Empty, ClaimedItems, Refused, IsPut, Raised, TookItems, RefusedTake, IsNone, IsOne, scanned, stopping, stop_position, head_word, tail_word, flag_word, View, OnlyLoads}
use Rattle.table_theory.proofs.Moments.{steps_by}
use Rattle.table_theory.specs.Moments.{StepsAtMost}
use Rattle.claim_queue.specs.declared.take.TakeRefusal.TheVariants as takes
use Rattle.claim_queue.specs.Steps.{Shut}
use Rattle.claim_queue.specs.Puts.{Raise, AreRaises, raising}
use Rattle.claim_queue.specs.Takings.{Scan, items_of}

-- a look at nothing, or at these
loads_by : (n : ℕ) (v w : View) (es : List (Step Positions)) → length es ≤ n → OnlyLoads v es w → StepsAtMost n v w
loads_by n v w [] few a = let same = ap (λ (z : View). length z.steps) a in omega arith
loads_by n v w (e ∷ es) few a = steps_by n v w (e ∷ es) a.adds few

pub refused_steps : (n count : ℕ) (v w : View) (r : ClaimRefusal) → Refused n v count r w → StepsAtMost 3 v w
refused_steps n count v w NoItems (is, a) = loads_by 3 v w [] (omega arith) a
refused_steps n count v w TooLong (is, a) = loads_by 3 v w [] (omega arith) a
refused_steps n count v w Closed (fits, inl (head, m, marked, a)) = loads_by 3 v w (load head_word head m ∷ []) (omega arith) a
refused_steps n count v w Closed (fits, inr (head, tail, now, m, k, o, there, marked, a)) = loads_by 3 v w (load head_word head m ∷ load tail_word tail k ∷ load head_word now o ∷ []) (omega arith) a
refused_steps n count v w Spent (fits, head, m, is_open, spent, a) = loads_by 3 v w (load head_word head m ∷ []) (omega arith) a
refused_steps n count v w (Full head tail) (fits, m, k, bounded, full, a) = loads_by 3 v w (load head_word head m ∷ load tail_word tail k ∷ []) (omega arith) a
refused_steps n count v w (Lost now) (fits, head, tail, m, k, o, there, is_open, past, a) = loads_by 3 v w (load head_word head m ∷ load tail_word tail k ∷ load head_word now o ∷ []) (omega arith) a

pub claimed_steps : (n : ℕ) (v w : View) (head : ℕ) (items : List ℕ) → ClaimedItems n v head items w → StepsAtMost 3 v w
claimed_steps n v w head items (past, (tail, m, k, o, fits, there, made)) = steps_by 3 v w _ made.adds (omega arith)

pub raised_steps : (n : ℕ) (v w : View) (start i : ℕ) (items : List ℕ) → Raised n v start items i w → StepsAtMost 2 v w
raised_steps n v w start i items (r, is, made) = steps_by 2 v w _ made.adds (omega arith)

raising_long : (n position : ℕ) (items : List ℕ) (raises : List Raise) → AreRaises position items raises → length (raising n position raises) ≡ 2 * length items
raising_long n position [] [] h = omega arith
raising_long n position [] (r ∷ raises) h = absurd h
raising_long n position (x ∷ items) [] h = absurd h
raising_long n position (x ∷ items) (r ∷ raises) h = let rest = raising_long n (position + 1) items raises h.1 in omega arith

pub put_steps : (n : ℕ) (v w : View) (start : ℕ) (items : List ℕ) → IsPut n v start items w → StepsAtMost (2 * length items + 3) v w
put_steps n v w start items (past, (raises, are, (tail, m, k, o, fits, there, made))) = let long = raising_long n start items raises are in steps_by (2 * length items + 3) v w _ made.adds (omega arith)

scan_long : (n position : ℕ) (scan : Scan) → length (scanned n position scan) ≡ 2 * length scan
scan_long n position [] = omega arith
scan_long n position (f ∷ more) = let rest = scan_long n (position + 1) more in omega arith

pub took_steps : (n : ℕ) (v w : View) (items : List ℕ) → TookItems n v items w → StepsAtMost (2 * length items + 2) v w
took_steps n v w items (tail, m, o, scan, are, first, made) = let long = scan_long n tail scan in let many : length scan ≡ length items = (let l = length-map scan (λ f. f.0) in let e = ap length are in omega arith) in
    let all = length-append (scanned n tail scan) (change tail_word tail o (with_take o.object (length items)) ∷ []) in steps_by (2 * length items + 2) v w _ made.adds (omega arith)

module _ (Few Enough : List ℕ → Type 0) (n most : ℕ) (v w : View) (few : (xs : List ℕ) → Few xs → length xs ≤ most) (enough : (xs : List ℕ) → Enough xs → length xs ≤ most + 1) where
  pub refused_take_steps : (r : TakeRefusal) → RefusedTake Few Enough n v r w → StepsAtMost (2 * most + 4) v w
  refused_take_steps (takes.Empty at) (s, head, m, k, stop, is, going, mine, made) = let long = scan_long n s.tail s.scan in let l = length-map s.scan (λ f. f.0) in let short = few (items_of s.scan) stop.0 in
      let a = length-append (scanned n s.tail s.scan) (load (flag_word n (stop_position s)) s.flag s.at_flag ∷ []) in let b = length-append (stopping n s) (load head_word head m ∷ load tail_word s.tail k ∷ []) in steps_by (2 * most + 4) v w _ made.adds (omega arith)
  refused_take_steps (takes.Lost now) (inl (s, head, m, k, stop, going, past, made)) = let long = scan_long n s.tail s.scan in let l = length-map s.scan (λ f. f.0) in let short = few (items_of s.scan) stop.0 in
      let a = length-append (scanned n s.tail s.scan) (load (flag_word n (stop_position s)) s.flag s.at_flag ∷ []) in let b = length-append (stopping n s) (load head_word head m ∷ load tail_word now k ∷ []) in steps_by (2 * most + 4) v w _ made.adds (omega arith)
  refused_take_steps (takes.Lost now) (inr (tail, m, o, scan, is, past, made)) = let long = scan_long n tail scan in let l = length-map scan (λ f. f.0) in let short = enough (items_of scan) is in
      let a = length-append (scanned n tail scan) (load tail_word now o ∷ []) in steps_by (2 * most + 4) v w _ made.adds (omega arith)
  refused_take_steps takes.Closed (s, m, stop, made) = let long = scan_long n s.tail s.scan in let l = length-map s.scan (λ f. f.0) in let short = few (items_of s.scan) stop.0 in
      let a = length-append (scanned n s.tail s.scan) (load (flag_word n (stop_position s)) s.flag s.at_flag ∷ []) in let b = length-append (stopping n s) (load head_word (4294967296 + s.tail) m ∷ []) in steps_by (2 * most + 4) v w _ made.adds (omega arith)

pub one_steps : (n : ℕ) (v w : View) (r : TakeRefusal) → RefusedTake IsNone IsOne n v r w → StepsAtMost 4 v w
one_steps n v w r h = refused_take_steps IsNone IsOne n 0 v w (λ xs none. (let l = ap length none in omega arith)) (λ xs one. (let l : length xs ≡ 1 = one in omega arith)) r h

pub shut_now_steps : (v w : View) (found : ℕ) → Shut v found w → StepsAtMost 1 v w
shut_now_steps v w found (at, step) = steps_by 1 v w _ step.made.adds (omega arith)
