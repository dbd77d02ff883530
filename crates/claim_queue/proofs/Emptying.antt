-- The steps of a taking, taken together.
use Rattle.claim_queue.proofs.Common.{◌≡◌, ◌≢◌, ℕ, ◌+◌, ◌-◌, ◌<◌, ◌≤◌, inl, List, [], ◌∷◌, ◌++◌, length, get_or, map, take, drop, sym, refl, ap, ◌∙◌, subst, arith, length-drop, get_or-map, get_or-drop, length-map, length-take-le, Cell, Positions, Step, load, change, Performed, blank, item_of, item_at, with_take, raised_below, QueueOps, TakeRefusal, Empty, tail_word, View, taking, with_taking, Found, HasFound, IsScanned, IsStopped, scanned, stopping, TookItems, RefusedTake, HasRaised, made_then}
use Rattle.std.proofs.lemmas.List.{ext_get_or, get_or-take}
use Rattle.claim_queue.specs.declared.take.TakeRefusal.TheVariants.{Lost, Closed}
use Rattle.claim_queue.specs.Steps.{Took}
use Rattle.claim_queue.specs.Reads.{IsRefusedAt}
use Rattle.claim_queue.specs.Takings.{Stop, IsStop, PassedBefore, PassedMeanwhile, PausedTake}
use Rattle.claim_queue.proofs.Following.{then_look}
use Rattle.claim_queue.proofs.Growing.{real_lawful}
use Rattle.claim_queue.proofs.Lawful.{tail_says}
use Rattle.claim_queue.proofs.Reading.{found_tail}
use Rattle.claim_queue.proofs.Scanning.{scan_long}
use Rattle.claim_queue.proofs.Stepping.{step_real}

-- items that were found one by one are the first left
items_taken : (q : Positions) (xs : List ℕ) → q.taken + length xs ≤ length q.places → ((i : ℕ) → i < length xs → item_at q (q.taken + i) ≡ get_or xs i 0) → map item_of (take (length xs) (drop q.taken q.places)) ≡ xs
items_taken q xs room each = let n : ℕ = length xs in let l : List Cell = drop q.taken q.places in let dl = length-drop q.taken q.places in let tl : length (take n l) ≡ n = length-take-le n l (omega arith) in
    let ml : length (map item_of (take n l)) ≡ n = length-map (take n l) item_of ∙ tl in
    ext_get_or 0 (map item_of (take n l)) xs ml (λ i h. get_or-map item_of (take n l) i blank 0 (omega arith) ∙ (ap item_of (get_or-take n l i blank (omega arith) ∙ get_or-drop q.taken q.places i blank) ∙ each i (omega arith)))

-- the items were found from the loaded tail on
module _ (room : ℕ) (u l v w : View) (tail : ℕ) (xs : List ℕ) (a : Found u tail_word tail l) (s : IsScanned room l tail xs v) (found : HasFound v tail xs) where
  -- and then taken
  pub took_after : (new : ℕ) → Took v tail (new - tail) w → new - tail ≡ length xs → TookItems room u xs w
  took_after new took n = let k : ℕ = length xs in let (o, step) = subst (λ (z : ℕ). Took v tail z w) n took in let q : Positions = o.object in let e : Step Positions = change tail_word tail o (with_take q k) in
      let real = step_real v w e (with_taking v.own (taking q k)) step in let at = tail_says e refl real in let within = (real_lawful e real).taken_within in
      let f = step.grows.first in let m = step.grows.further in let start = found.started in let i0 : tail - v.seen.object.first ≡ q.taken = omega arith in (
        tail,
        l.seen,
        o,
        s.0,
        s.1,
        items_taken q xs within (λ i h. let up = found.up i h in let item = found.items i h in ap (λ (z : ℕ). item_at q (z + i)) (sym i0)
            ∙ (step.grows.items (tail - v.seen.object.first + i) (raised_below v.seen.object (tail - v.seen.object.first + i) (omega arith)) ∙ sym (item (omega arith)))),
        made_then u l w (load tail_word tail l.seen ∷ []) (scanned room tail s.0 ++ e ∷ []) u.own (λ d. with_taking d (taking q k)) a.made (made_then l v w (scanned room tail s.0) (e ∷ []) l.own (λ d. with_taking d (taking q k)) s.2 step.made),
      )

  pub passed_meanwhile : (Enough : List ℕ → Type 0) (now : ℕ) → Enough xs → Found v tail_word now w → now ≢ tail → PassedMeanwhile Enough room u now w
  passed_meanwhile Enough now enough e ne = let started = found.started in let at = (found_tail v w now e).0 in let f = e.grows.first in let m = e.grows.further in
      (tail, l.seen, w.seen, s.0, subst Enough (sym s.1) enough, omega arith, made_then u l w (load tail_word tail l.seen ∷ []) (scanned room tail s.0 ++ load tail_word now w.seen ∷ []) u.own (λ d. d) a.made (then_look l v w (scanned room tail s.0) tail_word now s.2 e))

-- the end stopped after these items, which are too few
module _ (Few : List ℕ → Type 0) (room : ℕ) (u v s w : View) (tail : ℕ) (xs : List ℕ) (t : Found u tail_word tail v) (few : Few xs) (h : IsStopped room v tail xs s) where
  abbrev stop : Stop
  stop = record { tail = tail; at_tail = v.seen; scan = h.0; flag = h.2; at_flag = h.3 }

  is_stop : IsStop Few stop
  is_stop = (subst Few (sym h.1) few, h.4)

  on : (more : List (Step Positions)) → Performed s more s.own w → Performed u (stopping room stop ++ more) u.own w
  on more last = made_then u s w (stopping room stop) more u.own (λ d. d) (made_then u v s (load tail_word tail v.seen ∷ []) _ u.own (λ d. d) t.made h.6) last

  passed_before : (at now : ℕ) → IsRefusedAt s tail at (Lost now) w → PassedBefore Few room u now w
  passed_before at now (head, n, o, going, past, last) = (stop, head, n, o, is_stop, going, past, on _ last)

  -- the refusal that the head and the tail then say
  pub refused_few : (Enough : List ℕ → Type 0) (at : ℕ) (r : TakeRefusal) → at ≡ tail + length xs → IsRefusedAt s tail at r w → RefusedTake Few Enough room u r w
  refused_few Enough at (Empty position) e (same, following, head, n, o, going, last) = let k = scan_long h.0 xs h.1 in let here : position ≡ tail + length h.0 = omega arith in let own : s.own ≡ u.own = h.6.did ∙ t.made.did in (
    stop,
    head,
    n,
    o,
    is_stop,
    here,
    going,
    (λ mine. h.5 following (subst (λ (z : QueueOps). HasRaised z.runs (tail + length h.0)) (sym own) (subst (λ (z : ℕ). HasRaised u.own.runs z) here mine))),
    on _ last,
  )
  refused_few Enough at (Lost now) e last = inl (passed_before at now last)
  refused_few Enough at Closed e (n, last) = (stop, n, is_stop, on _ last)

-- if a taking of one item was refused before its compare-and-swap, its pause was not called
pub refused_unpaused : {P : Type 0} → (Called : P → P → Type 0) (room : ℕ) (u v s w : View) (tail at : ℕ) (r : TakeRefusal) (p : P) → Found u tail_word tail v → IsStopped room v tail [] s → IsRefusedAt s tail at r w → PausedTake Called room u r w p p
refused_unpaused Called room u v s w tail at (Empty position) p t stopped h = refl
refused_unpaused Called room u v s w tail at (Lost now) p t stopped h = inl (passed_before (λ xs. xs ≡ []) room u v s w tail [] t refl stopped at now h, refl)
refused_unpaused Called room u v s w tail at Closed p t stopped h = refl
