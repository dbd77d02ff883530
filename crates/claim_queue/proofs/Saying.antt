-- The meaning of a refusal for the queue, by the real steps that lead to it.
use Rattle.claim_queue.proofs.Common.{◌≡◌, ◌≢◌, ℕ, ◌+◌, ◌-◌, ◌<◌, ◌≤◌, Bool, true, false, List, [], ◌∷◌, ◌++◌, length, refl, sym, ap, ◌∙◌, subst, arith, ⊎_elim, append_assoc, Positions, AbsState, Step, load, ExtendsTrace, IsValidStep, IsValidView, stage_at, head_of, tail_of, IsWhole, passes_since, Refused, head_word, tail_word, flag_word, mark, View, of_queues, Scan, scanned, stopping, stop_position, RefusedTake, passes_split}
use Rattle.table_theory.specs.Courses.{Continues}
use Rattle.table_theory.specs.Ledgers.{Passes}
use Rattle.table_theory.proofs.Reaching.{all_after, alone_since}
use Rattle.claim_queue.specs.declared.claim.ClaimRefusal.TheVariants as not_claimed
use Rattle.claim_queue.specs.declared.take.TakeRefusal.TheVariants as not_taken
use Rattle.claim_queue.proofs.Growing.{reaches_grow, real_lawful}
use Rattle.claim_queue.proofs.Lawful.{head_says, head_open, tail_says, low_says}

shut_from : (n : ℕ) (b : Bool) → n < 4294967296 → 4294967296 ≤ n + mark b → b ≡ true
shut_from n true bounded h = refl
shut_from n false bounded h = absurd (omega arith)

-- a head that was found with the mark is that of a shut queue
pub head_shut : (head : ℕ) (m : AbsState Positions) → IsValidStep of_queues (load head_word head m) → 4294967296 ≤ head → m.object.shut ≡ true
head_shut head m r marked = let h = head_says (load head_word head m) refl r in let e = h.0 in shut_from (head_of m.object) m.object.shut h.1 (omega arith)

last_shut : (m n : AbsState Positions) → m ≡ n → m.object.shut ≡ true → n.object.shut ≡ true
last_shut m n e h = subst (λ (z : AbsState Positions). z.object.shut ≡ true) e h

module _ (v w : View) (x : IsValidView of_queues v) (y : IsValidView of_queues w) where
  passes : (entries : List (Step Positions)) → ExtendsTrace v entries w → Passes of_queues v.seen entries w.seen
  passes entries a = passes_since of_queues v w entries x y a

  pub closed_says : (room count : ℕ) → Refused room v count not_claimed.Closed w → w.seen.object.shut ≡ true
  closed_says room count (fits, h) = ⊎_elim
      (λ (head, m, marked, made). (let p = passes (load head_word head m ∷ []) made.adds in last_shut m w.seen p.2 (head_shut head m p.1 marked)))
      (λ (head, tail, now, m, n, o, there, marked, made). (let p = passes (load head_word head m ∷ load tail_word tail n ∷ load head_word now o ∷ []) made.adds in last_shut o w.seen p.2.2.2 (head_shut now o p.2.2.1 marked)))
      h

  pub full_says : (room count head tail : ℕ) → (r : Refused room v count (not_claimed.Full head tail) w) → r.1.object.taken + room < length r.1.object.places + count
  full_says room count head tail (fits, m, n, bounded, full, made) = let p = passes (load head_word head m ∷ load tail_word tail n ∷ []) made.adds in let h = (head_open head m p.1 (omega arith)).1 in
      let t = tail_says (load tail_word tail n) refl p.2.1 in let g = reaches_grow m n p.2.0 in let f = g.first in let further = g.further in omega arith

  module _ (Few Enough : List ℕ → Type 0) (room : ℕ) where
    pub done_says : RefusedTake Few Enough room v not_taken.Closed w → (w.seen.object.shut ≡ true) × (w.seen.object.taken ≡ length w.seen.object.places)
    done_says (s, m, stop, made) = let front : List (Step Positions) = scanned room s.tail s.scan ++ load (flag_word room (stop_position s)) s.flag s.at_flag ∷ [] in let p = passes (stopping room s ++ load head_word (4294967296 + s.tail) m ∷ []) made.adds in
        let t = tail_says (load tail_word s.tail s.at_tail) refl p.1 in let q = passes_split of_queues s.at_tail w.seen front (load head_word (4294967296 + s.tail) m) [] p.2 in let g = reaches_grow s.at_tail m q.0 in let f = g.first in let further = g.further in
        let shut = head_shut (4294967296 + s.tail) m q.1 (omega arith) in let h = (head_says (load head_word (4294967296 + s.tail) m) refl q.1).0 in let z : mark m.object.shut ≡ 4294967296 = ap mark shut in let within = (real_lawful (load head_word (4294967296 + s.tail) m) q.1).taken_within in
        let all : m.object.taken ≡ length m.object.places = omega arith in (last_shut m w.seen q.2 shut, subst (λ (z : AbsState Positions). z.object.taken ≡ length z.object.places) q.2 all)

    pub empty_says : (at : ℕ) (r : RefusedTake Few Enough room v (not_taken.Empty at) w) → v.seen.object.room ≡ room → length r.0.scan < room
        → (tail_of r.0.at_flag.object ≡ r.0.tail) × (stage_at r.0.at_flag.object (stop_position r.0 - r.0.at_flag.object.first) < 2) × (r.2.object.shut ≡ true → r.2.object.taken < length r.2.object.places)
    empty_says at (s, head, m, n, (few, low), is, going, mine, made) rooms short =
        let flag : Step Positions = load (flag_word room (stop_position s)) s.flag s.at_flag in let scan : List (Step Positions) = scanned room s.tail s.scan in let last : List (Step Positions) = load head_word head m ∷ load tail_word s.tail n ∷ [] in
        let p = passes (stopping room s ++ last) made.adds in let t = tail_says (load tail_word s.tail s.at_tail) refl p.1 in
        let whole : Passes of_queues s.at_tail (scan ++ flag ∷ last) w.seen = subst (λ (z : List (Step Positions)). Passes of_queues s.at_tail z w.seen) (append_assoc scan (flag ∷ []) last) p.2 in
        let a = passes_split of_queues s.at_tail w.seen scan flag last whole in let b = a.2 in let c = b.2 in let t' = tail_says (load tail_word s.tail n) refl c.1 in
        let g0 = reaches_grow v.seen s.at_tail p.0 in let g1 = reaches_grow s.at_tail s.at_flag a.0 in let g2 = reaches_grow s.at_flag m b.0 in let g3 = reaches_grow m n c.0 in
        let f1 = g1.first in let f2 = g2.first in let f3 = g3.first in let k1 = g1.further in let k2 = g2.further in let k3 = g3.further in let r0 = g0.room in let r1 = g1.room in
        let same : s.at_flag.object.room ≡ room = omega arith in let from : tail_of s.at_flag.object ≡ s.tail = omega arith in (
          from,
          low_says flag (stop_position s) (ap (λ (z : ℕ). flag_word z (stop_position s)) (sym same)) a.1 (omega arith) (omega arith) low,
          (λ shut. (let h = (head_says (load head_word head m) refl b.1).0 in let z : mark m.object.shut ≡ 4294967296 = ap mark shut in let within = (real_lawful (load head_word head m) b.1).taken_within in
              let ne : head_of m.object ≢ s.tail = (λ e. going (let g : head ≡ 4294967296 + s.tail = omega arith in g)) in omega arith)),
        )

  -- AN END WITH THE WHOLE

  pub claim_not_lost : (room count head : ℕ) → IsWhole v.member.share → Refused room v count (not_claimed.Lost head) w → ⊥
  claim_not_lost room count now whole (fits, head, tail, m, n, o, there, is_open, past, made) = let s = alone_since of_queues v w (load head_word head m ∷ load tail_word tail n ∷ load head_word now o ∷ []) whole x y made.adds in
      let h = (head_open head m s.1.0 (omega arith)).1 in let h' = (head_open now o s.1.1.1.0 is_open).1 in let same : head_of m.object ≡ head_of o.object = ap (λ (z : AbsState Positions). head_of z.object) (s.0.1.0 ∙ s.0.1.1.0) in absurd (omega arith)

  scan_stays : (room p : ℕ) (scan : Scan) (ys : List (Step Positions)) (a b : AbsState Positions) → Continues a (scanned room p scan ++ ys) b → Continues a ys b
  scan_stays room p [] ys a b c = c
  scan_stays room p (f ∷ more) ys a b c = subst (λ (z : AbsState Positions). Continues z ys b) (sym (c.0 ∙ c.1.0)) (scan_stays room (p + 1) more ys f.2 b c.1.1)

  pub take_not_lost : (Few Enough : List ℕ → Type 0) (room tail : ℕ) → IsWhole v.member.share → RefusedTake Few Enough room v (not_taken.Lost tail) w → ⊥
  take_not_lost Few Enough room now whole h = ⊎_elim
      (λ (s, head, m, n, stop, going, past, made). (let flag : Step Positions = load (flag_word room (stop_position s)) s.flag s.at_flag in let scan : List (Step Positions) = scanned room s.tail s.scan in let last : List (Step Positions) = load head_word head m ∷ load tail_word now n ∷ [] in
      let z = alone_since of_queues v w (stopping room s ++ last) whole x y made.adds in let c = subst (λ (l : List (Step Positions)). Continues s.at_tail l w.seen) (append_assoc scan (flag ∷ []) last) z.0.1 in
      let d = scan_stays room s.tail s.scan (flag ∷ last) s.at_tail w.seen c in let r = all_after (IsValidStep of_queues) (stopping room s) last z.1 in
      let t = tail_says (load tail_word s.tail s.at_tail) refl z.1.0 in let t' = tail_says (load tail_word now n) refl r.1.0 in let same : tail_of s.at_tail.object ≡ tail_of n.object = ap (λ (k : AbsState Positions). tail_of k.object) (d.0 ∙ (d.1.0 ∙ d.1.1.0)) in absurd (omega arith)))
      (λ (tail, m, o, scan, enough, past, made). (let last : List (Step Positions) = load tail_word now o ∷ [] in let z = alone_since of_queues v w (load tail_word tail m ∷ scanned room tail scan ++ last) whole x y made.adds in let d = scan_stays room tail scan last m w.seen z.0.1 in
      let r = all_after (IsValidStep of_queues) (scanned room tail scan) last z.1.1 in let t = tail_says (load tail_word tail m) refl z.1.0 in let t' = tail_says (load tail_word now o) refl r.0 in
      let same : tail_of m.object ≡ tail_of o.object = ap (λ (k : AbsState Positions). tail_of k.object) d.0 in absurd (omega arith)))
      h
