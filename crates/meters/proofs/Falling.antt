-- No clock that a call has found is below one that its end had seen.
use Rattle.meters.proofs.Common.{◌≡◌, ◌≤◌, ⊎_elim, ℕ, List, ◌∷◌, ◌++◌, arith, AbsState, Step, ExtendsTrace, IsValidStep, IsValidView, Reading, SeatView, clock_word, of_meters}
use Rattle.table_theory.specs.Ledgers.{Passes}
use Rattle.table_theory.specs.Moments.{AtSomeMoment}
use Rattle.table_theory.proofs.Reaching.{passes_since}
use Rattle.table_theory.proofs.Saying.{passes_split, real_goes, passes_go}
use Rattle.meters.proofs.Clocks.{clock_by, clock_leads}
use Rattle.meters.proofs.Lawful.{clock_says}

step_leads : (e : Step Reading) → IsValidStep of_meters e → e.then.object.clock ≤ e.next.object.clock
step_leads = real_goes of_meters (λ m n. m.clock ≤ n.clock) (λ m. omega arith) (λ m n o a b. omega arith) (λ m n words shows b. ⊎_elim (λ e. omega arith) (λ e. let more = e.0 in omega arith) (clock_by m n b))

passes_lead : (m n : AbsState Reading) (es : List (Step Reading)) → Passes of_meters m es n → m.object.clock ≤ n.object.clock
passes_lead = passes_go of_meters (λ m n. m.clock ≤ n.clock) (λ m. omega arith) (λ m n o a b. omega arith) (λ m n words shows b. ⊎_elim (λ e. omega arith) (λ e. let more = e.0 in omega arith) (clock_by m n b))

module _ (v w : SeatView) (x : IsValidView of_meters v) (y : IsValidView of_meters w) where
  -- the clock at a step of the call
  pub clock_then : (before after : List (Step Reading)) (e : Step Reading) → ExtendsTrace v (before ++ e ∷ after) w → (v.seen.object.clock ≤ e.then.object.clock) × (e.then.object.clock ≤ w.seen.object.clock) × IsValidStep of_meters e
  clock_then before after e a = let p = passes_split of_meters v.seen w.seen before e after (passes_since of_meters v w (before ++ e ∷ after) x y a) in
      let to = clock_leads v.seen e.then p.0 in let by = step_leads e p.1 in let on = passes_lead e.next w.seen after p.2 in (omega arith, omega arith, p.1)

  pub clock_around : (before after : List (Step Reading)) (e : Step Reading) → ExtendsTrace v (before ++ e ∷ after) w → e.word ≡ clock_word → (v.seen.object.clock ≤ e.found) × (e.found ≤ w.seen.object.clock)
  clock_around before after e a is = let t = clock_then before after e a in let low = t.0 in let high = t.1 in let c = (clock_says e is t.2).0 in (omega arith, omega arith)

  pub clock_at : (clock : ℕ) → AtSomeMoment v w (λ m. m.clock ≡ clock) → (v.seen.object.clock ≤ clock) × (clock ≤ w.seen.object.clock)
  clock_at clock s = let t = clock_then s.before s.after s.step s.adds in let low = t.0 in let high = t.1 in let is = s.holds in (omega arith, omega arith)

  pub clocks_in_order : (before between after : List (Step Reading)) (e f : Step Reading) → ExtendsTrace v (before ++ e ∷ (between ++ f ∷ after)) w → e.word ≡ clock_word → f.word ≡ clock_word → e.found ≤ f.found
  clocks_in_order before between after e f a is is' = let p = passes_split of_meters v.seen w.seen before e (between ++ f ∷ after) (passes_since of_meters v w (before ++ e ∷ (between ++ f ∷ after)) x y a) in let q = passes_split of_meters e.next w.seen between f after p.2 in
      let c = (clock_says e is p.1).0 in let d = (clock_says f is' q.1).0 in let by = step_leads e p.1 in let to = clock_leads e.next f.then q.0 in omega arith
