-- No number that a call has found in the head or tail word of an element queue is below one that its hand had seen.
use Rattle.thread_table.proofs.Common.{◌≡◌, ℕ, ◌<◌, ◌≤◌, List, ◌∷◌, ◌++◌, arith, ExtendsTrace, Grows, Past, Step, View, IsValidHandView, RINGS, head_word, tail_word, head_in, of_hands, head_in}
use Rattle.table_theory.specs.Ledgers.{Passes}
use Rattle.table_theory.proofs.Saying as steps
use Rattle.thread_table.specs.Notifies.{head_seen, tail_seen}
use Rattle.thread_table.specs.Schedules.{elements_after}
use Rattle.thread_table.specs.Telling.{IsValidHandStep}
use Rattle.thread_table.proofs.Events.Saying.{head_says, tail_says}
use Rattle.thread_table.proofs.Schedule.Orders.{adds_pass, reach_leads}
use Rattle.thread_table.proofs.Schedule.Schedules.{grows_refl, grows_trans}

module _ (first : ℕ) where
  real_leads : (e : Step) → IsValidHandStep first e → Grows (elements_after e.then.object) (elements_after e.next.object)
  real_leads = steps.real_goes (of_hands first) (λ p q. Grows (elements_after p) (elements_after q)) (λ p. grows_refl (elements_after p)) (λ p q r. grows_trans (elements_after p) (elements_after q) (elements_after r)) (λ p q words shows happens. happens.3)

  passes_lead : (m n : Past) (es : List Step) → Passes (of_hands first) m es n → Grows (elements_after m.object) (elements_after n.object)
  passes_lead = steps.passes_go (of_hands first) (λ p q. Grows (elements_after p) (elements_after q)) (λ p. grows_refl (elements_after p)) (λ p q r. grows_trans (elements_after p) (elements_after q) (elements_after r)) (λ p q words shows happens. happens.3)

module _ (v w : View) (x : IsValidHandView v) (y : IsValidHandView w) where
  -- the elements grow up to an entry, and on from it
  around : (before rest : List Step) (e : Step) → ExtendsTrace v (before ++ e ∷ rest) w → Grows (elements_after v.seen.object) (elements_after e.then.object) × IsValidHandStep w.own.first e × Grows (elements_after e.then.object) (elements_after w.seen.object)
  around before rest e a = let p = steps.passes_split (of_hands w.own.first) v.seen w.seen before e rest (adds_pass v w (before ++ e ∷ rest) x y a) in
      ((reach_leads w.own.first v.seen e.then p.0).1, p.1, grows_trans (elements_after e.then.object) (elements_after e.next.object) (elements_after w.seen.object) (real_leads w.own.first e p.1) (passes_lead w.own.first e.next w.seen rest p.2))

  -- and from one entry to a later one
  both : (before between rest : List Step) (e f : Step) → ExtendsTrace v (before ++ e ∷ (between ++ f ∷ rest)) w → IsValidHandStep w.own.first e × IsValidHandStep w.own.first f × Grows (elements_after e.then.object) (elements_after f.then.object)
  both before between rest e f a = let p = steps.passes_split (of_hands w.own.first) v.seen w.seen before e (between ++ f ∷ rest) (adds_pass v w (before ++ e ∷ (between ++ f ∷ rest)) x y a) in let q = steps.passes_split (of_hands w.own.first) e.next w.seen between f rest p.2 in
      (p.1, q.1, grows_trans (elements_after e.then.object) (elements_after e.next.object) (elements_after f.then.object) (real_leads w.own.first e p.1) (reach_leads w.own.first e.next f.then q.0).1)

  module _ (ring : ℕ) (below : ring < RINGS) where
    pub head_around : (before rest : List Step) (e : Step) → ExtendsTrace v (before ++ e ∷ rest) w → e.word ≡ head_word ring → (head_seen w.own.first v ring ≤ head_in e.found) × (head_in e.found ≤ head_seen w.own.first w ring)
    head_around before rest e a is = let r = around before rest e a in let h = (head_says w.own.first e r.1 ring below is).0 in let m = (r.0 ring).longer in let n = (r.2 ring).longer in (omega arith, omega arith)

    pub heads_in_order : (before between rest : List Step) (e f : Step) → ExtendsTrace v (before ++ e ∷ (between ++ f ∷ rest)) w → e.word ≡ head_word ring → f.word ≡ head_word ring → head_in e.found ≤ head_in f.found
    heads_in_order before between rest e f a is is' = let r = both before between rest e f a in let h = (head_says w.own.first e r.0 ring below is).0 in let k = (head_says w.own.first f r.1 ring below is').0 in let m = (r.2 ring).longer in omega arith

    pub tail_around : (before rest : List Step) (e : Step) → ExtendsTrace v (before ++ e ∷ rest) w → e.word ≡ tail_word ring → (tail_seen w.own.first v ring ≤ e.found) × (e.found ≤ tail_seen w.own.first w ring)
    tail_around before rest e a is = let r = around before rest e a in let h = tail_says w.own.first e r.1 ring below is in let m = (r.0 ring).further in let n = (r.2 ring).further in (omega arith, omega arith)

    pub tails_in_order : (before between rest : List Step) (e f : Step) → ExtendsTrace v (before ++ e ∷ (between ++ f ∷ rest)) w → e.word ≡ tail_word ring → f.word ≡ tail_word ring → e.found ≤ f.found
    tails_in_order before between rest e f a is is' = let r = both before between rest e f a in let h = tail_says w.own.first e r.0 ring below is in let k = tail_says w.own.first f r.1 ring below is' in let m = (r.2 ring).further in omega arith
