-- No head and no tail that an end finds is below one that it had seen.
use Rattle.proc_chain.proofs.Common.{List, [], ◌∷◌, ◌++◌, refl, subst, grows_refl, grows_trans, Grows, AbsState, Step, IsValidStep, GatedQueue, of_chains}
use Rattle.table_theory.specs.Ledgers.{Passes}
use Rattle.proc_chain.proofs.Becoming.{reaches_grow}

grow_real : (e : Step GatedQueue) → IsValidStep of_chains e → Grows e.then.object.queue e.next.object.queue
grow_real e r = reaches_grow e.then e.next (record { steps = e ∷ []; leads = (refl, refl); real = (r, tt) })

-- an entry found the queue no earlier than it was at first, and the others come later
pub grows_to : (m n : AbsState GatedQueue) (before : List (Step GatedQueue)) (e : Step GatedQueue) (after : List (Step GatedQueue)) → Passes of_chains m (before ++ e ∷ after) n
    → Grows m.object.queue e.then.object.queue × IsValidStep of_chains e × Passes of_chains e.next after n
grows_to m n [] e after p = (reaches_grow m e.then p.0, p.1, p.2)
grows_to m n (b ∷ bs) e after p = let r = grows_to b.next n bs e after p.2 in (grows_trans m.object.queue b.then.object.queue e.then.object.queue (reaches_grow m b.then p.0) (grows_trans b.then.object.queue b.next.object.queue e.then.object.queue (grow_real b p.1) r.0), r.1, r.2)

pub grows_through : (m n : AbsState GatedQueue) (es : List (Step GatedQueue)) → Passes of_chains m es n → Grows m.object.queue n.object.queue
grows_through m n [] p = subst (λ (z : AbsState GatedQueue). Grows m.object.queue z.object.queue) p (grows_refl m.object.queue)
grows_through m n (e ∷ es) p = grows_trans m.object.queue e.then.object.queue n.object.queue (reaches_grow m e.then p.0) (grows_trans e.then.object.queue e.next.object.queue n.object.queue (grow_real e p.1) (grows_through e.next n es p.2))

-- what an entry found, what the end saw before it, what a later entry found, and what the end sees then
module _ (m n : AbsState GatedQueue) (before : List (Step GatedQueue)) (e : Step GatedQueue) (after : List (Step GatedQueue)) (p : Passes of_chains m (before ++ e ∷ after) n) where
  pub from_first : Grows m.object.queue e.then.object.queue
  from_first = (grows_to m n before e after p).0

  pub real_then : IsValidStep of_chains e
  real_then = (grows_to m n before e after p).1

  pub to_last : Grows e.then.object.queue n.object.queue
  to_last = let g = grows_to m n before e after p in grows_trans e.then.object.queue e.next.object.queue n.object.queue (grow_real e g.1) (grows_through e.next n after g.2)

pub to_later : (m n : AbsState GatedQueue) (before : List (Step GatedQueue)) (e : Step GatedQueue) (between : List (Step GatedQueue)) (f : Step GatedQueue) (after : List (Step GatedQueue)) → Passes of_chains m (before ++ e ∷ (between ++ f ∷ after)) n
    → Grows e.then.object.queue f.then.object.queue × IsValidStep of_chains e × IsValidStep of_chains f
to_later m n before e between f after p = let g = grows_to m n before e (between ++ f ∷ after) p in let h = grows_to e.next n between f after g.2 in (grows_trans e.then.object.queue e.next.object.queue f.then.object.queue (grow_real e g.1) h.0, g.1, h.1)
