-- One event of the queue and the gate: they stay lawful, and the queue grows.
use Rattle.proc_chain.proofs.Common.{◌≡◌, ℕ, ◌+◌, ◌-◌, ◌≤◌, set, sym, subst, arith, [], ◌∷◌, AbsState, Step, IsValidStep, item_at, stage_at, Grows, with_write, grows_refl, grows_trans, claim_grows, write_grows, GatedQueue, IsLawful, Becomes, with_raise, of_chains}
use Rattle.table_theory.specs.Ledgers.{Reaches}
use Rattle.table_theory.proofs.Saying.{real_goes, reaches_go}
use Rattle.table_theory.proofs.Positioned.{take_grows, claim_lawful, write_lawful, take_lawful}
use Rattle.proc_chain.specs.Changes.{claimed, raised, took, notified, round, left}

-- a raise is a write at its place
pub raise_is : (o : GatedQueue) (at : ℕ) → with_raise o (o.queue.first + at) (item_at o.queue at) ≡ record o { queue = with_write o.queue at 2 }
raise_is o at = let e : o.queue.first + at - o.queue.first ≡ at = omega arith in λ i. record o { queue = record o.queue { places = set o.queue.places (e i) (record { item = item_at o.queue at; stage = 2 }) } }

pub becomes_lawful : (o p : GatedQueue) → IsLawful o → Becomes o p → IsLawful p
becomes_lawful o p l (claimed note small room unshut e) = subst IsLawful (sym e) (claim_lawful o.queue (note ∷ []) l.0 room, l.1)
becomes_lawful o p l (raised at ahead below low e) = subst IsLawful (sym e) (subst IsLawful (sym (raise_is o at)) (write_lawful o.queue at 2 l.0 below (omega arith), l.1))
becomes_lawful o p l (took up e) = subst IsLawful (sym e) (take_lawful o.queue 1 l.0 (λ i b. let s : o.queue.taken ≡ o.queue.taken + i = omega arith in subst (λ (z : ℕ). 2 ≤ stage_at o.queue z) s up), l.1)
becomes_lawful o p l (notified e) = subst IsLawful (sym e) (l.0, omega arith)
becomes_lawful o p l (round up e) = subst IsLawful (sym e) (l.0, omega arith)
becomes_lawful o p l (left one e) = subst IsLawful (sym e) (l.0, omega arith)

pub becomes_grows : (o p : GatedQueue) → Becomes o p → Grows o.queue p.queue
becomes_grows o p (claimed note small room unshut e) = subst (λ (z : GatedQueue). Grows o.queue z.queue) (sym e) (claim_grows o.queue (note ∷ []) unshut)
becomes_grows o p (raised at ahead below low e) = subst (λ (z : GatedQueue). Grows o.queue z.queue) (sym e) (subst (λ (z : GatedQueue). Grows o.queue z.queue) (sym (raise_is o at)) (write_grows o.queue at 2 below (omega arith)))
becomes_grows o p (took up e) = subst (λ (z : GatedQueue). Grows o.queue z.queue) (sym e) (take_grows o.queue 1)
becomes_grows o p (notified e) = subst (λ (z : GatedQueue). Grows o.queue z.queue) (sym e) (grows_refl o.queue)
becomes_grows o p (round up e) = subst (λ (z : GatedQueue). Grows o.queue z.queue) (sym e) (grows_refl o.queue)
becomes_grows o p (left one e) = subst (λ (z : GatedQueue). Grows o.queue z.queue) (sym e) (grows_refl o.queue)

-- the queue grows by a real step, and wherever real steps lead

abbrev Leads : GatedQueue → GatedQueue → Type 0
Leads o p = Grows o.queue p.queue

pub real_grows : (e : Step GatedQueue) → IsValidStep of_chains e → Grows e.then.object.queue e.next.object.queue
real_grows e r = real_goes of_chains Leads (λ o. grows_refl o.queue) (λ o p q a b. grows_trans o.queue p.queue q.queue a b) (λ o p words shows b. becomes_grows o p b.becomes) e r

pub reaches_grow : (m n : AbsState GatedQueue) → Reaches of_chains m n → Grows m.object.queue n.object.queue
reaches_grow m n r = reaches_go of_chains Leads (λ o. grows_refl o.queue) (λ o p q a b. grows_trans o.queue p.queue q.queue a b) (λ o p words shows b. becomes_grows o p b.becomes) m n r
