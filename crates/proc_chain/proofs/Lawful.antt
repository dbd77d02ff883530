-- Real steps are events of the core.
use Rattle.proc_chain.proofs.Common.{◌≡◌, ◌≢◌, ℕ, ◌+◌, ◌-◌, ◌<◌, ◌≤◌, false, List, [], ◌∷◌, ◌++◌, length, length-append, length-set, sym, refl, ap, ◌∙◌, subst, arith, Cell, AbsState, change, IsValidStep, item_at, stage_at, fresh, GatedQueue, Becomes, with_note, with_taken, of_chains, head_word, tail_word}
use Rattle.std.proofs.lemmas.List.{append_cancel_left}
use Rattle.table_theory.proofs.Saying.{effect_keeps}
use Rattle.proc_chain.specs.Changes as becomes

-- what a claim was allowed
longer : {A : Type 0} (xs : List A) (x : A) → xs ++ x ∷ [] ≢ xs
longer xs x e = let a = length-append xs (x ∷ []) in let b = ap length e in omega arith

abbrev first_item : List Cell → ℕ
first_item [] = 0
first_item (x ∷ xs) = x.item

abbrev pub Room : GatedQueue → ℕ → Type 0
Room o note = (note < 65536) × (length o.queue.places + 1 ≤ o.queue.taken + o.queue.room) × (o.queue.shut ≡ false)

was_room : (o p : GatedQueue) (note : ℕ) → Becomes o p → with_note o note ≡ p → Room o note
was_room o p note (becomes.claimed x small room unshut e) is = let same : x ≡ note = ap first_item (append_cancel_left o.queue.places (fresh x ∷ []) (fresh note ∷ []) (λ i. ((sym (is ∙ e)) i).queue.places)) in (subst (λ (z : ℕ). z < 65536) same small, room, unshut)
was_room o p note (becomes.raised at ahead below low e) is = absurd (let a = length-append o.queue.places (fresh note ∷ []) in let b = length-set o.queue.places (o.queue.first + at - o.queue.first) (record { item = item_at o.queue at; stage = 2 }) in let c = ap (λ (z : GatedQueue). length z.queue.places) (is ∙ e) in omega arith)
was_room o p note (becomes.took up e) is = absurd (longer o.queue.places (fresh note) (λ i. ((is ∙ e) i).queue.places))
was_room o p note (becomes.notified e) is = absurd (longer o.queue.places (fresh note) (λ i. ((is ∙ e) i).queue.places))
was_room o p note (becomes.round up e) is = absurd (longer o.queue.places (fresh note) (λ i. ((is ∙ e) i).queue.places))
was_room o p note (becomes.left one e) is = absurd (longer o.queue.places (fresh note) (λ i. ((is ∙ e) i).queue.places))

pub claim_room : (head note : ℕ) (m : AbsState GatedQueue) → IsValidStep of_chains (change head_word head m (with_note m.object note)) → Room m.object note
claim_room head note m r = effect_keeps of_chains (λ p. with_note m.object note ≡ p → Room m.object note) m (record m { object = with_note m.object note }) (λ is. absurd (longer m.object.queue.places (fresh note) (λ i. (is i).queue.places))) (λ p b is. was_room m.object p note b.becomes is) r.effect refl

-- what a taking found
was_up : (o p : GatedQueue) → Becomes o p → with_taken o ≡ p → 2 ≤ stage_at o.queue o.queue.taken
was_up o p (becomes.claimed x small room unshut e) is = absurd (let c = ap (λ (z : GatedQueue). z.queue.taken) (is ∙ e) in omega arith)
was_up o p (becomes.raised at ahead below low e) is = absurd (let c = ap (λ (z : GatedQueue). z.queue.taken) (is ∙ e) in omega arith)
was_up o p (becomes.took up e) is = up
was_up o p (becomes.notified e) is = absurd (let c = ap (λ (z : GatedQueue). z.queue.taken) (is ∙ e) in omega arith)
was_up o p (becomes.round up e) is = absurd (let c = ap (λ (z : GatedQueue). z.queue.taken) (is ∙ e) in omega arith)
was_up o p (becomes.left one e) is = absurd (let c = ap (λ (z : GatedQueue). z.queue.taken) (is ∙ e) in omega arith)

pub take_up : (tail : ℕ) (m : AbsState GatedQueue) → IsValidStep of_chains (change tail_word tail m (with_taken m.object)) → 2 ≤ stage_at m.object.queue m.object.queue.taken
take_up tail m r = effect_keeps of_chains (λ p. with_taken m.object ≡ p → 2 ≤ stage_at m.object.queue m.object.queue.taken) m (record m { object = with_taken m.object }) (λ is. absurd (let c = ap (λ (z : GatedQueue). z.queue.taken) is in omega arith)) (λ p b is. was_up m.object p b.becomes is) r.effect refl
