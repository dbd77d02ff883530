-- The clock never goes down, and what steps find.
use Rattle.meters.proofs.Common.{◌≡◌, ◌⊎◌, ⊎_elim, inl, inr, ℕ, ◌+◌, ◌<◌, ◌≤◌, List, [], ◌∷◌, sym, ap, ◌∙◌, arith, AbsState, Step, load, IsValidStep, IsValidView, Reaches, ExtendsTrace, Looked, reaches_go, reaches_since, entries_real, clock_word, slot_word, word_of, Reading, Becomes, ticked, advanced, was_set, fired, cancelled, in_slot, SeatView, of_meters, Fits}

-- the clock stays, or is one tick on
pub clock_by : (m n : Reading) → Becomes m n → (n.clock ≡ m.clock) ⊎ ((n.clock ≡ m.clock + 1) × (m.clock < 4294967295))
clock_by m n (ticked g a b e) = inl (λ i. (e i).clock)
clock_by m n (advanced b e) = inr (λ i. (e i).clock, b)
clock_by m n (was_set slot alarm b s e) = inl (λ i. (e i).clock)
clock_by m n (fired slot alarm b s d e) = inl (λ i. (e i).clock)
clock_by m n (cancelled slot alarm b s e) = inl (λ i. (e i).clock)

pub clock_leads : (m n : AbsState Reading) → Reaches of_meters m n → m.object.clock ≤ n.object.clock
clock_leads = reaches_go of_meters (λ m n. m.clock ≤ n.clock) (λ m. omega arith) (λ m n o a b. omega arith) (λ m n words shows b. ⊎_elim (λ e. omega arith) (λ e. let more = e.0 in omega arith) (clock_by m n b))

-- what an end sees of the clock
pub clock_seen : (v w : SeatView) (es : List (Step Reading)) → IsValidView of_meters v → IsValidView of_meters w → ExtendsTrace v es w → v.seen.object.clock ≤ w.seen.object.clock
clock_seen v w es x y a = clock_leads v.seen w.seen (reaches_since of_meters v w es x y a)

looked_real : (v w : SeatView) (word found : ℕ) → IsValidView of_meters w → (l : Looked v word found w) → IsValidStep of_meters (load word found l.at)
looked_real v w word found y l = (entries_real of_meters v w (load word found l.at ∷ []) y l.made.adds).0

-- a look at the clock
pub clock_found : (v w : SeatView) (found : ℕ) → IsValidView of_meters w → Looked v clock_word found w → (found ≡ w.seen.object.clock) × (found < 4294967296)
clock_found v w found y l = let r = looked_real v w clock_word found y l in let is : found ≡ l.at.object.clock = r.is ∙ r.shows.clock in let b = r.shows.bounded in (is ∙ ap (λ (z : AbsState Reading). z.object.clock) (sym l.seen), omega arith)

-- a look at a slot
pub slot_found : (v w : SeatView) (slot found : ℕ) → slot < 16 → IsValidView of_meters w → (l : Looked v (slot_word slot) found w) → (found ≡ word_of (in_slot l.at.object slot)) × Fits (in_slot l.at.object slot)
slot_found v w slot found below y l = let r = looked_real v w (slot_word slot) found y l in (r.is ∙ r.shows.slots.each slot below, r.shows.slots.fit slot below)
