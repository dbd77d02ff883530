-- The meaning of the number that a real step found, for the queue.
use Rattle.batch_queue.proofs.Common.{IsParted, IsStop, IsRest, AreIn, BatchState, IsBatch, IsEdge, IsValidStep, MarkSays, POSITIONS, SHUT, Step, arith, dec_lt, dite, free_word, head_word, items_of, length, mark, mark_of, mark_word, of_batches, phase_at, subst, sym, tail_word, taking, ℕ, ⊎_elim, ◌%◌, ◌*◌, ◌+◌, ◌/◌, ◌<◌, ◌∙◌, ◌≡◌, ◌≢◌, ◌≤◌}
use Rattle.table_theory.proofs.Saying.{at_word}
use Rattle.batch_queue.proofs.Settling.{low_of}

pub head_says : (e : Step BatchState) → e.word ≡ head_word → IsValidStep of_batches e → (e.found ≡ length (items_of e.then.object) + mark e.then.object.shut) × (length (items_of e.then.object) < POSITIONS)
head_says e is r = (at_word of_batches e head_word is r ∙ r.shows.head, r.shows.bounded)

pub head_is : (e : Step BatchState) → e.word ≡ head_word → IsValidStep of_batches e → e.found % SHUT ≡ length (items_of e.then.object)
head_is e is r = let h = head_says e is r in let b = h.1 in low_of (length (items_of e.then.object)) e.found e.then.object.shut (omega arith) h.0

pub tail_says : (e : Step BatchState) → e.word ≡ tail_word → IsValidStep of_batches e → e.found ≡ e.then.object.taken
tail_says e is r = at_word of_batches e tail_word is r ∙ r.shows.tail

pub free_says : (e : Step BatchState) → e.word ≡ free_word → IsValidStep of_batches e → e.found ≡ e.then.object.freed
free_says e is r = at_word of_batches e free_word is r ∙ r.shows.free

pub mark_is : (e : Step BatchState) (p : ℕ) → e.word ≡ mark_word e.then.object.room p → IsValidStep of_batches e → e.found ≡ mark_of e.then.object p
mark_is e p is r = at_word of_batches e (mark_word e.then.object.room p) is r ∙ r.shows.marks_are p

-- the mark of a position of the window
mark_says : (e : Step BatchState) (p : ℕ) → e.word ≡ mark_word e.then.object.room p → IsValidStep of_batches e → e.then.object.freed ≤ p → p < e.then.object.freed + e.then.object.room → MarkSays e.then.object p e.found
mark_says e p is r from to = subst (MarkSays e.then.object p) (sym (at_word of_batches e (mark_word e.then.object.room p) is r)) (r.shows.marks p from to)

pub published_says : (e : Step BatchState) (p : ℕ) → e.word ≡ mark_word e.then.object.room p → IsValidStep of_batches e → e.then.object.freed ≤ p → p < e.then.object.freed + e.then.object.room → e.found % 2 ≡ 0 → p < e.found / 2
    → ((i : ℕ) → p ≤ i → i < e.found / 2 → 1 ≤ phase_at e.then.object i) × IsStop e.then.object p × IsRest e.then.object.batches p (e.found / 2)
published_says e p is r from to even past = let t = mark_says e p is r from to in let whole = t.whole even past in (t.up even, whole.0, whole.1)

pub parted_says : (e : Step BatchState) (p : ℕ) → e.word ≡ mark_word e.then.object.room p → IsValidStep of_batches e → IsParted e.then.object p → e.then.object.taken ≤ p → (end : ℕ) × IsRest e.then.object.batches p end × (e.found ≡ 2 * end)
parted_says e p is r parted from = let t = r.shows.rest_mark p parted from in (t.0, t.1, at_word of_batches e (mark_word e.then.object.room p) is r ∙ t.2)

pub given_says : (e : Step BatchState) (p : ℕ) → e.word ≡ mark_word e.then.object.room p → IsValidStep of_batches e → e.then.object.freed ≤ p → p < e.then.object.freed + e.then.object.room → e.found % 2 ≡ 1 → p < e.found / 2
    → ((i : ℕ) → p ≤ i → i < e.found / 2 → 3 ≤ phase_at e.then.object i) × IsEdge e.then.object.takings (e.found / 2)
given_says e p is r from to odd past = let t = mark_says e p is r from to in (t.back odd, t.whole_back odd past)

pub not_published_says : (e : Step BatchState) (p end : ℕ) → e.word ≡ mark_word e.then.object.room p → IsValidStep of_batches e → IsBatch e.then.object.batches p end → e.then.object.taken ≤ p → e.found ≢ 2 * end → AreIn e.then.object 0 p end
not_published_says e p end is r batch from ne = let o : BatchState = e.then.object in let some_item = r.lawful.solid p end batch in ⊎_elim (λ none_up. none_up)
    (λ all_up. absurd (ne (at_word of_batches e (mark_word o.room p) is r ∙ r.shows.batch_mark p end batch some_item from (all_up p (omega arith) some_item))))
    (r.lawful.whole p end batch)

pub not_given_says : (e : Step BatchState) (p end : ℕ) → e.word ≡ mark_word e.then.object.room p → IsValidStep of_batches e → IsBatch e.then.object.takings p end → e.then.object.freed ≤ p → e.found ≢ 2 * end + 1 → phase_at e.then.object p < 3
not_given_says e p end is r taking from ne = let o : BatchState = e.then.object in let some_item = r.lawful.solid_takings p end taking in dite (dec_lt (phase_at o p) 3) (λ y. y)
    (λ no. absurd (ne (at_word of_batches e (mark_word o.room p) is r ∙ r.shows.taking_mark p end taking some_item from (omega arith))))
