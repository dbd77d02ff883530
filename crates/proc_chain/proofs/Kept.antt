-- The words of places while no note is raised there.
use Rattle.proc_chain.proofs.Common.{◌≡◌, ◌≢◌, ℕ, ◌+◌, ◌/◌, ◌%◌, ◌<◌, ◌≤◌, List, [], ◌∷◌, length, get_or, set, sym, ap, ◌∙◌, subst, arith, dite, ℕ_discrete, dec_lt, Cell, Positions, item_at, stage_at, with_write, with_take, spot, FIRST_PLACE, mark_in, note_in, place_word, raised_word}
use Rattle.std.proofs.Common.{get_or-set_other}
use Rattle.atomic_table.proofs.Lists.{one_turn}
use native.Mathlib.Decide.{dec_le}
use native.Mathlib.Nat.{add-mod_right}
use Rattle.table_theory.specs.Positioned.{with_claim}
use Rattle.table_theory.specs.Windows.{PlacesShow}
use Rattle.table_theory.proofs.Positioned.{claim_old, past_written, write_here, write_else}
use Rattle.proc_chain.specs.Shown.{PlacesKeep}

-- a word before the places changes
pub kept_words : (q : Positions) (words : List ℕ) (j y : ℕ) → j < FIRST_PLACE → PlacesKeep q words → PlacesKeep q (set words j y)
kept_words q words j y low h = record {
  never = λ i a b c. get_or-set_other words j (place_word (q.first + i)) y 0 (λ e. omega arith) ∙ h.never i a b c;
  last = λ i a b c. get_or-set_other words j (place_word (q.first + i)) y 0 (λ e. omega arith) ∙ h.last i a b c;
}

written_before : (q : Positions) (x i : ℕ) → stage_at (with_claim q (x ∷ [])) i < 2 → stage_at q i < 2
written_before q x i h = dite (dec_lt i (length q.places))
    (λ y. subst (λ (z : Cell). z.stage < 2) (claim_old q (x ∷ []) i y) h)
    (λ no. let e = past_written q i (omega arith) in omega arith)

pub kept_claim : (q : Positions) (x : ℕ) (words : List ℕ) → q.taken ≤ length q.places → PlacesKeep q words → PlacesKeep (with_claim q (x ∷ [])) words
kept_claim q x words following h = record {
  never = λ i a b c. h.never i a b (written_before q x i c);
  last = λ i a b c. h.last i a b (written_before q x (i + 32) c) ∙ ap (raised_word (q.first + i)) (sym (ap (λ (z : Cell). z.item) (claim_old q (x ∷ []) i (omega arith))));
}

-- two positions of one window have two places
two_places : (first taken i j : ℕ) → taken ≤ i → i < taken + 32 → taken ≤ j → j < taken + 32 → i ≢ j → place_word (first + i) ≢ place_word (first + j)
two_places first taken i j a b c d ne e = let m : (first + i) % 32 ≡ (first + j) % 32 = omega arith in dite (dec_le i j)
    (λ le. let s = one_turn (first + i) (first + j) 32 (omega arith) (omega arith) m in ne (omega arith))
    (λ no. let s = one_turn (first + j) (first + i) 32 (omega arith) (omega arith) (sym m) in ne (omega arith))

next_turn : (first i : ℕ) → place_word (first + (i + 32)) ≡ place_word (first + i)
next_turn first i = let e : first + (i + 32) ≡ first + i + 32 = omega arith in ap place_word e ∙ ap (λ (z : ℕ). z + FIRST_PLACE) (add-mod_right (first + i) 32)

module _ (q : Positions) (p : ℕ) (words : List ℕ) (u y : ℕ) (at : u ≡ place_word (q.first + p)) (from : q.taken ≤ p) (to : p < q.taken + 32) (below : p < length q.places) where
  raised_there : (i : ℕ) → stage_at (with_write q p 2) i < 2 → i ≢ p
  raised_there i c e = let now : stage_at (with_write q p 2) p ≡ 2 = ap (λ (z : Cell). z.stage) (write_here q p 2 below) in let low : stage_at (with_write q p 2) p < 2 = subst (λ (z : ℕ). stage_at (with_write q p 2) z < 2) e c in omega arith

  was_low : (i : ℕ) → stage_at (with_write q p 2) i < 2 → stage_at q i < 2
  was_low i c = subst (λ (z : Cell). z.stage < 2) (write_else q p i 2 (raised_there i c)) c

  pub kept_raise : PlacesKeep q words → PlacesKeep (with_write q p 2) (set words u y)
  kept_raise h = record {
    never = λ i a b c. get_or-set_other words u (place_word (q.first + i)) y 0 (λ e. two_places q.first q.taken i p a (omega arith) from to (raised_there i c) (e ∙ at)) ∙ h.never i a b (was_low i c);
    last = λ i a b c. get_or-set_other words u (place_word (q.first + i)) y 0 (λ e. two_places q.first q.taken (i + 32) p b (omega arith) from to (raised_there (i + 32) c) (next_turn q.first i ∙ (e ∙ at)))
        ∙ (h.last i a b (was_low (i + 32) c) ∙ ap (raised_word (q.first + i)) (sym (ap (λ (z : Cell). z.item) (write_else q p i 2 (λ e. omega arith)))));
  }

pub kept_take : (q : Positions) (words : List ℕ) → PlacesShow q (mark_in words) (note_in words) → q.room ≡ 32 → 2 ≤ stage_at q q.taken → PlacesKeep q words → PlacesKeep (with_take q 1) words
kept_take q words w room up h = record {
  never = λ i a b c. h.never i (omega arith) b c;
  last = λ i a b c. dite (ℕ_discrete i q.taken)
      (λ e. let p = w.each q.taken (omega arith) (omega arith) in let there : spot q q.taken + FIRST_PLACE ≡ place_word (q.first + q.taken) = ap (λ (z : ℕ). (q.first + q.taken) % z + FIRST_PLACE) room in let word : ℕ = get_or words (place_word (q.first + q.taken)) 0 in
      let mark : word / 65536 ≡ q.first + q.taken + 1 = ap (λ (z : ℕ). get_or words z 0 / 65536) (sym there) ∙ p.up up in let note : word % 65536 ≡ item_at q q.taken = ap (λ (z : ℕ). get_or words z 0 % 65536) (sym there) ∙ p.holds (omega arith) in
      let is : word ≡ raised_word (q.first + q.taken) (item_at q q.taken) = omega arith in subst (λ (z : ℕ). get_or words (place_word (q.first + z)) 0 ≡ raised_word (q.first + z) (item_at q z)) (sym e) is)
      (λ ne. h.last i (omega arith) (omega arith) c);
}
