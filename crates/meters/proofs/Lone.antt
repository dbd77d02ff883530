-- An end that has the whole finds what it left: it loses to no other.
use Rattle.meters.proofs.Common.{◌≡◌, ℕ, List, [], ◌∷◌, ◌++◌, sym, subst, ap, ◌∙◌, refl, inl, inr, arith, AbsState, Step, load, IsValidStep, IsValidView, alone_since, Reading, clock_word, slot_word, word_of, in_slot, SeatView, of_meters, scan, NotAdvanced, NotSet}
use Rattle.std.proofs.Common.{append_assoc}
use Rattle.std.proofs.lemmas.List.{append_cancel_left}
use Rattle.table_theory.specs.Courses.{Continues}
use Rattle.table_theory.specs.Moments.{AreEvents}
use Rattle.table_theory.specs.Sharing.{IsWhole}
use Rattle.table_theory.proofs.Reaching.{all_after, continues_split}
use Rattle.meters.specs.Client.{AtTwoMoments, ChangesNothing, WhyNotAdvanced, WhyNotSet}
use Rattle.meters.specs.declared.alarms.SetRefusal.TheVariants as not_set
use Rattle.meters.specs.declared.gauges.AdvanceRefusal.TheVariants as not_advanced
use Rattle.meters.proofs.Lawful.{clock_says, slot_says}

-- two loads, one after the other, found the same meters
same_meters : (a b m n : AbsState Reading) (word x y : ℕ) → Continues a (load word x m ∷ load word y n ∷ []) b → m ≡ n
same_meters a b m n word x y c = c.1.0

pub clock_not_lost : (v w : SeatView) (clock : ℕ) → IsWhole v.member.share → IsValidView of_meters v → IsValidView of_meters w → NotAdvanced v (not_advanced.Lost clock) w → ⊥
clock_not_lost v w clock whole x y (was, m, n, less, a) = let s = alone_since of_meters v w (load clock_word was m ∷ load clock_word clock n ∷ []) whole x y a in
    let same : m.object.clock ≡ n.object.clock = ap (λ (z : AbsState Reading). z.object.clock) (same_meters v.seen w.seen m n clock_word was clock s.0) in
    let one = clock_says (load clock_word was m) refl s.1.0 in let two = clock_says (load clock_word clock n) refl s.1.1.0 in let e : was ≡ clock = one.0 ∙ same ∙ sym two.0 in omega arith

pub slot_not_lost : (v w : SeatView) (slot : ℕ) → IsWhole v.member.share → IsValidView of_meters v → IsValidView of_meters w → NotSet v (not_set.Lost slot) w → ⊥
slot_not_lost v w slot whole x y (taken, other, m, n, as_many, below, full, some, a) = let last : List (Step Reading) = load (slot_word slot) 0 m ∷ load (slot_word slot) other n ∷ [] in let s = alone_since of_meters v w (scan 0 taken ++ last) whole x y a in
    let c = continues_split v.seen w.seen (scan 0 taken) (load (slot_word slot) 0 m) (load (slot_word slot) other n ∷ []) s.0 in let same : m ≡ n = c.1.0 in let r = all_after (IsValidStep of_meters) (scan 0 taken) last s.1 in
    let e : 0 ≡ other = slot_says (load (slot_word slot) 0 m) slot below refl r.0 ∙ (ap (λ (z : AbsState Reading). word_of (in_slot z.object slot)) same ∙ sym (slot_says (load (slot_word slot) other n) slot below refl r.1.0)) in omega arith

-- no step of the call is an event
abbrev AreLoads : List (Step Reading) → Type 0
AreLoads es = AreEvents {E = Unit {0}} (λ one m n. ⊥) (λ m n. n ≡ m) es []

-- each of them found the meters of the moment before them
still : (m n : AbsState Reading) (before after : List (Step Reading)) (e : Step Reading) → Continues m (before ++ e ∷ after) n → AreLoads (before ++ e ∷ after) → e.then.object ≡ m.object
still m n [] after e c quiet = ap (λ (z : AbsState Reading). z.object) (sym c.0)
still m n (b ∷ before) after e c (inl (same, quiet)) = still b.next n before after e c.1 quiet ∙ (same ∙ ap (λ (z : AbsState Reading). z.object) (sym c.0))
still m n (b ∷ before) after e c (inr (one, rest, is, none, more)) = absurd none

module _ (v w : SeatView) (whole : IsWhole v.member.share) (x : IsValidView of_meters v) (y : IsValidView of_meters w) (quiet : ChangesNothing v w) where
  -- two moments of a call that changed nothing have the same meters
  one_moment : (P : Reading → Reading → Type 0) (s : AtTwoMoments v w P) → s.second.then.object ≡ s.first.then.object
  one_moment P s = let later : List (Step Reading) = s.between ++ s.second ∷ s.after in let es : List (Step Reading) = s.before ++ s.first ∷ later in
      let loads : AreLoads es = subst AreLoads (append_cancel_left v.steps quiet.steps es (sym quiet.adds.entries_are ∙ s.adds.entries_are)) quiet.are in let c = (alone_since of_meters v w es whole x y s.adds).0 in
      let split : (s.before ++ s.first ∷ s.between) ++ s.second ∷ s.after ≡ es = append_assoc s.before (s.first ∷ s.between) (s.second ∷ s.after) in
      still v.seen w.seen (s.before ++ s.first ∷ s.between) s.after s.second (subst (λ (z : List (Step Reading)). Continues v.seen z w.seen) (sym split) c) (subst AreLoads (sym split) loads)
      ∙ sym (still v.seen w.seen s.before later s.first c loads)

  pub never_lost_clock : (clock : ℕ) → WhyNotAdvanced v (not_advanced.Lost clock) w → ⊥
  never_lost_clock clock s = let same : s.second.then.object.clock ≡ s.first.then.object.clock = ap (λ (z : Reading). z.clock) (one_moment _ s) in let less = s.holds.0 in omega arith

  pub never_lost_slot : (slot : ℕ) → WhyNotSet v (not_set.Lost slot) w → ⊥
  never_lost_slot slot h = let s = h.2 in s.holds.1 (ap (λ (z : Reading). in_slot z slot) (one_moment _ s) ∙ s.holds.0)
