-- An element appears once, so one call alone holds it or has it on a processor.
use Rattle.thread_table.proofs.Common.{◌≡◌, ◌≢◌, ℕ, ◌+◌, ◌<◌, ◌≤◌, ◌∙◌, Bool, true, false, cond, ◌&&◌, ◌||◌, List, [], ◌∷◌, length, eqb, refl, sym, subst, arith, Option, Some, None, false_from_ne_true, ap, eqb-true, sum_by-cons, list_any, appearances, is_on, Elements, is_hold, holds, is_put, IsLawfulElements, Hold, ELEMENTS, may_step}
use Rattle.thread_table.proofs.Lists.Counts.{plus}
use Rattle.std.specs.List.{count_by}

either : (a b : Bool) → plus (a || b) ≤ plus a + plus b
either true b = omega arith
either false b = omega arith

-- of two tests that no entry passes both, each entry that passes one counts
two_count : {X : Type 0} (p q r : X → Bool) → ((x : X) → plus (p x) + plus (q x) ≤ plus (r x)) → (xs : List X)
    → plus (list_any p xs) + plus (list_any q xs) ≤ count_by r xs
two_count p q r apart [] = omega arith
two_count p q r apart (x ∷ xs) = omega (
  arith,
  apart x,
  two_count p q r apart xs,
  either (p x) (list_any p xs),
  either (q x) (list_any q xs),
  sum_by-cons (λ y. cond (r y) 1 0) x xs,
)

-- of two calls one has a hold
hold_by : (a b c : Bool) → (a ≡ true → b ≡ true → ⊥) → plus (a && c) + plus (b && c) ≤ plus c
hold_by true true c apart = absurd (apart refl refl)
hold_by true false c apart = omega arith
hold_by false true c apart = omega arith
hold_by false false c apart = omega arith

holds_apart : (call id element : ℕ) → call ≢ id → (h : Hold) → plus (is_hold call element h) + plus (is_hold id element h) ≤ plus (eqb h.element element)
holds_apart call id element differ h =
    hold_by (eqb h.call call) (eqb h.call id) (eqb h.element element)
    (λ a b. differ (sym (eqb-true h.call call a) ∙ eqb-true h.call id b))

puts_apart : (call id element : ℕ) → call ≢ id → (seat : Option Hold) → plus (is_put call element seat) + plus (is_put id element seat) ≤ plus (is_on element seat)
puts_apart call id element differ None = omega arith
puts_apart call id element differ (Some h) = holds_apart call id element differ h

pub others_count : (id call element : ℕ) (e : Elements) → IsLawfulElements e → length e.threads ≡ 64 → element < ELEMENTS → call ≢ id
    → may_step call element e ≡ true → may_step id element e ≡ false
others_count id call element e lawful many known differ may = false_from_ne_true (may_step id element e) (λ both.
    let once : appearances element e ≡ 1 = lawful.once element (subst (λ n. element < n) (sym many) known) in
    let hands = two_count (is_hold call element) (is_hold id element) (λ (h : Hold). eqb h.element element) (holds_apart call id element differ) e.held in
    let processors = two_count (is_put call element) (is_put id element) (is_on element) (puts_apart call id element differ) e.processors in
    let one = either (holds call element e) (list_any (is_put call element) e.processors) in let two = either (holds id element e) (list_any (is_put id element) e.processors) in
    omega (arith, once, hands, processors, one, two, ap plus may, ap plus both))
