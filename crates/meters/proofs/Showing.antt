-- What the words show after a step.
use Rattle.meters.proofs.Common.{◌≡◌, ℕ, ◌+◌, ◌%◌, ◌<◌, List, length, length-set, set, get_or, get_or-set_same, get_or-set_other, sym, ap, ◌∙◌, subst, arith, Option, None, dite, ℕ_discrete, Alarm, word_of, Reading, Fits, SlotsShow, WordsShow, with_tick, with_advance}

-- a change beside the slots leaves what they show
slots_still : (slots : List (Option Alarm)) (words : List ℕ) (i y : ℕ) → SlotsShow slots words → i < 10 → SlotsShow slots (set words i y)
slots_still slots words i y h low = record { sixteen = h.sixteen; fit = h.fit; each = λ slot b. get_or-set_other words i (10 + slot) y 0 (λ e. omega arith) ∙ h.each slot b }

pub shows_count : (m : Reading) (words : List ℕ) (y : ℕ) → WordsShow m words → WordsShow m (set words 0 y)
shows_count m words y h = record {
  wide = length-set words 0 y ∙ h.wide;
  eight = h.eight;
  gauges = λ g b. get_or-set_other words 0 (1 + g) y 0 (λ e. omega arith) ∙ h.gauges g b;
  clock = get_or-set_other words 0 9 y 0 (λ e. omega arith) ∙ h.clock;
  bounded = h.bounded;
  slots = slots_still m.slots words 0 y h.slots (omega arith);
}

pub shows_tick : (m : Reading) (words : List ℕ) (g n : ℕ) → WordsShow m words → g < 8 → WordsShow (with_tick m g n) (set words (1 + g) ((get_or words (1 + g) 0 + n) % 18446744073709551616))
shows_tick m words g n h below = let y : ℕ = (get_or words (1 + g) 0 + n) % 18446744073709551616 in let z : ℕ = (get_or m.gauges g 0 + n) % 18446744073709551616 in let wide = h.wide in let eight = h.eight in
    let same : y ≡ z = ap (λ (x : ℕ). (x + n) % 18446744073709551616) (h.gauges g below) in record {
      wide = length-set words (1 + g) y ∙ h.wide;
      eight = length-set m.gauges g z ∙ h.eight;
      gauges = λ j b. dite (ℕ_discrete j g)
          (λ is. subst (λ (k : ℕ). get_or (set words (1 + g) y) (1 + k) 0 ≡ get_or (set m.gauges g z) k 0) (sym is) (get_or-set_same words (1 + g) y 0 (omega arith) ∙ (same ∙ sym (get_or-set_same m.gauges g z 0 (omega arith)))))
          (λ ne. get_or-set_other words (1 + g) (1 + j) y 0 (λ e. ne (omega arith)) ∙ (h.gauges j b ∙ sym (get_or-set_other m.gauges g j z 0 ne)));
      clock = get_or-set_other words (1 + g) 9 y 0 (λ e. omega arith) ∙ h.clock;
      bounded = h.bounded;
      slots = slots_still m.slots words (1 + g) y h.slots (omega arith);
    }

pub shows_clock : (m : Reading) (words : List ℕ) (y : ℕ) → WordsShow m words → y ≡ m.clock + 1 → m.clock < 4294967295 → WordsShow (with_advance m) (set words 9 y)
shows_clock m words y h is bounded = let wide = h.wide in record {
  wide = length-set words 9 y ∙ h.wide;
  eight = h.eight;
  gauges = λ g b. get_or-set_other words 9 (1 + g) y 0 (λ e. omega arith) ∙ h.gauges g b;
  clock = get_or-set_same words 9 y 0 (omega arith) ∙ is;
  bounded = omega arith;
  slots = slots_still m.slots words 9 y h.slots (omega arith);
}

-- a change of one slot
slots_changed : (slots : List (Option Alarm)) (words : List ℕ) (slot : ℕ) (new : Option Alarm) → SlotsShow slots words → length words ≡ 26 → slot < 16 → Fits new → SlotsShow (set slots slot new) (set words (10 + slot) (word_of new))
slots_changed slots words slot new h wide below fits = let y : ℕ = word_of new in let sixteen = h.sixteen in record {
  sixteen = length-set slots slot new ∙ h.sixteen;
  fit = λ j b. dite (ℕ_discrete j slot)
      (λ is. subst (λ (k : ℕ). Fits (get_or (set slots slot new) k None)) (sym is) (subst Fits (sym (get_or-set_same slots slot new None (omega arith))) fits))
      (λ ne. subst Fits (sym (get_or-set_other slots slot j new None ne)) (h.fit j b));
  each = λ j b. dite (ℕ_discrete j slot)
      (λ is. subst (λ (k : ℕ). get_or (set words (10 + slot) y) (10 + k) 0 ≡ word_of (get_or (set slots slot new) k None)) (sym is) (get_or-set_same words (10 + slot) y 0 (omega arith) ∙ sym (ap word_of (get_or-set_same slots slot new None (omega arith)))))
      (λ ne. get_or-set_other words (10 + slot) (10 + j) y 0 (λ e. ne (omega arith)) ∙ (h.each j b ∙ sym (ap word_of (get_or-set_other slots slot j new None ne))));
}

-- the words, where one slot changes, whatever the lists of alarms become
pub shows_slot : (m n : Reading) (words : List ℕ) (slot : ℕ) (new : Option Alarm) → WordsShow m words → slot < 16 → Fits new → n.gauges ≡ m.gauges → n.clock ≡ m.clock → n.slots ≡ set m.slots slot new → WordsShow n (set words (10 + slot) (word_of new))
shows_slot m n words slot new h below fits gauges clock slots = let y : ℕ = word_of new in record {
  wide = length-set words (10 + slot) y ∙ h.wide;
  eight = ap length gauges ∙ h.eight;
  gauges = λ g b. get_or-set_other words (10 + slot) (1 + g) y 0 (λ e. omega arith) ∙ (h.gauges g b ∙ (λ i. get_or (sym gauges i) g 0));
  clock = get_or-set_other words (10 + slot) 9 y 0 (λ e. omega arith) ∙ (h.clock ∙ sym clock);
  bounded = subst (λ (z : ℕ). z < 4294967296) (sym clock) h.bounded;
  slots = subst (λ z. SlotsShow z (set words (10 + slot) y)) (sym slots) (slots_changed m.slots words slot new h.slots h.wide below fits);
}
