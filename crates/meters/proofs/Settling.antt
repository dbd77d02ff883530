-- The words that closing reads, and its result.
use Rattle.meters.proofs.Common.{◌≡◌, ℕ, suc, ◌+◌, ◌%◌, ◌<◌, cond, List, [], ◌∷◌, ◌++◌, take, drop, length, get_or, get_or-set_same, get_or-set_other, set, sym, refl, ap, ◌∙◌, subst, arith, Option, Some, None, count_by, filter_map-append, dite, ℕ_discrete, get_elem?, Alarm, is_alarm, stands, AbsState, ends_word, word_of, Reading, Shape, Rule, IsLawful, SeatView, ViewsShow, amount_on, times, times_to, Fits, SlotsShow, WordsShow, standing}
use Rattle.std.proofs.Common.{add-zero, take-suc}
use Rattle.std.proofs.Math.Path.{transport}
use Rattle.std.proofs.lemmas.List.Sums.{sum_by-cons}
use mathlib.Core.Option as maybe
use Rattle.atomic_table.specs.Table.{Final, Seen}
use Rattle.table_theory.specs.Ledgers.{Tallied}
use Rattle.table_theory.proofs.Reading.{read_word}
use Rattle.table_theory.proofs.Stepping as ends
use Rattle.meters.specs.Closings.{IsAllOf, ClosedNow}
use Rattle.meters.proofs.Betweens.{shown_gauges}
use Rattle.meters.proofs.Listed.{listed_sole}
use Rattle.meters.proofs.Stepping.{St}

-- the gauges that were read
abbrev pub ReadGauges : List ℕ → ℕ → List ℕ → Type 0
ReadGauges ws n gauges = (j : ℕ) → j < n → get_or gauges j 0 ≡ get_or ws (1 + j) 0

pub gauge_read : (ws gauges : List ℕ) (gauge x : ℕ) → length gauges ≡ 8 → gauge < 8 → ReadGauges ws gauge gauges → get_elem? ws (1 + gauge) ≡ maybe.some x → ReadGauges ws (gauge + 1) (set gauges gauge x)
gauge_read ws gauges gauge x eight below read found j h = dite (ℕ_discrete j gauge)
    (λ is. subst (λ (k : ℕ). get_or (set gauges gauge x) k 0 ≡ get_or ws (1 + k) 0) (sym is) (get_or-set_same gauges gauge x 0 (omega arith) ∙ sym (read_word ws (1 + gauge) x found)))
    (λ ne. get_or-set_other gauges gauge j x 0 ne ∙ read j (omega arith))

-- the alarms that were read
pub slot_read : (ws : List ℕ) (slot x bits : ℕ) (gave : Option Alarm) → slot < 16 → get_elem? ws (10 + slot) ≡ maybe.some x → bits ≡ x → ((s : Option Alarm) → Fits s → bits ≡ word_of s → gave ≡ s) → (slots : List (Option Alarm)) → SlotsShow slots ws → gave ≡ get_or slots slot None
slot_read ws slot x bits gave below found is law slots h = law (get_or slots slot None) (h.fit slot below) (is ∙ (sym (read_word ws (10 + slot) x found) ∙ h.each slot below))

pub read_on : (ws : List ℕ) (slot : ℕ) (items new : List Alarm) (gave : Option Alarm) → slot < 16 → ((slots : List (Option Alarm)) → SlotsShow slots ws → items ≡ standing (take slot slots)) → ((slots : List (Option Alarm)) → SlotsShow slots ws → gave ≡ get_or slots slot None)
    → new ≡ items ++ standing (gave ∷ []) → (slots : List (Option Alarm)) → SlotsShow slots ws → new ≡ standing (take (slot + 1) slots)
read_on ws slot items new gave below read found is slots h = let sixteen = h.sixteen in
    is ∙ ((λ i. read slots h i ++ standing (found slots h i ∷ [])) ∙ (sym (filter_map-append (λ s. s) (take slot slots) (get_or slots slot None ∷ [])) ∙ ap standing (sym (taken_more slots slot None (omega arith)))))
  where
    taken_more : (xs : List (Option Alarm)) (i : ℕ) (d : Option Alarm) → i < length xs → take (i + 1) xs ≡ take i xs ++ get_or xs i d ∷ []
    taken_more xs i d lt = let e : i + 1 ≡ suc i = omega arith in (λ k. take (e k) xs) ∙ take-suc xs i d lt

-- the alarms that are in the slots, counted
pub standing_times : (a : Alarm) (slots : List (Option Alarm)) → times a (standing slots) ≡ count_by (stands a) slots
standing_times a [] = refl
standing_times a (None ∷ xs) = standing_times a xs
standing_times a (Some b ∷ xs) = sum_by-cons (λ x. cond (is_alarm a x) 1 0) b (standing xs) ∙ (ap (λ (n : ℕ). cond (is_alarm a b) 1 0 + n) (standing_times a xs) ∙ sym (sum_by-cons (λ x. cond (stands a x) 1 0) (Some b) xs))

-- what one end lists that lists all
all_of : (first : ℕ) (m : Reading) (v : SeatView) → IsLawful m → ViewsShow first m (v ∷ []) → IsAllOf v first m.gauges m.clock (standing m.slots)
all_of first m v lawful h = record {
  sums = λ g b. h.gauges g b ∙ ap (λ (z : ℕ). z % 18446744073709551616) (add-zero (amount_on g v.own.ticks));
  number = h.advances.number ∙ ap (λ (z : ℕ). first + z) (add-zero (length v.own.advances));
  each = λ t past upto. sym (add-zero (times_to t v.own.advances)) ∙ h.advances.once t past upto;
  once = λ a. (let x = lawful a in let p = h.set a in let q = h.fired a in let r = h.cancelled a in let t = standing_times a m.slots in omega arith);
}

-- the clock that was read fits a tick
pub clock_fits : (key : Shape) (w : SeatView) (id : ℕ) (ws : List ℕ) (xs : List Unit) (clock : ℕ) → Final (Seen (Rule key) id w) ws xs → get_elem? ws 9 ≡ maybe.some clock → clock < 4294967296
clock_fits key w id ws xs clock fin read = let k = fin.1.0 in let shows : WordsShow k.now.object ws = subst (WordsShow k.now.object) fin.2 k.stands.shows in let is = shows.clock in let b = shows.bounded in let r = read_word ws 9 clock read in omega arith

pub closes : (key : Shape) (v w : SeatView) (found id : ℕ) (ws : List ℕ) (xs : List Unit) (gauges : List ℕ) (clock : ℕ) (alarms : List Alarm) → v.member.ends ≡ 1 → Tallied ends_word v found w → found ≡ 1 → Final (Seen (Rule key) id w) ws xs
    → gauges ≡ take 8 (drop 1 ws) → get_elem? ws 9 ≡ maybe.some clock → ((slots : List (Option Alarm)) → SlotsShow slots ws → alarms ≡ standing slots) → ClosedNow key.clock v gauges clock alarms
closes key v w found id ws xs gauges clock alarms one_end t is fin read_gauges read_clock read_alarms =
    let s : St = fin.0 in let k = fin.1.0 in let at = fin.1.1 in let m : Reading = v.seen.object in let c = ends.closes k.stands id v w at ends_word found t is one_end in
    let shows : WordsShow m ws = subst (WordsShow m) fin.2 (subst (λ (z : AbsState Reading). WordsShow z.object s.words) c.now_is k.stands.shows) in
    let gauges_is : gauges ≡ m.gauges = read_gauges ∙ sym (shown_gauges m ws shows) in let alarms_is : alarms ≡ standing m.slots = read_alarms m.slots shows.slots in let clock_is : clock ≡ m.clock = sym (read_word ws 9 clock read_clock) ∙ shows.clock in
    let listed : ViewsShow key.clock m (v ∷ []) = listed_sole key.clock m s.views id v w (subst (λ (z : AbsState Reading). ViewsShow key.clock z.object s.views) c.now_is k.listed) at (λ i u has ne. (c.idle i u has ne).own) t.made.did in
    let lawful : IsLawful m = subst (λ (z : AbsState Reading). IsLawful z.object) c.now_is k.stands.lawful in record {
      whole = c.whole;
      lawful = lawful;
      listed = listed;
      sole = c.sole;
      joined = c.joined;
      gauges_are = gauges_is;
      clock_is = clock_is;
      alarms_are = alarms_is;
      all = transport (λ i. IsAllOf v key.clock (sym gauges_is i) (sym clock_is i) (sym alarms_is i)) (all_of key.clock m v lawful listed);
    }
