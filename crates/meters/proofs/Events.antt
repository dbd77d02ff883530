-- The events of the core that the steps are.
use Rattle.meters.proofs.Common.{true≢false, ◌≡◌, ◌≢◌, ℕ, ◌+◌, ◌%◌, ◌<◌, Bool, true, false, cond, List, length, length-set, set, get_or, refl, sym, ap, ◌∙◌, arith, Option, Some, None, Ok, ne_eqb, count_by, dite, Alarm, tick, advance, fire, cancel, is_alarm, stands, Reading, meters_of, IsLawful, in_slot, with_tick, with_advance, with_alarm, with_fired, with_cancelled, IsSet, Happens}
use Rattle.std.proofs.Common.{ok_or, ltb, lt-ltb, position}
use Rattle.std.specs.List.{position_or_len}
use Rattle.std.proofs.lemmas.List.Sums.{sum_by-set, passes_at_first, fails_before_first}
use Rattle.std.proofs.lemmas.Option.{slice_get-get_or}
use native.Mathlib.Decide.{dec_lt}
use Rattle.event_theory.specs.declared.refusal.Refusal.TheVariants.{UnknownName, Full, NotRaised}
use Rattle.event_theory.specs.Meters.{Meters, is_empty, standing}
use Rattle.event_theory.specs.Lawful.{IsLawfulMeters}
use Rattle.event_theory.specs.Results.{◌>>=◌, refused_if}
use Rattle.event_theory.proofs.Keeping.Meters.{tick_law, advance_law, set_alarm_law, fire_law, cancel_law}
use Rattle.meters.specs.Events.{AreAlike, ticked, advanced, was_set, fired, cancelled}

pub tick_is : (m : Reading) (g n : ℕ) → g < length m.gauges → tick g n (meters_of m) ≡ Ok (meters_of (with_tick m g n))
tick_is m g n h = ap (λ (found : Option ℕ). (ok_or found UnknownName >>= (λ value. Ok ((value + n) % 18446744073709551616)) >>= (λ new. Ok (set m.gauges g new))) >>= (λ gauges. Ok (record (meters_of m) { gauges = gauges }))) (slice_get-get_or m.gauges g 0 h)

pub advance_is : (m : Reading) → m.clock ≢ 4294967295 → advance (meters_of m) ≡ Ok (meters_of (with_advance m))
advance_is m ne = ap (λ (last : Bool). refused_if last Full (Ok (meters_of (with_advance m)))) (ne_eqb m.clock 4294967295 ne)

pub standing_is : (m : Reading) (slot : ℕ) (alarm : Alarm) → slot < length m.slots → in_slot m slot ≡ Some alarm → standing slot (meters_of m) ≡ Ok alarm
standing_is m slot alarm within stood = ap (λ (found : Option (Option Alarm)). ok_or found UnknownName >>= (λ x. ok_or x UnknownName)) (slice_get-get_or m.slots slot None within) ∙ ap (λ (x : Option Alarm). ok_or x UnknownName) stood

pub fire_is : (m : Reading) (slot : ℕ) (alarm : Alarm) → slot < length m.slots → in_slot m slot ≡ Some alarm → ltb m.clock alarm.due ≡ false → fire slot (meters_of m) ≡ Ok (meters_of (with_fired m slot alarm))
fire_is m slot alarm within stood due = ap (λ found. found >>= (λ a. refused_if (ltb m.clock a.due) NotRaised (Ok (meters_of (with_fired m slot a))))) (standing_is m slot alarm within stood) ∙ ap (λ (late : Bool). refused_if late NotRaised (Ok (meters_of (with_fired m slot alarm)))) due

pub cancel_is : (m : Reading) (slot : ℕ) (alarm : Alarm) → slot < length m.slots → in_slot m slot ≡ Some alarm → cancel slot (meters_of m) ≡ Ok (meters_of (with_cancelled m slot alarm))
cancel_is m slot alarm within stood = ap (λ found. found >>= (λ a. Ok (meters_of (with_cancelled m slot a)))) (standing_is m slot alarm within stood)

-- a slot that is empty, and the first one
empty_is : (found : Option Alarm) → is_empty found ≡ true → found ≡ None
empty_is None e = refl
empty_is (Some alarm) e = absurd (cc)

below : (slots : List (Option Alarm)) (slot : ℕ) → slot < length slots → get_or slots slot None ≡ None → position_or_len is_empty slots < length slots
below slots slot h e = dite (dec_lt slot (position_or_len is_empty slots))
    (λ before. absurd (true≢false (sym (ap is_empty e) ∙ fails_before_first is_empty slots slot None before)))
    (λ no. omega arith)

-- the slots after a change of one that was empty
slots_set : (alarm : Alarm) (slots : List (Option Alarm)) (slot : ℕ) (new : Option Alarm) → slot < length slots → get_or slots slot None ≡ None
    → count_by (stands alarm) (set slots slot new) ≡ count_by (stands alarm) slots + cond (stands alarm new) 1 0
slots_set alarm slots slot new within was = let s = sum_by-set (λ x. cond (stands alarm x) 1 0) slots slot new None within in let e : ◌≡◌ {A = ℕ} (cond (stands alarm (get_or slots slot None)) 1 0) 0 = ap (λ (x : Option Alarm). cond {A = ℕ} (stands alarm x) 1 0) was in omega arith

pub set_is : (m : Reading) (slot : ℕ) (alarm : Alarm) → slot < length m.slots → in_slot m slot ≡ None → IsSet slot alarm m (with_alarm m slot alarm)
set_is m slot alarm within was = let first : ℕ = position_or_len is_empty m.slots in let lt = below m.slots slot within was in let there : get_or m.slots first None ≡ None = empty_is (get_or m.slots first None) (passes_at_first is_empty m.slots None lt) in
    let found : position is_empty m.slots ≡ Some first = ap (λ (b : Bool). cond b (Some first) None) (lt-ltb first (length m.slots) lt) in record {
      within = within;
      empty = was;
      slots = refl;
      core = meters_of (with_alarm m first alarm);
      event = ap (λ (x : Option ℕ). ok_or x Full >>= (λ k. Ok (meters_of (with_alarm m k alarm)))) found;
      alike = record {
        gauges = refl;
        clock = refl;
        set = refl;
        fired = refl;
        cancelled = refl;
        as_many = length-set m.slots slot (Some alarm) ∙ sym (length-set m.slots first (Some alarm));
        stand = λ a. slots_set a m.slots slot (Some alarm) within was ∙ sym (slots_set a m.slots first (Some alarm) lt there);
      };
    }

-- lawful meters stay lawful
lawful_alike : (m n : Meters) → IsLawfulMeters m → AreAlike m n → IsLawfulMeters n
lawful_alike m n lawful a alarm = (λ i. count_by (is_alarm alarm) (a.set i)) ∙ (lawful alarm ∙ (λ i. count_by (is_alarm alarm) (sym a.fired i) + count_by (is_alarm alarm) (sym a.cancelled i) + sym (a.stand alarm) i))

pub happens_lawful : (m n : Reading) → IsLawful m → Happens m n → IsLawful n
happens_lawful m n l (ticked g a e) = tick_law g a (meters_of m) (meters_of n) l e
happens_lawful m n l (advanced e) = advance_law (meters_of m) (meters_of n) l e
happens_lawful m n l (was_set slot alarm s) = lawful_alike s.core (meters_of n) (set_alarm_law alarm (meters_of m) s.core l s.event) s.alike
happens_lawful m n l (fired slot e) = fire_law slot (meters_of m) (meters_of n) l e
happens_lawful m n l (cancelled slot e) = cancel_law slot (meters_of m) (meters_of n) l e
