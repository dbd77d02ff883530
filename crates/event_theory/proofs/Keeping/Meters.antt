-- Each event of the meters keeps lawful meters.
use Rattle.std.proofs.Common.{◌≡◌, ℕ, ◌+◌, ◌%◌, ◌<◌, true, cond, List, [], ◌∷◌, ◌++◌, ◌∙◌, length, set, get_or, refl, ap, subst, arith, Option, Some, None, slice_get, eqb, ltb, Ok, count_by, position, ok_or}
use Rattle.std.proofs.lemmas.List.Sums.{sum_by-set, sum_by_push}
use Rattle.std.proofs.lemmas.List.Quantifiers.{position-Some}
use Rattle.std.proofs.lemmas.Option.{slice_get_within, get_or_from_slice_get}
use Rattle.event_theory.specs.Meters.{Meters, first_meters, tick, advance, is_empty, set_alarm, standing, fire, cancel}
use Rattle.event_theory.specs.Results.{refused_if, at, change_at}
use Rattle.event_theory.specs.declared.alarm.Alarm.{Alarm}
use Rattle.event_theory.specs.declared.refusal.Refusal.TheVariants.{UnknownName, Full, NotRaised}
use Rattle.event_theory.specs.Lawful.{IsLawfulMeters, is_alarm, stands}
use Rattle.event_theory.proofs.Lists.Inversions.{then_ok, test_ok, given_ok, some_ok}

pub first_meters_law : IsLawfulMeters first_meters
first_meters_law alarm = refl

pub tick_law : (gauge amount : ℕ) (m n : Meters) → IsLawfulMeters m → tick gauge amount m ≡ Ok n → IsLawfulMeters n
tick_law gauge amount m n lawful ok =
    let h = then_ok (change_at gauge (λ value. Ok ((value + amount) % 18446744073709551616)) m.gauges) (λ gauges. Ok (record m { gauges = gauges })) n ok in
    subst IsLawfulMeters (given_ok (record m { gauges = h.0 }) n h.2) lawful

pub advance_law : (m n : Meters) → IsLawfulMeters m → advance m ≡ Ok n → IsLawfulMeters n
advance_law m n lawful ok =
    let h = test_ok (eqb m.clock 4294967295) Full _ n ok in
    subst IsLawfulMeters (given_ok (record m { clock = m.clock + 1 }) n h.1) lawful

-- the alarms in the slots after a change of one slot
slots_set : (alarm : Alarm) (slots : List (Option Alarm)) (slot : ℕ) (old new : Option Alarm) → slot < length slots → get_or slots slot None ≡ old
    → count_by (stands alarm) (set slots slot new) + cond (stands alarm old) 1 0 ≡ count_by (stands alarm) slots + cond (stands alarm new) 1 0
slots_set alarm slots slot old new within was =
    subst (λ x. count_by (stands alarm) (set slots slot new) + cond (stands alarm x) 1 0 ≡ count_by (stands alarm) slots + cond (stands alarm new) 1 0) was
    (sum_by-set (λ x. cond (stands alarm x) 1 0) slots slot new None within)

one_more : (alarm other : Alarm) (alarms : List Alarm) → count_by (is_alarm alarm) (alarms ++ other ∷ []) ≡ count_by (is_alarm alarm) alarms + cond (is_alarm alarm other) 1 0
one_more alarm other alarms = sum_by_push (λ x. cond (is_alarm alarm x) 1 0) alarms other

none_stands : (alarm : Alarm) (found : Option Alarm) → is_empty found ≡ true → ◌≡◌ {A = ℕ} (cond (stands alarm found) 1 0) 0
none_stands alarm None h = refl
none_stands alarm (Some other) h = absurd (cc)

-- the meters with an alarm set in a slot, or taken out of one
abbrev put_in : Alarm → ℕ → Meters → Meters
put_in alarm slot m = record m { slots = set m.slots slot (Some alarm); set = m.set ++ alarm ∷ [] }

abbrev fired_from : Alarm → ℕ → Meters → Meters
fired_from alarm slot m = record m { slots = set m.slots slot None; fired = m.fired ++ alarm ∷ [] }

abbrev cancelled_from : Alarm → ℕ → Meters → Meters
cancelled_from alarm slot m = record m { slots = set m.slots slot None; cancelled = m.cancelled ++ alarm ∷ [] }

put_lawful : (alarm : Alarm) (slot : ℕ) (m : Meters) → IsLawfulMeters m → slot < length m.slots → is_empty (get_or m.slots slot None) ≡ true → IsLawfulMeters (put_in alarm slot m)
put_lawful alarm slot m lawful within empty a =
    omega (arith, lawful a, one_more a alarm m.set, slots_set a m.slots slot _ (Some alarm) within refl, none_stands a (get_or m.slots slot None) empty)

-- the alarm that was in a slot is counted once where it goes
out_of : (alarm other : Alarm) (slots : List (Option Alarm)) (slot : ℕ) → slice_get slots slot ≡ Some (Some other)
    → count_by (stands alarm) (set slots slot None) + cond (is_alarm alarm other) 1 0 ≡ count_by (stands alarm) slots
out_of alarm other slots slot found =
    omega (arith, slots_set alarm slots slot (Some other) None (slice_get_within slots slot (Some other) found) (get_or_from_slice_get slots slot (Some other) None found))

fired_lawful : (alarm : Alarm) (slot : ℕ) (m : Meters) → IsLawfulMeters m → slice_get m.slots slot ≡ Some (Some alarm) → IsLawfulMeters (fired_from alarm slot m)
fired_lawful alarm slot m lawful found a = omega (arith, lawful a, one_more a alarm m.fired, out_of a alarm m.slots slot found)

cancelled_lawful : (alarm : Alarm) (slot : ℕ) (m : Meters) → IsLawfulMeters m → slice_get m.slots slot ≡ Some (Some alarm) → IsLawfulMeters (cancelled_from alarm slot m)
cancelled_lawful alarm slot m lawful found a = omega (arith, lawful a, one_more a alarm m.cancelled, out_of a alarm m.slots slot found)

-- the alarm that was found is in the slot
pub standing_ok : (slot : ℕ) (m : Meters) (alarm : Alarm) → standing slot m ≡ Ok alarm → slice_get m.slots slot ≡ Some (Some alarm)
standing_ok slot m alarm ok =
    let h = then_ok (at slot m.slots) (λ found. ok_or found UnknownName) alarm ok in
    some_ok (slice_get m.slots slot) UnknownName h.0 h.1 ∙ ap Some (some_ok h.0 UnknownName alarm h.2)

pub set_alarm_law : (alarm : Alarm) (m n : Meters) → IsLawfulMeters m → set_alarm alarm m ≡ Ok n → IsLawfulMeters n
set_alarm_law alarm m n lawful ok =
    let h = then_ok (ok_or (position is_empty m.slots) Full) (λ slot. Ok (put_in alarm slot m)) n ok in
    let place = position-Some is_empty m.slots h.0 None (some_ok (position is_empty m.slots) Full h.0 h.1) in
    subst IsLawfulMeters (given_ok (put_in alarm h.0 m) n h.2) (put_lawful alarm h.0 m lawful place.0 place.1)

pub fire_law : (slot : ℕ) (m n : Meters) → IsLawfulMeters m → fire slot m ≡ Ok n → IsLawfulMeters n
fire_law slot m n lawful ok =
    let h = then_ok (standing slot m) (λ alarm. refused_if (ltb m.clock alarm.due) NotRaised (Ok (fired_from alarm slot m))) n ok in
    let due = test_ok (ltb m.clock h.0.due) NotRaised _ n h.2 in
    subst IsLawfulMeters (given_ok (fired_from h.0 slot m) n due.1) (fired_lawful h.0 slot m lawful (standing_ok slot m h.0 h.1))

pub cancel_law : (slot : ℕ) (m n : Meters) → IsLawfulMeters m → cancel slot m ≡ Ok n → IsLawfulMeters n
cancel_law slot m n lawful ok =
    let h = then_ok (standing slot m) (λ alarm. Ok (cancelled_from alarm slot m)) n ok in
    subst IsLawfulMeters (given_ok (cancelled_from h.0 slot m) n h.2) (cancelled_lawful h.0 slot m lawful (standing_ok slot m h.0 h.1))
