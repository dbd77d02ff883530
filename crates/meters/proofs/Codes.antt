-- A word gives back the alarm that it was made of.
use Rattle.meters.proofs.Common.{◌≡◌, ℕ, ◌+◌, ◌%◌, ◌<◌, refl, sym, ap, ◌∙◌, arith, Option, Some, None, Alarm, word_of, alarm_in, IsInRange, Fits}
use Rattle.std.proofs.Common.{◌*◌, ◌/◌}

parts : (s e d : ℕ) → s < 16 → e < 64 → d < 4294967296 → ((9223372036854775808 + s * 1099511627776 + e * 4294967296 + d) % 4294967296 ≡ d)
    × ((9223372036854775808 + s * 1099511627776 + e * 4294967296 + d) / 4294967296 % 256 ≡ e) × ((9223372036854775808 + s * 1099511627776 + e * 4294967296 + d) / 1099511627776 % 256 ≡ s)
parts s e d hs he hd = (omega arith, omega arith, omega arith)

pub given_back : (alarm : Alarm) → IsInRange alarm → alarm_in (word_of (Some alarm)) ≡ alarm
given_back alarm range = let p = parts alarm.signal alarm.element alarm.due range.signal range.element range.due in (λ i. record { due = p.0 i; element = p.1 i; signal = p.2 i })

pub no_word : (slot : Option Alarm) → word_of slot ≡ 0 → slot ≡ None
no_word None e = refl
no_word (Some alarm) e = absurd (omega arith)

-- two slots with the same word say the same
pub one_word : (slot : Option Alarm) (alarm : Alarm) → Fits slot → IsInRange alarm → word_of slot ≡ word_of (Some alarm) → slot ≡ Some alarm
one_word None alarm fits range e = absurd (omega arith)
one_word (Some other) alarm fits range e = ap Some (sym (given_back other fits) ∙ (ap alarm_in e ∙ given_back alarm range))

pub same_alarm : (a b : Alarm) → IsInRange a → IsInRange b → word_of (Some a) ≡ word_of (Some b) → a ≡ b
same_alarm a b ra rb e = sym (given_back a ra) ∙ (ap alarm_in e ∙ given_back b rb)
