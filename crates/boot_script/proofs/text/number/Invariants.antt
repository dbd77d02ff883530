use Rattle.boot_script.proofs.Common.{◌≡◌, drop, AllDigits, digits_value, digits_value_after}
use Rattle.boot_script.proofs.text.number.Given as goal

-- The digits so far, and those to come, are those of the word.
abbrev pub invariant-loop-byte : goal.invariant-loop-byte
invariant-loop-byte l = record {
  value : digits_value_after 10 l.value (drop l.byte-index l.word) ≡ digits_value 10 l.word;
  digits : AllDigits 10 (drop l.byte-index l.word) → AllDigits 10 l.word;
}
