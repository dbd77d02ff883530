use Rattle.boot_script.proofs.Common.{◌≡◌, drop, boot_words, word_named}
use Rattle.boot_script.proofs.boot_words.named_word.Given as goal

-- The word is still to be found among the words that are left.
abbrev pub invariant-loop-known : goal.invariant-loop-known
invariant-loop-known l = word_named l.word (drop l.known-index boot_words) ≡ word_named l.word boot_words
