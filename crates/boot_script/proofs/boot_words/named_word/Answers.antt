use Rattle.boot_script.proofs.Common.{◌≡◌, ap, sym, ◌∙◌, get_or, bytes_eq, boot_word, boot_words}
use Rattle.boot_script.specs.declared.boot_words.BootWord.TheVariants.{Queue}
use Rattle.boot_script.proofs.BootScripts.Named.{word_more, word_here, word_nowhere}
use Rattle.boot_script.proofs.boot_words.named_word.Goals as goal

pub loop-known-preserved : goal.loop-known-preserved
unfolding boot_words
loop-known-preserved c =
    let w : c.word.result.now ≡ boot_word (get_or boot_words c.loop-known.known-index Queue) = c.word.ensures in
    let other = ap (bytes_eq c.args.word.now) (sym w) ∙ (sym c.same_word.ensures ∙ c.if-same_word.false) in
    sym (word_more c.args.word.now boot_words c.loop-known.known-index Queue c.loop-known-test.true other) ∙ c.loop-known.invariant

pub returns-then-same_word-clause-result : goal.returns-then-same_word-clause-result
unfolding boot_words
returns-then-same_word-clause-result c =
    let w : c.word.result.now ≡ boot_word (get_or boot_words c.loop-known.known-index Queue) = c.word.ensures in
    let same = ap (bytes_eq c.args.word.now) (sym w) ∙ (sym c.same_word.ensures ∙ c.if-same_word.true) in
    sym (word_here c.args.word.now boot_words c.loop-known.known-index Queue c.loop-known-test.true same) ∙ c.loop-known.invariant

pub returns-clause-result : goal.returns-clause-result
unfolding boot_words
returns-clause-result c = sym (word_nowhere c.args.word.now boot_words c.loop-known.known-index c.loop-known-test.false) ∙ c.loop-known.invariant
