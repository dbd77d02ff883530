use Rattle.thread_table.proofs.Common.{arith, ap, sym, ◌≢◌, ◌≤◌, ◌%◌, ◌∙◌, ℕ, slots_items, word_at, place_word, below_more}
use Rattle.thread_table.proofs.Closing.Locating.{read_there, head_read}
use Rattle.thread_table.proofs.places.is_in_ring.Goals as goal

pub returns-then-word-element : goal.returns-then-word-element
returns-then-word-element c =
    let r = head_read (slots_items c.args.closed.now.words) c.args.ring c.word.result c.of-head.result.head c.word-tail.result c.head_word.result c.tail_word.result
    c.head_word.ensures.0 c.tail_word.ensures.0 c.word.ensures c.word-tail.ensures c.of-head.result.mark c.of-head.ensures.0 c.of-head.ensures.1 in
    let w = read_there (slots_items c.args.closed.now.words) c.place_word.result (place_word c.args.ring c.loop-position.position) c.word-in-loop-position.result c.place_word.ensures.0 c.word-in-loop-position.ensures in
    (c.loop-position.position, omega (arith, r, c.loop-position.auto.position), omega (arith, r, c.loop-position-test.true), ap (λ (n : ℕ). n % 256) w ∙ c.if-word-element.true)

pub loop-position-preserved : goal.loop-position-preserved
loop-position-preserved c = below_more (λ (p : ℕ). c.word-tail.result ≤ p → word_at (slots_items c.args.closed.now.words) (place_word c.args.ring p) % 256 ≢ c.args.element) c.loop-position.position c.loop-position.invariant
    (λ from is. c.if-word-element.false (ap (λ (n : ℕ). n % 256) (sym (read_there (slots_items c.args.closed.now.words) c.place_word.result (place_word c.args.ring c.loop-position.position) c.word-in-loop-position.result c.place_word.ensures.0 c.word-in-loop-position.ensures)) ∙ is))

pub returns : goal.returns
returns c = λ is.
    let r = head_read (slots_items c.args.closed.now.words) c.args.ring c.word.result c.of-head.result.head c.word-tail.result c.head_word.result c.tail_word.result
    c.head_word.ensures.0 c.tail_word.ensures.0 c.word.ensures c.word-tail.ensures c.of-head.result.mark c.of-head.ensures.0 c.of-head.ensures.1 in
    c.loop-position.invariant is.0 (omega (arith, r, is.2, c.loop-position-test.false)) (omega (arith, r, is.1)) is.3
