use Rattle.proc_chain.proofs.Common.{slots_items}
use Rattle.proc_chain.proofs.Closing.{read_some, read_none}
use Rattle.proc_chain.proofs.close.read_at.Goals as goal

pub returns-then-word-position : goal.returns-then-word-position
returns-then-word-position g c = read_some (slots_items c.args.closed.now.words) c.args.position _ _ _ _ c.place_word.ensures c.word.ensures c.of-word.ensures.0 c.of-word.ensures.1 c.if-word-position.true

pub returns-else-word-position : goal.returns-else-word-position
returns-else-word-position g c = read_none (slots_items c.args.closed.now.words) c.args.position _ _ _ c.place_word.ensures c.word.ensures c.of-word.ensures.0 c.if-word-position.false
