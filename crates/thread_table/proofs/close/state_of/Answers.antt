use Rattle.thread_table.proofs.Common.{sym, slots_items, state_word}
use Rattle.thread_table.proofs.Closing.Locating.{read_there}
use Rattle.thread_table.proofs.close.state_of.Goals as goal

pub returns : goal.returns
returns c = sym (read_there (slots_items c.args.closed.now.words) c.state_word.result (state_word c.args.element) c.word.result c.state_word.ensures.0 c.word.ensures)
