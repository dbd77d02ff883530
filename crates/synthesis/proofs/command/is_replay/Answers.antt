use Rattle.synthesis.proofs.Words.{one_word}
use Rattle.synthesis.proofs.command.is_replay.Goals as goal

pub returns-then-words-eq1 : goal.returns-then-words-eq1
returns-then-words-eq1 c = one_word c.args.words.now _ _ c.eq.result c.if-words-eq1.true c.eq.ensures
