use Rattle.synthesis.proofs.Words.{asked, asked_nothing, three_words}
use Rattle.synthesis.proofs.command.command_of.Goals as goal

pub returns-in-len3-clause-asks : goal.returns-in-len3-clause-asks
returns-in-len3-clause-asks c =
    let e = three_words c.args.words.now _ _ c.eq.result c.in-len3.len_at_least c.in-len3.len_below c.eq.ensures c.if-eq.true in
    asked _ _ _ c.boot_of.result e c.boot_of.ensures.asks

pub returns-in-len3-clause-none : goal.returns-in-len3-clause-none
returns-in-len3-clause-none c =
    let e = three_words c.args.words.now _ _ c.eq.result c.in-len3.len_at_least c.in-len3.len_below c.eq.ensures c.if-eq.true in
    asked_nothing _ _ _ c.boot_of.result e c.boot_of.ensures.none
