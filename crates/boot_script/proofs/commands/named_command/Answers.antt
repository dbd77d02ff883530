use Rattle.boot_script.proofs.Common.{◌≡◌, ap, sym, ◌∙◌, get_or, bytes_eq, command_word, commands}
use Rattle.boot_script.specs.declared.commands.Command.TheVariants.{Queue}
use Rattle.boot_script.proofs.LineWords.Named.{named_more, named_here, named_nowhere}
use Rattle.boot_script.proofs.commands.named_command.Goals as goal

pub loop-command-preserved : goal.loop-command-preserved
unfolding commands
loop-command-preserved c =
    let w : c.word.result.now ≡ command_word (get_or commands c.loop-command.command-index Queue) = c.word.ensures in
    let other = ap (bytes_eq c.args.word.now) (sym w) ∙ (sym c.eq.ensures ∙ c.if-eq.false) in
    sym (named_more c.args.word.now commands c.loop-command.command-index Queue c.loop-command-test.true other) ∙ c.loop-command.invariant

pub returns-then-eq-clause-result : goal.returns-then-eq-clause-result
unfolding commands
returns-then-eq-clause-result c =
    let w : c.word.result.now ≡ command_word (get_or commands c.loop-command.command-index Queue) = c.word.ensures in
    let same = ap (bytes_eq c.args.word.now) (sym w) ∙ (sym c.eq.ensures ∙ c.if-eq.true) in
    sym (named_here c.args.word.now commands c.loop-command.command-index Queue c.loop-command-test.true same) ∙ c.loop-command.invariant

pub returns-clause-result : goal.returns-clause-result
unfolding commands
returns-clause-result c = sym (named_nowhere c.args.word.now commands c.loop-command.command-index c.loop-command-test.false) ∙ c.loop-command.invariant
