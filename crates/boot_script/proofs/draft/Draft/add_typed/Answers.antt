use Rattle.boot_script.proofs.Common.{subst, added, Added}
use Rattle.boot_script.specs.declared.boot_lines.Line.TheVariants.{Types}
use Rattle.boot_script.proofs.draft.Draft.add_typed.Goals as goal

pub returns : goal.returns
returns c = λ version d drawn.
    subst (λ text. Added c.add_text.result c.add_text.new.self (added version (Types c.args.tty text) d)) c.to_text.ensures (c.add_text.ensures version d drawn)
