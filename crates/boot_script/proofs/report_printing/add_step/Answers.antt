use Rattle.boot_script.proofs.Common.{◌++◌, ◌∙◌, ap, arith, on_ok_weaker}
use Rattle.boot_script.proofs.LineWords.HeardLines.{one_digit, two_digits}
use Rattle.boot_script.proofs.report_printing.add_step.Goals as goal

pub returns-then-step-lt10 : goal.returns-then-step-lt10
returns-then-step-lt10 c = on_ok_weaker c.add.result (λ added. added ∙ ap (λ words. c.args.room.now.items ++ words) (one_digit c.args.step (omega arith))) c.add.ensures

pub returns : goal.returns
returns c = on_ok_weaker c.add-2.result (λ added. added ∙ ap (λ words. c.args.room.now.items ++ words) (two_digits c.args.step (omega arith) (omega arith))) c.add-2.ensures
