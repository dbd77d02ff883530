use Rattle.boot_script.proofs.Common.{on_ok_weaker, shown}
use Rattle.boot_script.proofs.LineWords.HeardLines.{line_added}
use Rattle.boot_script.proofs.report_printing.add_heard.Goals as goal

pub returns : goal.returns
returns c = on_ok_weaker c.add-3.result (λ added. line_added (shown c.args.line.now) _ _ _ _ _ _ c.in_ok-add.ensures c.in_ok-add-2.ensures c.in_ok-add_step.ensures c.in_ok-add_bytes.ensures added) c.add-3.ensures
