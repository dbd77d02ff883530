use Rattle.boot_script.proofs.Common.{shown, heard_line}
use Rattle.boot_script.proofs.LineWords.KnownBytes.{texts_more}
use Rattle.boot_script.proofs.report_printing.put_heard.Goals as goal

pub loop-number-preserved : goal.loop-number-preserved
loop-number-preserved g c = λ later rest. c.loop-number.invariant later (texts_more heard_line _ _ later c.loop-number.number c.args.heard.now (shown c.line_at.result) c.line_at.ensures c.in_ok-put_line.ensures.effect rest)
