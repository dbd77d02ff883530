use Rattle.std.proofs.Common.{◌∙◌, refl, sym}
use Rattle.boot_exit.proofs.Causes.{boot_failed}
use Rattle.timeline.proofs.Commands.{one_command}
use Rattle.timeline.proofs.Runs.{caused, viewed_by}
use Rattle.timeline.proofs.program.run_on.Goals as goal

pub returns-in-Some-clause-view : goal.returns-in-Some-clause-view
returns-in-Some-clause-view g c = λ command asked. (
  c.view_on-answer.result,
  viewed_by _ _ _ _ _ _ _ c.in-Some.command command _ _ _ _
      (one_command _ c.in-Some.command command c.in-Some.ensures.some asked)
      c.view_on-answer.ensures.ok c.view_on-answer.ensures.fault c.view_on-answer.ensures.unwritten,
  c.view_on-answer.ensures.trace,
  caused g.R.Source.answers g.W.Sink.fails c.view_on-answer.result c.args.reader.now c.view_on-answer.new.reader c.view_on-answer.new.writer c.view_on-answer.ensures.read c.view_on-answer.ensures.write,
  c.after_boot.ensures.exit,
)

pub returns-in-Some-clause-error : goal.returns-in-Some-clause-error
returns-in-Some-clause-error g c = λ five.
    boot_failed g.R.Source.answers g.W.Sink.fails c.view_on-answer.result c.args.reader.now c.view_on-answer.new.reader c.view_on-answer.new.writer (sym c.after_boot.ensures.exit.0 ∙ five)
    (caused g.R.Source.answers g.W.Sink.fails c.view_on-answer.result c.args.reader.now c.view_on-answer.new.reader c.view_on-answer.new.writer c.view_on-answer.ensures.read c.view_on-answer.ensures.write)

pub returns-in-None-clause-view : goal.returns-in-None-clause-view
returns-in-None-clause-view g c = λ command asked. absurd (c.in-None.ensures.none refl command asked)
