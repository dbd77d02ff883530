use Rattle.timeline.proofs.Runs.{answer_alone}
use Rattle.timeline.proofs.program.run_main.Goals as goal

pub returns-clause-view : goal.returns-clause-view
returns-clause-view g c = λ command asked.
    let viewed = c.run_on-exit.ensures.view command asked in
    (viewed.0, answer_alone _ _ _ _ _ _ _ command _ viewed.0 _ _ viewed.1, viewed.4.0)

pub returns-clause-error : goal.returns-clause-error
returns-clause-error g c = λ five. (c.run_on-exit.new.reader, c.run_on-exit.new.writer, c.run_on-exit.ensures.error five)
