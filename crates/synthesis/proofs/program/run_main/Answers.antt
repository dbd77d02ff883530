use Rattle.std.proofs.Common.{◌≡◌, ◌≢◌, ◌⊎◌, inl, inr, sym, ap, subst, ◌∙◌}
use Rattle.synthesis.proofs.Exiting.{reported}
use Rattle.synthesis.proofs.program.run_main.Goals as goal

pub returns-clause-usage : goal.returns-clause-usage
returns-clause-usage g c = λ none.
    let exit = c.run_on-outcome.ensures.usage none in (
      c.status_of-status.ensures ∙ exit.0,
      reported g.E.Handover.gone g.E.Sink.fails g.E.Write.contents _ c.args.errors c.run_on-outcome.new.errors _ _ c.let_go-3.ensures exit c.run_on-outcome.ensures.reported,
    )

pub returns-clause-untouched : goal.returns-clause-untouched
returns-clause-untouched g c = λ none.
    let same = c.run_on-outcome.ensures.untouched none in
    ((c.run_on-outcome.new.reader, c.let_go.ensures, same.0), (c.run_on-outcome.new.writer, c.let_go-2.ensures, same.1))

pub returns-clause-replay : goal.returns-clause-replay
returns-clause-replay g c = λ asked.
    let ran = c.run_on-outcome.ensures.replay asked in (
      ran.0,
      (c.run_on-outcome.new.reader, c.let_go.ensures, (c.run_on-outcome.new.writer, c.let_go-2.ensures, (ran.1, ran.2, ran.3))),
      c.status_of-status.ensures ∙ ran.4.0,
      reported g.E.Handover.gone g.E.Sink.fails g.E.Write.contents _ c.args.errors c.run_on-outcome.new.errors _ _ c.let_go-3.ensures ran.4 c.run_on-outcome.ensures.reported,
    )

pub returns-clause-boot : goal.returns-clause-boot
returns-clause-boot g c = λ processors turns asked.
    let ran = c.run_on-outcome.ensures.boot processors turns asked in (
      ran.0,
      c.run_on-outcome.result.booted,
      (c.run_on-outcome.new.reader, c.let_go.ensures, (c.run_on-outcome.new.writer, c.let_go-2.ensures, (ran.1, ran.2, ran.3))),
      c.status_of-status.ensures ∙ ran.4.0,
      reported g.E.Handover.gone g.E.Sink.fails g.E.Write.contents _ c.args.errors c.run_on-outcome.new.errors _ _ c.let_go-3.ensures ran.4 c.run_on-outcome.ensures.reported,
    )

pub returns-clause-error : goal.returns-clause-error
returns-clause-error g c = λ five. (
  c.run_on-outcome.new.reader,
  c.let_go.ensures,
  (c.run_on-outcome.new.writer, c.let_go-2.ensures, c.run_on-outcome.ensures.error (sym c.status_of-status.ensures ∙ five)),
)
