use Rattle.std.proofs.Common.{ℕ, Option, sym, subst, ◌∙◌}
use Rattle.std.specs.Result.{result_ok}
use Rattle.synth_kernel.specs.declared.printing.Booted.{Booted}
use Rattle.turn_io.specs.declared.gate.NoGate.{NoGate}
use Rattle.synth_kernel.specs.Boots.{ended_in}
use Rattle.synthesis.specs.Runs.{IsBootedBy}
use Rattle.synthesis.proofs.Boots.{booted_by}
use Rattle.boot_exit.proofs.Causes.{boot_failed}
use Rattle.synthesis.proofs.Causes.{boot_caused, replay_failed, unread}
use Rattle.synthesis.proofs.Words.{asked_of, same_processors, same_turns}
use Rattle.synthesis.proofs.program.run_on.Goals as goal

pub returns-in-Some-Boot-clause-boot : goal.returns-in-Some-Boot-clause-boot
returns-in-Some-Boot-clause-boot g c = λ processors turns asked.
    let ran = g.RT.Witness.ran in
    let shown = g.RT.Witness.shown in
    let read = g.R.Read.remaining c.args.reader.now in
    let old = g.W.Write.contents c.args.writer.now in
    let new = g.W.Write.contents c.boot_on-answer.new.writer in
    let answer = c.boot_on-answer.result in
    let is = asked_of _ c.in-Some-Boot.field-0 c.in-Some-Boot.processors c.in-Some-Boot.turns c.in-Some-Boot.field-0-is c.in-Some-Boot.ensures.asks in (
      ended_in answer,
      subst (λ (z : Option (Booted NoGate)). IsBootedBy ran shown read processors turns (ended_in answer) z old new) (sym c.answer_of_boot.ensures.booted)
          (subst (λ (z : ℕ). IsBootedBy ran shown read processors z (ended_in answer) (result_ok answer) old new) (same_turns _ c.in-Some-Boot.processors c.in-Some-Boot.turns processors turns is asked)
          (subst (λ (z : ℕ). IsBootedBy ran shown read z c.in-Some-Boot.turns (ended_in answer) (result_ok answer) old new) (same_processors _ c.in-Some-Boot.processors c.in-Some-Boot.turns processors turns is asked)
          (booted_by ran shown read c.in-Some-Boot.processors c.in-Some-Boot.turns answer old new c.boot_on-answer.ensures.numbers c.boot_on-answer.ensures.ok c.boot_on-answer.ensures.fault c.boot_on-answer.ensures.unwritten))),
      boot_caused g.R.Source.answers g.W.Sink.fails answer c.args.reader.now c.boot_on-answer.new.reader c.boot_on-answer.new.writer c.boot_on-answer.ensures.read c.boot_on-answer.ensures.write,
      λ h. c.boot_on-answer.ensures.trace (unread answer h),
      c.answer_of_boot.ensures.exit,
    )

pub returns-in-None-clause-boot : goal.returns-in-None-clause-boot
returns-in-None-clause-boot g c = λ processors turns asked. absurd (c.in-None.ensures.none.no_boot processors turns asked)

pub returns-in-Some-Replay-clause-error : goal.returns-in-Some-Replay-clause-error
returns-in-Some-Replay-clause-error g c = λ five.
    let replayed = c.run_replay.ensures.exit in
    replay_failed g.R.Source.answers g.W.Sink.fails replayed.0 c.args.reader.now c.run_replay.new.reader c.run_replay.new.writer (sym replayed.4.0 ∙ five) replayed.2

pub returns-in-Some-Boot-clause-error : goal.returns-in-Some-Boot-clause-error
returns-in-Some-Boot-clause-error g c = λ five.
    let answer = c.boot_on-answer.result in
    boot_failed g.R.Source.answers g.W.Sink.fails (ended_in answer) c.args.reader.now c.boot_on-answer.new.reader c.boot_on-answer.new.writer (sym c.answer_of_boot.ensures.exit.0 ∙ five)
    (boot_caused g.R.Source.answers g.W.Sink.fails answer c.args.reader.now c.boot_on-answer.new.reader c.boot_on-answer.new.writer c.boot_on-answer.ensures.read c.boot_on-answer.ensures.write)
