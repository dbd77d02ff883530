use Rattle.synth_kernel.proofs.Common.{◌≡◌, ◌≢◌, ℕ, BootWithHooks, calls, TornDown}
use Rattle.std.specs.Io.KnownBytes.{Keeps}
use Rattle.boot_script.specs.StreamFaults.{HasRead, IsReadFault, IsWriteFault, LetGo}
use Rattle.synth_kernel.specs.declared.outcome.BootFault.TheVariants.{Read, Write}
use Rattle.synth_kernel.proofs.Answering.{let_go_ok, let_go_fault, same_fault, other_answer}
use Rattle.synth_kernel.proofs.kernel.boot_with.Goals as goal

pub returns-clause-ok : goal.returns-clause-ok
returns-clause-ok g c = let_go_ok c.boot_on_with-answer.result _ c.ended_alone-ended.ensures (λ back closed. BootWithHooks g.R.Witness.ran g.R.Witness.shown (calls g.G.Gate.observes g.G.TurnGate.learns) c.args.turns c.args.gates.items back closed) (g.I.Read.remaining c.args.reader) g.O.Handover.gone g.O.Write.contents (g.O.Write.contents c.args.writer) c.boot_on_with-answer.new.writer c.let_go-2.ensures c.boot_on_with-answer.ensures.ok

pub returns-clause-fault : goal.returns-clause-fault
returns-clause-fault g c = same_fault c.boot_on_with-answer.result _ c.ended_alone-ended.ensures _ c.boot_on_with-answer.ensures.fault

pub returns-clause-unwritten : goal.returns-clause-unwritten
returns-clause-unwritten g c = let_go_fault c.boot_on_with-answer.result _ c.ended_alone-ended.ensures (λ fault. fault ≢ Write → Keeps (g.O.Write.contents c.args.writer) (g.O.Write.contents c.boot_on_with-answer.new.writer)) _ (λ fault kept other. (c.boot_on_with-answer.new.writer, c.let_go-2.ensures, kept other)) c.boot_on_with-answer.ensures.unwritten

pub returns-clause-read : goal.returns-clause-read
returns-clause-read g c = let_go_fault c.boot_on_with-answer.result _ c.ended_alone-ended.ensures (λ fault. fault ≡ Read → IsReadFault g.I.Source.answers c.args.reader c.boot_on_with-answer.new.reader) _ (λ fault cause is. (c.boot_on_with-answer.new.reader, c.let_go.ensures, cause is)) c.boot_on_with-answer.ensures.read

pub returns-clause-trace : goal.returns-clause-trace
returns-clause-trace g c = λ other. (c.boot_on_with-answer.new.reader, c.let_go.ensures, c.boot_on_with-answer.ensures.trace (other_answer c.boot_on_with-answer.result _ c.ended_alone-ended.ensures _ other))

pub returns-clause-write : goal.returns-clause-write
returns-clause-write g c = let_go_fault c.boot_on_with-answer.result _ c.ended_alone-ended.ensures (λ fault. fault ≡ Write → IsWriteFault g.O.Sink.fails c.boot_on_with-answer.new.writer) _ (λ fault cause is. (c.boot_on_with-answer.new.writer, c.let_go-2.ensures, cause is)) c.boot_on_with-answer.ensures.write
