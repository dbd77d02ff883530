use Rattle.quaject_core.proofs.Common.{sym, ap, ◌∙◌, arith, Ok, Result, Queue, shut, Refusal}
use Rattle.quaject_core.proofs.Stored.Parts.{queue_changed}
use Rattle.quaject_core.proofs.store.Store.shut.Goals as goal

abbrev ok : Queue → Result Queue Refusal
ok q = Ok q

pub returns-clause-change : goal.returns-clause-change
returns-clause-change c = queue_changed c.args.self.now c.args.number c.from-number.result (λ q. ok (shut q)) c.index_mut.result.now c.shut.new.self _
    (c.from-number.ensures ∙ c.number.ensures.value) (omega (arith, c.args.self.now.queues.ok)) c.index_mut.ensures.value (ap ok (sym c.shut.ensures))
