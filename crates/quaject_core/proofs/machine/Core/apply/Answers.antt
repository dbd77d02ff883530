use Rattle.quaject_core.proofs.Common.{stored_state, changed_law}
use Rattle.quaject_core.proofs.Stored.Past.{next_history}
use Rattle.quaject_core.proofs.machine.Core.apply.Goals as goal

pub invariant_of-self : goal.invariant_of-self
invariant_of-self c = record {
  lawful = changed_law c.args.event.now c.apply.result (stored_state c.args.self.now.store) (stored_state c.apply.new.self) c.args.self.now.lawful c.apply.ensures.change;
  history = next_history c.args.event.now c.apply.result (stored_state c.args.self.now.store) (stored_state c.apply.new.self) c.apply.ensures.change c.args.self.now.history;
}
