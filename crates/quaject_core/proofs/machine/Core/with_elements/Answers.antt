use Rattle.quaject_core.proofs.Common.{sym, subst, IsLawful, first_law}
use Rattle.quaject_core.proofs.Stored.Past.{first_history}
use Rattle.quaject_core.proofs.machine.Core.with_elements.Goals as goal

pub invariant_of-result : goal.invariant_of-result
invariant_of-result c = record { lawful = subst IsLawful (sym c.in_ok-new.ensures) (first_law c.args.elements); history = first_history c.args.elements _ c.in_ok-new.ensures }
