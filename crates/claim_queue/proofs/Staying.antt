-- What an end's own fields say of its seat after several steps.
use Rattle.claim_queue.proofs.Common.{◌∙◌, View}
use Rattle.atomic_table.specs.Table.{Me}
use Rattle.claim_queue.specs.Steps.{Stays}

pub stays_both : (a b c : Me Unit View) → Stays a b → Stays b c → Stays a c
stays_both a b c s t = (t.0 ∙ s.0, t.1 ∙ s.1, t.2 ∙ s.2, t.3)
