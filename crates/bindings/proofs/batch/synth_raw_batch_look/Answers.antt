use Rattle.bindings.proofs.Calls.{◌≡◌, refl, ap, subst, pos, Some, HoldsSome, of_kind, batch_in, at_value}
use Rattle.batch_queue.specs.declared.look.QueueLook.{QueueLook}
use Rattle.bindings.specs.BatchHeld.{found_by, WasLookedAt}
use Rattle.bindings.proofs.batch.synth_raw_batch_look.Goals as goal

pub returns-clause-looked : goal.returns-clause-looked
returns-clause-looked c = let y = c.look.new.self in
    at_value (λ x. HoldsSome (Some y) (λ z. WasLookedAt (found_by c.report.result) x z × (pos 0 ≡ pos 0)))
    (ap (of_kind batch_in) c.in-Some.ensures.value)
    (y, refl, (subst (λ (q : QueueLook). WasLookedAt q c.in-Some.held.now y) c.report.ensures c.look.ensures, refl))
