use Rattle.bindings.proofs.Calls.{◌≡◌, refl, ap, subst, pos, Some, HoldsSome, of_kind, queue_in, at_value}
use Rattle.claim_queue.specs.declared.look.QueueLook.{QueueLook}
use Rattle.bindings.specs.QueueParts.{found_by, LookedAtPart}
use Rattle.bindings.specs.QueueHeld.{AtSize}
use Rattle.bindings.proofs.queue.synth_raw_queue_look.Goals as goal

pub returns-clause-looked : goal.returns-clause-looked
returns-clause-looked c = let y = c.look.new.self in
    let did = subst (λ (q : QueueLook). AtSize (LookedAtPart q) c.in-Some.held.now y) c.report.ensures c.look.ensures in
    at_value (λ x. HoldsSome (Some y) (λ z. AtSize (LookedAtPart (found_by c.report.result)) x z × (pos 0 ≡ pos 0)))
    (ap (of_kind queue_in) c.in-Some.ensures.value) (y, refl, (did, refl))
