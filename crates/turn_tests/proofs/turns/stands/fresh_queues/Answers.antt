use Rattle.std.proofs.Common.{ℕ, List, [], ◌∷◌, zero, suc, refl, ap, arith}
use Rattle.std.specs.List.{All, AllZip}
use Rattle.claim_queue.specs.Plain.{ClaimQueue}
use Rattle.claim_queue.specs.declared.ends.QueueEnd.{QueueEnd}
use Rattle.claim_queue.specs.Own.{View}
use Rattle.quajects.specs.Worlds.{IsFresh}
use Rattle.turn_io.specs.EndLists.{AreEndsOf, IsDivisible}
use Rattle.turn_tests.proofs.turns.stands.fresh_queues.Goals as goal

module _ {n : ℕ} where
  -- the ends are those of the queues
  fresh_ends : (queues : List (ClaimQueue n)) (ends : List (QueueEnd n)) → AllZip IsFresh queues ends → AreEndsOf queues ends
  fresh_ends [] [] h = refl
  fresh_ends [] (e ∷ ends) h = absurd h
  fresh_ends (q ∷ queues) [] h = absurd h
  fresh_ends (q ∷ queues) (e ∷ ends) h = (λ i. h.0.0 i ∷ fresh_ends queues ends h.1 i)

  fresh_share : (queue : ClaimQueue n) (end : QueueEnd n) → IsFresh queue end → IsDivisible end
  fresh_share queue end h = let e = ap (λ (v : View). v.member.share) h.2 in omega (arith, e)

  -- and each has all parts of its queue
  fresh_parts : (queues : List (ClaimQueue n)) (ends : List (QueueEnd n)) → AllZip IsFresh queues ends → All IsDivisible ends
  fresh_parts [] [] h k d low = absurd (omega (arith, low))
  fresh_parts [] (e ∷ ends) h k d low = absurd h
  fresh_parts (q ∷ queues) [] h k d low = absurd h
  fresh_parts (q ∷ queues) (e ∷ ends) h zero d low = fresh_share q e h.0
  fresh_parts (q ∷ queues) (e ∷ ends) h (suc k) d low = fresh_parts queues ends h.1 k d (omega (arith, low))

  fresh_both : (queues : List (ClaimQueue n)) (ends : List (QueueEnd n)) → AllZip IsFresh queues ends → AreEndsOf queues ends × All IsDivisible ends
  fresh_both queues ends h = (fresh_ends queues ends h, fresh_parts queues ends h)

pub returns-clause-small : goal.returns-clause-small
returns-clause-small c = fresh_both c.in_ok-queues.queues.small.items c.in_ok-queues.small.items c.in_ok-queues.ensures.0.1

pub returns-clause-large : goal.returns-clause-large
returns-clause-large c = fresh_both c.in_ok-queues.queues.large.items c.in_ok-queues.large.items c.in_ok-queues.ensures.1.1
