-- One end of a list of queue ends is used.
use Rattle.turn_io.proofs.Common.{◌≡◌, ℕ, ◌<◌, List, length, get_or, set, sym, subst, ◌∙◌, arith, QueueEnd, queue_table, end_table, end_call, AreSameEnds, OnEnd, with_items, AreEndsOf}
use Rattle.std.specs.Global.{Vec}
use Rattle.claim_queue.specs.Plain.{ClaimQueue}
use Rattle.claim_queue.specs.Handles.{IsEndOf, IsSameEnd}
use Rattle.turn_io.proofs.Places.{same_at, as_long, same_ends, on_end}

module _ {n : ℕ} where
  pub its_end : (queues : List (ClaimQueue n)) (ends : List (QueueEnd n)) (q : ℕ) (queue : ClaimQueue n) (end : QueueEnd n) → AreEndsOf queues ends → q < length queues → end ≡ get_or ends q end → queue ≡ get_or queues q queue → IsEndOf queue end
  its_end queues ends q queue end fit below is is' = same_at end_table queue_table ends queues fit q below end queue is is'

  pub in_ends : (queues : List (ClaimQueue n)) (ends : List (QueueEnd n)) (q : ℕ) → AreEndsOf queues ends → q < length queues → q < length ends
  in_ends queues ends q fit below = let long = as_long end_table queue_table ends queues fit in omega arith

  module _ (queues : List (ClaimQueue n)) (ends : List (QueueEnd n)) (q : ℕ) (end after : QueueEnd n) (fit : AreEndsOf queues ends) (is : end ≡ get_or ends q end) where
    pub ends_same : IsSameEnd end after → AreSameEnds ends (set ends q after)
    ends_same same = same_ends ends q end after is end_table end_call same

    pub ends_fit : IsSameEnd end after → AreEndsOf queues (set ends q after)
    ends_fit same = (ends_same same).tables ∙ fit

    pub used_at : (Does : QueueEnd n → QueueEnd n → Type 0) → q < length queues → Does end after → OnEnd q Does ends (set ends q after)
    used_at Does below does = on_end ends q end after is Does (in_ends queues ends q fit below) does

  -- the same in a vector, of which `list` are the items
  module _ (queues : List (ClaimQueue n)) (ends : Vec (QueueEnd n)) (list : List (QueueEnd n)) (q : ℕ) (end : QueueEnd n) (are : list ≡ ends.items) (fit : AreEndsOf queues ends.items) (is : end ≡ get_or list q end) where
    fits : AreEndsOf queues list
    fits = subst (AreEndsOf queues) (sym are) fit

    pub vec_end : (queue : ClaimQueue n) → q < length queues → queue ≡ get_or queues q queue → IsEndOf queue end
    vec_end queue below is' = its_end queues list q queue end fits below is is'

    module _ (after : QueueEnd n) (now : (with_items ends (set list q after)).items ≡ set list q after) where
      pub vec_same : IsSameEnd end after → AreSameEnds ends.items (with_items ends (set list q after)).items
      vec_same same = subst (λ z. AreSameEnds z (with_items ends (set list q after)).items) are (subst (AreSameEnds list) (sym now) (ends_same queues list q end after fits is same))

      pub vec_used : (Does : QueueEnd n → QueueEnd n → Type 0) → q < length queues → Does end after → OnEnd q Does ends.items (with_items ends (set list q after)).items
      vec_used Does below does = subst (λ z. OnEnd q Does z (with_items ends (set list q after)).items) are (subst (OnEnd q Does list) (sym now) (used_at queues list q end after fits is Does below does))
