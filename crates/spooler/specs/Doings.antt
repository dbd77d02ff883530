-- The work of a producer and of a taker at their ends of the queue.
use Rattle.std.specs.Prelude.{◌≡◌, ℕ, true, List, ◌++◌, length}
use Rattle.claim_queue.specs.Own.{View}
use Rattle.claim_queue.specs.Lines.{lines_put, lines_taken}
use Rattle.claim_queue.specs.Orders.{ClaimsInOrder, TakesInOrder}

-- the end put these lines, one after the other, and took none
pub record HasPut (lines : List (List ℕ)) (v w : View) : Type 0 where
  pub puts : lines_put w ≡ lines_put v ++ lines
  pub takes : lines_taken w ≡ lines_taken v
  pub order : ClaimsInOrder v → ClaimsInOrder w
  pub share : w.member.share ≡ v.member.share

-- the end put none, and has the share that it had
pub record KeepsPuts (v w : View) : Type 0 where
  pub puts : lines_put w ≡ lines_put v
  pub share : w.member.share ≡ v.member.share

-- the end took these lines, one after the other, and then found the queue shut and all lines taken
pub record HasTaken (lines : List (List ℕ)) (v w : View) : Type 0 where
  pub takes : lines_taken w ≡ lines_taken v ++ lines
  pub order : TakesInOrder v → TakesInOrder w
  pub shut : w.seen.object.shut ≡ true
  pub all : w.seen.object.taken ≡ length w.seen.object.places
