-- A hand keeps its share in a call of the library.
pub use Rattle.thread_table.proofs.Hands.Unchanged.{before_keeps, deliver_keeps, move_keeps, notify_keeps, park_keeps}
pub use Rattle.thread_table.proofs.Hands.Unchanged.{signal_keeps, start_keeps, stays_by, stop_keeps, take_keeps}
pub use Rattle.thread_table.proofs.Hands.Unchanged.{ticket_stays, wait_keeps}
pub use Rattle.bindings.specs.HandHeld.{view_of, call_of, HeldHand}
use Rattle.bindings.proofs.Calls.{◌≡◌, ◌∙◌, sym}
use Rattle.thread_table.specs.declared.hand.Hand.{Hand}
use Rattle.thread_table.specs.Keeping.{Keeps}

pub known_after : (x : HeldHand) (y : Hand) → Keeps (view_of x.hand) (view_of y) → x.share.parts ≡ (view_of y).member.share
known_after x y k = x.known ∙ sym k.share
