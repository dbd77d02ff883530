-- The parts of a hand that a taking, a move, a mark or a look leaves unchanged.
use Rattle.std.specs.Prelude.{◌≡◌}
use Rattle.thread_table.specs.Own.{View}

-- the hand keeps the processors that it serves, the elements on them, and its share
pub record Keeps (v w : View) : Type 0 where
  pub first : w.own.first ≡ v.own.first
  pub serves : w.own.serves ≡ v.own.serves
  pub on : w.own.on ≡ v.own.on
  pub share : w.member.share ≡ v.member.share

-- the hand keeps all that, holds what it held, and made no event
pub record Stays (v w : View) : Type 0 where
  pub keeps : Keeps v w
  pub held : w.own.held ≡ v.own.held
  pub made : w.own.made ≡ v.own.made
