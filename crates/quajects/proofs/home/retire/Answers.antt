use Rattle.quajects.proofs.Common.{ℕ, subst, IsHome}
use Rattle.quajects.proofs.Homing.{came_home}
use Rattle.quajects.proofs.home.retire.Goals as goal

pub returns-clause-home : goal.returns-clause-home
returns-clause-home c = let closed = c.in_ok-closed.closed in
    came_home _ _ _ _ _ closed.left.items closed.quaject c.home_of.result c.in_ok-closed.ensures.closed
    (subst (λ (z : ℕ). IsHome closed.quaject closed.put z c.home_of.result) c.len.ensures.value c.home_of.ensures)
