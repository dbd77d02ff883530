-- The ends of a quaject, by its kind.
use Rattle.boot_objects.proofs.Common.{◌≡◌, ℕ, refl, Mover, AnyQuaject, quaject_shares, Large, IsMover}
use Rattle.boot_data.specs.declared.plan.Mover.TheVariants as mover
use Rattle.quajects.specs.declared.any.AnyQuaject.TheVariants as any

-- a pump or switch has no end of a large queue
pub no_large : (m : Mover) (x : AnyQuaject) → IsMover m x → (q : ℕ) → (quaject_shares x).queues (Large q) ≡ 0
no_large (mover.Pump from to) (any.Pump pump) h q = refl
no_large (mover.Pump from to) (any.Switch switch) h q = absurd h
no_large (mover.Pump from to) (any.Cooked tty) h q = absurd h
no_large (mover.Switch from other ways) (any.Switch switch) h q = refl
no_large (mover.Switch from other ways) (any.Pump pump) h q = absurd h
no_large (mover.Switch from other ways) (any.Cooked tty) h q = absurd h
