-- What a chain is made of, as it is stored.
use Rattle.quaject_core.proofs.Common.{◌≡◌, ℕ, zero, suc, Bool, false, slice_index_or, replicate, refl, ap₂, Option, set_of, Queue, Chain}
use mathlib.Core.Path.{fun_ext}
use Rattle.event_theory.specs.declared.status.Gate.{Gate}

no_mark : (count number : ℕ) → slice_index_or (replicate count false) number false ≡ false
no_mark zero number = refl
no_mark (suc count) zero = refl
no_mark (suc count) (suc number) = no_mark count number

-- no call is marked at first
pub no_marks : (count : ℕ) → set_of (replicate count false) ≡ (λ number. false)
no_marks count = fun_ext (λ number. no_mark count number)

pub same_chain : (gate : Gate) (runner : Option ℕ) (a b : Queue) (f g : ℕ → Bool) → a ≡ b → f ≡ g
    → ◌≡◌ {A = Chain} (record { notes = a; gate = gate; runner = runner; owing = f }) (record { notes = b; gate = gate; runner = runner; owing = g })
same_chain gate runner a b f g notes owing = ap₂ (λ (x : Queue) (y : ℕ → Bool). let c : Chain = record { notes = x; gate = gate; runner = runner; owing = y } in c) notes owing
