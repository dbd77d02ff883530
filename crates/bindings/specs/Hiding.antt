-- A box on the heap that is held by its pointer alone.
use Rattle.std.specs.Prelude.{Bool, true, false, Option, None, Some}
use Rattle.std.specs.Box.Ownership.{box_owns}
use Rattle.std.specs.declared.alloc.Global.{Global}
use Rattle.std.specs.contracts.impls.GlobalAllocator.TheImpl.{ghosts}
use base.Fml.{Fml, ftrue}
use mir.Syntax.{Ty}
use denote.RawPtr.{Ptr}
use denote.RattleType.{RattleType}

-- the C library's heap; there is only one
abbrev pub the_heap : Global
the_heap = record { memory = record { seal = tt } }

-- the right to free the block at the pointer
abbrev pub may_free : Ty → Ptr → Fml
may_free = ghosts.dealloc_token the_heap

-- if there is a value, its box is at the pointer, and it can be freed to the C library's heap
abbrev pub hides : (R : RattleType) → Ptr → Option R.Denot → Fml
hides R p None = ftrue
hides R p (Some x) = box_owns may_free R p x

-- the option has a value
abbrev pub is_some : {X : Type 0} → Option X → Bool
is_some None = false
is_some (Some x) = true
