-- Turns of a worker, by the steps of its holder, and what comes of them.
use Rattle.std.specs.Prelude.{◌≡◌, ℕ, zero, suc, ◌⊎◌, List, length}
use Rattle.batch_queue.specs.declared.refusals.PutRefusal.{PutRefusal}
use Rattle.batch_queue.specs.declared.refusals.TakeRefusal.{TakeRefusal}
use Rattle.batch_queue.specs.Evidence.{IsPut, RefusedPut, RefusedTakeSome, TookSome}
use Rattle.batch_queue.specs.Own.{View}
use Rattle.pool.specs.declared.pool.Holder.{Holder}
use Rattle.pool.specs.declared.pool.Pool.{Pool}
use Rattle.pool.specs.Handles.{view_of, room_of, IsHolderOf, HoldsSame, SameShare}

-- so many tries in a row to put this many buffers were refused, each by its own steps
abbrev pub RefusedPuts : ℕ → ℕ → ℕ → View → View → Type 0
RefusedPuts room count zero v w = w ≡ v
RefusedPuts room count (suc tries) v w =
    (u : View) × (r : PutRefusal) × RefusedPuts room count tries v u × RefusedPut room u count r w

-- after some refused tries these buffers were put, as one batch
abbrev pub GaveBack : ℕ → List ℕ → View → View → Type 0
GaveBack room buffers v w = (tries start : ℕ) × (u : View) × RefusedPuts room (length buffers) tries v u
    × IsPut room u start buffers w

-- a turn of at most so many buffers: its one try to acquire was refused, or what it acquired was given back
abbrev pub Turned : ℕ → ℕ → View → View → Type 0
Turned room most v w = ((r : TakeRefusal) × RefusedTakeSome room v most r w)
    ⊎ ((buffers : List ℕ) × (u : View) × TookSome room v most buffers u × GaveBack room buffers u w)

-- so many turns, one after another
abbrev pub TurnsOf : ℕ → ℕ → ℕ → View → View → Type 0
TurnsOf room most zero v w = w ≡ v
TurnsOf room most (suc turns) v w = (u : View) × TurnsOf room most turns v u × Turned room most u w

-- the worker gave back a holder of the pool, which holds the buffers that it held before and has the share that it had.
-- The steps that the holder made meanwhile are those of so many turns, of at most so many buffers each
abbrev pub Works : ℕ → ℕ → Pool → Holder → Holder → Type 0
Works turns most pool holder back = IsHolderOf pool back × HoldsSame holder back × SameShare holder back
    × TurnsOf (room_of pool) most turns (view_of holder) (view_of back)
