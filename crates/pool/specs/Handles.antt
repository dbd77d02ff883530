-- Terms in which a clause describes a pool and a holder.
use Rattle.std.specs.Prelude.{◌≡◌, ◌+◌, ◌*◌, ◌<◌, ◌≤◌, ℕ, List}
use Rattle.table_theory.specs.Sharing.{given, kept}
use Rattle.batch_queue.specs.Handles as queues
use Rattle.batch_queue.specs.Own.{View}
use Rattle.pool.specs.declared.pool.Holder.{Holder}
use Rattle.pool.specs.declared.pool.Pool.{Pool}
use Rattle.pool.specs.Buffers.{all_buffers, times}
use Rattle.pool.specs.Holdings as ends
use Rattle.pool.specs.Holdings.{IsStocked, ListsFirst}

-- the view of the holder: the lists of its end
abbrev pub view_of : Holder → View
view_of holder = queues.view_of holder.end

-- how many buffers the pool has
abbrev pub count_of : Pool → ℕ
count_of pool = pool.count

-- how many places the pool's queue has
abbrev pub room_of : Pool → ℕ
room_of pool = queues.room_of pool.queue

-- there is a place for each of so many buffers, and there are less than twice as many places
abbrev pub HasRoomFor : ℕ → ℕ → Type 0
HasRoomFor count room = (count ≤ room) × (room < 2 * count)

-- the holder is an end of the pool's queue, and knows the pool's first batch
abbrev pub IsHolderOf : Pool → Holder → Type 0
IsHolderOf pool holder = queues.IsEndOf pool.queue holder.end × IsStocked pool.count (view_of holder)
    × ListsFirst pool.count (view_of holder)

-- every other holder was joined
abbrev pub IsOnlyHolder : Holder → Type 0
IsOnlyHolder holder = queues.IsOnlyEnd holder.end

-- the holder can be split
abbrev pub IsDivisible : Holder → Type 0
IsDivisible holder = queues.IsDivisible holder.end

-- how often the holder holds the buffer x
abbrev pub held_by : Holder → ℕ → ℕ
held_by holder x = ends.held (view_of holder) x

-- the holder holds these buffers
abbrev pub Holds : Holder → List ℕ → Type 0
Holds holder buffers = ends.Holds (view_of holder) buffers

-- the holder holds no buffer
abbrev pub HoldsNone : Holder → Type 0
HoldsNone holder = (x : ℕ) → held_by holder x ≡ 0

-- the holder holds the buffers that it held before
abbrev pub HoldsSame : Holder → Holder → Type 0
HoldsSame old new = ends.HoldsSame (view_of old) (view_of new)

-- the holder holds these buffers in addition to those that it held before
abbrev pub HoldsMore : List ℕ → Holder → Holder → Type 0
HoldsMore buffers old new = ends.HoldsMore buffers (view_of old) (view_of new)

-- the holder holds the buffers that it held before, except these
abbrev pub HoldsLess : List ℕ → Holder → Holder → Type 0
HoldsLess buffers old new = ends.HoldsLess buffers (view_of old) (view_of new)

-- the holder holds what both held
abbrev pub HoldsBoth : Holder → Holder → Holder → Type 0
HoldsBoth one other new = (x : ℕ) → held_by new x ≡ held_by one x + held_by other x

-- the holder's share of the pool
abbrev pub share_of : Holder → ℕ
share_of holder = (view_of holder).member.share

-- the holder has the share that it had
abbrev pub SameShare : Holder → Holder → Type 0
SameShare old new = share_of new ≡ share_of old

-- a split leaves the holder a part of its share, and gives the new holder the rest
abbrev pub SharesOut : Holder → Holder → Holder → Type 0
SharesOut old new born = (share_of new ≡ kept (share_of old)) × (share_of born ≡ given (share_of old))

-- the buffers that the holder holds, together with the list `left`, are all buffers of a pool of so many, each once
abbrev pub AllThere : ℕ → Holder → List ℕ → Type 0
AllThere count holder left = (x : ℕ) → held_by holder x + times x left ≡ times x (all_buffers count)
