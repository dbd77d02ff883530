-- Buffers that an end of the pool's queue holds: by its takings and its puts, as the end itself lists them.
use Rattle.std.specs.Prelude.{◌≡◌, ◌==◌, ℕ, ◌-◌, ◌+◌, ◌<◌, ◌≤◌, Bool, not, List, [], ◌∷◌, map, length, take, drop}
use Rattle.std.specs.List.{concat, filter}
use mathlib.Core.Option.{some}
use lib.ListN.{get_elem?}
use Rattle.table_theory.specs.declared.queues.Batch.{Batch}
use Rattle.table_theory.specs.Lines as lines
use Rattle.batch_queue.specs.Lines.{line_of, lines_put, lines_taken, PutLine}
use Rattle.batch_queue.specs.Own.{View}
use Rattle.pool.specs.Buffers.{all_buffers, times}

-- the batch is not the queue's first, by which the pool put all of its buffers
abbrev pub is_later : Batch → Bool
is_later batch = not (batch.start == 0)

-- the buffers that the end took, one after the other
abbrev pub acquired : View → List ℕ
acquired v = concat (lines_taken v)

-- the buffers that the end put back: all that it put, except the pool's first batch
abbrev pub released : View → List ℕ
released v = concat (map line_of (filter is_later v.own.runs))

-- how often the end holds the buffer x: the number of times it took x, less the number of times it put x back
abbrev pub held : View → ℕ → ℕ
held v x = times x (acquired v) - times x (released v)

-- the end put back no buffer more often than it took it, and it never shut the queue
abbrev pub IsFair : View → Type 0
IsFair v = ((x : ℕ) → times x (released v) ≤ times x (acquired v)) × (v.own.shuts ≡ 0)

-- the end holds these buffers, each at least as often as it is among them
abbrev pub Holds : View → List ℕ → Type 0
Holds v buffers = (x : ℕ) → times x buffers ≤ held v x

-- the end holds each buffer as often as before
abbrev pub HoldsSame : View → View → Type 0
HoldsSame v w = (x : ℕ) → held w x ≡ held v x

-- the end holds these buffers in addition to those that it held before
abbrev pub HoldsMore : List ℕ → View → View → Type 0
HoldsMore buffers v w = (x : ℕ) → held w x ≡ held v x + times x buffers

-- the end holds the buffers that it held before, except these
abbrev pub HoldsLess : List ℕ → View → View → Type 0
HoldsLess buffers v w = (x : ℕ) → held w x + times x buffers ≡ held v x

-- The first n of the slice are buffers that the end acquired, by one taking; the rest of the slice stays
pub record Acquired (n : ℕ) (slice filled : List ℕ) (v w : View) : Type 0 where
  pub some_buffer : 0 < n
  pub fits : n ≤ length slice
  pub rest : drop n filled ≡ drop n slice
  pub line : lines.TookLine lines_put lines_taken (take n filled) v w
  pub more : HoldsMore (take n filled) v w

-- the end released these buffers, by one batch
pub record Released (buffers : List ℕ) (v w : View) : Type 0 where
  pub line : PutLine buffers v w
  pub less : HoldsLess buffers v w

-- the end put all buffers of a pool of so many, in ascending order, as one batch. It put nothing else, and took nothing
pub record PutAllOnce (count : ℕ) (v : View) : Type 0 where
  pub puts : lines_put v ≡ all_buffers count ∷ []
  pub takes : lines_taken v ≡ []

-- the end has seen the queue's first batch, which has all buffers of a pool of so many
abbrev pub IsStocked : ℕ → View → Type 0
IsStocked count v = ∥ ((rest : List (List ℕ)) × (v.seen.object.batches ≡ all_buffers count ∷ rest)) ∥₁

-- if the end's own list has the queue's first batch, that batch has all buffers of a pool of so many
abbrev pub ListsFirst : ℕ → View → Type 0
ListsFirst count v = (m : ℕ) (e : Batch) → get_elem? v.own.runs m ≡ some e → e.start ≡ 0 → line_of e ≡ all_buffers count
