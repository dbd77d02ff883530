-- The ends of a line, as contracts see them.
use Rattle.std.specs.Prelude.{◌≡◌, ℕ, ◌+◌, ◌≤◌, List, [], ◌∷◌, ◌++◌, length, drop}
use mathlib.Core.List.{IsPrefix}
use Rattle.rtrb.specs.Ring.{sent, known_free, producer_capacity, received, known_items, consumer_capacity}
use Rattle.rtrb.specs.Ring.{IsPair, SameProducer, SameConsumer}
use Rattle.spsc_line.specs.declared.line_in.LineIn.{LineIn}
use Rattle.spsc_line.specs.declared.line_out.LineOut.{LineOut}

-- every byte that was pushed, oldest first
abbrev pub bytes_sent : LineIn → List ℕ
bytes_sent i = sent i.producer

-- every byte that was popped, oldest first
abbrev pub bytes_received : LineOut → List ℕ
bytes_received o = received o.consumer

-- the bytes that were sent and not yet received, oldest first
abbrev pub bytes_left : LineIn → LineOut → List ℕ
bytes_left i o = drop (length (bytes_received o)) (bytes_sent i)

-- how many places of the line this end knows to be free: as many pushes are sure to succeed
abbrev pub known_room : LineIn → ℕ
known_room i = known_free i.producer

-- the bytes that this end has seen in the line: the next pops return them
abbrev pub known_bytes : LineOut → List ℕ
known_bytes o = known_items o.consumer

-- how many bytes the line has room for, at the end that pushes
abbrev pub capacity_in : LineIn → ℕ
capacity_in i = producer_capacity i.producer

-- how many bytes the line has room for, at the end that pops
abbrev pub capacity_out : LineOut → ℕ
capacity_out o = consumer_capacity o.consumer

-- both ends come from one call of `line`
abbrev pub IsLine : LineIn → LineOut → Type 0
IsLine i o = IsPair i.producer o.consumer

-- nothing was sent, and each of the `cap` places is known to be free
abbrev pub IsNewIn : ℕ → LineIn → Type 0
IsNewIn cap i = (capacity_in i ≡ cap) × (bytes_sent i ≡ []) × (known_room i ≡ cap)

-- no byte was received or seen, and the line has `cap` places
abbrev pub IsNewOut : ℕ → LineOut → Type 0
IsNewOut cap o = (capacity_out o ≡ cap) × (bytes_received o ≡ []) × (known_bytes o ≡ [])

-- the same end of the same line, and the same capacity
abbrev pub SameIn : LineIn → LineIn → Type 0
SameIn a b = SameProducer a.producer b.producer

-- the same end of the same line, and the same capacity
abbrev pub SameOut : LineOut → LineOut → Type 0
SameOut a b = SameConsumer a.consumer b.consumer

-- one byte more was sent, and at most one place fewer is known to be free
abbrev pub Sends : ℕ → LineIn → LineIn → Type 0
Sends byte a b = (bytes_sent b ≡ bytes_sent a ++ byte ∷ []) × (known_room a ≤ known_room b + 1)

-- so many bytes more were sent, in their order, and at most as many places fewer are known to be free
abbrev pub SendsAll : List ℕ → LineIn → LineIn → Type 0
SendsAll bytes a b = (bytes_sent b ≡ bytes_sent a ++ bytes) × (known_room a ≤ known_room b + length bytes)

-- nothing was sent, and as many places are known to be free
abbrev pub SendsNothing : LineIn → LineIn → Type 0
SendsNothing a b = (bytes_sent b ≡ bytes_sent a) × (known_room b ≡ known_room a)

-- one byte more was received, the first that was seen, if any; the other bytes seen still come next
abbrev pub Receives : ℕ → LineOut → LineOut → Type 0
Receives byte a b =
    (bytes_received b ≡ bytes_received a ++ byte ∷ []) × IsPrefix (known_bytes a) (byte ∷ known_bytes b)

-- so many bytes more were received, in their order, first those that were seen; the other bytes seen still come next
abbrev pub ReceivesAll : List ℕ → LineOut → LineOut → Type 0
ReceivesAll bytes a b =
    (bytes_received b ≡ bytes_received a ++ bytes) × IsPrefix (known_bytes a) (bytes ++ known_bytes b)

-- nothing was received, and the same bytes are seen
abbrev pub ReceivesNothing : LineOut → LineOut → Type 0
ReceivesNothing a b = (bytes_received b ≡ bytes_received a) × (known_bytes b ≡ known_bytes a)
