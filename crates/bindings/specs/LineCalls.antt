-- The effects of the calls for C on the handles of device lines. An empty handle holds None.
use Rattle.std.specs.Prelude.{◌≡◌, ◌⊎◌, ◌≤◌, ◌<◌, ◌%◌, ◌^◌, ◌+◌, ◌++◌, ℕ, ℤ, true, pos, List, [], length, take, drop}
use Rattle.std.specs.Prelude.{None, Some}
use Rattle.spsc_line.specs.Lines.{bytes_sent, bytes_received, bytes_left, capacity_in, known_room, known_bytes, IsLine}
use Rattle.spsc_line.specs.Lines.{IsNewIn, IsNewOut, SameIn, SameOut, Sends, SendsAll, SendsNothing}
use Rattle.spsc_line.specs.Lines.{Receives, ReceivesAll, ReceivesNothing}
use Rattle.bindings.specs.Handles.{Option, Handle, LineIn, LineOut, HeldIn, HeldOut, held_by, line_in_of, line_out_of}
use Rattle.bindings.specs.Handles.{AsItWas, is_some, Done, NoMemory, EmptyHandle, FullHandle, OtherObject, BadNumber}
use Rattle.bindings.specs.Codes.{ShortBuffer}
use Rattle.bindings.specs.declared.line.SynthLineTotals.{SynthLineTotals}

-- the two ends have one mark
abbrev pub HaveOneMark : HeldIn → HeldOut → Type 0
HaveOneMark x z = z.mark ≡ x.mark

-- both are the ends of one line
abbrev pub AreOfOneLine : HeldIn → HeldOut → Type 0
AreOfOneLine x z = IsLine x.line z.line

-- a number of bytes that a line can have room for: 1 to 65,536
abbrev pub IsRoom : ℕ → Type 0
IsRoom room = (0 < room) × (room ≤ 65536)

-- the effect of `new`, by its code
abbrev pub MadeLine : ℕ → ℕ → Handle → Handle → Handle → Handle → ℤ → Type 0
MadeLine room mark old new other made code =
    ((code ≡ FullHandle) × ((is_some (held_by old) ≡ true) ⊎ (is_some (held_by other) ≡ true)) × AsItWas old new
    × AsItWas other made)
    ⊎ ((code ≡ BadNumber) × (held_by old ≡ None) × (held_by other ≡ None) × (IsRoom room → ⊥) × AsItWas old new
    × AsItWas other made)
    ⊎ ((code ≡ NoMemory) × (held_by old ≡ None) × (held_by other ≡ None) × IsRoom room × AsItWas old new
    × AsItWas other made)
    ⊎ ((code ≡ Done) × (held_by old ≡ None) × (held_by other ≡ None) × IsRoom room × (x : HeldIn) × (z : HeldOut)
    × (held_by new ≡ Some (LineIn x)) × (held_by made ≡ Some (LineOut z))
    × IsLine x.line z.line × IsNewIn room x.line × IsNewOut room z.line × (x.mark ≡ mark) × (z.mark ≡ mark))

-- the same end of the same line, with an unchanged mark
abbrev pub SameHeldIn : HeldIn → HeldIn → Type 0
SameHeldIn x y = SameIn x.line y.line × (y.mark ≡ x.mark)

abbrev pub SameHeldOut : HeldOut → HeldOut → Type 0
SameHeldOut x y = SameOut x.line y.line × (y.mark ≡ x.mark)

-- The effect of `push`, by its code. A push is refused only if no room is known and at least the capacity was pushed
abbrev pub IsPushCall : HeldIn → ℕ → Option HeldIn → ℤ → Type 0
IsPushCall x byte new code = (y : HeldIn) × (new ≡ Some y) × SameHeldIn x y
    × (((code ≡ pos 5) × SendsNothing x.line y.line × (known_room x.line ≡ 0)
    × (length (bytes_sent x.line) < capacity_in x.line → ⊥))
    ⊎ ((code ≡ Done) × Sends byte x.line y.line))

-- the effect of `pop`, by its code
abbrev pub IsPopCall : HeldOut → ℕ → ℕ → Option HeldOut → ℤ → Type 0
IsPopCall x old_byte byte new code = (y : HeldOut) × (new ≡ Some y) × SameHeldOut x y
    × (((code ≡ pos 7) × ReceivesNothing x.line y.line × (length (known_bytes x.line) ≡ 0) × (byte ≡ old_byte))
    ⊎ ((code ≡ Done) × Receives byte x.line y.line))

-- The effect of `push_some`, by its code: no bytes are given; or none is pushed, since no room is known and at least
-- the capacity was pushed; or so many are, the first ones, and all unless no room is known after them
abbrev pub IsPushSomeCall : HeldIn → List ℕ → ℕ → ℕ → Option HeldIn → ℤ → Type 0
IsPushSomeCall x bytes old_count count new code = (y : HeldIn) × (new ≡ Some y) × SameHeldIn x y
    × (((code ≡ pos 1) × (length bytes ≡ 0) × (y ≡ x) × (count ≡ old_count))
    ⊎ ((code ≡ pos 5) × (0 < length bytes) × SendsNothing x.line y.line × (known_room x.line ≡ 0)
    × (capacity_in x.line ≤ length (bytes_sent x.line)) × (count ≡ old_count))
    ⊎ ((code ≡ Done) × (0 < count) × (count ≤ length bytes) × SendsAll (take count bytes) x.line y.line
    × (count < length bytes → (known_room x.line ≤ count) × (known_room y.line ≡ 0)
    × (capacity_in x.line ≤ length (bytes_sent x.line) + count))))

-- The effect of `pop_some`, by its code: the buffer has no room; or there is no byte; or so many bytes are popped, they
-- are the first ones of the buffer, its others stay, and the buffer is full unless no byte is seen after them
abbrev pub IsPopSomeCall : HeldOut → List ℕ → List ℕ → ℕ → ℕ → Option HeldOut → ℤ → Type 0
IsPopSomeCall x old_bytes bytes old_count count new code = (y : HeldOut) × (new ≡ Some y) × SameHeldOut x y
    × (((code ≡ ShortBuffer) × (length old_bytes ≡ 0) × (y ≡ x) × (bytes ≡ old_bytes) × (count ≡ old_count))
    ⊎ ((code ≡ pos 7) × (0 < length old_bytes) × ReceivesNothing x.line y.line × (known_bytes x.line ≡ [])
    × (bytes ≡ old_bytes) × (count ≡ old_count))
    ⊎ ((code ≡ Done) × (0 < count) × (count ≤ length old_bytes) × ReceivesAll (take count bytes) x.line y.line
    × (drop count bytes ≡ drop count old_bytes) × (count < length old_bytes → known_bytes y.line ≡ [])))

-- The bytes received, then those left, are the bytes sent; the totals count them, sent and received modulo 2^64
pub record ReportsLine (x : HeldIn) (z : HeldOut) (reported : SynthLineTotals) : Type 0 where
  pub whole : bytes_received z.line ++ bytes_left x.line z.line ≡ bytes_sent x.line
  pub sent : reported.sent ≡ length (bytes_sent x.line) % 2 ^ 64
  pub received : reported.received ≡ length (bytes_received z.line) % 2 ^ 64
  pub left : reported.left ≡ length (bytes_left x.line z.line)
  pub within : reported.left ≤ capacity_in x.line

-- the effect of `finish`, by its code
abbrev pub FinishedLine : Handle → Handle → Handle → Handle → SynthLineTotals → SynthLineTotals → ℤ → Type 0
FinishedLine old new other made old_reported reported code =
    ((code ≡ EmptyHandle) × ((line_in_of old ≡ None) ⊎ (line_out_of other ≡ None)) × AsItWas old new
    × AsItWas other made × (reported ≡ old_reported))
    ⊎ ((code ≡ OtherObject) × (x : HeldIn) × (z : HeldOut) × (line_in_of old ≡ Some x) × (line_out_of other ≡ Some z)
    × AsItWas old new × AsItWas other made × (reported ≡ old_reported) × (HaveOneMark x z → ⊥))
    ⊎ ((code ≡ Done) × (x : HeldIn) × (z : HeldOut) × (line_in_of old ≡ Some x) × (line_out_of other ≡ Some z)
    × (held_by new ≡ None) × (held_by made ≡ None) × HaveOneMark x z × ReportsLine x z reported)
