-- The cooked line of a typed line.
use Rattle.std.specs.Prelude.{ℕ, zero, suc, ◌-◌, ◌==◌, ◌||◌, ◌&&◌, Bool, true, not, if◌then◌else◌, nat_lt, List, []}
use Rattle.std.specs.Prelude.{◌∷◌, ◌++◌, length, take, slice_index}
use Rattle.std.specs.List.{filter, list_any}

-- a backspace or a delete
abbrev pub is_erase : ℕ → Bool
is_erase b = (b == 8) || (b == 127)

-- a kill, which drops all bytes before it
abbrev pub is_kill : ℕ → Bool
is_kill b = b == 21

-- any byte except an erase
abbrev pub is_other : ℕ → Bool
is_other b = not (is_erase b)

-- the line without an end of line (0x0A) as its last item
abbrev pub without_end : List ℕ → List ℕ
without_end line = if slice_index line (length line - 1) == 10 then take (length line - 1) line else line

-- an item up to 255
abbrev pub is_byte : ℕ → Bool
is_byte x = nat_lt x 256

-- the bytes of a raw line, without its end of line
abbrev pub typed : List ℕ → List ℕ
typed line = filter is_byte (without_end line)

-- the bytes after the last kill
abbrev pub after_kills : List ℕ → List ℕ
after_kills [] = []
after_kills (b ∷ bs) = if list_any is_kill (b ∷ bs) then after_kills bs else b ∷ bs

-- how many bytes are erases
abbrev pub erases : List ℕ → ℕ
erases [] = 0
erases (b ∷ bs) = if is_erase b then suc (erases bs) else erases bs

-- how many bytes are no erases
abbrev pub others : List ℕ → ℕ
others [] = 0
others (b ∷ bs) = if is_erase b then others bs else suc (others bs)

-- each prefix of 1 to n bytes has more other bytes than erases
abbrev pub outweighs_to : ℕ → List ℕ → Bool
outweighs_to zero bytes = true
outweighs_to (suc n) bytes =
    outweighs_to n bytes && nat_lt (erases (take (suc n) bytes)) (others (take (suc n) bytes))

-- each prefix that isn't empty has more other bytes than erases
abbrev pub outweighs : List ℕ → Bool
outweighs bytes = outweighs_to (length bytes) bytes

-- the bytes that are kept: each byte from which every stretch has more other bytes than erases
abbrev pub kept : List ℕ → List ℕ
kept [] = []
kept (b ∷ bs) = if outweighs (b ∷ bs) then b ∷ kept bs else kept bs

-- the bytes that are kept after the last kill, followed by an end of line
abbrev pub edited : List ℕ → List ℕ
edited bytes = kept (after_kills bytes) ++ 10 ∷ []

-- the cooked line of a raw line
abbrev pub cooked : List ℕ → List ℕ
cooked line = edited (typed line)
