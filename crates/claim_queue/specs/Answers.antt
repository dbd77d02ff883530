-- Answers of claims: all entries that a claim added, and how their numbers compare.
use Rattle.std.specs.Prelude.{◌≡◌, ◌⊎◌, ◌+◌, ◌<◌, ◌≤◌, ℕ, List, [], ◌∷◌, length}
use Rattle.table_theory.specs.Batches.{IsPast}
use Rattle.table_theory.specs.declared.positions.TheConstants.{POSITIONS}
use Rattle.table_theory.specs.declared.queues.Positions.{Positions}
use Rattle.table_theory.specs.declared.views.AbsState.{AbsState}
use Rattle.table_theory.specs.Ledgers.{Step, load, change, Performed}
use Rattle.table_theory.specs.Positioned.{with_claim}
use Rattle.claim_queue.specs.declared.claim.ClaimRefusal.{ClaimRefusal}
use Rattle.claim_queue.specs.declared.claim.ClaimRefusal.TheVariants.{NoItems, TooLong, Closed, Spent, Full, Lost}
use Rattle.claim_queue.specs.declared.layout.TheConstants.{SHUT}
use Rattle.claim_queue.specs.Layout.{head_word, tail_word}
use Rattle.claim_queue.specs.Own.{View, run, with_run, OnlyLoads}

-- a run in a queue of `room` places can have n items: at least 1, and at most `room`
abbrev pub Fits : ℕ → ℕ → Type 0
Fits room n = (0 < n) × (n ≤ room)

-- n positions are left from this head on, and n more items fit: head + n is at most tail + room
abbrev pub HasRoom : ℕ → ℕ → ℕ → ℕ → Type 0
HasRoom room n head tail = (head + n < POSITIONS) × (head + n ≤ tail + room)

-- The head was loaded, then the tail, with room for the items. Then a compare-and-swap of that head claimed places for
-- them. Added says which list has these entries
abbrev pub ClaimedBy : (List (Step Positions) → Type 0) → ℕ → ℕ → List ℕ → Type 0
ClaimedBy Added room head items = (tail : ℕ) × (m n o : AbsState Positions)
    × Fits room (length items) × HasRoom room (length items) head tail
    × Added (load head_word head m ∷ load tail_word tail n ∷ change head_word head o (with_claim o.object items) ∷ [])

-- the items were claimed from `head` on, at or past the end of each earlier run: the end has one run more
abbrev pub ClaimedItems : ℕ → View → ℕ → List ℕ → View → Type 0
ClaimedItems room v head items w = IsPast v.own.runs head
    × ClaimedBy (λ entries. Performed v entries (with_run v.own (run head items)) w) room head items

-- the head that was loaded has the shut mark
abbrev pub FoundShut : (List (Step Positions) → Type 0) → Type 0
FoundShut Added = (head : ℕ) × (m : AbsState Positions) × (SHUT ≤ head) × Added (load head_word head m ∷ [])

-- there was room, but the compare-and-swap of the head failed: it found the shut mark
abbrev pub ShutMeanwhile : (List (Step Positions) → Type 0) → ℕ → ℕ → Type 0
ShutMeanwhile Added room count = (head tail now : ℕ) × (m n o : AbsState Positions)
    × HasRoom room count head tail × (SHUT ≤ now)
    × Added (load head_word head m ∷ load tail_word tail n ∷ load head_word now o ∷ [])

-- The entries of a refused claim. Spent: `count` more items would go past the last position. Full: there was no room
-- between the head and the tail. Lost: there was room, but the compare-and-swap found another head, past the one loaded
abbrev pub RefusedBy : (List (Step Positions) → Type 0) → ℕ → ℕ → ClaimRefusal → Type 0
RefusedBy Added room count NoItems = (count ≡ 0) × Added []
RefusedBy Added room count TooLong = (room < count) × Added []
RefusedBy Added room count Closed = Fits room count × (FoundShut Added ⊎ ShutMeanwhile Added room count)
RefusedBy Added room count Spent = Fits room count × (head : ℕ) × (m : AbsState Positions)
    × (head < SHUT) × (POSITIONS ≤ head + count) × Added (load head_word head m ∷ [])
RefusedBy Added room count (Full head tail) = Fits room count × (m n : AbsState Positions)
    × (head + count < POSITIONS) × (tail + room < head + count)
    × Added (load head_word head m ∷ load tail_word tail n ∷ [])
RefusedBy Added room count (Lost now) = Fits room count × (head tail : ℕ) × (m n o : AbsState Positions)
    × HasRoom room count head tail × (now < SHUT) × (head < now)
    × Added (load head_word head m ∷ load tail_word tail n ∷ load head_word now o ∷ [])

-- the claim was refused, and did nothing except load; if it made no step, all is as it was
abbrev pub Refused : ℕ → View → ℕ → ClaimRefusal → View → Type 0
Refused room v count refusal w = RefusedBy (λ entries. OnlyLoads v entries w) room count refusal

-- A refused claim called its pause once if it came to its compare-and-swap, and else left the pause as it was. For
-- Closed the entries show which: head, tail and head with the compare-and-swap, or the head alone without it
abbrev pub PausedClaim : {P : Type 0} → (P → P → Type 0) → ℕ → View → ℕ → ClaimRefusal → View → P → P → Type 0
PausedClaim Called room v count Closed w old new = (FoundShut (λ entries. OnlyLoads v entries w) × (new ≡ old))
    ⊎ (ShutMeanwhile (λ entries. OnlyLoads v entries w) room count × Called old new)
PausedClaim Called room v count (Lost head) w old new = Called old new
PausedClaim Called room v count refusal w old new = new ≡ old
