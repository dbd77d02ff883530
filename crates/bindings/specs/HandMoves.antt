-- The moves of a hand, and their reports to C.
use Rattle.std.specs.Prelude.{◌≡◌, ◌⊎◌, ◌≤◌, ◌<◌, ℕ, ℤ, pos, true, false, Result, Ok, Err, Option, Some}
use Rattle.thread_table.specs.Answers.{MoveAnswer, WaitAnswer, IsTicket, head_in, mark_in}
use Rattle.event_theory.specs.Marks.{wait_ring}
use Rattle.thread_table.specs.declared.moves.MoveRefusal.{MoveRefusal}
use Rattle.thread_table.specs.declared.moves.MoveRefusal.TheVariants as moves
use Rattle.bindings.specs.HandHeld.{view_of, call_of, has, HeldHand, IsKept}
use Rattle.bindings.specs.Codes.{Done, BadNumber, NotHeld}
use Rattle.bindings.specs.Handles.{Answered, Writes}
use Rattle.bindings.specs.declared.hand.moves.SynthMoved.{SynthMoved}

-- a move into this element queue gave this answer
abbrev pub WasMoved : ℕ → ℕ → Result (Unit {0}) MoveRefusal → HeldHand → HeldHand → Type 0
WasMoved line element answer x y =
    IsKept x y × MoveAnswer (call_of x.hand) (view_of x.hand) line element answer (view_of y.hand)

-- `try_wait_at` gave this answer
abbrev pub WasWaited : ℕ → ℕ → ℕ → Result (Unit {0}) MoveRefusal → HeldHand → HeldHand → Type 0
WasWaited wait element ticket answer x y =
    IsKept x y × WaitAnswer (call_of x.hand) (view_of x.hand) wait element ticket answer (view_of y.hand)

-- `ticket` gave this number of notifies
abbrev pub WasTicket : ℕ → ℕ → HeldHand → HeldHand → Type 0
WasTicket wait ticket x y = IsKept x y × IsTicket (view_of x.hand) wait ticket (view_of y.hand)

-- the code of a move's answer
abbrev pub code_of_move : Result (Unit {0}) MoveRefusal → ℤ
code_of_move (Ok done) = pos 0
code_of_move (Err moves.Spent) = pos 4
code_of_move (Err (moves.Lost seen)) = pos 6
code_of_move (Err (moves.Moved mark)) = pos 8

-- the position in the head word that was found, if another hand moved first; else 0
abbrev pub head_of_move : Result (Unit {0}) MoveRefusal → ℕ
head_of_move (Err (moves.Lost seen)) = head_in seen
head_of_move _ = 0

-- the number of notifies in the head word that was found, or the number found instead of the ticket; else 0
abbrev pub notifies_of_move : Result (Unit {0}) MoveRefusal → ℕ
notifies_of_move (Err (moves.Lost seen)) = mark_in seen
notifies_of_move (Err (moves.Moved mark)) = mark
notifies_of_move _ = 0

-- this code, with both numbers 0
abbrev pub IsMoveCode : ℤ → SynthMoved → Type 0
IsMoveCode code reported = (reported.code ≡ code) × (reported.head ≡ 0) × (reported.notifies ≡ 0)

-- the report of a move's answer
abbrev pub ReportsMove : Result (Unit {0}) MoveRefusal → SynthMoved → Type 0
ReportsMove answer reported = (reported.code ≡ code_of_move answer) × (reported.head ≡ head_of_move answer)
    × (reported.notifies ≡ notifies_of_move answer)

-- if the hand doesn't hold the element, NotHeld is reported; if it does, the answer of the move is reported
abbrev pub HeldOrNot : (Result (Unit {0}) MoveRefusal → HeldHand → HeldHand → Type 0) → ℕ → HeldHand → Option HeldHand
    → SynthMoved → Type 0
HeldOrNot Answers element x new reported =
    (IsMoveCode NotHeld reported × (has (view_of x.hand) element ≡ false) × (new ≡ Some x))
    ⊎ ((has (view_of x.hand) element ≡ true) × Answered Answers (λ answer. ReportsMove answer reported) x new)

-- the effect of `try_ready` and `try_retire`, which move the element into the element queue `line`
abbrev pub IsMovingCall : ℕ → ℕ → HeldHand → Option HeldHand → SynthMoved → Type 0
IsMovingCall line element x new reported =
    (IsMoveCode BadNumber reported × (64 ≤ element) × (new ≡ Some x))
    ⊎ ((element < 64) × HeldOrNot (WasMoved line element) element x new reported)

-- the effect of `try_wait`
abbrev pub IsWaitingCall : ℕ → ℕ → HeldHand → Option HeldHand → SynthMoved → Type 0
IsWaitingCall element wait x new reported =
    (IsMoveCode BadNumber reported × ((64 ≤ element) ⊎ (16 ≤ wait)) × (new ≡ Some x))
    ⊎ ((element < 64) × (wait < 16) × HeldOrNot (WasMoved (wait_ring wait) element) element x new reported)

-- the effect of `ticket`, by its code
abbrev pub IsTicketCall : ℕ → ℕ → ℕ → ℤ → HeldHand → Option HeldHand → Type 0
IsTicketCall wait = Writes (wait < 16) (16 ≤ wait) (WasTicket wait)

-- the effect of `try_wait_at`
abbrev pub IsWaitingAtCall : ℕ → ℕ → ℕ → HeldHand → Option HeldHand → SynthMoved → Type 0
IsWaitingAtCall element wait ticket x new reported =
    (IsMoveCode BadNumber reported × ((64 ≤ element) ⊎ (16 ≤ wait)) × (new ≡ Some x))
    ⊎ ((element < 64) × (wait < 16) × HeldOrNot (WasWaited wait element ticket) element x new reported)
