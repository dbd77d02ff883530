-- The answer to one try to take or to put a line, and what a quaject then holds.
use Rattle.std.specs.Prelude.{◌≡◌, ◌≢◌, ℕ, Bool, true, false, List, [], length}
use Rattle.claim_queue.specs.Own.{View}
use Rattle.claim_queue.specs.declared.claim.ClaimRefusal.{ClaimRefusal}
use Rattle.claim_queue.specs.declared.take.TakeRefusal.{TakeRefusal}
use Rattle.claim_queue.specs.Answers.{Refused}
use Rattle.claim_queue.specs.Takings.{TookItems, RefusedTake, IsLine, IsBegun}
use Rattle.claim_queue.specs.Puts.{IsPut}

-- one line was taken; or the try was refused, and there is no line
abbrev pub TriedTake : ℕ → View → Bool → List ℕ → View → Type 0
TriedTake room v true line w = IsLine room line × TookItems room v line w
TriedTake room v false line w =
    (line ≡ []) × ((refusal : TakeRefusal) × RefusedTake (IsBegun room) (IsLine room) room v refusal w)

-- the line was put; or the try was refused
abbrev pub TriedPut : ℕ → View → Bool → List ℕ → View → Type 0
TriedPut room v true line w = (start : ℕ) × IsPut room v start line w
TriedPut room v false line w = (refusal : ClaimRefusal) × Refused room v (length line) refusal w

-- If nothing was held, there was one try to take a line, which is then held. Otherwise the end made no step
pub record Refilled (room : ℕ) (v : View) (held : List ℕ) (took : Bool) (line : List ℕ) (w : View) : Type 0 where
  pub tried : held ≡ [] → TriedTake room v took line w
  pub else : held ≢ [] → (took ≡ false) × (line ≡ held) × (w ≡ v)

-- If a line is held, there was one try to put it, and it stays held if the try was refused. If nothing is held, the end
-- made no step
pub record Flushed (room : ℕ) (v : View) (line : List ℕ) (put : Bool) (held : List ℕ) (w : View) : Type 0 where
  pub tried : line ≢ [] → TriedPut room v put line w
  pub else : line ≡ [] → (put ≡ false) × (w ≡ v)
  pub done : put ≡ true → held ≡ []
  pub kept : put ≡ false → held ≡ line
