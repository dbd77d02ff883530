-- Items that go into a buffer.
use Rattle.std.specs.Prelude.{◌≡◌, ℕ, List, [], ◌∷◌, length, drop, Option, None, Some}
use Rattle.claim_queue.specs.Takings.{TookItems, RefusedTake, IsNone, IsOne}
use Rattle.claim_queue.specs.Own.{View}
pub use Rattle.claim_queue.specs.declared.take.TakeRefusal.{TakeRefusal}

-- after its first n places the buffer is unchanged, and its length is unchanged
abbrev pub IsKeptFrom : ℕ → List ℕ → List ℕ → Type 0
IsKeptFrom n old new = (drop n new ≡ drop n old) × (length new ≡ length old)

abbrev pub or_zero : Option ℕ → ℕ
or_zero None = 0
or_zero (Some x) = x

-- these items were taken one by one, each by a taking of its own
abbrev pub TookEach : ℕ → View → List ℕ → View → Type 0
TookEach room v [] w = w ≡ v
TookEach room v (x ∷ xs) w = (u : View) × TookItems room v (x ∷ []) u × TookEach room u xs w

-- these items were taken one by one, until the buffer was full or a taking was refused
abbrev pub TookSome : ℕ → View → List ℕ → ℕ → Option TakeRefusal → View → Type 0
TookSome room v items buffer None w = (length items ≡ buffer) × TookEach room v items w
TookSome room v items buffer (Some r) w =
    (u : View) × TookEach room v items u × RefusedTake IsNone IsOne room u r w
