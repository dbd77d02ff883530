-- The answers to the tries of a cooked tty.
use Rattle.std.specs.Prelude.{◌≡◌, ◌≢◌, ℕ, Bool, true, false, List, []}
use Rattle.claim_queue.specs.Own.{View}
use Rattle.quajects.specs.Cooked.{cooked}
use Rattle.quajects.specs.Tries.{TriedTake, TriedPut}

-- If nothing was held, there was one try to take a raw line, whose cooked line is then held. Otherwise the end made no
-- step
pub record CookedRaw (v : View) (held : List ℕ) (took : Bool) (line : List ℕ) (w : View) : Type 0 where
  pub tried : held ≡ [] → (raw : List ℕ) × TriedTake 64 v took raw w × (took ≡ true → line ≡ cooked raw)
  pub else : held ≢ [] → (took ≡ false) × (w ≡ v)
  pub kept : took ≡ false → line ≡ held

-- If a line is held and isn't in the line queue yet, there was one try to put it there. Otherwise the end made no step
pub record TriedLine (v : View) (held : List ℕ) (was_in : Bool) (put is_in : Bool) (w : View)
    : Type 0 where
  pub tried : held ≢ [] → was_in ≡ false → TriedPut 256 v put held w × (is_in ≡ put)
  pub none : held ≡ [] → (put ≡ false) × (is_in ≡ was_in) × (w ≡ v)
  pub already : was_in ≡ true → (put ≡ false) × (is_in ≡ true) × (w ≡ v)

-- If the held line is in the line queue, there was one try to put it in the screen queue. Nothing is held after the
-- put. Otherwise the end made no step
pub record TriedScreen (v : View) (held : List ℕ) (was_in : Bool) (put : Bool) (line : List ℕ)
    (is_in : Bool) (w : View) : Type 0 where
  pub tried : was_in ≡ true → TriedPut 256 v put held w
  pub else : was_in ≡ false → (put ≡ false) × (w ≡ v)
  pub done : put ≡ true → (line ≡ []) × (is_in ≡ false)
  pub kept : put ≡ false → (line ≡ held) × (is_in ≡ was_in)
