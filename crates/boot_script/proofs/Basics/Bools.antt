-- The meaning of tests.
use Rattle.boot_script.proofs.Common.{◌≡◌, ◌⊎◌, inl, inr, refl, true, false, Bool, cond, Ok, Err, ScriptRefusal}

pub either : (b : Bool) → (b ≡ true) ⊎ (b ≡ false)
either true = inl refl
either false = inr refl

-- what isn't refused has passed the test
pub room_ok : (b : Bool) (refusal : ScriptRefusal) (u : Unit {0}) → cond b (Ok tt) (Err refusal) ≡ Ok u → b ≡ true
room_ok true refusal u h = refl
room_ok false refusal u h = absurd (cc)
