-- What a word that was found says.
use Rattle.meters.proofs.Common.{◌≡◌, ℕ, ◌<◌, ◌∙◌, subst, Option, Alarm, Looked, IsValidView, slot_word, word_of, in_slot, SeatView, of_meters, FoundIn}
use Rattle.meters.proofs.Clocks.{slot_found}

-- the word of a slot that was found is that of the slot's content
pub word_found : (v w : SeatView) (slot found bits : ℕ) → slot < 16 → IsValidView of_meters w → Looked v (slot_word slot) found w → bits ≡ found → (stood : Option Alarm) × (bits ≡ word_of stood) × FoundIn v slot stood w
word_found v w slot found bits below y l same = let f = slot_found v w slot found below y l in
    (in_slot l.at.object slot, same ∙ f.0, record { looked = subst (λ (z : ℕ). Looked v (slot_word slot) z w) f.0 l; fits = f.1 })
