-- A raw tty: what a caller sees of it, and the answer to the put of a byte.
use Rattle.std.specs.Prelude.{ℕ, Bool, true, false, [], ◌∷◌, Ok, Err}
use Rattle.claim_queue.specs.declared.ends.QueueEnd.{QueueEnd}
use Rattle.claim_queue.specs.Own.{View}
use Rattle.claim_queue.specs.declared.claim.ClaimRefusal.{ClaimRefusal}
use Rattle.claim_queue.specs.Puts.{PutAnswer}
use Rattle.quajects.specs.declared.raw.RawTty.{RawTty}

-- the end at which the raw tty puts bytes
abbrev pub end_of : RawTty → QueueEnd 64
end_of tty = tty.end

-- how many bytes were refused, modulo 2^64
abbrev pub overruns_of : RawTty → ℕ
overruns_of tty = tty.overruns

-- the byte was put, as a line of its own; or the put was refused
abbrev pub PutByte : View → ℕ → Bool → View → Type 0
PutByte v byte true w = (start : ℕ) × PutAnswer 64 v (byte ∷ []) (Ok start) w
PutByte v byte false w = (refusal : ClaimRefusal) × PutAnswer 64 v (byte ∷ []) (Err refusal) w
