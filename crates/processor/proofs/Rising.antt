-- No step of a hand undoes a step of a thread.
use Rattle.processor.proofs.Common.{◌≤◌, ℕ, Result, Ok, Err, arith, le_prop, ∥∥₁_elim, MatchResult, View, view_of, done_at, Begun, Idle, Begins, Hand, Began, WasIdle, began_is, idle_is}
use Rattle.thread_table.specs.Telling.{IsValidHandView}
use Rattle.thread_table.proofs.Schedule.Once.{done_grows}

-- no element's number of steps done is lower than before
abbrev pub NeverFalls : View → View → Type 0
NeverFalls v w = (e : ℕ) → done_at v.seen.object e ≤ done_at w.seen.object e

pub rises_on : (u v w : View) → NeverFalls u v → NeverFalls v w → NeverFalls u w
rises_on u v w a b = λ e. let p = a e in let q = b e in omega arith

-- no number of steps fell between two states of a hand
pub fallen : (old new : Hand) → Begins (view_of old).seen.object (view_of new).seen.object → NeverFalls (view_of old) (view_of new)
fallen old new later = λ e. ∥∥₁_elim new.valid le_prop (λ (h : IsValidHandView (view_of new)). done_grows (view_of old).seen.object (view_of new).seen.object later h.allowed e)

pub began_or_idle : (call : ℕ) (v w : View) (answer : Result Begun Idle) → MatchResult answer (λ begun. Began call begun v w) (λ i. WasIdle call i v w) → Begins v.seen.object w.seen.object
began_or_idle call v w (Ok begun) a = (began_is call begun v w a).0.later
began_or_idle call v w (Err i) a = (idle_is call i v w a).0.later
