-- The effect of a device on the bytes that it pops.
use Rattle.std.specs.Prelude.{◌≡◌, ℕ, zero, suc, ◌+◌, ◌≤◌, ◌%◌, ◌^◌, Bool, not, List, [], ◌∷◌, ◌++◌, map}
use Rattle.std.specs.Prelude.{filter, length}
use Rattle.std.specs.List.{repeat}
use Rattle.atomic_table.specs.Table.{Me}
use Rattle.spsc_line.specs.declared.line_out.LineOut.{LineOut}
use Rattle.spsc_line.specs.Lines.{bytes_received}
use Rattle.claim_queue.specs.Handles as claims
use Rattle.claim_queue.specs.Own.{View}
use Rattle.claim_queue.specs.Lines.{lines_put}
use Rattle.proc_chain.specs.declared.ends.ProcChain.{ProcChain}
use Rattle.proc_chain.specs.Own as chains
use Rattle.proc_chain.specs.Handles.{pact_of, me_of, IsSameEnd}
use Rattle.proc_chain.specs.Notes.{notes_put, alone}
use Rattle.proc_chain.specs.Rules.{suits, makes}
use Rattle.quajects.specs.declared.any.AnyQuaject.{AnyQuaject}
use Rattle.quajects.specs.declared.world.Queues.{Queues}
use Rattle.quajects.specs.declared.raw.RawTty.{RawTty}
use Rattle.quajects.specs.Anys.{MadeOf, Fits}
use Rattle.quajects.specs.Notings.{Noted}
use Rattle.quajects.specs.Raws.{end_of, overruns_of, PutByte}

-- a byte that the device tried to put as a line of its own, and whether it was put
pub record Try : Type 0 where
  pub byte : ℕ
  pub put : Bool

-- the bytes, in their order
abbrev pub bytes_of : List Try → List ℕ
bytes_of tries = map (λ (one : Try). one.byte) tries

-- the lines that were put: one line for each byte, except the refused bytes
abbrev pub lines_of : List Try → List (List ℕ)
lines_of tries = map (λ (one : Try). one.byte ∷ []) (filter (λ (one : Try). one.put) tries)

-- how many bytes were refused
abbrev pub refused : List Try → ℕ
refused tries = length (filter (λ (one : Try). not one.put) tries)

-- the end tried to put these bytes, one after the other, each with this outcome
abbrev pub PutEach : View → List Try → View → Type 0
PutEach v [] w = w ≡ v
PutEach v (one ∷ tries) w = (u : View) × PutByte v one.byte one.put u × PutEach u tries w

-- the end chained note 0 so many times in sequence, each time only if the chain had room
abbrev pub NotedTimes : {Q : Type 0} → (Q → List ℕ → Type 0) → (Q → Type 0) → Me Q chains.View → ℕ
    → Me Q chains.View → Type 0
NotedTimes made fits me zero w = w ≡ me
NotedTimes {Q} made fits me (suc count) w =
    (u : Me Q chains.View) × NotedTimes made fits me count u × Noted made fits u 0 w

-- so many lines that each are note 0 alone
abbrev pub zeros : ℕ → List (List ℕ)
zeros count = repeat count (alone 0 ∷ [])

-- The device popped `count` bytes, and tried to put each in the raw queue, in order. The lines put there are the bytes
-- that were not refused. Each refused byte is one overrun, modulo 2^64. For each byte note 0 was chained, unless the
-- chain refused it. The ends are still ends of their queue and chain, with the shares that they had
pub record Served (chain : ProcChain AnyQuaject Queues) (count : ℕ) (line : LineOut) (tty : RawTty) (line' : LineOut)
    (tty' : RawTty) : Type 0 where
  pub tries : List Try
  pub many : length tries ≡ count
  pub received : bytes_received line' ≡ bytes_received line ++ bytes_of tries
  pub same_end : claims.IsSameEnd (end_of tty) (end_of tty')
  pub put : PutEach (claims.view_of (end_of tty)) tries (claims.view_of (end_of tty'))
  pub lines : lines_put (claims.view_of (end_of tty')) ≡ lines_put (claims.view_of (end_of tty))
      ++ lines_of tries
  pub overruns : overruns_of tty' ≡ (overruns_of tty + refused tries) % 2 ^ 64
  pub share : (claims.view_of (end_of tty')).member.share ≡ (claims.view_of (end_of tty)).member.share
  pub same_chain : IsSameEnd tty.chain tty'.chain
  pub noted : NotedTimes (makes MadeOf (pact_of chain)) (suits Fits (pact_of chain)) (me_of tty.chain)
      count (me_of tty'.chain)
  pub chained : ℕ
  pub at_most : chained ≤ count
  pub notes : notes_put (me_of tty'.chain).0 ≡ notes_put (me_of tty.chain).0 ++ zeros chained
  pub chain_share : (me_of tty'.chain).0.member.share ≡ (me_of tty.chain).0.member.share
