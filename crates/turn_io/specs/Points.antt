-- How far an end was when a gate was called.
use Rattle.std.specs.Prelude.{◌≡◌, ℕ, List, length, Result, Ok, Err}
use Rattle.boot_data.specs.declared.plan.QueueIndex.{QueueIndex}
use Rattle.boot_data.specs.declared.plan.QueueIndex.TheVariants.{Small, Large}
use Rattle.claim_queue.specs.declared.ends.QueueEnd.{QueueEnd}
use Rattle.claim_queue.specs.Answers.{ClaimedItems}
use Rattle.claim_queue.specs.Handles.{view_of}
use Rattle.claim_queue.specs.Puts.{RaisedFrom}
use Rattle.proc_chain.specs.declared.chaining.ChainRefusal.{ChainRefusal}
use Rattle.proc_chain.specs.declared.chaining.Chained.TheVariants as chaineds
use Rattle.proc_chain.specs.declared.ends.ChainEnd.{ChainEnd}
use Rattle.proc_chain.specs.declared.running.Turn.{Turn}
use Rattle.proc_chain.specs.Answers.{ChainedNow, NotChained}
use Rattle.proc_chain.specs.Handles as chains
use Rattle.proc_chain.specs.Own.{View}
use Rattle.quajects.specs.contracts.any.AnyQuajectQuaject.TheImpl.{ghosts}
use Rattle.quajects.specs.declared.any.AnyQuaject.{AnyQuaject}
use Rattle.quajects.specs.declared.world.Queues.{Queues}
use Rattle.turn_io.specs.declared.gate.Point.{Point}
use Rattle.turn_io.specs.declared.gate.Point.TheVariants.{Claimed, Raised, TakeAnswered, Chained}
use Rattle.turn_io.specs.declared.poking.Poked.{Poked}
use Rattle.turn_io.specs.declared.poking.Poked.TheVariants.{Ran, Left}
use Rattle.turn_io.specs.declared.queue_ends.QueueEnds.{QueueEnds}
use Rattle.turn_io.specs.EndLists.{OnEnd}

-- the calls of a gate beside an end: with the end in this state the first gate was called at this point of this
-- processor, and became the second
abbrev pub AtEnd : Type 0 → Type 0 → Type 1
AtEnd E G = E → G → ℕ → Point → G → Type 0

-- the calls of a gate beside ends of small queues, of large queues and of chains
pub record Beside (G : Type 0) : Type 1 where
  pub small : AtEnd (QueueEnd 64) G
  pub large : AtEnd (QueueEnd 256) G
  pub chain : AtEnd (ChainEnd AnyQuaject Queues ghosts) G

abbrev pub beside : {G : Type 0} → AtEnd (QueueEnd 64) G → AtEnd (QueueEnd 256) G
    → AtEnd (ChainEnd AnyQuaject Queues ghosts) G → Beside G
beside small large chain = record { small = small; large = large; chain = chain }

module _ {G : Type 0} {n : ℕ} where
  -- The points of a say whose line was put. `Claimed` was called after the claim and before each raise, and `Raised`
  -- after the last raise
  pub record SaidBeside (At : AtEnd (QueueEnd n) G) (p : ℕ) (line : List ℕ) (gate gate' : G) (old new : QueueEnd n)
      : Type 0 where
    pub claimed : QueueEnd n
    pub start : ℕ
    pub claims : ClaimedItems n (view_of old) start line (view_of claimed)
    pub raises : RaisedFrom n start line (view_of claimed) (view_of new) (length line)
    pub between : G
    pub at_claim : At claimed gate p Claimed between
    pub at_raise : At new between p Raised gate'

  -- the points of a say: for a refused say the gate was not called
  abbrev pub SayPoints : {A E : Type 0} → AtEnd (QueueEnd n) G → ℕ → List ℕ → Result A E → G → G → QueueEnd n
      → QueueEnd n → Type 0
  SayPoints At p line (Ok done) gate gate' old new = SaidBeside At p line gate gate' old new
  SayPoints At p line (Err refusal) gate gate' old new = gate' ≡ gate

  -- the point of a hear: `TakeAnswered` was called after the try to take a line
  abbrev pub HearPoint : AtEnd (QueueEnd n) G → ℕ → G → G → QueueEnd n → QueueEnd n → Type 0
  HearPoint At p gate gate' old new = At new gate p TakeAnswered gate'

-- the one try to chain the note, by the result of the poke
abbrev pub TriedToChain : ℕ → Result Poked ChainRefusal → View → View → Type 0
TriedToChain note (Ok (Ran notes)) v w = (turn : Turn) × ChainedNow v note (chaineds.Run turn) w
TriedToChain note (Ok Left) v w = ChainedNow v note chaineds.Left w
TriedToChain note (Err refusal) v w = NotChained v refusal w

-- The point of a poke: `Chained` was called after the try to chain the note. The end had made no other step, so no Turn
-- was served yet
pub record PokePoint {G : Type 0} (At : AtEnd (ChainEnd AnyQuaject Queues ghosts) G) (p note : ℕ)
    (answer : Result Poked ChainRefusal) (gate gate' : G) (old new : ChainEnd AnyQuaject Queues ghosts) : Type 0 where
  pub tried : ChainEnd AnyQuaject Queues ghosts
  pub does : TriedToChain note answer (chains.view_of old) (chains.view_of tried)
  pub at_try : At tried gate p Chained gate'

-- the end of the queue with this index did this, as a small or as a large one, and all other ends nothing
abbrev pub OnEither : QueueIndex → (QueueEnd 64 → QueueEnd 64 → Type 0) → (QueueEnd 256 → QueueEnd 256 → Type 0)
    → QueueEnds → QueueEnds → Type 0
OnEither (Small q) Does Large_does old new = OnEnd q Does old.small.items new.small.items × (new.large ≡ old.large)
OnEither (Large q) Small_does Does old new = OnEnd q Does old.large.items new.large.items × (new.small ≡ old.small)

module _ {G : Type 0} (B : Beside G) (p : ℕ) where
  -- the points of a say at the end of the queue with this index
  abbrev pub SayPointsAt : {A E : Type 0} → QueueIndex → List ℕ → Result A E → G → G → QueueEnds → QueueEnds → Type 0
  SayPointsAt queue line answer gate gate' old new = OnEither queue (SayPoints B.small p line answer gate gate')
      (SayPoints B.large p line answer gate gate') old new

  -- the point of a hear at the end of the queue with this index
  abbrev pub HearPointAt : QueueIndex → G → G → QueueEnds → QueueEnds → Type 0
  HearPointAt queue gate gate' old new =
      OnEither queue (HearPoint B.small p gate gate') (HearPoint B.large p gate gate') old new

  -- the point of a poke at the end of the chain with this index
  abbrev pub PokePointAt : ℕ → ℕ → Result Poked ChainRefusal → G → G → List (ChainEnd AnyQuaject Queues ghosts)
      → List (ChainEnd AnyQuaject Queues ghosts) → Type 0
  PokePointAt chain note answer gate gate' old new =
      OnEnd chain (PokePoint B.chain p note answer gate gate') old new
