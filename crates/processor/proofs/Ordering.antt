-- The sights of the gate around a try, and turn by turn.
use Rattle.processor.proofs.Common.{◌≡◌, ◌+◌, ℕ, suc, List, [], ◌∷◌, ◌++◌, Option, length, refl, ap, arith, subst, ◌∙◌, LogEntry, Parts, Shared, Calls, HookedTurns, Turn, StepOutcome, view_of, length-append, Hand, PutsOn, IsSameHand, All, QueueEnds, IsIdle, AreSameQueueEnds, TurnOutcome, CameInOrder, EndedInOrder, SawStep, ChainsInOrder, Count, QueuesInOrder, SeatInOrder, Stood, TriedAtEnds, TurnsInOrder, after_ticket, count_of, one_more, Views, ChainsDid, QueuesDid, SeatDid, CameOf}
use Rattle.std.proofs.Math.Nat.{add-zero}
use Rattle.meters.specs.Handles as seats
use Rattle.processor.specs.declared.outcome.TurnOutcome.TheVariants as outcomes

-- a try between two looks at the queues, after the reading of a ticket of the wait queue
pub tried_between : {G : Type 0} (shown : G → Hand → QueueEnds → Type 0) (wait wait' : Option ℕ) (old hand : Hand) (g g' : G) (ends ends' : QueueEnds) → wait ≡ wait' → count_of hand ≡ after_ticket wait (count_of old)
    → shown g hand ends → shown g' hand ends' → Stood shown (after_ticket wait' (count_of old)) g g' ends ends'
tried_between shown wait wait' old hand g g' ends ends' is counted before after = record {
  hand = hand;
  counted = counted ∙ ap (λ w. after_ticket w (count_of old)) is;
  before = before;
  after = after;
}

-- an element is put on its processor by one step
pub put_counts : (call p element : ℕ) (old new : Hand) → PutsOn call p element (view_of old) (view_of new) → IsSameHand old new → count_of new ≡ one_more (count_of old)
put_counts call p element old new puts same =
    let long = ap length puts.3.adds.entries_are ∙ length-append (view_of old).steps _ in
    λ i. record { table = same.0 i; hand = same.1 i; steps = long i }

-- one turn more
pub turns_more : {G : Type 0} (V : Views G) (T : Calls G) (shared : Shared) (p number : ℕ) (log : List LogEntry) (entry : LogEntry) (old mid new : Parts) (g h b g' : G) → TurnsInOrder V T shared p number log old mid g h
    → T.observes h p (Turn (number + length log)) b → EndedInOrder V T shared p entry b g' mid new → TurnsInOrder V T shared p number (log ++ entry ∷ []) old new g g'
turns_more V T shared p number [] entry old mid new g h b g' t called ended = (
  new,
  b,
  g',
  subst (λ (n : ℕ). T.observes g p (Turn n) b) (add-zero number) (subst (λ z. T.observes z p (Turn (number + 0)) b) t.1 called),
  subst (λ z. EndedInOrder V T shared p entry b g' z new) t.0 ended,
  (refl, refl),
)
turns_more V T shared p number (first ∷ log) entry old mid new g h b g' t called ended = (
  t.0,
  t.1,
  t.2,
  t.3,
  t.4,
  turns_more V T shared p (suc number) log entry t.0 mid new t.2 h b g' t.5
      (subst (λ (n : ℕ). T.observes h p (Turn n) b) (shift number (length log)) called) ended,
)
  where
    shift : (a b : ℕ) → a + suc b ≡ suc a + b
    shift a b = omega arith

-- the result of turns in order is the result of the turns
came_of : {G : Type 0} (V : Views G) (shared : Shared) (p : ℕ) (outcome : TurnOutcome) (line : List ℕ) (g g' : G) (old new : Parts) → CameInOrder V shared p outcome line g g' old new → CameOf shared p outcome line old new
came_of V shared p (outcomes.Idle idle) line g g' old new c = c.0
came_of V shared p (outcomes.OfElement begun had) line g g' old new c = (c.0, c.1, c.2)

pub hooked_of : {G : Type 0} (V : Views G) (T : Calls G) (shared : Shared) (p number : ℕ) (log : List LogEntry) (old new : Parts) (g g' : G) → TurnsInOrder V T shared p number log old new g g' → HookedTurns T shared p number log old new g g'
hooked_of V T shared p number [] old new g g' t = t
hooked_of V T shared p number (entry ∷ log) old new g g' t =
    let turn = t.4.1 in (
      t.0,
      t.2,
      (turn.0, turn.1, came_of V shared p entry.outcome entry.line t.1 t.4.0 turn.0 t.0 turn.2),
      (t.1, t.3, (t.4.0, t.4.2, t.4.3)),
      hooked_of V T shared p (suc number) log t.0 new t.2 g' t.5,
    )

-- a step that used the hand and the ends of queues alone
pub queues_tried : {G : Type 0} (V : Views G) (shared : Shared) (p : ℕ) (start : Count) (o : StepOutcome) (line : List ℕ) (g g' : G) (old : Parts) (hand : Hand) (ends : QueueEnds)
    → QueuesDid o line old.queues ends → ChainsDid shared.chains.items o old.chains.items old.chains.items → SeatDid o (seats.view_of old.meters) (seats.view_of old.meters)
    → QueuesInOrder V.sights shared.plan start o g g' old.queues ends → ChainsInOrder V.sights start o g g' old.chains old.chains → SeatInOrder V.sights start o g g' old.meters old.meters
    → SawStep V.beside p o line g g' old.queues ends old.chains.items old.chains.items
    → IsSameHand old.hand hand → AreSameQueueEnds old.queues ends → All IsIdle old.chains.items
    → TriedAtEnds V shared p start o line g g' old (record old { hand = hand; queues = ends })
queues_tried V shared p start o line g g' old hand ends queues chains seat order order' order'' points same same' idle = record {
  did = record { queues = queues; chains = chains; seat = seat };
  order = record { queues = order; chains = order'; seat = order''; points = points };
  same = record { hand = same; queues = same'; chains = record { tables = refl; calls = refl }; meters = (refl, refl) };
  idle = idle;
  heard = refl;
  signals = refl;
}
