-- The meaning of each call of a chain for its client: the notes that the end put and ran, and what the steps of the
-- call found and left in the queue of notes and in the gate. A step is named by its place among the steps of the call,
-- so no other step of the call can be taken for it.
use Rattle.std.specs.Prelude.{◌≡◌, ◌≢◌, ◌+◌, ◌-◌, ◌*◌, ◌<◌, ◌≤◌, ◌⊎◌, ℕ, zero, suc, Bool, true, false}
use Rattle.std.specs.Prelude.{List, [], ◌∷◌, ◌++◌, length}
use Rattle.std.specs.List.{AllByRecursion}
use Rattle.table_theory.specs.declared.positions.TheConstants.{POSITIONS}
use Rattle.table_theory.specs.Ledgers.{Step, ExtendsTrace}
use Rattle.table_theory.specs.Positioned.{head_of, tail_of, item_at, stage_at}
use Rattle.proc_chain.specs.declared.chaining.Chained.{Chained}
use Rattle.proc_chain.specs.declared.chaining.Chained.TheVariants.{Run, Left}
use Rattle.proc_chain.specs.declared.chaining.ChainRefusal.{ChainRefusal}
use Rattle.proc_chain.specs.declared.chaining.ChainRefusal.TheVariants.{Spent, Full, Lost}
use Rattle.proc_chain.specs.declared.held.ServedKept.{ServedKept}
use Rattle.proc_chain.specs.declared.held.ServedKept.TheVariants as kept
use Rattle.proc_chain.specs.declared.layout.TheConstants.{PLACES, IDLE, RUNNING, MORE}
use Rattle.proc_chain.specs.declared.rule.GatedQueue.{GatedQueue}
use Rattle.proc_chain.specs.declared.serve.Served.{Served}
use Rattle.proc_chain.specs.declared.serve.Served.TheVariants.{Done, More}
use Rattle.proc_chain.specs.Notes.{notes_put, notes_taken}
use Rattle.proc_chain.specs.Own.{View}
use Rattle.proc_chain.specs.Turns.{HasServed}

-- The end's notes and its turn are unchanged. Each step of the call left the queue of notes and the gate as it found
-- them
pub record ChangedNothing (v w : View) : Type 0 where
  pub own : w.own ≡ v.own
  pub steps : List (Step GatedQueue)
  pub adds : ExtendsTrace v steps w
  pub same : AllByRecursion (λ step. step.next.object ≡ step.then.object) steps

-- `try_chain`

-- Why a note was refused; no earlier reason applied. Spent: the call's only step found that no position was left. Full:
-- the first of two steps found this head and no room, and the second found this tail. Lost: the first of three steps
-- found a position left, the second found room for it, and the last found this head, past it. So another end claimed
-- that position, and this end claimed none (`ChangedNothing`)
abbrev pub WhyNotChained : View → ChainRefusal → View → Type 0
WhyNotChained v Spent w = (only : Step GatedQueue) × ExtendsTrace v (only ∷ []) w
    × (POSITIONS ≤ head_of only.then.object.queue + 1)
WhyNotChained v (Full head tail) w = (first second : Step GatedQueue) × ExtendsTrace v (first ∷ second ∷ []) w
    × (head + 1 < POSITIONS) × (tail + PLACES ≤ head) × (head_of first.then.object.queue ≡ head)
    × (first.then.object.queue.taken + PLACES ≤ length first.then.object.queue.places)
    × (tail_of second.then.object.queue ≡ tail)
WhyNotChained v (Lost head) w = (first second third : Step GatedQueue)
    × ExtendsTrace v (first ∷ second ∷ third ∷ []) w × (head_of first.then.object.queue + 1 < POSITIONS)
    × (head_of first.then.object.queue < tail_of second.then.object.queue + PLACES)
    × (head_of first.then.object.queue < head) × (head_of third.then.object.queue ≡ head)

-- the gate by which the end that has to run the note is known. Run: no end had the Turn. Left: some end had it
abbrev pub IsGateOf : Chained → ℕ → Type 0
IsGateOf (Run turn) gate = gate ≡ IDLE
IsGateOf Left gate = gate ≢ IDLE

-- The meaning of the answer. The call made five steps. The first two changed nothing. The third claimed the position at
-- the head, and the fourth raised the note there, in a run of its own. The last, the notify, found the note raised and
-- the gate as the answer says. It left the gate More, so a runner that has not seen the note goes on
pub record WhoRuns (v : View) (note : ℕ) (answer : Chained) (w : View) : Type 0 where
  pub position : ℕ
  pub runs : w.own.runs
      ≡ v.own.runs ++ record { start = position; places = record { item = note; stage = 2 } ∷ [] } ∷ []
  pub first : Step GatedQueue
  pub second : Step GatedQueue
  pub claim : Step GatedQueue
  pub raise : Step GatedQueue
  pub notify : Step GatedQueue
  pub adds : ExtendsTrace v (first ∷ second ∷ claim ∷ raise ∷ notify ∷ []) w
  pub looked : (first.next.object ≡ first.then.object) × (second.next.object ≡ second.then.object)
  pub claimed : head_of claim.then.object.queue ≡ position
  pub raised : (item_at notify.then.object.queue (position - notify.then.object.queue.first) ≡ note)
      × (2 ≤ stage_at notify.then.object.queue (position - notify.then.object.queue.first))
  pub gate : IsGateOf answer notify.then.object.gate
  pub left : (notify.next.object.gate ≡ MORE) × (w.seen.object.gate ≡ MORE)

-- `serve`, `serve_kept` and `serve_all`

-- so many notes were run: the next ones in the order of the queue, each once, and none by another end
abbrev pub RanNotes : View → ℕ → View → Type 0
RanNotes v ran w = (notes : List ℕ) × (length notes ≡ ran) × HasServed v notes w

-- a step found the first note left not raised, or no note left, and changed nothing. A later step found this gate, with
-- no note more taken
abbrev pub WasNoneRaised : ℕ → Step GatedQueue → Step GatedQueue → Type 0
WasNoneRaised gate look later = (stage_at look.then.object.queue look.then.object.queue.taken < 2)
    × (look.next.object ≡ look.then.object) × (later.then.object.queue.taken ≡ look.then.object.queue.taken)
    × (later.then.object.gate ≡ gate)

-- none of these steps changed the gate
abbrev pub KeepGate : List (Step GatedQueue) → Type 0
KeepGate steps = AllByRecursion (λ step. step.next.object.gate ≡ step.then.object.gate) steps

-- So many leaves failed in these steps, one after the other. At each a step found no note raised at the tail. The next
-- step found the gate More and changed nothing, and the next began a round. No other of these steps changed the gate
abbrev pub FailedLeaves : ℕ → List (Step GatedQueue) → Type 0
FailedLeaves zero steps = KeepGate steps
FailedLeaves (suc n) steps = (before : List (Step GatedQueue)) × (look leave round : Step GatedQueue)
    × (after : List (Step GatedQueue)) × (steps ≡ before ++ look ∷ leave ∷ round ∷ after) × KeepGate before
    × WasNoneRaised MORE look leave × (leave.next.object ≡ leave.then.object) × (round.next.object.gate ≡ RUNNING)
    × FailedLeaves n after

-- The end left after these steps, by two more. The first found no note raised at the tail. The second, the call's last
-- step, found the gate Running: no notify had come since the last round. It left the gate Idle
abbrev pub LeftAfter : View → List (Step GatedQueue) → View → Type 0
LeftAfter v steps w = (look leave : Step GatedQueue) × ExtendsTrace v (steps ++ look ∷ leave ∷ []) w
    × WasNoneRaised RUNNING look leave × (leave.next.object.gate ≡ IDLE) × (w.seen.object.gate ≡ IDLE)

-- each of these steps kept the gate, or began a round
abbrev pub KeepGateOrBegin : List (Step GatedQueue) → Type 0
KeepGateOrBegin steps = AllByRecursion (λ step.
    (step.next.object.gate ≡ step.then.object.gate) ⊎ (step.next.object.gate ≡ RUNNING)) steps

-- Why the serving stopped, after so many notes were run; the flag is whether the end still has the Turn. The first step
-- began a round. Each note that was run took three steps, and each failed leave four. If the end has no Turn: notes run
-- and failed leaves together were less than the limit, and the end left, after one step more. Else they were the limit;
-- with the limit 0 the end made no step
abbrev pub WhyServed : View → ℕ → ℕ → Bool → View → Type 0
WhyServed v limit ran false w = (failed : ℕ) × (begin : Step GatedQueue) × (steps : List (Step GatedQueue))
    × (ran + failed < limit) × (length steps ≡ 3 * ran + 4 * failed + 1) × (begin.next.object.gate ≡ RUNNING)
    × FailedLeaves failed steps × LeftAfter v (begin ∷ steps) w
WhyServed v limit ran true w = (ran ≤ limit) × (limit ≡ 0 → w ≡ v) × (0 < limit → (begin : Step GatedQueue)
    × (steps : List (Step GatedQueue)) × ExtendsTrace v (begin ∷ steps) w
    × (length steps ≡ 3 * ran + 4 * (limit - ran)) × (begin.next.object.gate ≡ RUNNING)
    × FailedLeaves (limit - ran) steps)

-- how many notes were run
abbrev pub number_run : Served → ℕ
number_run (Done ran) = ran
number_run (More turn ran) = ran

abbrev pub number_run_kept : ServedKept → ℕ
number_run_kept (kept.Done ran) = ran
number_run_kept (kept.More ran) = ran

-- `split` and `join`

-- The end's notes and its turn are unchanged. The only step that the call added to the end's list made the number of
-- ends one more
pub record OneEndMore (v w : View) : Type 0 where
  pub own : w.own ≡ v.own
  pub only : Step GatedQueue
  pub adds : ExtendsTrace v (only ∷ []) w
  pub counted : only.next ≡ record only.then { ends = only.then.ends + 1 }

-- The end has the notes, the takings and the steps of both ends, each list after the other, and the shares of both. The
-- only step that the call added made the number of ends one less
pub record HasBoth (one other w : View) : Type 0 where
  pub puts : notes_put w ≡ notes_put one ++ notes_put other
  pub takes : notes_taken w ≡ notes_taken one ++ notes_taken other
  pub share : w.member.share ≡ one.member.share + other.member.share
  pub only : Step GatedQueue
  pub steps : w.steps ≡ one.steps ++ (other.steps ++ only ∷ [])
  pub counted : only.next ≡ record only.then { ends = only.then.ends - 1 }

-- the end has what both ends had; the end with the Turn comes first (the flag is whether the other end has it)
abbrev pub HasTheirs : Bool → View → View → View → Type 0
HasTheirs false v u w = HasBoth v u w
HasTheirs true v u w = HasBoth u v w

-- `close`

-- why the chain stays open: the call's only step found so many other ends, at least one
abbrev pub WhyOpen : View → ℕ → View → Type 0
WhyOpen v others w = (only : Step GatedQueue) × ExtendsTrace v (only ∷ []) w × (only.then.ends ≡ others + 1)
    × (0 < others)
