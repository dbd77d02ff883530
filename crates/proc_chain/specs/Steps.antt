-- The report of each step to its end: its entry, what the end has then done, and the queue that the step found.
use Rattle.std.specs.Prelude.{◌≡◌, ◌≢◌, ◌+◌, ◌<◌, ℕ, true, false, List, [], ◌∷◌, ◌++◌, slice_index_or, slice_set}
use mathlib.Core.Option.{some}
use lib.ListN.{get_elem?}
use Rattle.atomic_table.specs.Table.{Me, Step as Doing, rest}
use Rattle.table_theory.specs.Batches.{IsPast}
use Rattle.table_theory.specs.declared.queues.Batch.{Batch}
use Rattle.table_theory.specs.declared.views.AbsState.{AbsState}
use Rattle.table_theory.specs.Ledgers.{Step, load, change, Performed, IsValidStep, CountedUp, CountedDown, Tallied}
use Rattle.table_theory.specs.Positioned.{blank, Grows, fresh, tail_of}
use Rattle.table_theory.specs.Listing.{with_stage, Distinct, number_of}
use Rattle.proc_chain.specs.declared.rule.ChainOps.{ChainOps}
use Rattle.proc_chain.specs.declared.rule.GatedQueue.{GatedQueue}
use Rattle.proc_chain.specs.declared.layout.TheConstants.{NOTES, IDLE, RUNNING, MORE}
use Rattle.proc_chain.specs.Layout.{head_word, tail_word, ends_word, gate_word, place_word, raised_word, mark_of}
use Rattle.proc_chain.specs.Shown.{notes_of}
use Rattle.proc_chain.specs.Changes.{IsPlace, with_note, with_raise, with_taken, with_gate, taking}
use Rattle.proc_chain.specs.Own.{View, queue_of}
use Rattle.proc_chain.specs.Happenings.{of_chains}
use Rattle.proc_chain.specs.Rules.{IsValidChainView}
use Rattle.proc_chain.specs.Turns.{Carries}

-- The queue that a step of the end finds is no earlier than the queue that the end had seen. If the end has the turn,
-- no other end took notes since, and its count of the notes taken is right
pub record Meets (v : View) (o : GatedQueue) : Type 0 where
  pub grows : Grows (queue_of v) o.queue
  pub turn : v.own.runner ≡ true → o.queue.taken ≡ (queue_of v).taken
  pub count : v.own.runner ≡ true → o.queue.taken ≡ v.own.taken

-- the end made one real step with this entry, its record is then `own`, and the queue that the step found fits
-- (`Meets`)
pub record Stepped (v : View) (e : Step GatedQueue) (own : ChainOps) (w : View) : Type 0 where
  pub made : Performed v (e ∷ []) own w
  pub seen : w.seen ≡ e.next
  pub real : IsValidStep of_chains e
  pub meets : Meets v e.then.object

-- a number was found in a word, and nothing else changed for the end
abbrev pub Found : View → ℕ → ℕ → View → Type 0
Found v word found w = (m : AbsState GatedQueue) × Stepped v (load word found m) v.own w

-- a number was found in a word, and the runner records that it saw the first place left not raised
abbrev pub FoundNotRaised : View → ℕ → ℕ → View → Type 0
FoundNotRaised v word found w =
    (m : AbsState GatedQueue) × Stepped v (load word found m) (record v.own { saw = true }) w

-- the runner looked at the word of the first place left, and recorded it if that place was not raised
pub record LookedAtFirst (v : View) (word found : ℕ) (w : View) : Type 0 where
  pub up : mark_of found ≡ tail_of (queue_of v) + 1 → Found v word found w
  pub low : mark_of found ≢ tail_of (queue_of v) + 1 → FoundNotRaised v word found w

-- a run of one note that was claimed
abbrev pub run : ℕ → ℕ → Batch
run head note = record { start = head; places = fresh note ∷ [] }

-- a place was claimed for this note at this head, at or past the end of each earlier run of the end
abbrev pub Claimed : View → ℕ → ℕ → View → Type 0
Claimed v head note w = (m : AbsState GatedQueue)
    × Stepped v (change head_word head m (with_note m.object note))
    (record v.own { runs = v.own.runs ++ run head note ∷ [] }) w
    × Distinct w.own.runs × IsPast v.own.runs head

-- the end's record after the place of its run with this start was raised: the end then owes a notify
abbrev pub raised_run : View → ℕ → Batch → ChainOps
raised_run v start e = record v.own {
  runs = slice_set v.own.runs (number_of start v.own.runs) (with_stage e 0 2);
  owes = true;
}

-- the place of the end's run e, which begins at `start`, was raised with this note, and the end owes a notify
abbrev pub Raised : View → ℕ → ℕ → Batch → View → Type 0
Raised v start note e w = (found : ℕ) × (m : AbsState GatedQueue)
    × Stepped v (change (place_word start) found m (with_raise m.object start note)) (raised_run v start e) w
    × IsPlace m.object.queue start (slice_index_or e.places 0 blank)

-- the runner took the first note left, and the step found this tail
abbrev pub Took : View → ℕ → View → Type 0
Took v tail w = (m : AbsState GatedQueue) × Stepped v (change tail_word tail m (with_taken m.object))
    (record v.own {
      takes = v.own.takes ++ taking m.object.queue ∷ [];
      taken = v.own.taken + 1;
      saw = false;
    }) w

-- the end has notified, and found this gate, which was not Idle: some end already had the turn
abbrev pub Notified : View → ℕ → View → Type 0
Notified v gate w = (gate ≢ IDLE) × ((m : AbsState GatedQueue)
    × Stepped v (change gate_word gate m (with_gate m.object MORE)) (record v.own { owes = false }) w)

-- the end, which had no turn, has notified and found the gate Idle: it now has the turn, and the slot with the quaject
abbrev pub GotTurn : {Q : Type 0} → (Q → List ℕ → Type 0) → (Q → Type 0) → Me Q View → Me Q View → Type 0
GotTurn made fits me me' = (me.0.own.runner ≡ false) × ((m : AbsState GatedQueue)
    × Stepped me.0 (change gate_word IDLE m (with_gate m.object MORE))
    (record me.0.own { owes = false; runner = true; taken = m.object.queue.taken; saw = false }) me'.0
    × Carries made fits (notes_of m.object.queue) me.1 me'.1)

-- the runner has begun a round, from this gate
abbrev pub BegunRound : View → ℕ → View → Type 0
BegunRound v gate w = (m : AbsState GatedQueue)
    × Stepped v (change gate_word gate m (with_gate m.object RUNNING)) (record v.own { saw = false }) w

-- the runner has left, from a gate that was Running
abbrev pub HasLeft : View → View → Type 0
HasLeft v w = (m : AbsState GatedQueue)
    × Stepped v (change gate_word RUNNING m (with_gate m.object IDLE)) (record v.own { runner = false; saw = false }) w

module _ {Q : Type 0} where
  -- what the end holds is unchanged, and its view is true (`IsValidChainView`)
  abbrev pub Stays : Me Q View → Me Q View → Type 0
  Stays m m' = (m'.1 ≡ m.1) × IsValidChainView m'.0

  -- the report of a look at a word
  abbrev pub finds : Doing Q → Me Q View → ℕ → Me Q View → Type 0
  finds st m r m' = Stays m m' × Found m.0 st.word r m'.0

  -- the report of a compare-and-swap of the head that is to claim a place for this note
  abbrev pub claims : ℕ → Doing Q → Me Q View → ℕ → Me Q View → Type 0
  claims note st m r m' = Stays m m' × (r ≡ st.first → Claimed m.0 st.first note m'.0)
      × (r ≢ st.first → Found m.0 st.word r m'.0)

  -- the report of a store that is to raise the note of a run
  abbrev pub raises : Doing Q → Me Q View → ℕ → Me Q View → Type 0
  raises st m r m' = Stays m m' × ((start note : ℕ) (e : Batch) → note < NOTES → r ≡ raised_word start note
      → st.word ≡ place_word start → get_elem? m.0.own.runs (number_of start m.0.own.runs) ≡ some e
      → Raised m.0 start note e m'.0)

  -- the report of the runner's look at the first place left
  abbrev pub spies : Doing Q → Me Q View → ℕ → Me Q View → Type 0
  spies st m r m' = Stays m m' × LookedAtFirst m.0 st.word r m'.0

  -- the report of a store of the tail
  abbrev pub takes : Doing Q → Me Q View → ℕ → Me Q View → Type 0
  takes st m r m' = Stays m m' × ((tail : ℕ) → r ≡ tail + 1 → Took m.0 tail m'.0)

  -- the report of a swap of the gate to More
  abbrev pub notifies : (Q → List ℕ → Type 0) → (Q → Type 0) → Doing Q → Me Q View → ℕ → Me Q View → Type 0
  notifies made fits st m r m' = IsValidChainView m'.0 × (r ≡ IDLE → GotTurn made fits m m')
      × (r ≢ IDLE → (m'.1 ≡ m.1) × Notified m.0 r m'.0)

  -- the report of a swap of the gate to Running
  abbrev pub rounds : Doing Q → Me Q View → ℕ → Me Q View → Type 0
  rounds st m r m' = Stays m m' × BegunRound m.0 r m'.0

  -- the report of a compare-and-swap of the gate from Running to Idle
  abbrev pub leaves : Doing Q → Me Q View → ℕ → Me Q View → Type 0
  leaves st m r m' = IsValidChainView m'.0 × (r ≡ RUNNING → (m'.1 ≡ rest m.1) × HasLeft m.0 m'.0)
      × (r ≢ RUNNING → (m'.1 ≡ m.1) × Found m.0 st.word r m'.0 × (r ≡ MORE))

  -- the report of counting one end more (here) or less (below)
  abbrev pub counts_up : Doing Q → Me Q View → ℕ → Me Q View → Type 0
  counts_up st m r m' = Stays m m' × CountedUp ends_word m.0 m'.0 × Meets m.0 m'.0.seen.object

  abbrev pub counts_down : Doing Q → Me Q View → ℕ → Me Q View → Type 0
  counts_down st m r m' = Stays m m' × CountedDown ends_word m.0 m'.0 × Meets m.0 m'.0.seen.object
      × (m.0.own.doubled ≡ false)

-- the view of an end that found the number of ends
abbrev pub HasTallied : View → ℕ → View → Type 0
HasTallied v number w = IsValidChainView w × Tallied ends_word v number w × Meets v w.seen.object
