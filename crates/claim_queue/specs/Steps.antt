-- The report of each step to its end: its entry, what the end has then done, and what the end sees. The calls' answers
-- are made of the entries.
use Rattle.std.specs.Prelude.{◌≡◌, ◌≢◌, ◌+◌, ◌-◌, ◌*◌, ◌<◌, ◌≤◌, ℕ, List, [], ◌∷◌, length, slice_index_or, nat_lt}
use mathlib.Core.Option.{some}
use lib.ListN.{get_elem?}
use Rattle.atomic_table.specs.Seated.{TableId}
use Rattle.atomic_table.specs.Table.{Me, Step}
use Rattle.atomic_table.specs.declared.shared.Seat.{Seat}
use Rattle.table_theory.specs.declared.positions.TheConstants.{POSITIONS}
use Rattle.table_theory.specs.declared.queues.Cell.{Cell}
use Rattle.table_theory.specs.declared.queues.Batch.{Batch}
use Rattle.table_theory.specs.declared.queues.Positions.{Positions}
use Rattle.table_theory.specs.declared.views.AbsState.{AbsState}
use Rattle.table_theory.specs.Batches.{IsPast}
use Rattle.table_theory.specs.Ledgers.{load, change, Performed}
use Rattle.table_theory.specs.Ledgers as ends
use Rattle.table_theory.specs.Listing.{number_of, with_stage}
use Rattle.table_theory.specs.Protocols.{Condition, IsKept}
use Rattle.table_theory.specs.Positioned.{Grows, with_claim, with_take, with_shut, tail_of, blank}
use Rattle.claim_queue.specs.Changes.{IsPlace, with_stage_at}
use Rattle.claim_queue.specs.declared.layout.TheConstants.{SHUT, MOST_PLACES}
use Rattle.claim_queue.specs.declared.rule.QueueOps.{QueueOps}
use Rattle.claim_queue.specs.Layout.{head_word, tail_word, width}
use Rattle.claim_queue.specs.Own.{View, run, taking, with_run, with_changed, with_taking, with_shutting}
use Rattle.claim_queue.specs.Rules.{Rule, KeepsTo, InvHeldOf}

-- the seat is a live end of this table, which is the table of a queue of `room` places, 1 to MOST_PLACES
abbrev pub IsSeated : ℕ → TableId → Seat Unit View → Type 0
IsSeated room table seat = (seat.table_id ≡ table) × (1 ≤ seat.me.0.member.ends) × (seat.me.0.first.room ≡ room)
    × (table.words ≡ width room) × (0 < room) × (room ≤ MOST_PLACES)

-- the position is not before the first one, is before the tail that the end has seen plus `room`, and is below
-- 2 * POSITIONS
abbrev pub IsNear : View → ℕ → ℕ → Type 0
IsNear v room position = (v.seen.object.first ≤ position) × (position < tail_of v.seen.object + room)
    × (position < 2 * POSITIONS)

-- `place` is the place i of the end's run from `start` on
abbrev pub HasPlace : View → ℕ → ℕ → Cell → Type 0
HasPlace v start i place = (e : Batch) × (get_elem? v.own.runs (number_of start v.own.runs) ≡ some e)
    × (e.start ≡ start) × (i < length e.places) × (slice_index_or e.places i blank ≡ place)

-- The end made one step with this entry, and its record is then `own`. The rule held at the step, and the queue that
-- the step found is no earlier than the queue that the end had seen
pub record Stepped (v : View) (e : ends.Step Positions) (own : QueueOps) (w : View) : Type 0 where
  pub made : Performed v (e ∷ []) own w
  pub ruled : InvHeldOf w
  pub grows : Grows v.seen.object e.then.object

-- what the end holds, the first queue of its view and its membership are unchanged; at its last step the rule held
abbrev pub Stays : Me Unit View → Me Unit View → Type 0
Stays m m' = (m'.1 ≡ m.1) × (m'.0.first ≡ m.0.first) × (m'.0.member ≡ m.0.member) × ∥ InvHeldOf m'.0 ∥₁

-- a number was found in a word, and nothing else changed for the end
abbrev pub Found : View → ℕ → ℕ → View → Type 0
Found v word found w = Stepped v (load word found w.seen) v.own w

abbrev pub finds : Step Unit → Me Unit View → ℕ → Me Unit View → Type 0
finds st m r m' = Stays m m' × Found m.0 st.word r m'.0

-- the items were claimed at the head that the queue had at that step, at or past the end of each earlier run of the end
abbrev pub Claimed : View → ℕ → List ℕ → View → Type 0
Claimed v head items w = (at : AbsState Positions) × IsPast v.own.runs head
    × Stepped v (change head_word head at (with_claim at.object items)) (with_run v.own (run head items)) w

abbrev pub claims : List ℕ → Step Unit → Me Unit View → ℕ → Me Unit View → Type 0
claims items st m r m' = Stays m m' × (r ≡ st.first → Claimed m.0 st.first items m'.0)
    × (r ≢ st.first → Found m.0 st.word r m'.0)

-- the end stored in the word of the place i of its run e: n steps of writing are then done there
abbrev pub Wrote : View → Batch → ℕ → ℕ → ℕ → View → Type 0
Wrote v e i n word w = (found : ℕ) × (at : AbsState Positions)
    × IsPlace at.object (e.start + i) (slice_index_or e.places i blank)
    × Stepped v (change word found at (with_stage_at at.object (e.start + i) n))
    (with_changed v.own (with_stage e i n)) w

-- the end stored in the word of the place i of its run from `start` on: n steps of writing are then done there
abbrev pub WroteAt : ℕ → ℕ → ℕ → ℕ → View → View → Type 0
WroteAt start i n word v w = (e : Batch) → get_elem? v.own.runs (number_of start v.own.runs) ≡ some e → e.start ≡ start
    → Wrote v e i n word w

abbrev pub writes : ℕ → ℕ → ℕ → Step Unit → Me Unit View → ℕ → Me Unit View → Type 0
writes start i n st m r m' = Stays m m' × WroteAt start i n st.word m.0 m'.0

-- n items were taken, from the tail that the queue had at that step
abbrev pub Took : View → ℕ → ℕ → View → Type 0
Took v tail n w = (at : AbsState Positions)
    × Stepped v (change tail_word tail at (with_take at.object n)) (with_taking v.own (taking at.object n)) w

abbrev pub takes : Step Unit → Me Unit View → ℕ → Me Unit View → Type 0
takes st m r m' = Stays m m' × (r ≡ st.first → Took m.0 st.first (st.second - st.first) m'.0)
    × (r ≢ st.first → Found m.0 st.word r m'.0)

-- a taking of a queue under a client's protocol: the protocol allows what each end put and took by then
abbrev pub takes_under : Condition → Step Unit → Me Unit View → ℕ → Me Unit View → Type 0
takes_under allows st m r m' = takes st m r m' × IsKept Rule (KeepsTo allows) m'.0

-- the queue was shut, and the step found this head word
abbrev pub Shut : View → ℕ → View → Type 0
Shut v found w = (at : AbsState Positions)
    × Stepped v (change head_word found at (with_shut at.object)) (with_shutting v.own (nat_lt found SHUT)) w

abbrev pub shuts : Step Unit → Me Unit View → ℕ → Me Unit View → Type 0
shuts st m r m' = Stays m m' × Shut m.0 r m'.0
