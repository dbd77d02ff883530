-- The report of each step to its end: its entry, what the end has then done, what it sees, and the slots that it holds.
-- The calls' answers are made of the entries.
use Rattle.std.specs.Prelude.{◌≡◌, ◌≢◌, ◌⊎◌, ℕ, zero, suc, ◌+◌, ◌-◌, ◌<◌, ◌≤◌, List, [], ◌∷◌, ◌++◌}
use Rattle.std.specs.Prelude.{length, take, drop, nat_lt}
use Rattle.atomic_table.specs.Seated.{TableId}
use Rattle.atomic_table.specs.Table.{Me, Step}
use Rattle.atomic_table.specs.declared.shared.Seat.{Seat}
use Rattle.table_theory.specs.declared.views.AbsState.{AbsState}
use Rattle.table_theory.specs.Ledgers.{load, change, Performed}
use Rattle.table_theory.specs.Ledgers as ends
use Rattle.table_theory.specs.Protocols.{Condition, IsKept}
use Rattle.batch_queue.specs.declared.layout.TheConstants.{MOST_PLACES, POSITIONS, SHUT}
use Rattle.batch_queue.specs.declared.rule.BatchState.{BatchState}
use Rattle.batch_queue.specs.declared.rule.EndRecord.{EndRecord}
use Rattle.batch_queue.specs.Layout.{head_word, tail_word, free_word, width, IsPowerOfTwo}
use Rattle.batch_queue.specs.Object.{items_of, phase_at, IsEdge, IsStop, with_batch, with_up, with_back, with_taken}
use Rattle.batch_queue.specs.Object.{with_freed, with_shut, with_part, Grows}
use Rattle.batch_queue.specs.Own.{View, HasRun, with_run, with_taking, with_published, with_no_slots}
use Rattle.batch_queue.specs.Own.{with_shutting, with_parting}
use Rattle.batch_queue.specs.Rules.{Rule, KeepsTo, InvHeldOf}
use Rattle.batch_queue.specs.Slots.{slots_of}

-- the seat is a live end of this table, which is the table of a queue of `room` places, a power of two
pub record IsSeated (room : ℕ) (table : TableId) (seat : Seat ℕ View) : Type 0 where
  pub one : seat.table_id ≡ table
  pub live : 1 ≤ seat.me.0.member.ends
  pub rooms : seat.me.0.first.room ≡ room
  pub words : table.words ≡ width room
  pub slots : table.slots ≡ room
  pub some_room : 0 < room
  pub most : room ≤ MOST_PLACES
  pub power : IsPowerOfTwo room

-- The end made one step with this entry, and its record is then `own`. The rule held at the step, and the queue that
-- the step found is no earlier than the queue that the end had seen
pub record Stepped (v : View) (e : ends.Step BatchState) (own : EndRecord) (w : View) : Type 0 where
  pub made : Performed v (e ∷ []) own w
  pub ruled : InvHeldOf w
  pub grows : Grows v.seen.object e.then.object

-- the first queue of the end's view and its membership are unchanged; at its last step the rule held
abbrev pub Stays : View → View → Type 0
Stays v w = (w.first ≡ v.first) × (w.member ≡ v.member) × ∥ InvHeldOf w ∥₁

-- a number was found in a word, and nothing else changed for the end
abbrev pub Found : View → ℕ → ℕ → View → Type 0
Found v word found w = Stepped v (load word found w.seen) v.own w

abbrev pub finds : Step ℕ → Me ℕ View → ℕ → Me ℕ View → Type 0
finds st m r m' = Stays m.0 m'.0 × (m'.1 ≡ m.1) × Found m.0 st.word r m'.0

-- if the compare-and-swap failed: another number was found, and nothing else changed for the end
abbrev pub Missed : Step ℕ → Me ℕ View → ℕ → Me ℕ View → Type 0
Missed st m r m' = r ≢ st.first → (m'.1 ≡ m.1) × Found m.0 st.word r m'.0

-- The items were claimed at the head that the queue had at that step. The end holds their slots, and nothing else
pub record Claimed (v : View) (head : ℕ) (items : List ℕ) (m : Me ℕ View) : Type 0 where
  pub at : AbsState BatchState
  pub head_is : length (items_of at.object) ≡ head
  pub step : Stepped v (change head_word head at (with_batch at.object items)) (with_run v.own head items) m.0
  pub values : List ℕ
  pub many : length values ≡ length items
  pub slots : m.1 ≡ slots_of v.first.room head values

abbrev pub claims : List ℕ → Step ℕ → Me ℕ View → ℕ → Me ℕ View → Type 0
claims items st m r m' = Stays m.0 m'.0 × (r ≡ st.first → Claimed m.0 st.first items m') × Missed st m r m'

-- the queue after the positions from a on and before b, in the phase x, are one phase on: published, or given back
abbrev pub released : BatchState → ℕ → ℕ → ℕ → BatchState
released o zero a b = with_up o a b
released o (suc x) a b = with_back o a b

-- the positions whose slots the end held, in the phase x, are one phase on, and the end holds no slots
pub record Released (v : View) (word start end x : ℕ) (m : Me ℕ View) : Type 0 where
  pub at : AbsState BatchState
  pub found : ℕ
  pub own : EndRecord
  pub published : x ≡ 0 → (h : HasRun v.own) × (own ≡ with_published v.own h)
  pub given : x ≡ 2 → own ≡ with_no_slots v.own
  pub step : Stepped v (change word found at (released at.object x start end)) own m.0
  pub bare : m.1 ≡ []

abbrev pub releases : Step ℕ → Me ℕ View → ℕ → Me ℕ View → Type 0
releases st m r m' = Stays m.0 m'.0 × Released m.0 st.word m.0.own.held.start
    (m.0.own.held.start + m.0.own.held.count) m.0.own.held.phase m'

-- in a queue under a client's protocol: the protocol allows what each end put and took by then
abbrev pub releases_under : Condition → Step ℕ → Me ℕ View → ℕ → Me ℕ View → Type 0
releases_under allows st m r m' = releases st m r m' × IsKept Rule (KeepsTo allows) m'.0

-- the end holds the slots of `count` positions from `start` on, in this phase, and at least one slot
pub record HoldsRange (phase start count : ℕ) (v : View) : Type 0 where
  pub in_phase : v.own.held.phase ≡ phase
  pub start_is : v.own.held.start ≡ start
  pub count_is : v.own.held.count ≡ count
  pub some_slot : 0 < count
  pub bounded : start + count < POSITIONS

-- in the queue that the end has seen, these items are the ones from `start` on
abbrev pub IsClaim : ℕ → List ℕ → View → Type 0
IsClaim start items v = (before rest : List ℕ) × (length before ≡ start)
    × (items_of v.seen.object ≡ before ++ (items ++ rest))

-- all positions from `tail` on and before `new` were found published, and at `new` a batch ends; or the queue's tail is
-- past `tail`
abbrev pub HasFound : View → ℕ → ℕ → Type 0
HasFound v tail new = (tail < v.seen.object.taken)
    ⊎ (((i : ℕ) → tail ≤ i → i < new → 1 ≤ phase_at v.seen.object i) × IsEdge v.seen.object.batches new)

-- all positions from `tail` on and before `new` were found published, and at `new` a batch ends or was parted; or the
-- queue's tail is past `tail`
abbrev pub HasStop : View → ℕ → ℕ → Type 0
HasStop v tail new = (tail < v.seen.object.taken)
    ⊎ (((i : ℕ) → tail ≤ i → i < new → 1 ≤ phase_at v.seen.object i) × IsStop v.seen.object new)

-- The positions from the tail to the new one were taken, up to where a batch ends or was parted. The end holds their
-- slots, each with the item that was claimed there
pub record Took (v : View) (tail new : ℕ) (m : Me ℕ View) : Type 0 where
  pub at : AbsState BatchState
  pub tail_is : at.object.taken ≡ tail
  pub stop : IsStop at.object new
  pub step : Stepped v (change tail_word tail at (with_taken at.object new))
      (with_taking v.own at.object (new - tail)) m.0
  pub slots : m.1 ≡ slots_of v.first.room tail (take (new - tail) (drop tail (items_of at.object)))

abbrev pub takes_tail : Step ℕ → Me ℕ View → ℕ → Me ℕ View → Type 0
takes_tail st m r m' = Stays m.0 m'.0 × (r ≡ st.first → Took m.0 st.first st.second m') × Missed st m r m'

-- the places of all positions from `free` on and before `new` were found given back, and at `new` a taking ends; or the
-- queue's free position is past `free`
abbrev pub HasBack : View → ℕ → ℕ → Type 0
HasBack v free new = (free < v.seen.object.freed)
    ⊎ (((i : ℕ) → free ≤ i → i < new → 3 ≤ phase_at v.seen.object i) × IsEdge v.seen.object.takings new)

-- the window moved from the free position to the new one
abbrev pub Freed : View → ℕ → ℕ → View → Type 0
Freed v free new w = (at : AbsState BatchState)
    × Stepped v (change free_word free at (with_freed at.object new)) v.own w

abbrev pub frees : Step ℕ → Me ℕ View → ℕ → Me ℕ View → Type 0
frees st m r m' = Stays m.0 m'.0 × (r ≡ st.first → (m'.1 ≡ m.1) × Freed m.0 st.first st.second m'.0) × Missed st m r m'

-- the batch that ends at `end` was parted at this position, by a compare-and-swap of the mark of the position
abbrev pub Parted : View → ℕ → ℕ → ℕ → ℕ → View → Type 0
Parted v word found position end w = (at : AbsState BatchState)
    × Stepped v (change word found at (with_part at.object position end)) (with_parting v.own) w

abbrev pub parts : ℕ → ℕ → Step ℕ → Me ℕ View → ℕ → Me ℕ View → Type 0
parts position end st m r m' = Stays m.0 m'.0
    × (r ≡ st.first → (m'.1 ≡ m.1) × Parted m.0 st.word st.first position end m'.0) × Missed st m r m'

-- the queue was shut, and the step found this head word
abbrev pub Shut : View → ℕ → View → Type 0
Shut v found w = (at : AbsState BatchState)
    × Stepped v (change head_word found at (with_shut at.object)) (with_shutting v.own (nat_lt found SHUT)) w

abbrev pub shuts : Step ℕ → Me ℕ View → ℕ → Me ℕ View → Type 0
shuts st m r m' = Stays m.0 m'.0 × (m'.1 ≡ m.1) × Shut m.0 r m'.0
