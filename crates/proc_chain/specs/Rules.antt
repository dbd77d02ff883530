-- The rule: there is a lawful queue of notes that the words and the views show, and the gate and the slot fit it.
use Rattle.std.specs.Prelude.{◌≡◌, ◌<◌, ℕ, false, List, map}
use mathlib.Core.Option.{some}
use lib.ListN.{get_elem?}
use Rattle.atomic_table.specs.Table.{State}
use Rattle.table_theory.specs.declared.views.AbsState.{AbsState}
use Rattle.table_theory.specs.Ledgers as ends
use Rattle.table_theory.specs.Listing.{ViewsShow, AllRaised}
use Rattle.table_theory.specs.Positioned.{head_of}
use Rattle.table_theory.specs.declared.positions.TheConstants.{POSITIONS}
use Rattle.proc_chain.specs.declared.layout.TheConstants.{PLACES}
use Rattle.proc_chain.specs.declared.rule.GatedQueue.{GatedQueue}
use Rattle.proc_chain.specs.declared.rule.Pact.{Pact}
use Rattle.proc_chain.specs.declared.rule.Shape.{Shape}
use Rattle.proc_chain.specs.Changes.{first_queue, IsLawful}
use Rattle.proc_chain.specs.Own.{View, nothing_did, part_of, queue_of}
use Rattle.proc_chain.specs.Happenings.{of_chains}
use Rattle.proc_chain.specs.Gates.{GateShows, SlotShows}
use Rattle.proc_chain.specs.Chainings.{AreShown}

-- the quaject fits the world of the chain
abbrev pub suits : {Q W : Type 0} → (W → Q → Type 0) → Pact W Q → Q → Type 0
suits fits pact x = fits pact.world.value x

-- runs of these notes, in order, made the quaject x of the quaject that was given to `new`
abbrev pub makes : {Q W : Type 0} → (Q → Q → List ℕ → Type 0) → Pact W Q → Q → List ℕ → Type 0
makes made_by pact x notes = made_by pact.opening.value x notes

pub record Rule {Q W : Type 0} (made : W → Q → List ℕ → Type 0) (fits : W → Q → Type 0) (key : Shape W)
    (s : State Q View) : Type 0 where
  pub now : AbsState GatedQueue
  pub stands : ends.TableInv of_chains nothing_did (first_queue key.first) now s.words s.views
  pub first : now.object.queue.first ≡ key.first
  pub listed : ViewsShow now.object.queue (map part_of s.views)
  pub gate : GateShows now.object.queue now.object.gate s.views
  pub slot : SlotShows made fits key.pact now.object.queue now.object.gate s.homes
  -- no end that had the turn took in another that had it
  pub undoubled : (j : ℕ) (v : View) → get_elem? s.views j ≡ some v → v.own.doubled ≡ false

-- The end's list is true. The end sees a lawful queue with the chain's room, whose head is a position, and a gate. Some
-- views show the queue and the gate, the end's view among them
pub record IsValidChainView (v : View) : Type 0 where
  pub honest : ends.IsValidView of_chains v
  pub lawful : IsLawful v.seen.object
  pub room : (queue_of v).room ≡ PLACES
  pub bounded : head_of (queue_of v) < POSITIONS
  pub views : List View
  pub shown : AreShown v.seen.object views
  pub seat : ℕ
  pub here : get_elem? views seat ≡ some v

-- the end counts as one, has raised all that it claimed, and owes no notify
pub record Rests (v : View) : Type 0 where
  pub one : v.member.ends ≡ 1
  pub raised : AllRaised v.own.runs
  pub settled : v.own.owes ≡ false

-- the view of the first end of a new chain with this first position
abbrev pub view_from : ℕ → View
view_from first = ends.first_of nothing_did (first_queue first)

-- the view of the first end of a new chain
abbrev pub newcomer : {W : Type 0} → Shape W → View
newcomer key = view_from key.first
