-- A change of the queue and the gate is one event of the core, of a chain that views of ends show. A proof chooses
-- these views.
use Rattle.std.specs.Prelude.{◌≡◌, ℕ, List, [], ◌∷◌, Result}
use mathlib.Core.Option.{some}
use lib.ListN.{get_elem?}
use Rattle.event_theory.specs.declared.refusal.Refusal.{Refusal}
use Rattle.event_theory.specs.Chains.{Chain, claim_note, raise_note, take_note, notify, round, leave}
use Rattle.table_theory.specs.Ledgers.{ObjectModel}
use Rattle.proc_chain.specs.declared.rule.GatedQueue.{GatedQueue}
use Rattle.proc_chain.specs.declared.layout.TheConstants.{IDLE, RUNNING, MORE}
use Rattle.proc_chain.specs.Layout.{ends_word}
use Rattle.proc_chain.specs.Shown.{Shows}
use Rattle.proc_chain.specs.Changes.{IsLawful, Becomes, with_note, with_raise, with_taken, with_gate}
use Rattle.proc_chain.specs.Own.{View}
use Rattle.proc_chain.specs.Chainings.{AreShown, IsChainEvent}

-- the events of a chain that ends make: a claim of this note, a raise of the run with this number, and the others
pub data Kind : Type 0 where
  claims : ℕ → Kind
  raises : ℕ → Kind
  takes : Kind
  notifies : Kind
  rounds : Kind
  leaves : Kind

-- the core's event, by this call
abbrev pub event_by : ℕ → Kind → Chain → Result Chain Refusal
event_by call (claims note) = claim_note call (note ∷ [])
event_by call (raises run) = raise_note call run 0
event_by call takes = take_note call 1
event_by call notifies = notify call
event_by call rounds = round call
event_by call leaves = leave call

-- an event of this kind makes p of the queue and the gate o
abbrev pub Does : Kind → GatedQueue → GatedQueue → Type 0
Does (claims note) o p = p ≡ with_note o note
Does (raises run) o p = (position note : ℕ) × (p ≡ with_raise o position note)
Does takes o p = p ≡ with_taken o
Does notifies o p = p ≡ with_gate o MORE
Does rounds o p = p ≡ with_gate o RUNNING
Does leaves o p = p ≡ with_gate o IDLE

-- One event makes p of o: some views show o, and one of them is the view of the end that steps. With the end's view
-- after the step in its place, the views show p
pub record IsEvent (o p : GatedQueue) : Type 0 where
  pub kind : Kind
  pub does : Does kind o p
  pub views : List View
  pub shown : AreShown o views
  pub seat : ℕ
  pub view : View
  pub here : get_elem? views seat ≡ some view
  pub after : View
  pub seen : after.seen.object ≡ p
  pub event : IsChainEvent o p views shown seat after (event_by seat kind)

-- one event makes p of o, as a change of the queue and the gate and as an event of the core
pub record Happens (o p : GatedQueue) : Type 0 where
  pub becomes : Becomes o p
  pub event : IsEvent o p

-- chains as a subject of the theory of tables: the ends word, and what the words show, what is lawful, what can happen
abbrev pub of_chains : ObjectModel GatedQueue
of_chains = record { ends_word = ends_word; Shows = Shows; IsLawful = IsLawful; Happens = Happens }
