-- The rule: there is a lawful queue that the words and the views show.
use Rattle.std.specs.Prelude.{◌≡◌, ℕ, map, if◌then◌else◌}
use Rattle.table_theory.specs.declared.queues.Positions.{Positions}
use Rattle.table_theory.specs.declared.views.AbsState.{AbsState}
use Rattle.table_theory.specs.Ledgers.{first_of, TableInv}
use Rattle.table_theory.specs.Listing.{ViewsShow}
use Rattle.table_theory.specs.Protocols.{Condition, HoldsWith, placed_lines}
use Rattle.table_theory.specs.Ruled as ruled
use Rattle.table_theory.specs.Sharing.{total}
use Rattle.atomic_table.specs.Table.{State}
use Rattle.claim_queue.specs.declared.rule.Shape.{Shape}
use Rattle.claim_queue.specs.Changes.{empty}
use Rattle.claim_queue.specs.Own.{View, nothing_did, of_queues, part_of}

abbrev pub shuts_of : View → ℕ
shuts_of v = v.own.shuts

-- the number of times that the queue was shut: 0 or 1
abbrev pub times_shut : Positions → ℕ
times_shut q = if q.shut then 1 else 0

pub record Rule (key : Shape) (s : State Unit View) : Type 0 where
  pub now : AbsState Positions
  pub first : now.object.first ≡ key.first
  pub room : now.object.room ≡ key.room
  pub stands : TableInv of_queues nothing_did (empty key) now s.words s.views
  pub listed : ViewsShow now.object (map part_of s.views)
  pub shut_once : total shuts_of s.views ≡ times_shut now.object

-- the protocol allows what the end put and took
abbrev pub KeepsTo : Condition → View → Type 0
KeepsTo allows v = allows v.first.first (placed_lines v.own.runs) (placed_lines v.own.takes)

-- the rule of a queue under a client's protocol: the rule holds, and the protocol allows what each end put and took
abbrev pub RuleWith : Condition → Shape → State Unit View → Type 0
RuleWith allows key s = HoldsWith (Rule key) (KeepsTo allows) s

-- the view of the first end of a new queue
abbrev pub newcomer : Shape → View
newcomer key = first_of nothing_did (empty key)

-- the queue and the number of ends that the rule names
abbrev pub now_of : (key : Shape) (s : State Unit View) → Rule key s → AbsState Positions
now_of key s k = k.now

-- at the end's last step the rule held, and the end saw the queue of that moment
abbrev pub InvHeldOf : View → Type 0
InvHeldOf v = ruled.InvHolds Rule now_of v
