-- Names in the clauses for parts of a chain and of an end.
use Rattle.std.specs.Prelude.{◌≡◌, ◌≤◌, ℕ, Bool}
use Rattle.table_theory.specs.Seating.{IsSame}
use Rattle.table_theory.specs.Sharing.{IsPortion, IsWhole}
use Rattle.atomic_table.specs.Table.{Me}
use Rattle.proc_chain.specs.declared.quaject.Quaject.{Ghosts}
use Rattle.proc_chain.specs.declared.rule.Pact.{Pact}
use Rattle.proc_chain.specs.Own.{View}
use Rattle.proc_chain.specs.declared.ends.ProcChain.{ProcChain}
use Rattle.proc_chain.specs.declared.ends.ChainEnd.{ChainEnd}
use Rattle.proc_chain.specs.Rules.{suits, makes}
use Rattle.proc_chain.specs.Turns.{HasSlot}

module _ {Q W : Type 0} where
  -- the pact of the chain's quaject: its world, and the quaject that was given to `new`
  abbrev pub pact_of : ProcChain Q W → Pact W Q
  pact_of chain = chain.table.shared.key.pact

  -- the world of the chain's quaject
  abbrev pub world_of : ProcChain Q W → W
  world_of chain = chain.table.shared.key.pact.world.value

  -- the quaject that was given to `new`
  abbrev pub opening_of : ProcChain Q W → Q
  opening_of chain = chain.table.shared.key.pact.opening.value

  -- the chain's first position
  abbrev pub first_of : ProcChain Q W → ℕ
  first_of chain = chain.first

module _ {Q W : Type 0} {g : Ghosts Q W} where
  -- the end's view: all that the end knows
  abbrev pub view_of : ChainEnd Q W g → View
  view_of end = end.seat.me.0

  -- the end's view, and what it holds of the chain's slot
  abbrev pub me_of : ChainEnd Q W g → Me Q View
  me_of end = end.seat.me

  -- whether the end has a Turn to serve
  abbrev pub turn_of : ChainEnd Q W g → Bool
  turn_of end = end.turn

  -- the end can be split: it has two parts of the chain or more
  abbrev pub IsDivisible : ChainEnd Q W g → Type 0
  IsDivisible end = 2 ≤ end.seat.me.0.member.share

  -- the end's share of its chain, in parts
  abbrev pub share_of : ChainEnd Q W g → ℕ
  share_of end = end.seat.me.0.member.share

  -- the end can give so many parts to a new end: one or more, and one or more are kept
  abbrev pub CanGive : ChainEnd Q W g → ℕ → Type 0
  CanGive end parts = IsPortion parts end.seat.me.0.member.share

  -- the end has the whole share: every other end was joined
  abbrev pub IsOnlyEnd : ChainEnd Q W g → Type 0
  IsOnlyEnd end = IsWhole end.seat.me.0.member.share

  -- The end is an end of this chain. If it has the turn, it holds the quaject, which was made by the notes taken and
  -- suits the chain. It holds nothing else
  abbrev pub IsEndOf : ProcChain Q W → ChainEnd Q W g → Type 0
  IsEndOf chain end = (end.seat.table_id ≡ chain.table.shared.table_id)
      × HasSlot (makes g.made_by chain.table.shared.key.pact) (suits g.fits chain.table.shared.key.pact) end.seat.me

  -- the turn of the end, and what the end holds of the slot, are unchanged
  abbrev pub KeepsTurn : ChainEnd Q W g → ChainEnd Q W g → Type 0
  KeepsTurn old new = (new.turn ≡ old.turn) × (new.seat.me.1 ≡ old.seat.me.1)

  -- both are the same end of the same chain, at two moments
  abbrev pub IsSameEnd : ChainEnd Q W g → ChainEnd Q W g → Type 0
  IsSameEnd old new = IsSame old.seat new.seat
