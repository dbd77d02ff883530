-- The work of a device at its end of the chain.
use Rattle.std.specs.Prelude.{◌≡◌, ℕ, List, ◌++◌, false, map}
use Rattle.table_theory.specs.Interleaving.{InOrder}
use Rattle.proc_chain.specs.declared.quaject.Quaject.{Ghosts}
use Rattle.proc_chain.specs.declared.ends.ProcChain.{ProcChain}
use Rattle.proc_chain.specs.declared.ends.ChainEnd.{ChainEnd}
use Rattle.proc_chain.specs.Own.{View}
use Rattle.proc_chain.specs.Handles.{turn_of, view_of, IsEndOf}
use Rattle.proc_chain.specs.Notes.{notes_put, alone}

-- the end chained these notes, one after the other, each alone, and has the share that it had
pub record HasSent (notes : List ℕ) (v w : View) : Type 0 where
  pub puts : notes_put w ≡ notes_put v ++ map alone notes
  pub order : InOrder v.own.runs → InOrder w.own.runs
  pub share : w.member.share ≡ v.member.share

module _ {Q W : Type 0} {g : Ghosts Q W} where
  -- an end of this chain that has no turn
  abbrev pub IsIdle : ProcChain Q W → ChainEnd Q W g → Type 0
  IsIdle chain end = IsEndOf chain end × (turn_of end ≡ false)

  -- the end that came back is an end of this chain without a turn, and chained these notes
  abbrev pub Sends : ProcChain Q W → List ℕ → ChainEnd Q W g → ChainEnd Q W g → Type 0
  Sends chain notes end back = IsIdle chain back × HasSent notes (view_of end) (view_of back)
