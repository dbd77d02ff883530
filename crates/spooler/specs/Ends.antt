-- The result of a thread, with the end that it was given.
use Rattle.std.specs.Global.{Vec}
use Rattle.std.specs.Prelude.{◌≡◌, ◌+◌, ◌<◌, ℕ, List, [], ◌∷◌, ◌++◌, map, length, Option, IfSome, slice_index_or}
use Rattle.table_theory.specs.Interleaving.{joined}
use Rattle.table_theory.specs.Sharing.{total}
use Rattle.claim_queue.specs.Own.{View}
use Rattle.claim_queue.specs.Plain.{ClaimQueue}
use Rattle.claim_queue.specs.declared.ends.QueueEnd.{QueueEnd}
use Rattle.claim_queue.specs.Handles.{view_of, IsEndOf}
use Rattle.spooler.specs.declared.line.Line.{Line}
use Rattle.spooler.specs.Doings.{HasPut, HasTaken, KeepsPuts}
use Rattle.spooler.specs.Lines.{lines_of}

-- a producer put these lines
abbrev pub Puts : ClaimQueue 64 → List Line → QueueEnd 64 → QueueEnd 64 → Type 0
Puts queue lines end back = IsEndOf queue back × HasPut (lines_of lines) (view_of end) (view_of back)

-- a taker put no line; if it has lines to return, it took these lines, and found the queue shut and all lines taken
abbrev pub Takes : ClaimQueue 64 → QueueEnd 64 → QueueEnd 64 × Option (Vec Line) → Type 0
Takes queue end taker = IsEndOf queue taker.0 × KeepsPuts (view_of end) (view_of taker.0)
    × IfSome taker.1 (λ lines. HasTaken (lines_of lines.items) (view_of end) (view_of taker.0))

-- each is an end of this queue
abbrev pub AreEndsOf : ClaimQueue 64 → List (QueueEnd 64) → Type 0
AreEndsOf queue ends = (i : ℕ) (d : QueueEnd 64) → i < length ends → IsEndOf queue (slice_index_or ends i d)

-- each of these ends put the lines of its job
abbrev pub PutsEach : List (List (List ℕ)) → List View → List View → Type 0
PutsEach [] vs ws = (vs ≡ []) × (ws ≡ [])
PutsEach (job ∷ jobs) [] ws = ⊥
PutsEach (job ∷ jobs) (v ∷ vs) [] = ⊥
PutsEach (job ∷ jobs) (v ∷ vs) (w ∷ ws) = HasPut job v w × PutsEach jobs vs ws

-- the end took in these ends, one after the other, with their runs, takings and shares
pub record Gathered (v : View) (others : List View) (w : View) : Type 0 where
  pub runs : w.own.runs ≡ v.own.runs ++ joined (map (λ u. u.own.runs) others)
  pub takes : w.own.takes ≡ v.own.takes ++ joined (map (λ u. u.own.takes) others)
  pub share : w.member.share ≡ v.member.share + total (λ u. u.member.share) others

-- each of these ends put the lines of its job; then the end took in all of them
pub record PutsAll (jobs : List (List (List ℕ))) (v : View) (ends : List View) (w : View) : Type 0 where
  pub backs : List View
  pub puts : PutsEach jobs ends backs
  pub gathered : Gathered v backs w
