-- Answers of closing a chain.
use Rattle.std.specs.Prelude.{◌≡◌, ◌+◌, ◌%◌, ◌==◌, ℕ, List, [], ◌∷◌, Option, Some, None, if◌then◌else◌, length}
use Rattle.table_theory.specs.Ledgers as ends
use Rattle.table_theory.specs.Listing.{ViewsShow}
use Rattle.table_theory.specs.Reads.{read_from}
use Rattle.table_theory.specs.Sharing.{IsWhole}
use Rattle.proc_chain.specs.declared.layout.TheConstants.{PLACES}
use Rattle.proc_chain.specs.Layout.{ends_word, note_in, mark_in}
use Rattle.proc_chain.specs.Shown.{notes_of}
use Rattle.proc_chain.specs.Own.{View, part_of, queue_of}

-- the answer for the position p: the note of its place if the mark is p + 1, else none
abbrev pub left_at : List ℕ → ℕ → Option ℕ
left_at words p = if mark_in words (p % PLACES) == p + 1 then Some (note_in words (p % PLACES)) else None

-- the answers for the n positions from p on
abbrev pub left_from : List ℕ → ℕ → ℕ → List (Option ℕ)
left_from words p n = read_from (left_at words) p n

-- The chain is closed by an end with the whole share, which has seen and lists all of the chain, and each split was
-- joined. All notes that were put were taken, and none is left. The quaject that is returned was made by the notes
-- taken, in order, and suits the chain
pub record ClosedNow {Q : Type 0} (made : Q → List ℕ → Type 0) (fits : Q → Type 0) (v : View) (first put taken : ℕ)
    (left : List (Option ℕ)) (quaject : Q) : Type 0 where
  pub whole : IsWhole v.member.share
  pub listed : ViewsShow (queue_of v) (part_of v ∷ [])
  pub sole : v.seen.ends ≡ 1
  pub joined : v.member.splits ≡ v.member.joins
  pub starts : (queue_of v).first ≡ first
  pub puts : put ≡ length (queue_of v).places
  pub taken_is : taken ≡ (queue_of v).taken
  pub all_taken : taken ≡ put
  pub none_left : left ≡ []
  pub home : made quaject (notes_of (queue_of v)) × fits quaject

-- other ends exist: their number plus one was found, and this end has not the whole share
abbrev pub WereOpen : View → ℕ → View → Type 0
WereOpen v others w = ends.WereOpen ends_word v others w
