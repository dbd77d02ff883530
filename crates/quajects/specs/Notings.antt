-- How a note was chained: all entries that the end added, and how their numbers compare.
use Rattle.std.specs.Prelude.{◌≡◌, ◌+◌, ◌≤◌, ℕ, List, [], ◌∷◌, ◌++◌, map, take, length}
use Rattle.std.specs.Prelude.{false, if◌then◌else◌, Result, Ok, Err, is_ok}
use Rattle.std.specs.List.{AllByRecursion}
use Rattle.atomic_table.specs.Table.{Me}
use Rattle.table_theory.specs.declared.views.AbsState.{AbsState}
use Rattle.table_theory.specs.Ledgers.{Step, load, Performed}
use Rattle.proc_chain.specs.declared.rule.GatedQueue.{GatedQueue}
use Rattle.proc_chain.specs.declared.chaining.Chained.{Chained}
use Rattle.proc_chain.specs.declared.chaining.Chained.TheVariants.{Run, Left}
use Rattle.proc_chain.specs.declared.chaining.ChainRefusal.{ChainRefusal}
use Rattle.proc_chain.specs.declared.chaining.ChainRefusal.TheVariants.{Spent, Full, Lost}
use Rattle.proc_chain.specs.Answers.{with_run, with_turn}
use Rattle.proc_chain.specs.Layout.{head_word, tail_word}
use Rattle.proc_chain.specs.Links.{IsFull, IsSpent, LostTry, IsLost, tried, Link, linked, IsLink, FoundIdle}
use Rattle.proc_chain.specs.Links.{Service, IsService, served, notes_in, with_service}
use Rattle.proc_chain.specs.Notes.{notes_put, notes_taken, alone}
use Rattle.proc_chain.specs.Own.{View, queue_of}
use Rattle.proc_chain.specs.Shown.{notes_of}
use Rattle.proc_chain.specs.Turns.{HasOrGave}

-- After these entries the note was chained, the gate was found Idle, and the Turn was served to its end. The notes run
-- are those taken since the gate was found Idle, this many, in order. At each number of notes taken since then the
-- quaject was made by as many notes. The quaject that came back was made by all of them
pub record IsRun {Q : Type 0} (made : Q → List ℕ → Type 0) (fits : Q → Type 0) (me : Me Q View)
    (before : List (Step GatedQueue)) (note ran : ℕ) (me' : Me Q View) : Type 0 where
  pub link : Link
  pub linked_is : IsLink me.0.own.runs note link
  pub idle : FoundIdle link
  pub service : Service
  pub is : IsService service
  pub steps : Performed me.0 (before ++ linked note link ++ served service)
      (with_service (with_turn link.at_gate.object.queue.taken (with_run me.0.own link.head note)) service) me'.0
  pub number : length (notes_in service) ≡ ran
  pub notes : notes_of (queue_of me'.0) ≡ notes_of link.at_gate.object.queue ++ notes_in service
  pub taken : (queue_of me'.0).taken ≡ link.at_gate.object.queue.taken + length (notes_in service)
  pub takes : notes_taken me'.0 ≡ notes_taken me.0 ++ map alone (notes_in service)
  pub since : (n : ℕ) → link.at_gate.object.queue.taken ≤ n → n ≤ (queue_of me'.0).taken
      → (x : Q) × made x (take n (notes_of (queue_of me'.0))) × fits x
  pub gave : HasOrGave made fits false me'

-- after these entries the note was chained, and left to the end that has the Turn
abbrev pub IsLeft : {Q : Type 0} → Me Q View → List (Step GatedQueue) → ℕ → Me Q View → Type 0
IsLeft me before note me' = (l : Link) × IsLink me.0.own.runs note l × (FoundIdle l → ⊥)
    × Performed me.0 (before ++ linked note l) (with_run me.0.own l.head note) me'.0 × (me'.1 ≡ me.1)

-- After these entries one try was answered. If the try gave the Turn, the Turn was served to its end. Lost is no answer
abbrev pub Notified : {Q : Type 0} → (Q → List ℕ → Type 0) → (Q → Type 0) → Me Q View → List (Step GatedQueue) → ℕ
    → Result Chained ChainRefusal → Me Q View → Type 0
Notified made fits me before note (Ok (Run turn)) me' = (ran : ℕ) × IsRun made fits me before note ran me'
Notified made fits me before note (Ok Left) me' = IsLeft me before note me'
Notified made fits me before note (Err Spent) me' = (head : ℕ) × (m : AbsState GatedQueue) × IsSpent head
    × Performed me.0 (before ++ load head_word head m ∷ []) me.0.own me'.0 × (me'.1 ≡ me.1)
Notified made fits me before note (Err (Full head tail)) me' = (m n : AbsState GatedQueue) × IsFull head tail
    × Performed me.0 (before ++ load head_word head m ∷ load tail_word tail n ∷ []) me.0.own me'.0 × (me'.1 ≡ me.1)
Notified made fits me before note (Err (Lost head)) me' = ⊥

-- After tries that were lost the note was chained, or was refused by a chain that was Full or Spent. A chained note is
-- one more run of the end, and a refused note is none. The end has the share that it had
pub record Noted {Q : Type 0} (made : Q → List ℕ → Type 0) (fits : Q → Type 0) (me : Me Q View) (note : ℕ)
    (me' : Me Q View) : Type 0 where
  pub lost : List LostTry
  pub tries : AllByRecursion IsLost lost
  pub answer : Result Chained ChainRefusal
  pub reported : Notified made fits me (tried lost) note answer me'
  pub puts : notes_put me'.0 ≡ (if is_ok answer then notes_put me.0 ++ alone note ∷ [] else notes_put me.0)
  pub share : me'.0.member.share ≡ me.0.member.share
