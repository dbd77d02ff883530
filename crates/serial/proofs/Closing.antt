-- The chain's close gives the collector that the bytes of both ports made, in their order.
use Rattle.std.proofs.Common.{◌≡◌, ℕ, Bool, true, false, suc, zero, ◌+◌, List, [], ◌∷◌, ◌++◌, ◌∙◌, map, length, take, sym, ap, subst}
use Rattle.std.specs.List.{concat}
use Rattle.std.specs.Prelude.{Option}
use Rattle.std.proofs.lemmas.List.{append-nil, length-map}
use Rattle.std.proofs.Math.Seq.{take-length}
use mathlib.Core.Option.{some, some-injective, some-ne-none}
use lib.ListN.{get_elem?}
use Rattle.proc_chain.specs.Own.{View, part_of, queue_of}
use Rattle.proc_chain.specs.Closings.{ClosedNow}
use Rattle.proc_chain.specs.Endings.{Joined}
use Rattle.atomic_table.specs.Table.{Me}
use Rattle.serial.specs.Sent.{HasSent}
use Rattle.table_theory.proofs.Ordering.{order_none}
use Rattle.proc_chain.specs.Notes.{line_of, notes_put, alone}
use Rattle.proc_chain.specs.Shown.{notes_of}
use Rattle.table_theory.specs.declared.queues.Batch.{Batch}
use Rattle.table_theory.specs.Interleaving.{Ascending, InOrder, joined, Interleaves}
use Rattle.table_theory.specs.Positioned.{item_of}
use Rattle.table_theory.proofs.Interleaving.{runs_merge}
use Rattle.serial.specs.Notes.{notes_for}
use Rattle.serial.proofs.Ports.{Small, Hold, both}

two : (a b l : List Batch) → Ascending a → Ascending b → (k : ℕ) → get_elem? (a ∷ b ∷ []) k ≡ some l → Ascending l
two a b l up up' zero at = subst Ascending (some-injective a l at) up
two a b l up up' (suc zero) at = subst Ascending (some-injective b l at) up'
two a b l up up' (suc (suc k)) at = absurd (some-ne-none l (sym at))

-- the results of the closed chain, if these two ends chained all notes
pub record Collected {Q : Type 0} (made : Q → List ℕ → Type 0) (xs ys : List ℕ) (put taken : ℕ) (left : List (Option ℕ)) (quaject : Q) : Type 0 where
  pub notes : List ℕ
  pub made_by : made quaject notes
  pub hold : Hold notes xs ys
  pub many : put ≡ length xs + length ys
  pub all_taken : taken ≡ put
  pub none_left : left ≡ []

module _ {Q : Type 0} (made : Q → List ℕ → Type 0) (fits : Q → Type 0) where
  pub collected_all : (a b v : View) (xs ys : List ℕ) (first put taken : ℕ) (left : List (Option ℕ)) (quaject : Q) → Small xs → Small ys
      → InOrder a.own.runs → notes_put a ≡ map alone (notes_for 0 xs) → InOrder b.own.runs → notes_put b ≡ map alone (notes_for 256 ys)
      → v.own.runs ≡ a.own.runs ++ b.own.runs → ClosedNow made fits v first put taken left quaject → Collected made xs ys put taken left quaject
  collected_all a b v xs ys first put taken left quaject small small' up a_put up' b_put runs c =
      let q = queue_of v in
      let joins : v.own.runs ≡ joined (a.own.runs ∷ b.own.runs ∷ []) = runs ∙ ap (λ (z : List Batch). a.own.runs ++ z) (sym (append-nil b.own.runs)) in
      let m = runs_merge q (part_of v) (a.own.runs ∷ b.own.runs ∷ []) c.listed.lists (λ k l at. two a.own.runs b.own.runs l up.0 up'.0 k at) joins in
      let i : Interleaves m.0 (map alone (notes_for 0 xs) ∷ map alone (notes_for 256 ys) ∷ []) = subst (λ (z : List (List ℕ)). Interleaves m.0 (z ∷ map alone (notes_for 256 ys) ∷ [])) a_put
      (subst (λ (z : List (List ℕ)). Interleaves m.0 (notes_put a ∷ z ∷ [])) b_put m.1) in
      let h = both m.0 xs ys small small' i in
      let all : q.taken ≡ length q.places = sym c.taken_is ∙ (c.all_taken ∙ c.puts) in
      let notes : notes_of q ≡ concat m.0 = ap (map item_of) (ap (λ (z : ℕ). take z q.places) all ∙ take-length q.places) ∙ sym m.2 in
      record {
        notes = concat m.0;
        made_by = subst (made quaject) notes c.home.0;
        hold = h;
        many = c.puts ∙ (sym (length-map q.places item_of) ∙ (ap length (sym m.2) ∙ h.2));
        all_taken = c.all_taken;
        none_left = c.none_left;
      }

module _ {Q : Type 0} where
  -- an end that took in another, which had no turn, lists the runs of both
  pub joined_runs : (turn : Bool) (me other me' : Me Q View) → turn ≡ false → Joined turn me other me' → me'.0.own.runs ≡ me.0.own.runs ++ other.0.own.runs
  joined_runs true me other me' is j = absurd cc
  joined_runs false me other me' is j = λ i. (j.0.0.own i).runs

-- an end that had nothing before has what it sent
pub sent_all : (v w : View) (notes : List ℕ) → v.own.runs ≡ [] → HasSent notes v w → InOrder w.own.runs × (notes_put w ≡ map alone notes)
sent_all v w notes none h = (h.order (subst InOrder (sym none) order_none), h.puts ∙ ap (λ (z : List Batch). map line_of z ++ map alone notes) none)
