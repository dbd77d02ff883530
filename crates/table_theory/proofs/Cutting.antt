-- What a queue was put and taken, by the lines of the one end that lists all of it.
use Rattle.table_theory.proofs.Common.{◌≡◌, ◌≤◌, ◌<◌, ℕ, zero, suc, List, [], ◌∷◌, ◌++◌, map, length, take, drop, get_or, refl, sym, ap, subst, ◌∙◌, arith, Bool, ◌+◌, length-drop}
use Rattle.std.specs.Prelude.{if◌then◌else◌, Some, None}
use Rattle.std.specs.List.{concat}
use Rattle.std.proofs.lemmas.Bool.{le-ltb}
use Rattle.std.proofs.lemmas.List.{map-append, length-map, get_or-drop, take-map}
use mathlib.Core.Option as maybe
use lib.ListN.{get_elem?}
use Rattle.table_theory.specs.declared.queues.Cell.{Cell}
use Rattle.table_theory.specs.declared.queues.Batch.{Batch}
use Rattle.table_theory.specs.declared.queues.Positions.{Positions}
use Rattle.table_theory.specs.declared.queues.QueueView.{QueueView}
use Rattle.table_theory.specs.Batches.{line_of}
use Rattle.table_theory.specs.Filing.{Owned, ListedOnce, entry_of}
use Rattle.table_theory.specs.Lines.{IsCut, IsSettled}
use Rattle.table_theory.specs.Listing.{AllRaised, PartsShow, all_places}
use Rattle.table_theory.specs.Positioned.{blank, item_of, left_of, shown}
use Rattle.table_theory.proofs.Owned.{reported, file_map}

flat_lines : (log : List (Owned Batch)) → concat (map entry_of (map (reported line_of) log)) ≡ map item_of (all_places log)
flat_lines [] = refl
flat_lines (o ∷ os) = ap (λ (z : List ℕ). line_of o.2 ++ z) (flat_lines os) ∙ sym (map-append item_of o.2.places (all_places os))

cut_of : (log : List (Owned Batch)) (list : List Batch) (places : List Cell) → ListedOnce log (list ∷ []) → all_places log ≡ places → IsCut (map item_of places) (map line_of list)
cut_of log list places h e = record { cut = map (reported line_of) log; once = file_map line_of log (list ∷ []) h; whole = flat_lines log ∙ ap (map item_of) e }

-- a queue that one end lists
pub settled : (v : QueueView) (q : Positions) (taken : ℕ) → PartsShow q (v ∷ []) → q.taken ≤ length q.places → taken ≡ q.taken → IsSettled (map item_of q.places) taken (map line_of v.runs) (map line_of v.takes)
settled v q taken l following is = let n = length-map q.places item_of in record {
  taken_within = omega arith;
  puts_are = cut_of l.runs v.runs q.places l.runs_are.filed l.runs_are.flat;
  takes_are = subst (λ (z : List ℕ). IsCut z (map line_of v.takes)) (sym (take-map item_of q.taken q.places) ∙ ap (λ (z : ℕ). take z (map item_of q.places)) (sym is)) (cut_of l.takes v.takes (take q.taken q.places) l.takes_are.filed l.takes_are.flat);
}

-- Where all runs are raised, so are all places

abbrev IsPublished : Cell → Type 0
IsPublished e = 2 ≤ e.stage

abbrev AllUp : List Cell → Type 0
AllUp l = (i : ℕ) → i < length l → IsPublished (get_or l i blank)

up_append : (a b : List Cell) → AllUp a → AllUp b → AllUp (a ++ b)
up_append [] b up up' i h = up' i h
up_append (x ∷ xs) b up up' zero h = up 0 (omega arith)
up_append (x ∷ xs) b up up' (suc i) h = up_append xs b (λ j k. up (suc j) (omega arith)) up' i (omega arith)

all_up : (log : List (Owned Batch)) → ((k : ℕ) (o : Owned Batch) → get_elem? log k ≡ maybe.some o → AllUp o.2.places) → AllUp (all_places log)
all_up [] each i h = absurd (omega arith)
all_up (o ∷ os) each i h = up_append o.2.places (all_places os) (each 0 o refl) (all_up os (λ k p at. each (suc k) p at)) i h

up_drop : (n : ℕ) (l : List Cell) → AllUp l → AllUp (drop n l)
up_drop n l up i h = let d = length-drop n l in subst IsPublished (sym (get_or-drop n l i blank)) (up (n + i) (omega arith))

shown_up : (l : List Cell) → AllUp l → map shown l ≡ map Some (map item_of l)
shown_up [] up = refl
shown_up (x ∷ xs) up = (λ k. ap (λ (b : Bool). if b then None else Some x.item) (le-ltb x.stage 2 (up 0 (omega arith))) k ∷ shown_up xs (λ i h. up (suc i) (omega arith)) k)

-- the one list of a log with one owner
one_list : (l m : List Batch) (c : ℕ) → get_elem? (l ∷ []) c ≡ maybe.some m → m ≡ l
one_list l m zero e = sym (maybe.some-injective l m e)
one_list l m (suc c) e = absurd (maybe.some-ne-none m (sym e))

pub all_left : (v : QueueView) (q : Positions) → PartsShow q (v ∷ []) → AllRaised v.runs → map shown (drop q.taken q.places) ≡ map Some (left_of q)
all_left v q l raised = shown_up (drop q.taken q.places) (up_drop q.taken q.places (subst AllUp l.runs_are.flat (all_up l.runs
    (λ k o at. let s = l.runs_are.filed.stands k o at in raised o.1 o.2 (subst (λ (z : List Batch). get_elem? z o.1 ≡ maybe.some o.2) (one_list v.runs s.0 o.0 s.1) s.2)))))
