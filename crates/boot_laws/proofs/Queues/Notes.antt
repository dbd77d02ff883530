-- The notes that a closed chain ran are those that its end lists.
use Rattle.boot_laws.proofs.Common.{◌≡◌, ℕ, ◌+◌, ◌<◌, List, [], ◌∷◌, map, length, refl, sym, ap, ◌∙◌, sum_by, length-append, concat, length-map, sum_by-cons, Batch, Owned, entry_of, all_places, item_of, Home, mod-eq_of_lt, ◌^◌, sum_by-IsPermutation, AnyQuaject, Queues, notes_of, CameHome, filed_shuffle}
use Rattle.proc_chain.specs.declared.rule.Pact.{Pact}
use Rattle.proc_chain.specs.Own.{View}
use Rattle.proc_chain.specs.Notes.{line_of, notes_put}

abbrev long : Batch → ℕ
long b = length b.places

places_long : (log : List (Owned Batch)) → length (all_places log) ≡ sum_by long (map entry_of log)
places_long [] = refl
places_long (o ∷ os) = length-append o.2.places (all_places os) ∙ (ap (λ z. long o.2 + z) (places_long os) ∙ sym (sum_by-cons long o.2 (map entry_of os)))

lines_long : (runs : List Batch) → length (concat (map line_of runs)) ≡ sum_by long runs
lines_long [] = refl
lines_long (b ∷ runs) = length-append (line_of b) (concat (map line_of runs)) ∙ ((λ k. length-map b.places item_of k + lines_long runs k) ∙ sym (sum_by-cons long b runs))

pub notes_are : (pact : Pact Queues AnyQuaject) (first : ℕ) (v : View) (home : Home) (c : CameHome pact first v home) → home.chained < 2 ^ 64 → notes_of c.quaject ≡ length (concat (notes_put v))
notes_are pact first v home c few = let l = c.closed.listed.lists in
    sym c.its.notes ∙ (c.each ∙ (mod-eq_of_lt few ∙ (c.closed.puts ∙ (ap length (sym l.runs_are.flat) ∙ (places_long l.runs
    ∙ (sum_by-IsPermutation long v.own.runs (map entry_of l.runs) (filed_shuffle l.runs v.own.runs l.runs_are.filed) ∙ sym (lines_long v.own.runs)))))))
