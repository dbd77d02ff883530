-- A closed queue's items are the lines put, in the order of their claims, and those taken are the lines taken, in the
-- order of their takings: each processor's in its own order.
use Rattle.boot_laws.proofs.Common.{all_append, ◌≡◌, flat_map, ℕ, zero, suc, List, [], ◌∷◌, ◌++◌, map, take, refl, sym, ap, ◌∙◌, subst, arith, append_assoc, append-nil, AllByRecursion, concat, map-append, some, some-injective, some-ne-none, get_elem?, BootPlan, QueueIndex, Batch, Owned, entry_of, ListedOnce, Ascending, all_places, item_of, QueueEnd, room_of, Account, LogEntry, sum_of, runs_of, takings_of, AreCovered, Done, WorkedTogether, QueueEnded, take-map, Cell, joined, Interleaves, view_of, line_of, QueueAgrees, IsWoven}
use Rattle.std.proofs.lemmas.Simd.{map-map}
use Rattle.table_theory.proofs.Interleaving.{interleaved, interleaves_map}
use Rattle.boot_laws.specs.ClosedTables as closed
use Rattle.boot_laws.proofs.Queues.Stakes.{map_flat}

-- LISTS OF STRETCHES

-- each of these in a list of its own
abbrev each_alone : {A : Type 0} → List A → List (List A)
each_alone xs = map (λ x. x ∷ []) xs

all_at : (lists : List (List Batch)) → AllByRecursion Ascending lists → (k : ℕ) (l : List Batch) → get_elem? lists k ≡ some l → Ascending l
all_at [] up k l at = absurd (some-ne-none l (sym at))
all_at (x ∷ lists) up zero l at = subst Ascending (some-injective x l at) up.0
all_at (x ∷ lists) up (suc k) l at = all_at lists up.1 k l at

each_ascends : (xs : List Batch) → AllByRecursion Ascending (each_alone xs)
each_ascends [] = tt
each_ascends (x ∷ xs) = (one_ascends, each_ascends xs)
  where
    one_ascends : Ascending (x ∷ [])
    one_ascends m zero e f at is low = absurd (omega arith)
    one_ascends m (suc n) e f at is low = absurd (some-ne-none f (sym is))

joined_both : (a b : List (List Batch)) → joined (a ++ b) ≡ joined a ++ joined b
joined_both [] b = refl
joined_both (x ∷ a) b = ap (λ z. x ++ z) (joined_both a b) ∙ sym (append_assoc x (joined a) (joined b))

joined_each : (xs : List Batch) → joined (each_alone xs) ≡ xs
joined_each [] = refl
joined_each (x ∷ xs) = ap (λ z. x ∷ z) (joined_each xs)

lines_each : (xs : List Batch) → map (map line_of) (each_alone xs) ≡ each_alone (map line_of xs)
lines_each [] = refl
lines_each (x ∷ xs) = ap (λ z. (line_of x ∷ []) ∷ z) (lines_each xs)

lines_flat : (order : List (Owned Batch)) → concat (map line_of (map entry_of order)) ≡ map item_of (all_places order)
lines_flat [] = refl
lines_flat (o ∷ os) = ap (λ (z : List ℕ). line_of o.2 ++ z) (lines_flat os) ∙ sym (map-append item_of o.2.places (all_places os))

-- one list is its own order
one_order : {A : Type 0} (order l : List A) → Interleaves order (l ∷ []) → order ≡ l
one_order [] l i = sym (i 0 l refl)
one_order (x ∷ order) l (zero, rest, at, i) = ap (λ z. x ∷ z) (one_order order rest i) ∙ sym (some-injective l (x ∷ rest) at)
one_order (x ∷ order) l (suc k, rest, at, i) = absurd (some-ne-none (x ∷ rest) (sym at))

module _ (first : ℕ) (places : List Cell) (by : List (List (List ℕ))) (rest : List Batch) (c : AreCovered first places by rest) where
  -- the lines in the order of their positions are the items
  whole : concat (map line_of (map entry_of c.order)) ≡ map item_of places
  whole = lines_flat c.order ∙ ap (map item_of) c.listed.flat

  -- if these lists have the stretches, one after the other, the order takes them from these
  in_lists : (lists : List (List Batch)) → joined c.own ++ rest ≡ joined lists → AllByRecursion Ascending lists → Interleaves (map entry_of c.order) lists
  in_lists lists is ups = interleaved first c.order lists c.listed.adjacent c.listed.solid (subst (λ (z : List Batch). ListedOnce c.order (z ∷ [])) is c.listed.filed) (all_at lists ups)

  -- each list's lines are taken in the order of their positions
  pub woven : (by_others : List (List ℕ)) → map line_of rest ≡ by_others → IsWoven (map item_of places) by by_others
  woven by_others rest_is = record {
    order = map line_of (map entry_of c.order);
    whole = whole;
    woven = subst (Interleaves (map line_of (map entry_of c.order))) (map-append (map line_of) c.own (each_alone rest) ∙ (λ k. c.lines k ++ (lines_each rest ∙ ap each_alone rest_is) k))
        (interleaves_map line_of (map entry_of c.order) (c.own ++ each_alone rest) (in_lists (c.own ++ each_alone rest)
        (ap (λ z. joined c.own ++ z) (sym (joined_each rest)) ∙ sym (joined_both c.own (each_alone rest))) (all_append Ascending c.own (each_alone rest) c.ascend (each_ascends rest))));
  }

  -- if the processors have no place, and the others' stretches ascend, the items are those lines, one after the other
  pub alone : joined c.own ≡ [] → (l : List Batch) → rest ≡ l → Ascending l → map item_of places ≡ concat (map line_of l)
  alone none l is up = sym whole ∙ ap (λ z. concat (map line_of z)) (one_order (map entry_of c.order) l
      (in_lists (l ∷ []) ((λ k. none k ++ is k) ∙ sym (append-nil l)) (up, tt)))

-- THE QUEUE

module _ (plan : BootPlan) (logs : List (List LogEntry)) (done : Done) (w : WorkedTogether plan logs done) (index : QueueIndex) (others : List (QueueEnd (room_of index)))
    (q : closed.Queue) (e : QueueEnded index done.by_each others q) where
  claims : IsWoven q.items q.put_by q.put_by_others
  claims = subst (λ z. IsWoven z q.put_by q.put_by_others) (sym e.items)
      (woven e.first e.places q.put_by (flat_map runs_of (map view_of others)) e.claims q.put_by_others (map_flat runs_of (map view_of others) ∙ sym e.put_by_others))

  takings : IsWoven (take q.taken q.items) q.taken_by q.taken_by_others
  takings = subst (λ z. IsWoven z q.taken_by q.taken_by_others) (sym (take-map item_of q.taken e.places) ∙ ap (take q.taken) (sym e.items))
      (woven e.first (take q.taken e.places) q.taken_by (flat_map takings_of (map view_of others)) e.takings q.taken_by_others (map_flat takings_of (map view_of others) ∙ sym e.taken_by_others))

  -- what each processor did there is what its log says
  by_logs : (f : Account → List (List ℕ)) → map f done.by_each ≡ map (λ log. f (sum_of log)) logs
  by_logs f = ap (map f) w.each ∙ map-map f sum_of logs

  -- the closed queue has the lines that the logs say
  pub queue_agrees : QueueAgrees index q logs
  queue_agrees = record {
    taken_within = e.taken_within;
    within = e.within;
    said = e.put_by ∙ by_logs (λ did. (did.queues index).put);
    heard = e.taken_by ∙ by_logs (λ did. (did.queues index).taken);
    claims = claims;
    takings = takings;
  }
