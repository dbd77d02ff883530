-- The shares and the work of stations that were joined, one after the other.
use Rattle.boot_laws.proofs.Common.{◌≡◌, ℕ, zero, suc, List, [], ◌∷◌, ◌++◌, map, refl, sym, ap, ◌∙◌, append_assoc, append-nil, flat_map, subst, slice_index_or, Some, AllZip, AllByRecursion, BootPlan, Parts, Account, account, ◌⊕◌, LogEntry, FollowsPlan, Leaves, sum_of, AreJoined, AllJoined, heard_lines, Done, WorkedTogether, total_of, unheard, Climbs, numbers_done, IsPrepared, sum_on}
use Rattle.std.specs.List.{slice_get}
use Rattle.thread_table.specs.Handles.{view_of}
use Rattle.thread_table.specs.Rules.{done_at}
use Rattle.processor.proofs.Summing.{accounts_add}
use Rattle.stations.proofs.Summing.{joined_account}
use Rattle.boot_laws.proofs.Totals.{all_of}

-- LISTS

-- what is at a place of a mapped list
pub at_its : {A B : Type 0} (f : A → B) (l : List A) (k : ℕ) (x : A) (d : B) → slice_get l k ≡ Some x → slice_index_or (map f l) k d ≡ f x
at_its f [] k x d e = absurd (cc)
at_its f (y ∷ l) zero x d e = let h : y ≡ x = cc in ap f h
at_its f (y ∷ l) (suc k) x d e = at_its f l k x d e

-- lists in a relation: what each of the first has by it, and seen alike
pub zip_all : {A B : Type 0} (R : A → B → Type 0) (P : A → Type 0) → ((x : A) (y : B) → R x y → P x) → (xs : List A) (ys : List B) → AllZip R xs ys → AllByRecursion P xs
zip_all R P h [] ys z = tt
zip_all R P h (x ∷ xs) [] z = absurd z
zip_all R P h (x ∷ xs) (y ∷ ys) z = (h x y z.0, zip_all R P h xs ys z.1)

zip_maps : {A B C : Type 0} (R : A → B → Type 0) (f : B → C) (g : A → C) → ((x : A) (y : B) → R x y → f y ≡ g x) → (xs : List A) (ys : List B) → AllZip R xs ys → map f ys ≡ map g xs
zip_maps R f g h [] [] z = refl
zip_maps R f g h [] (y ∷ ys) z = absurd z
zip_maps R f g h (x ∷ xs) [] z = absurd z
zip_maps R f g h (x ∷ xs) (y ∷ ys) z = λ k. h x y z.0 k ∷ zip_maps R f g h xs ys z.1 k

-- JOINS

-- what each join appends, all joins append in sequence
pub joined_lists : {E : Type 0} (f : Parts → List E) → ((a b c : Parts) → AreJoined a b c → f c ≡ f a ++ f b)
    → (first : Parts) (stations : List Parts) (last : Parts) → AllJoined first stations last → f last ≡ f first ++ flat_map f stations
joined_lists f one first [] last j = ap f j ∙ sym (append-nil (f first))
joined_lists f one first (s ∷ ss) last j =
    joined_lists f one j.0 ss last j.2 ∙ (ap (λ z. z ++ flat_map f ss) (one first s j.0 j.1) ∙ append_assoc (f first) (f s) (flat_map f ss))

-- what is true of the first station, and is kept by each join, stays true
pub stays : (P : Parts → Type 0) → ((a b c : Parts) → AreJoined a b c → P a → P c) → (first : Parts) (stations : List Parts) (last : Parts) → AllJoined first stations last → P first → P last
stays P keep first [] last j h = subst P (sym j) h
stays P keep first (s ∷ ss) last j h = stays P keep j.0 ss last j.2 (keep first s j.0 j.1 h)

-- WHAT THE STATIONS DID

-- Each processor left what its log says, on a station that was fresh; and all stations were joined to the first, which
-- had prepared the threads
pub record WereJoined (plan : BootPlan) (logs : List (List LogEntry)) (first : Parts) (stations : List Parts) (last : Parts) : Type 0 where
  pub left : AllZip (Leaves plan) logs stations
  pub prepared : IsPrepared plan first
  pub joined : AllJoined first stations last

-- what the first station's ends did, those of the others, and all of them
abbrev pub done_by : Parts → List Parts → Parts → Done
done_by first stations last = record {
  before = account first;
  by_each = map account stations;
  in_all = record (account last) { heard = flat_map heard_lines stations };
}

module _ (plan : BootPlan) where
  all_heard_by : (logs : List (List LogEntry)) (stations : List Parts) → AllZip (Leaves plan) logs stations → flat_map heard_lines stations ≡ (total_of logs).heard
  all_heard_by [] [] z = refl
  all_heard_by [] (s ∷ ss) z = absurd z
  all_heard_by (l ∷ ls) [] z = absurd z
  all_heard_by (l ∷ ls) (s ∷ ss) z = (λ i. (z.0.did i).heard ++ all_heard_by ls ss z.1 i) ∙ ap (λ a. a.heard) (sym (sum_on l (all_of ls)))

  -- the stations that were joined to the first come to what their logs do
  all_joined : (logs : List (List LogEntry)) (first : Parts) (stations : List Parts) (last : Parts) → AllZip (Leaves plan) logs stations → AllJoined first stations last
      → unheard (account last) ≡ unheard (account first) ⊕ unheard (total_of logs)
  all_joined [] first [] last left j = ap (λ z. unheard (account z)) j ∙ sym (accounts_add.none_last (unheard (account first)))
  all_joined [] first (s ∷ ss) last left j = absurd left
  all_joined (l ∷ ls) first [] last left j = absurd left
  all_joined (l ∷ ls) first (s ∷ ss) last left j =
      all_joined ls j.0 ss last left.1 j.2
      ∙ (ap (λ z. unheard z ⊕ unheard (total_of ls)) (joined_account first s j.0 j.1 ∙ ap (λ z. account first ⊕ unheard z) left.0.did)
      ∙ (accounts_add.regroups (unheard (account first)) (unheard (sum_of l)) (unheard (total_of ls))
      ∙ ap (λ z. unheard (account first) ⊕ unheard z) (sym (sum_on l (all_of ls)))))

  -- so they worked together
  pub worked_together : (logs : List (List LogEntry)) (first : Parts) (stations : List Parts) (last : Parts) → WereJoined plan logs first stations last → WorkedTogether plan logs (done_by first stations last)
  worked_together logs first stations last w =
      let heard : flat_map heard_lines stations ≡ (account first).heard ++ (total_of logs).heard =
      all_heard_by logs stations w.left ∙ ap (λ z. z ++ (total_of logs).heard) (sym (ap (λ (a : Account). a.heard) w.prepared.did)) in record {
        planned = zip_all (Leaves plan) (AllByRecursion (FollowsPlan plan)) (λ log s l. l.planned) logs stations w.left;
        climb = λ thread. zip_all (Leaves plan) (λ log. (high : ℕ) × Climbs (numbers_done log thread) 0 high) (λ log s l. (done_at (view_of s.hand).seen.object thread, l.order thread)) logs stations w.left;
        prepared = w.prepared.did;
        took = w.prepared.took;
        each = zip_maps (Leaves plan) account sum_of (λ log s l. l.did) logs stations w.left;
        all = λ i. record (all_joined logs first stations last w.left w.joined i) { heard = heard i };
      }
