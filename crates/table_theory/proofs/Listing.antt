-- Each step keeps what the views list.
use Rattle.table_theory.proofs.Common.{◌≡◌, ℕ, suc, zero, ◌+◌, ◌<◌, ◌≤◌, ◌≢◌, ⊎_elim, Bool, false, eq-eqb, ne_eqb, List, [], ◌∷◌, ◌++◌, map, length, get_or, set, take, drop, sym, refl, ap, ◌∙◌, subst, arith, length-set, map-set, map-append, length-drop, length-map, if◌then◌else◌, some, some-injective, some-ne-none, dite, dec_lt, get_elem?, Cell, Batch, Positions, QueueView, blank, place_at, item_at, stage_at, Lawful, Grows, fresh, with_claim, with_write, with_take, with_shut, head_of, tail_of, Owned, ListedOnce, moved, sole, runs_of, with_stage, IsListed, PartsShow, ViewsShow, at_set, set_again, at_map}
use Rattle.std.proofs.lemmas.List.{take-append-le, take-set-le, length-take-le}
use Rattle.std.proofs.Math.Path.{transport}
use Rattle.table_theory.specs.Listing.{takes_of, Distinct, number_of}
use Rattle.table_theory.specs.Seeing.{RunIsIn}
use Rattle.table_theory.proofs.Owned.{all_set, all_push, all_one, at_push, one_at, at_map_back, file_first, file_push, file_set, file_new, file_join, file_sole}
use Rattle.table_theory.proofs.Positioned.{grows_refl, grows_trans, claim_grows, write_grows, take_grows, shut_grows}
use Rattle.table_theory.proofs.Logs.{flat_push, adjacent_push, lies, moved_entry, flat_kept, adjacent_kept, one_start}

-- a log that lists some places from the position p on
module _ (p : ℕ) (places : List Cell) (log : List (Owned Batch)) (lists : List (List Batch)) (a : IsListed p places log lists) where
  pub log_same : (j : ℕ) (l l' : List Batch) → get_elem? lists j ≡ some l → l' ≡ l → IsListed p places log (set lists j l')
  log_same j l l' at is = subst (IsListed p places log) (sym (ap (set lists j) is ∙ set_again lists j l at)) a

  -- an entry more, after the others
  pub log_push : (j : ℕ) (l l' : List Batch) (e : Batch) → get_elem? lists j ≡ some l → l' ≡ l ++ e ∷ [] → 0 < length e.places → e.start ≡ p + length places → IsListed p (places ++ e.places) (log ++ (j, length l, e) ∷ []) (set lists j l')
  log_push j l l' e at is some_place start = let o : Owned Batch = (j, length l, e) in record {
    solid = λ k x has. ⊎_elim (λ old. a.solid k x old) (λ new. subst (λ (z : Owned Batch). 0 < length z.2.places) new.1 some_place) (at_push log o x k has);
    flat = flat_push log o ∙ ap (λ (z : List Cell). z ++ e.places) a.flat;
    adjacent = adjacent_push p log o a.adjacent (start ∙ ap (λ (z : List Cell). p + length z) (sym a.flat));
    filed = subst (λ (z : List Batch). ListedOnce (log ++ o ∷ []) (set lists j z)) (sym is) (file_push log lists j l e a.filed at);
  }

  -- one place of an entry of a list is another
  pub log_set : (j m i n : ℕ) (l l' : List Batch) (e : Batch) (x : Cell) (at : get_elem? lists j ≡ some l) (has : get_elem? l m ≡ some e) → l' ≡ set l m (record { start = e.start; places = set e.places i x }) → i < length e.places → e.start + i ≡ p + n
      → IsListed p (set places n x) (set log (a.filed.listed j l m e at has).0 (j, m, record { start = e.start; places = set e.places i x })) (set lists j l')
  log_set j m i n l l' e x at has is below here = let e' : Batch = record { start = e.start; places = set e.places i x } in let r = a.filed.listed j l m e at has in let s = lies p log r.0 (j, m, e) a.adjacent r.1 in let there : s.at + i ≡ n = (let st = s.start in omega arith) in record {
    solid = λ y z in_log. ⊎_elim (λ t. subst (λ (u : Owned Batch). 0 < length u.2.places) t.1 (let n = length-set e.places i x in omega arith)) (λ t. a.solid y z t.1) (at_set log r.0 y (j, m, e') z in_log);
    flat = s.change j m i x below ∙ (λ z. set (a.flat z) (there z) x);
    adjacent = s.adjacent j m i x;
    filed = subst (λ (z : List Batch). ListedOnce (set log r.0 (j, m, e')) (set lists j z)) (sym is) (file_set log lists j m r.0 l e e' a.filed at r.1);
  }

  -- a list more, with nothing
  pub log_new : (l : List Batch) → l ≡ [] → IsListed p places log (lists ++ l ∷ [])
  log_new l none = record { solid = a.solid; flat = a.flat; adjacent = a.adjacent; filed = subst (λ (z : List Batch). ListedOnce log (lists ++ z ∷ [])) (sym none) (file_new log lists a.filed) }

  -- entries that change their owners alone
  log_kept : (g : Owned Batch → Owned Batch) (new : List (List Batch)) → ((o : Owned Batch) → (g o).2 ≡ o.2) → ListedOnce (map g log) new → IsListed p places (map g log) new
  log_kept g new same filed = record {
    solid = λ k o has. let back = at_map_back g log k o has in subst (λ (z : Owned Batch). 0 < length z.2.places) back.2 (subst (λ (z : Batch). 0 < length z.places) (sym (same back.0)) (a.solid k back.0 back.1));
    flat = flat_kept g same log ∙ a.flat;
    adjacent = adjacent_kept g same p log a.adjacent;
    filed = filed;
  }

  -- the list d goes after the list c
  pub log_join : (c d : ℕ) (l r l' r' : List Batch) → get_elem? lists c ≡ some l → get_elem? lists d ≡ some r → d ≢ c → l' ≡ l ++ r → r' ≡ [] → IsListed p places (map (moved c d (length l)) log) (set (set lists c l') d r')
  log_join c d l r l' r' at_c at_d apart is none = log_kept (moved c d (length l)) (set (set lists c l') d r') (moved_entry c d (length l))
      (transport (λ i. ListedOnce (map (moved c d (length l)) log) (set (set lists c (sym is i)) d (sym none i))) (file_join log lists c d l r a.filed at_c at_d apart))

  -- if all other lists are empty, one has all
  pub log_sole : (j : ℕ) (l : List Batch) → get_elem? lists j ≡ some l → ((i : ℕ) (r : List Batch) → get_elem? lists i ≡ some r → i ≢ j → r ≡ []) → IsListed p places (map sole log) (l ∷ [])
  log_sole j l at others = log_kept sole (l ∷ []) (λ o. refl) (file_sole log lists j l a.filed at others)

-- no place, and one list
log_first : (p : ℕ) (l : List Batch) → l ≡ [] → IsListed p [] [] (l ∷ [])
log_first p l none = record { solid = λ k o has. absurd (some-ne-none o (sym has)); flat = refl; adjacent = tt; filed = subst (λ (z : List Batch). ListedOnce [] (z ∷ [])) (sym none) file_first }

-- the views' snapshots after a step of the seat j, by which q grew to r
pub seen_on : (q r : Positions) (parts : List QueueView) (j : ℕ) (w : QueueView) → ((i : ℕ) (v : QueueView) → get_elem? parts i ≡ some v → Grows v.queue q) → Grows q r → Grows w.queue r
    → (i : ℕ) (v : QueueView) → get_elem? (set parts j w) i ≡ some v → Grows v.queue r
seen_on q r parts j w seen g mine = all_set (λ v. Grows v.queue r) parts j w (λ i v at. grows_trans v.queue q r (seen i v at) g) mine

-- what the views show after a step of one, by what its logs become
abbrev pub listed_on : (q r : Positions) (parts : List QueueView) (j : ℕ) (w : QueueView) → ViewsShow q parts → Grows q r → Grows w.queue r → (runs takes : List (Owned Batch))
    → IsListed r.first r.places runs (set (map runs_of parts) j w.runs) → IsListed r.first (take r.taken r.places) takes (set (map takes_of parts) j w.takes) → ViewsShow r (set parts j w)
listed_on q r parts j w l g grown runs takes are are' = record {
  lists = record {
    runs = runs;
    takes = takes;
    runs_are = subst (IsListed r.first r.places runs) (sym (map-set runs_of parts j w)) are;
    takes_are = subst (IsListed r.first (take r.taken r.places) takes) (sym (map-set takes_of parts j w)) are';
  };
  seen = seen_on q r parts j w l.seen g grown;
}

-- the logs that a step leaves
module _ (q : Positions) (parts : List QueueView) (j : ℕ) (v w : QueueView) (l : ViewsShow q parts) (at : get_elem? parts j ≡ some v) where
  pub same_runs : w.runs ≡ v.runs → IsListed q.first q.places l.lists.runs (set (map runs_of parts) j w.runs)
  same_runs is = log_same q.first q.places l.lists.runs (map runs_of parts) l.lists.runs_are j v.runs w.runs (at_map runs_of parts j v at) is

  pub same_takes : (places : List Cell) → take q.taken q.places ≡ places → w.takes ≡ v.takes → IsListed q.first places l.lists.takes (set (map takes_of parts) j w.takes)
  same_takes places same is = subst (λ (z : List Cell). IsListed q.first z l.lists.takes (set (map takes_of parts) j w.takes)) same (log_same q.first (take q.taken q.places) l.lists.takes (map takes_of parts) l.lists.takes_are j v.takes w.takes (at_map takes_of parts j v at) is)

-- a step that is no event
unfoldable pub listed_look : (q : Positions) (parts : List QueueView) (j : ℕ) (v w : QueueView) → ViewsShow q parts → get_elem? parts j ≡ some v → w.runs ≡ v.runs → w.takes ≡ v.takes → Grows w.queue q → ViewsShow q (set parts j w)
listed_look q parts j v w l at runs takes grown = listed_on q q parts j w l (grows_refl q) grown l.lists.runs l.lists.takes (same_runs q parts j v w l at runs) (same_takes q parts j v w l at (take q.taken q.places) refl takes)

unfoldable pub listed_claim : (q : Positions) (parts : List QueueView) (j : ℕ) (v w : QueueView) (xs : List ℕ) → ViewsShow q parts → get_elem? parts j ≡ some v → q.taken ≤ length q.places → q.shut ≡ false → 0 < length xs
    → w.runs ≡ v.runs ++ record { start = head_of q; places = map fresh xs } ∷ [] → w.takes ≡ v.takes → Grows w.queue (with_claim q xs) → ViewsShow (with_claim q xs) (set parts j w)
listed_claim q parts j v w xs l at following is_open some_items runs takes grown = let e : Batch = record { start = head_of q; places = map fresh xs } in let n = length-map xs fresh in
    listed_on q (with_claim q xs) parts j w l (claim_grows q xs is_open) grown (l.lists.runs ++ (j, length v.runs, e) ∷ []) l.lists.takes
    (log_push q.first q.places l.lists.runs (map runs_of parts) l.lists.runs_are j v.runs w.runs e (at_map runs_of parts j v at) runs (omega arith) refl)
    (same_takes q parts j v w l at (take q.taken (q.places ++ map fresh xs)) (sym (take-append-le q.taken q.places (map fresh xs) following)) takes)

-- a run of a view is in the queue
pub run_stands : (q : Positions) (parts : List QueueView) (j m : ℕ) (v : QueueView) (e : Batch) → PartsShow q parts → get_elem? parts j ≡ some v → get_elem? v.runs m ≡ some e → RunIsIn q e
run_stands q parts j m v e l at has = let r = l.runs_are.filed.listed j v.runs m e (at_map runs_of parts j v at) has in let s = lies q.first l.runs r.0 (j, m, e) l.runs_are.adjacent r.1 in record {
  at = s.at;
  start = s.start;
  within = subst (λ (z : List Cell). s.at + length e.places ≤ length z) l.runs_are.flat s.within;
  same = λ i h. subst (λ (z : List Cell). get_or z (s.at + i) blank ≡ get_or e.places i blank) l.runs_are.flat (s.same i h);
}

-- a place of a run that is not raised yet is within the window
pub record Own (q : Positions) (e : Batch) (i : ℕ) : Type 0 where
  pub at : ℕ
  pub start : e.start + i ≡ q.first + at
  pub from : q.taken ≤ at
  pub below : at < length q.places
  pub to : at < q.taken + q.room
  pub same : place_at q at ≡ get_or e.places i blank

pub own : (q : Positions) (e : Batch) (i : ℕ) → Lawful q → RunIsIn q e → i < length e.places → (get_or e.places i blank).stage < 2 → Own q e i
own q e i l s below low = let st = s.start in let w = s.within in let same = s.same i below in let n : stage_at q (s.at + i) ≡ (get_or e.places i blank).stage = ap (λ (z : Cell). z.stage) same in let within = l.within in
    let from : q.taken ≤ s.at + i = dite (dec_lt (s.at + i) q.taken) (λ y. let r = l.ready (s.at + i) y in absurd (omega arith)) (λ no. omega arith) in
    record { at = s.at + i; start = omega arith; from = from; below = omega arith; to = omega arith; same = same }

unfoldable pub listed_write : (q : Positions) (parts : List QueueView) (j m i n p : ℕ) (v w : QueueView) (e : Batch) → ViewsShow q parts → get_elem? parts j ≡ some v → get_elem? v.runs m ≡ some e → i < length e.places → e.start + i ≡ q.first + p
    → q.taken ≤ p → stage_at q p ≤ n → w.runs ≡ set v.runs m (with_stage e i n) → w.takes ≡ v.takes → Grows w.queue (with_write q p n) → ViewsShow (with_write q p n) (set parts j w)
listed_write q parts j m i n p v w e l at has below is ahead more runs takes grown =
    let a = l.lists in let s = run_stands q parts j m v e a at has in let st = s.start in let within = s.within in let here : s.at + i ≡ p = omega arith in let x : Cell = record { item = (get_or e.places i blank).item; stage = n } in
    let item : (get_or e.places i blank).item ≡ item_at q p = ap (λ (z : Cell). z.item) (sym (s.same i below) ∙ ap (place_at q) here) in let log : List (Owned Batch) = set a.runs (a.runs_are.filed.listed j v.runs m e (at_map runs_of parts j v at) has).0 (j, m, with_stage e i n) in
    listed_on q (with_write q p n) parts j w l (write_grows q p n (omega arith) more) grown log a.takes
    (subst (λ (z : ℕ). IsListed q.first (set q.places p (record { item = z; stage = n })) log (set (map runs_of parts) j w.runs)) item
    (log_set q.first q.places a.runs (map runs_of parts) a.runs_are j m i p v.runs w.runs e x (at_map runs_of parts j v at) has runs below is))
    (same_takes q parts j v w l at (take q.taken (with_write q p n).places) (sym (take-set-le q.taken q.places p (record { item = item_at q p; stage = n }) ahead)) takes)

pub take_on : (n m : ℕ) (l : List Cell) → take (n + m) l ≡ take n l ++ take m (drop n l)
take_on zero m l = let e : 0 + m ≡ m = omega arith in ap (λ (z : ℕ). take z l) e
take_on (suc n) zero [] = let e : suc n + 0 ≡ suc n = omega arith in ap (λ (z : ℕ). take {A = Cell} z []) e
take_on (suc n) (suc m) [] = let e : suc n + suc m ≡ suc (n + suc m) = omega arith in ap (λ (z : ℕ). take {A = Cell} z []) e
take_on (suc n) m (x ∷ xs) = let e : suc n + m ≡ suc (n + m) = omega arith in ap (λ (z : ℕ). take z (x ∷ xs)) e ∙ ap (λ (z : List Cell). x ∷ z) (take_on n m xs)

unfoldable pub listed_take : (q : Positions) (parts : List QueueView) (j n : ℕ) (v w : QueueView) → ViewsShow q parts → get_elem? parts j ≡ some v → 0 < n → q.taken + n ≤ length q.places
    → w.takes ≡ v.takes ++ record { start = tail_of q; places = take n (drop q.taken q.places) } ∷ [] → w.runs ≡ v.runs → Grows w.queue (with_take q n) → ViewsShow (with_take q n) (set parts j w)
listed_take q parts j n v w l at some_place long takes runs grown =
    let a = l.lists in let e : Batch = record { start = tail_of q; places = take n (drop q.taken q.places) } in let rest = length-drop q.taken q.places in let taken : length (take n (drop q.taken q.places)) ≡ n = length-take-le n (drop q.taken q.places) (omega arith) in
    let following = length-take-le q.taken q.places (omega arith) in let log : List (Owned Batch) = a.takes ++ (j, length v.takes, e) ∷ [] in
    listed_on q (with_take q n) parts j w l (take_grows q n) grown a.runs log (same_runs q parts j v w l at runs)
    (subst (λ (z : List Cell). IsListed q.first z log (set (map takes_of parts) j w.takes)) (sym (take_on q.taken n q.places))
    (log_push q.first (take q.taken q.places) a.takes (map takes_of parts) a.takes_are j v.takes w.takes e (at_map takes_of parts j v at) takes (omega arith) (omega arith)))

unfoldable pub listed_shut : (q : Positions) (parts : List QueueView) (j : ℕ) (v w : QueueView) → ViewsShow q parts → get_elem? parts j ≡ some v → w.runs ≡ v.runs → w.takes ≡ v.takes → Grows w.queue (with_shut q) → ViewsShow (with_shut q) (set parts j w)
listed_shut q parts j v w l at runs takes grown = listed_on q (with_shut q) parts j w l (shut_grows q) grown l.lists.runs l.lists.takes (same_runs q parts j v w l at runs) (same_takes q parts j v w l at (take q.taken q.places) refl takes)

unfoldable pub listed_new : (q : Positions) (parts : List QueueView) (w : QueueView) → ViewsShow q parts → w.runs ≡ [] → w.takes ≡ [] → Grows w.queue q → ViewsShow q (parts ++ w ∷ [])
listed_new q parts w l runs takes grown = let a = l.lists in record {
  lists = record {
    runs = a.runs;
    takes = a.takes;
    runs_are = subst (IsListed q.first q.places a.runs) (sym (map-append runs_of parts (w ∷ []))) (log_new q.first q.places a.runs (map runs_of parts) a.runs_are w.runs runs);
    takes_are = subst (IsListed q.first (take q.taken q.places) a.takes) (sym (map-append takes_of parts (w ∷ []))) (log_new q.first (take q.taken q.places) a.takes (map takes_of parts) a.takes_are w.takes takes);
  };
  seen = all_push (λ v. Grows v.queue q) parts w l.seen grown;
}

-- the part of d goes to c
unfoldable pub listed_join : (q : Positions) (parts : List QueueView) (c d : ℕ) (a b both spent : QueueView) → ViewsShow q parts → get_elem? parts c ≡ some a → get_elem? parts d ≡ some b → d ≢ c
    → both.runs ≡ a.runs ++ b.runs → both.takes ≡ a.takes ++ b.takes → spent.runs ≡ [] → spent.takes ≡ [] → Grows both.queue q → Grows spent.queue q → ViewsShow q (set (set parts c both) d spent)
listed_join q parts c d a b both spent l at_c at_d apart runs takes no_runs no_takes grown grown' = let s = l.lists in record {
  lists = record {
    runs = map (moved c d (length a.runs)) s.runs;
    takes = map (moved c d (length a.takes)) s.takes;
    runs_are = subst (IsListed q.first q.places (map (moved c d (length a.runs)) s.runs)) (two_lists runs_of)
        (log_join q.first q.places s.runs (map runs_of parts) s.runs_are c d a.runs b.runs both.runs spent.runs (at_map runs_of parts c a at_c) (at_map runs_of parts d b at_d) apart runs no_runs);
    takes_are = subst (IsListed q.first (take q.taken q.places) (map (moved c d (length a.takes)) s.takes)) (two_lists takes_of)
        (log_join q.first (take q.taken q.places) s.takes (map takes_of parts) s.takes_are c d a.takes b.takes both.takes spent.takes (at_map takes_of parts c a at_c) (at_map takes_of parts d b at_d) apart takes no_takes);
  };
  seen = seen_on q q (set parts c both) d spent (seen_on q q parts c both l.seen (grows_refl q) grown) (grows_refl q) grown';
}
  where
    two_lists : (f : QueueView → List Batch) → set (set (map f parts) c (f both)) d (f spent) ≡ map f (set (set parts c both) d spent)
    two_lists f = sym (map-set f (set parts c both) d spent ∙ ap (λ (z : List (List Batch)). set z d (f spent)) (map-set f parts c both))

pub first_seen : (q : Positions) (w : QueueView) → Grows w.queue q → (i : ℕ) (v : QueueView) → get_elem? (w ∷ []) i ≡ some v → Grows v.queue q
first_seen q w g = all_one (λ v. Grows v.queue q) w g

-- a queue with nothing, and its first view
pub listed_first : (q : Positions) (w : QueueView) → q.places ≡ [] → q.taken ≡ 0 → w.runs ≡ [] → w.takes ≡ [] → Grows w.queue q → ViewsShow q (w ∷ [])
listed_first q w none start runs takes grown = record {
  lists = record {
    runs = [];
    takes = [];
    runs_are = subst (λ (z : List Cell). IsListed q.first z [] (w.runs ∷ [])) (sym none) (log_first q.first w.runs runs);
    takes_are = subst (λ (z : ℕ). IsListed q.first (take z q.places) [] (w.takes ∷ [])) (sym start) (log_first q.first w.takes takes);
  };
  seen = first_seen q w grown;
}

-- the runs of a view have different starts
pub distinct : (q : Positions) (parts : List QueueView) (j : ℕ) (v : QueueView) → PartsShow q parts → get_elem? parts j ≡ some v → Distinct v.runs
distinct q parts j v l at m n e f has has' is = let a = l.runs_are.filed.listed j v.runs m e (at_map runs_of parts j v at) has in let b = l.runs_are.filed.listed j v.runs n f (at_map runs_of parts j v at) has' in
    let same : a.0 ≡ b.0 = one_start q.first l.runs a.0 b.0 (j, m, e) (j, n, f) l.runs_are.adjacent l.runs_are.solid a.1 b.1 is in
    ap (λ (z : Owned Batch). z.1) (one_at l.runs b.0 (j, m, e) (j, n, f) (subst (λ (z : ℕ). get_elem? l.runs z ≡ some (j, m, e)) same a.1) b.1)

-- the run with a start is found by it
pub found_by_start : (l : List Batch) (m : ℕ) (e : Batch) → Distinct l → get_elem? l m ≡ some e → number_of e.start l ≡ m
found_by_start [] m e d has = absurd (some-ne-none e (sym has))
found_by_start (x ∷ xs) zero e d has = let h : x.start ≡ e.start = ap (λ (z : Batch). z.start) (some-injective x e has) in ap (λ (b : Bool). if b then 0 else suc (number_of e.start xs)) (eq-eqb x.start e.start h)
found_by_start (x ∷ xs) (suc m) e d has = let apart : x.start ≢ e.start = λ h. (let z : 0 ≡ suc m = d 0 (suc m) x e refl has h in omega arith) in
    ap (λ (b : Bool). if b then 0 else suc (number_of e.start xs)) (ne_eqb x.start e.start apart) ∙ ap suc (found_by_start xs m e (λ i k f g a b s. (let z : suc i ≡ suc k = d (suc i) (suc k) f g a b s in omega arith)) has)

-- if all other views have nothing, one part lists the queue
pub listed_sole : (q : Positions) (parts : List QueueView) (j : ℕ) (v : QueueView) → PartsShow q parts → get_elem? parts j ≡ some v → ((i : ℕ) (u : QueueView) → get_elem? parts i ≡ some u → i ≢ j → (u.runs ≡ []) × (u.takes ≡ [])) → PartsShow q (v ∷ [])
listed_sole q parts j v l at others = record {
  runs = map sole l.runs;
  takes = map sole l.takes;
  runs_are = log_sole q.first q.places l.runs (map runs_of parts) l.runs_are j v.runs (at_map runs_of parts j v at) (λ d k has ne. let b = at_map_back runs_of parts d k has in sym b.2 ∙ (others d b.0 b.1 ne).0);
  takes_are = log_sole q.first (take q.taken q.places) l.takes (map takes_of parts) l.takes_are j v.takes (at_map takes_of parts j v at) (λ d k has ne. let b = at_map_back takes_of parts d k has in sym b.2 ∙ (others d b.0 b.1 ne).1);
}

-- these lemmas for a table's views that have the queue's views in them
module _ {V : Type 0} (part : V → QueueView) (q : Positions) (vs : List V) where
  pub look_in : (j : ℕ) (v w : V) → ViewsShow q (map part vs) → get_elem? vs j ≡ some v → (part w).runs ≡ (part v).runs → (part w).takes ≡ (part v).takes → Grows (part w).queue q → ViewsShow q (map part (set vs j w))
  look_in j v w l at runs takes grown = subst (ViewsShow q) (sym (map-set part vs j w)) (listed_look q (map part vs) j (part v) (part w) l (at_map part vs j v at) runs takes grown)

  pub split_in : (j : ℕ) (v left right : V) → ViewsShow q (map part vs) → get_elem? vs j ≡ some v → (part left).runs ≡ (part v).runs → (part left).takes ≡ (part v).takes → Grows (part left).queue q → (part right).runs ≡ [] → (part right).takes ≡ [] → Grows (part right).queue q
      → ViewsShow q (map part (set vs j left ++ right ∷ []))
  split_in j v left right l at runs takes grown no_runs no_takes grown' = subst (ViewsShow q) (sym (map-append part (set vs j left) (right ∷ []))) (listed_new q (map part (set vs j left)) (part right) (look_in j v left l at runs takes grown) no_runs no_takes grown')

  pub join_in : (j k : ℕ) (v u both spent : V) → ViewsShow q (map part vs) → get_elem? vs j ≡ some v → get_elem? vs k ≡ some u → k ≢ j → (part both).runs ≡ (part v).runs ++ (part u).runs → (part both).takes ≡ (part v).takes ++ (part u).takes → (part spent).runs ≡ [] → (part spent).takes ≡ []
      → Grows (part both).queue q → Grows (part spent).queue q → ViewsShow q (map part (set (set vs j both) k spent))
  join_in j k v u both spent l at at' ne runs takes no_runs no_takes grown grown' = subst (ViewsShow q) (sym (map-set part (set vs j both) k spent ∙ ap (λ (z : List QueueView). set z k (part spent)) (map-set part vs j both)))
      (listed_join q (map part vs) j k (part v) (part u) (part both) (part spent) l (at_map part vs j v at) (at_map part vs k u at') ne runs takes no_runs no_takes grown grown')
