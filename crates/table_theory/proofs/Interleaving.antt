-- Lists in order are interleaved by the log that has all their entries, each once.
use Rattle.table_theory.proofs.Common.{◌≡◌, ℕ, suc, zero, ◌+◌, ◌<◌, ⊎_elim, List, [], ◌∷◌, ◌++◌, map, take, length, set, sym, refl, ap, ◌∙◌, subst, arith, map-append, some, some-injective, some-ne-none, dite, ℕ_discrete, get_elem?, at_set, set_here, set_else, at_longer, at_map, Batch, Cell, Owned, entry_of, ListedOnce, all_places, Adjacent, IsListed, PartsShow, item_of, Positions, QueueView}
use Rattle.std.specs.List.{concat}
use Rattle.table_theory.specs.Interleaving.{Ascending, joined, Interleaves}
use Rattle.table_theory.specs.Listing.{IsSolid}
use Rattle.table_theory.proofs.Logs.{one_start, starts_past}
use Rattle.table_theory.proofs.Owned.{at_below, at_after, at_joined, at_map_back, one_at}

-- PLACES IN JOINED LISTS

module _ {A : Type 0} where
  -- the list with this number has the entry
  abbrev Has : List (List A) → ℕ → A → Type 0
  Has lists k e = (l : List A) × (m : ℕ) × (get_elem? lists k ≡ some l) × (get_elem? l m ≡ some e)

  abbrev In : List A → A → Type 0
  In log e = (i : ℕ) × (get_elem? log i ≡ some e)

  -- where the entry m of the list j is in the joined lists
  abbrev spot : List (List A) → ℕ → ℕ → ℕ
  spot [] j m = m
  spot (l ∷ lists) zero m = m
  spot (l ∷ lists) (suc j) m = length l + spot lists j m

  at_spot : (lists : List (List A)) (j m : ℕ) (l : List A) (e : A) → get_elem? lists j ≡ some l → get_elem? l m ≡ some e → get_elem? (joined lists) (spot lists j m) ≡ some e
  at_spot [] j m l e at is = absurd (some-ne-none l (sym at))
  at_spot (x ∷ lists) zero m l e at is = at_longer x (joined lists) m e (subst (λ (z : List A). get_elem? z m ≡ some e) (sym (some-injective x l at)) is)
  at_spot (x ∷ lists) (suc j) m l e at is = at_after x (joined lists) (spot lists j m) e (at_spot lists j m l e at is)

  one_spot : (lists : List (List A)) (j k m n : ℕ) (l r : List A) → get_elem? lists j ≡ some l → get_elem? lists k ≡ some r → m < length l → n < length r → spot lists j m ≡ spot lists k n → j ≡ k
  one_spot [] j k m n l r at to low below same = absurd (some-ne-none l (sym at))
  one_spot (x ∷ lists) zero zero m n l r at to low below same = refl
  one_spot (x ∷ lists) zero (suc k) m n l r at to low below same = let e : length x ≡ length l = ap length (some-injective x l at) in absurd (omega arith)
  one_spot (x ∷ lists) (suc j) zero m n l r at to low below same = let e : length x ≡ length r = ap length (some-injective x r to) in absurd (omega arith)
  one_spot (x ∷ lists) (suc j) (suc k) m n l r at to low below same = ap suc (one_spot lists j k m n l r at to low below (omega arith))

  in_joined : (lists : List (List A)) (i : ℕ) (e : A) → get_elem? (joined lists) i ≡ some e → (j : ℕ) × Has lists j e
  in_joined [] i e at = absurd (some-ne-none e (sym at))
  in_joined (l ∷ lists) i e at = ⊎_elim (λ h. (0, (l, i, refl, h))) (λ t. let r = in_joined lists t.0 e t.2 in (suc r.0, r.1)) (at_joined l (joined lists) i e at)

-- ONE ORDER

-- the log is in order, and so is each list; each entry of the log is in one list, and each entry of a list in the log
record Ready (log : List Batch) (lists : List (List Batch)) : Type 0 where
  up : Ascending log
  ups : (k : ℕ) (l : List Batch) → get_elem? lists k ≡ some l → Ascending l
  apart : (j k : ℕ) (e f : Batch) → Has lists j e → Has lists k f → e.start ≡ f.start → j ≡ k
  listed : (j : ℕ) (e : Batch) → Has lists j e → In log e
  stands : (e : Batch) → In log e → (j : ℕ) × Has lists j e

up_after : (x : Batch) (xs : List Batch) → Ascending (x ∷ xs) → Ascending xs
up_after x xs up i j e f at is low = up (suc i) (suc j) e f at is (omega arith)

-- nothing in the log starts before its first entry
first_of_log : (x : Batch) (xs : List Batch) → Ascending (x ∷ xs) → (i : ℕ) (y : Batch) → get_elem? (x ∷ xs) i ≡ some y → y.start < x.start → ⊥
first_of_log x xs up zero y at low = let e : x.start ≡ y.start = ap (λ (z : Batch). z.start) (some-injective x y at) in omega arith
first_of_log x xs up (suc i) y at low = let h = up 0 (suc i) x y refl at (omega arith) in omega arith

module _ (x : Batch) (xs : List Batch) (lists : List (List Batch)) (r : Ready (x ∷ xs) lists) (k : ℕ) where
  -- the first entry of the log is the first of its list
  front : (l : List Batch) (m : ℕ) → get_elem? lists k ≡ some l → get_elem? l m ≡ some x → (rest : List Batch) × (get_elem? lists k ≡ some (x ∷ rest))
  front [] m at is = absurd (some-ne-none x (sym is))
  front (y ∷ ys) zero at is = (ys, subst (λ (z : Batch). get_elem? lists k ≡ some (z ∷ ys)) (some-injective y x is) at)
  front (y ∷ ys) (suc m) at is = let i = r.listed k y (y ∷ ys, 0, at, refl) in absurd (first_of_log x xs r.up i.0 y i.1 (r.ups k (y ∷ ys) at 0 (suc m) y x refl is (omega arith)))

  module _ (ys : List Batch) (at : get_elem? lists k ≡ some (x ∷ ys)) where
    abbrev others : List (List Batch)
    others = set lists k ys

    here : get_elem? others k ≡ some ys
    here = set_here lists k ys (at_below lists k (x ∷ ys) at)

    after_x : (m : ℕ) (e : Batch) → get_elem? ys m ≡ some e → x.start < e.start
    after_x m e is = r.ups k (x ∷ ys) at 0 (suc m) x e refl is (omega arith)

    -- what is in one of the other lists was in that list before
    old : (j : ℕ) (e : Batch) → Has others j e → Has lists j e
    old j e h = ⊎_elim
        (λ t. (x ∷ ys, suc h.1, subst (λ (z : ℕ). get_elem? lists z ≡ some (x ∷ ys)) (sym t.0) at, subst (λ (z : List Batch). get_elem? z h.1 ≡ some e) (sym t.1) h.3))
        (λ t. (h.0, h.1, t.1, h.3))
        (at_set lists k j ys h.0 h.2)

    -- the first entry of the log is in none of them
    gone : (j : ℕ) (e : Batch) → Has others j e → e.start ≡ x.start → ⊥
    gone j e h same =
        let j_is : j ≡ k = r.apart j k e x (old j e h) (x ∷ ys, 0, at, refl) same in
        let l_is : h.0 ≡ ys = one_at others k h.0 ys (subst (λ (z : ℕ). get_elem? others z ≡ some h.0) j_is h.2) here in
        let past = after_x h.1 e (subst (λ (z : List Batch). get_elem? z h.1 ≡ some e) l_is h.3) in
        omega arith

    in_rest : (j : ℕ) (e : Batch) → Has others j e → (i : ℕ) → get_elem? (x ∷ xs) i ≡ some e → In xs e
    in_rest j e h zero is = absurd (gone j e h (ap (λ (z : Batch). z.start) (sym (some-injective x e is))))
    in_rest j e h (suc i) is = (i, is)

    from_front : (i : ℕ) (e : Batch) → get_elem? xs i ≡ some e → (l : List Batch) (m : ℕ) → l ≡ x ∷ ys → get_elem? l m ≡ some e → Has others k e
    from_front i e at_i l m l_is is = by m (subst (λ (z : List Batch). get_elem? z m ≡ some e) l_is is)
      where
        by : (m : ℕ) → get_elem? (x ∷ ys) m ≡ some e → Has others k e
        by zero is = let past = r.up 0 (suc i) x e refl at_i (omega arith) in let same : x.start ≡ e.start = ap (λ (z : Batch). z.start) (some-injective x e is) in absurd (omega arith)
        by (suc m) is = (ys, m, here, is)

    next : Ready xs others
    next = record {
      up = up_after x xs r.up;
      ups = λ j l h. ⊎_elim (λ t. subst Ascending t.1 (up_after x ys (r.ups k (x ∷ ys) at))) (λ t. r.ups j l t.1) (at_set lists k j ys l h);
      apart = λ i j e f a b same. r.apart i j e f (old i e a) (old j f b) same;
      listed = λ j e h. let i = r.listed j e (old j e h) in in_rest j e h i.0 i.1;
      stands = λ e i. let s = r.stands e (suc i.0, i.1) in dite (ℕ_discrete s.0 k)
          (λ own. (k, from_front i.0 e i.1 s.1.0 s.1.1 (one_at lists k s.1.0 (x ∷ ys) (subst (λ (z : ℕ). get_elem? lists z ≡ some s.1.0) own s.1.2) at) s.1.3))
          (λ other. (s.0, (s.1.0, s.1.1, set_else lists k s.0 ys other ∙ s.1.2, s.1.3)));
    }

none_left : (lists : List (List Batch)) → Ready [] lists → (k : ℕ) (l : List Batch) → get_elem? lists k ≡ some l → l ≡ []
none_left lists r k [] at = refl
none_left lists r k (y ∷ ys) at = let i = r.listed k y (y ∷ ys, 0, at, refl) in absurd (some-ne-none y (sym i.1))

merge : (log : List Batch) (lists : List (List Batch)) → Ready log lists → Interleaves log lists
merge [] lists r = none_left lists r
merge (x ∷ xs) lists r =
    let s = r.stands x (0, refl) in
    let f = front x xs lists r s.0 s.1.0 s.1.1 s.1.2 s.1.3 in
    (s.0, f.0, f.1, merge xs (set lists s.0 f.0) (next x xs lists r s.0 f.0 f.1))

-- A CHAINED LOG

pub log_ascends : (p : ℕ) (log : List (Owned Batch)) → Adjacent p log → IsSolid log → Ascending (map entry_of log)
log_ascends p [] c solid i j e f at is low = absurd (some-ne-none e (sym at))
log_ascends p (o ∷ os) c solid zero zero e f at is low = absurd (omega arith)
log_ascends p (o ∷ os) c solid zero (suc j) e f at is low =
    let b = at_map_back entry_of os j f is in let h = starts_past (p + length o.2.places) os j b.0 c.1 b.1 in let s = solid 0 o refl in let same = ap (λ (z : Batch). z.start) b.2 in
    let g : o.2.start ≡ e.start = ap (λ (z : Batch). z.start) (some-injective o.2 e at) in let k = c.0 in omega arith
log_ascends p (o ∷ os) c solid (suc i) zero e f at is low = absurd (omega arith)
log_ascends p (o ∷ os) c solid (suc i) (suc j) e f at is low = log_ascends (p + length o.2.places) os c.1 (λ k q h. solid (suc k) q h) i j e f at is (omega arith)

-- the one list of a list of one
only : (l r : List Batch) (c : ℕ) → get_elem? (l ∷ []) c ≡ some r → r ≡ l
only l r zero at = sym (some-injective l r at)
only l r (suc c) at = absurd (some-ne-none r (sym at))

module _ (p : ℕ) (log : List (Owned Batch)) (lists : List (List Batch)) (c : Adjacent p log) (solid : IsSolid log) (f : ListedOnce log (joined lists ∷ [])) where
  filed : (j : ℕ) (e : Batch) (h : Has lists j e) → (i : ℕ) × (get_elem? log i ≡ some (0, spot lists j h.1, e))
  filed j e h = f.listed 0 (joined lists) (spot lists j h.1) e refl (at_spot lists j h.1 h.0 e h.2 h.3)

  parted : (j k : ℕ) (e e' : Batch) → Has lists j e → Has lists k e' → e.start ≡ e'.start → j ≡ k
  parted j k e e' h g same =
      let a = filed j e h in let b = filed k e' g in
      let one : a.0 ≡ b.0 = one_start p log a.0 b.0 (0, spot lists j h.1, e) (0, spot lists k g.1, e') c solid a.1 b.1 same in
      let entry = one_at log b.0 (0, spot lists j h.1, e) (0, spot lists k g.1, e') (subst (λ (z : ℕ). get_elem? log z ≡ some (0, spot lists j h.1, e)) one a.1) b.1 in
      one_spot lists j k h.1 g.1 h.0 g.0 h.2 g.2 (at_below h.0 h.1 e h.3) (at_below g.0 g.1 e' g.3) (ap (λ (z : Owned Batch). z.1) entry)

  pub interleaved : ((k : ℕ) (l : List Batch) → get_elem? lists k ≡ some l → Ascending l) → Interleaves (map entry_of log) lists
  interleaved ups = merge (map entry_of log) lists (record {
    up = log_ascends p log c solid;
    ups = ups;
    apart = parted;
    listed = λ j e h. let a = filed j e h in (a.0, at_map entry_of log a.0 (0, spot lists j h.1, e) a.1);
    stands = λ e i. let b = at_map_back entry_of log i.0 e i.1 in let s = f.stands i.0 b.0 b.1 in
        in_joined lists b.0.1 e (subst (λ (z : List Batch). get_elem? z b.0.1 ≡ some e) (only (joined lists) s.0 b.0.0 s.1) (s.2 ∙ ap some b.2));
  })

-- WHAT IS TOLD OF EACH ENTRY

module _ {A B : Type 0} (f : A → B) where
  map_set : (lists : List (List A)) (k : ℕ) (l : List A) → set (map (map f) lists) k (map f l) ≡ map (map f) (set lists k l)
  map_set [] k l = refl
  map_set (x ∷ lists) zero l = refl
  map_set (x ∷ lists) (suc k) l = ap (λ (z : List (List B)). map f x ∷ z) (map_set lists k l)

  all_empty : (lists : List (List A)) → Interleaves [] lists → Interleaves [] (map (map f) lists)
  all_empty lists none k l at = let b = at_map_back (map f) lists k l at in sym b.2 ∙ ap (map f) (none k b.0 b.1)

  pub interleaves_map : (order : List A) (lists : List (List A)) → Interleaves order lists → Interleaves (map f order) (map (map f) lists)
  interleaves_map [] lists i = all_empty lists i
  interleaves_map (x ∷ order) lists i =
      (i.0, map f i.1, at_map (map f) lists i.0 (x ∷ i.1) i.2, subst (λ (z : List (List B)). Interleaves (map f order) z) (sym (map_set lists i.0 i.1)) (interleaves_map order (set lists i.0 i.1) i.3))

-- THE RUNS AND THE TAKINGS OF A QUEUE THAT ONE END LISTS

abbrev pub items_in : Batch → List ℕ
items_in e = map item_of e.places

items_flat : (log : List (Owned Batch)) → concat (map items_in (map entry_of log)) ≡ map item_of (all_places log)
items_flat [] = refl
items_flat (o ∷ os) = ap (λ (z : List ℕ). items_in o.2 ++ z) (items_flat os) ∙ sym (map-append item_of o.2.places (all_places os))

-- the stretches of these lists, as lines, in the order of their positions
abbrev pub Merges : List (List Batch) → List ℕ → Type 0
Merges lists items = (order : List (List ℕ)) × Interleaves order (map (map items_in) lists) × (concat order ≡ items)

module _ (q : Positions) (v : QueueView) (lists : List (List Batch)) (s : PartsShow q (v ∷ [])) (ups : (k : ℕ) (l : List Batch) → get_elem? lists k ≡ some l → Ascending l) where
  merged : (places : List Cell) (log : List (Owned Batch)) (l : List Batch) → IsListed q.first places log (l ∷ []) → l ≡ joined lists → Merges lists (map item_of places)
  merged places log l a is = (
    map items_in (map entry_of log),
    interleaves_map items_in (map entry_of log) lists (interleaved q.first log lists a.adjacent a.solid (subst (λ (z : List Batch). ListedOnce log (z ∷ [])) is a.filed) ups),
    items_flat log ∙ ap (map item_of) a.flat,
  )

  pub runs_merge : v.runs ≡ joined lists → Merges lists (map item_of q.places)
  runs_merge is = merged q.places s.runs v.runs s.runs_are is

  pub takes_merge : v.takes ≡ joined lists → Merges lists (map item_of (take q.taken q.places))
  takes_merge is = merged (take q.taken q.places) s.takes v.takes s.takes_are is
