-- The ends that exist, through each step, a split and a join.
use Rattle.table_theory.proofs.Common.{◌≡◌, ◌≢◌, ℕ, ◌+◌, ◌-◌, ◌%◌, ◌≤◌, List, [], ◌∷◌, ◌++◌, set, refl, ap, ◌∙◌, arith, some, get_elem?, Part, EndState, IsWhole, IsCount, IsIdle, IsPortion, EndsStand, rest_without, newborn_with, both, emptied, first_of, set_else}
use Rattle.table_theory.proofs.Counting.{changed, counted_up, counted_down, counted_split, counted_join, counted_first, others_idle, count_found}
use Rattle.table_theory.proofs.Totals.{total_set, total_push, total_kept}

module _ {K O : Type 0} (T : K) (plus : K → K → K) where
  abbrev ends : (EndState K O) → ℕ
  ends v = v.member.ends

  abbrev share : (EndState K O) → ℕ
  share v = v.member.share

  abbrev splits : (EndState K O) → ℕ
  splits v = v.member.splits

  abbrev joins : (EndState K O) → ℕ
  joins v = v.member.joins

  -- a step that leaves the end as it is among the ends
  pub stand_same : (n : ℕ) (vs : List (EndState K O)) (j : ℕ) (v w : (EndState K O)) → EndsStand T n vs → get_elem? vs j ≡ some v → 1 ≤ v.member.ends → w.member ≡ v.member → EndsStand T n (set vs j w)
  stand_same n vs j v w h at live same = let e : ends w ≡ ends v = ap (λ (z : Part). z.ends) same in record {
    counted = let i = h.counted.within j v at in changed ends share (IsIdle T) n n vs j v w h.counted at (omega arith) (omega arith) (ap (λ (z : Part). z.share) same) (total_kept ends vs j v w at e ∙ h.counted.counted);
    balanced = let x = h.balanced in let a = total_kept joins vs j v w at (ap (λ (z : Part). z.joins) same) in let b = total_kept splits vs j v w at (ap (λ (z : Part). z.splits) same) in omega arith;
  }

  -- the number becomes one more
  pub stand_up : (n : ℕ) (vs : List (EndState K O)) (j : ℕ) (v w : (EndState K O)) → EndsStand T n vs → get_elem? vs j ≡ some v → v.member.ends + 1 ≤ v.member.share → w.member ≡ record v.member { ends = v.member.ends + 1; splits = v.member.splits + 1 }
      → ((n + 1) % 18446744073709551616 ≡ n + 1) × EndsStand T (n + 1) (set vs j w)
  stand_up n vs j v w h at parts same = let c = counted_up ends share (IsIdle T) n vs j v w h.counted at parts (ap (λ (z : Part). z.ends) same) (ap (λ (z : Part). z.share) same) in (
    c.0,
    record {
      counted = c.1;
      balanced = let x = h.balanced in let a = total_kept joins vs j v w at (ap (λ (z : Part). z.joins) same) in let b = total_set splits vs j v w at in let more : splits w ≡ splits v + 1 = ap (λ (z : Part). z.splits) same in omega arith;
    },
  )

  -- the number becomes one less
  pub stand_down : (n : ℕ) (vs : List (EndState K O)) (j : ℕ) (v w : (EndState K O)) → EndsStand T n vs → get_elem? vs j ≡ some v → 2 ≤ v.member.ends → w.member ≡ record v.member { ends = v.member.ends - 1; joins = v.member.joins + 1 }
      → ((n + (18446744073709551616 - 1)) % 18446744073709551616 ≡ n - 1) × (1 ≤ n) × EndsStand T (n - 1) (set vs j w)
  stand_down n vs j v w h at live same = let e : ends w ≡ ends v - 1 = ap (λ (z : Part). z.ends) same in let c = counted_down ends share (IsIdle T) n vs j v w h.counted at (omega arith) (omega arith) (ap (λ (z : Part). z.share) same) in let some_end = c.1 in (
    c.0,
    c.1,
    record {
      counted = c.2;
      balanced = let x = h.balanced in let a = total_kept splits vs j v w at (ap (λ (z : Part). z.splits) same) in let b = total_set joins vs j v w at in let m : joins w ≡ joins v + 1 = ap (λ (z : Part). z.joins) same in omega arith;
    },
  )

  -- an end is split in two, of which each has what it has
  pub stand_parted : (n : ℕ) (vs : List (EndState K O)) (j : ℕ) (v left right : (EndState K O)) (parts : ℕ) → (2 ≤ v.member.share → IsPortion parts v.member.share) → EndsStand T n vs → get_elem? vs j ≡ some v → v.member.ends ≡ 2
      → left.member ≡ (rest_without parts v).member → right.member ≡ (newborn_with parts T v).member → EndsStand T n (set vs j left ++ right ∷ [])
  stand_parted n vs j v left right parts fits h at two rest new = let one : ends left ≡ 1 = let e : ends left ≡ ends v - 1 = ap (λ (z : Part). z.ends) rest in omega arith in record {
    counted = counted_split ends share (IsIdle T) n vs j v left right parts fits h.counted at two one (ap (λ (z : Part). z.ends) new) (ap (λ (z : Part). z.share) rest) (ap (λ (z : Part). z.share) new);
    balanced = let x = h.balanced in let a = total_kept joins vs j v left at (ap (λ (z : Part). z.joins) rest) in let b = total_kept splits vs j v left at (ap (λ (z : Part). z.splits) rest) in let c = total_push joins (set vs j left) right in
        let d = total_push splits (set vs j left) right in let e : joins right ≡ 0 = ap (λ (z : Part). z.joins) new in let f : splits right ≡ 0 = ap (λ (z : Part). z.splits) new in omega arith;
  }

  pub stand_join : (n : ℕ) (vs : List (EndState K O)) (j k : ℕ) (v u : (EndState K O)) → EndsStand T n vs → get_elem? vs j ≡ some v → get_elem? vs k ≡ some u → k ≢ j → 1 ≤ v.member.ends → EndsStand T n (set (set vs j (both plus v u)) k (emptied T v))
  stand_join n vs j k v u h at at' ne live = let b : (EndState K O) = both plus v u in let x : (EndState K O) = emptied T v in let at'' : get_elem? (set vs j b) k ≡ some u = set_else vs j k b ne ∙ at' in record {
    counted = counted_join ends share (IsIdle T) n vs j k v u b x h.counted at at' ne live refl refl refl refl record { own = refl; splits = refl; joins = refl; steps = refl };
    balanced = let y = h.balanced in let a = total_set joins vs j v b at in let c = total_set joins (set vs j b) k u x at'' in let d = total_set splits vs j v b at in let e = total_set splits (set vs j b) k u x at'' in omega arith;
  }

  -- the only end of a new object, whatever it has
  pub stand_opened : (own : K) (first : O) → EndsStand T 1 (first_of own first ∷ [])
  stand_opened own first = record { counted = counted_first ends share (IsIdle T) (first_of own first) refl refl; balanced = refl }

  -- beside an end with the whole, each end is spent
  pub rest_spent : (n : ℕ) (vs : List (EndState K O)) (j : ℕ) (v : (EndState K O)) → EndsStand T n vs → get_elem? vs j ≡ some v → IsWhole v.member.share → (i : ℕ) (u : (EndState K O)) → get_elem? vs i ≡ some u → i ≢ j → IsIdle T u
  rest_spent n vs j v h at whole = others_idle ends share (IsIdle T) n vs j v h.counted at whole

  -- an end with the whole is the only one, and the only one has the whole
  pub number_is : (n : ℕ) (vs : List (EndState K O)) (j : ℕ) (v : (EndState K O)) → EndsStand T n vs → get_elem? vs j ≡ some v → v.member.ends ≡ 1 → IsCount v.member.share n
  number_is n vs j v h at one = count_found ends share (IsIdle T) n vs j v h.counted at one
