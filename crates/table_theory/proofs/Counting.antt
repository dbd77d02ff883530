-- The steps that make, split, join and count ends.
use Rattle.table_theory.proofs.Common.{◌≡◌, ℕ, ◌+◌, ◌-◌, ◌%◌, ◌<◌, ◌≤◌, ◌≢◌, List, [], ◌∷◌, ◌++◌, set, ◌∙◌, arith, some, get_elem?, IsPortion, IsWhole, given, kept, total, IsCount, set_else}
use Rattle.std.proofs.Common.{◌/◌}
use Rattle.table_theory.specs.Sharing.{EndsCounted}
use Rattle.table_theory.proofs.Owned.{all_set, all_push, all_one}
use Rattle.table_theory.proofs.Totals.{total_set, total_push, total_below, one_of, two_of, sole_total}

-- what a split gives, and what it leaves
pub given_some : (s : ℕ) → 2 ≤ s → 1 ≤ given s
given_some s h = let d : 1 ≤ s / 2 = omega arith in omega arith

pub kept_some : (s : ℕ) → 2 ≤ s → 1 ≤ kept s
kept_some s h = let d : s / 2 + 1 ≤ s = omega arith in omega arith

pub given_kept : (s : ℕ) → kept s + given s ≡ s
given_kept s = let d : s / 2 ≤ s = omega arith in omega arith

pub given_fits : (s : ℕ) → 2 ≤ s → IsPortion (given s) s
given_fits s h = let g = given_some s h in let k = kept_some s h in let b = given_kept s in (omega arith, omega arith)

-- A view w in place of one: `within` and `spent` hold of all others as before
module _ {V : Type 0} (f share : V → ℕ) (P : V → Type 0) where
  abbrev Spent : V → Type 0
  Spent v = f v ≡ 0 → (share v ≡ 0) × P v

  abbrev Within : V → Type 0
  Within v = f v ≤ share v

  -- no more ends are counted than there are parts
  pub counted_small : (n : ℕ) (vs : List V) → EndsCounted f share P n vs → n < 18446744073709551616
  counted_small n vs c = let t = total_below f share vs c.within in let s = c.shared in let x = c.counted in omega arith

  -- a step of a live end, which leaves so many
  pub changed : (n m : ℕ) (vs : List V) (j : ℕ) (v w : V) → EndsCounted f share P n vs → get_elem? vs j ≡ some v → 1 ≤ f w → f w ≤ share v → share w ≡ share v → total f (set vs j w) ≡ m → EndsCounted f share P m (set vs j w)
  changed n m vs j v w c at some_end enough shares is = let u = total_set share vs j v w at in record {
    counted = is;
    shared = let s = c.shared in omega arith;
    within = all_set Within vs j w c.within (omega arith);
    spent = all_set Spent vs j w c.spent (λ h. absurd (omega arith));
  }

  pub counted_up : (n : ℕ) (vs : List V) (j : ℕ) (v w : V) → EndsCounted f share P n vs → get_elem? vs j ≡ some v → f v + 1 ≤ share v → f w ≡ f v + 1 → share w ≡ share v → ((n + 1) % 18446744073709551616 ≡ n + 1) × EndsCounted f share P (n + 1) (set vs j w)
  counted_up n vs j v w c at enough more shares = let t = total_set f vs j v w at in let s = c.counted in let d : EndsCounted f share P (n + 1) (set vs j w) = changed n (n + 1) vs j v w c at (omega arith) (omega arith) shares (omega arith) in
      let bounded = counted_small (n + 1) (set vs j w) d in (omega arith, d)

  pub counted_down : (n : ℕ) (vs : List V) (j : ℕ) (v w : V) → EndsCounted f share P n vs → get_elem? vs j ≡ some v → 1 ≤ f w → f v ≡ f w + 1 → share w ≡ share v → ((n + (18446744073709551616 - 1)) % 18446744073709551616 ≡ n - 1) × (1 ≤ n) × EndsCounted f share P (n - 1) (set vs j w)
  counted_down n vs j v w c at some_end less shares = let t = total_set f vs j v w at in let s = c.counted in let o = one_of f vs j v at in let i = c.within j v at in let bounded = counted_small n vs c in
      (omega arith, omega arith, changed n (n - 1) vs j v w c at some_end (omega arith) shares (omega arith))

  pub counted_split : (n : ℕ) (vs : List V) (j : ℕ) (v left right : V) (parts : ℕ) → (2 ≤ share v → IsPortion parts (share v)) → EndsCounted f share P n vs → get_elem? vs j ≡ some v → f v ≡ 2 → f left ≡ 1 → f right ≡ 1
      → share left ≡ share v - parts → share right ≡ parts → EndsCounted f share P n (set vs j left ++ right ∷ [])
  counted_split n vs j v left right parts fits c at two one one' is is' = let t = total_set f vs j v left at in let p = total_push f (set vs j left) right in let t' = total_set share vs j v left at in let p' = total_push share (set vs j left) right in
      let i = c.within j v at in let g = (fits (omega arith)).0 in let k = (fits (omega arith)).1 in record {
        counted = let s = c.counted in omega arith;
        shared = let s = c.shared in omega arith;
        within = all_push Within (set vs j left) right (all_set Within vs j left c.within (omega arith)) (omega arith);
        spent = all_push Spent (set vs j left) right (all_set Spent vs j left c.spent (λ h. absurd (omega arith))) (λ h. absurd (omega arith));
      }

  pub counted_join : (n : ℕ) (vs : List V) (j k : ℕ) (v u both spent : V) → EndsCounted f share P n vs → get_elem? vs j ≡ some v → get_elem? vs k ≡ some u → k ≢ j → 1 ≤ f v → f both ≡ f v + f u → f spent ≡ 0
      → share both ≡ share v + share u → share spent ≡ 0 → P spent → EndsCounted f share P n (set (set vs j both) k spent)
  counted_join n vs j k v u both spent c at at' ne some_end sum none is is' idle = let t = total_set f vs j v both at in let x = total_set share vs j v both at in
      let at'' : get_elem? (set vs j both) k ≡ some u = set_else vs j k both ne ∙ at' in let t' = total_set f (set vs j both) k u spent at'' in let x' = total_set share (set vs j both) k u spent at'' in
      let i = c.within j v at in let i' = c.within k u at' in record {
        counted = let s = c.counted in omega arith;
        shared = let s = c.shared in omega arith;
        within = all_set Within (set vs j both) k spent (all_set Within vs j both c.within (omega arith)) (omega arith);
        spent = all_set Spent (set vs j both) k spent (all_set Spent vs j both c.spent (λ h. absurd (omega arith))) (λ _. (is', idle));
      }

  pub counted_first : (w : V) → f w ≡ 1 → share w ≡ 18446744073709551615 → EndsCounted f share P 1 (w ∷ [])
  counted_first w one is = record {
    counted = omega arith;
    shared = omega arith;
    within = all_one Within w (omega arith);
    spent = all_one Spent w (λ h. absurd (omega arith));
  }

  -- beside an end with the whole, no other end exists
  no_end : (n : ℕ) (vs : List V) (j : ℕ) (v : V) → EndsCounted f share P n vs → get_elem? vs j ≡ some v → IsWhole (share v) → (i : ℕ) (u : V) → get_elem? vs i ≡ some u → i ≢ j → f u ≡ 0
  no_end n vs j v c at whole i u has ne = let t = two_of share vs i j u v has at ne in let s = c.shared in let w = c.within i u has in omega arith

  -- beside an end with the whole, each end is spent
  pub others_idle : (n : ℕ) (vs : List V) (j : ℕ) (v : V) → EndsCounted f share P n vs → get_elem? vs j ≡ some v → IsWhole (share v) → (i : ℕ) (u : V) → get_elem? vs i ≡ some u → i ≢ j → P u
  others_idle n vs j v c at whole i u has ne = (c.spent i u has (no_end n vs j v c at whole i u has ne)).1

  -- an end with the whole is the only one, and the only one has the whole
  pub count_found : (n : ℕ) (vs : List V) (j : ℕ) (v : V) → EndsCounted f share P n vs → get_elem? vs j ≡ some v → f v ≡ 1 → IsCount (share v) n
  count_found n vs j v c at one = let s = c.counted in let o = one_of f vs j v at in record {
    some_end = omega arith;
    alone = λ is. let t = sole_total share vs j v at (λ i u has ne. let b = two_of f vs i j u v has at ne in (c.spent i u has (omega arith)).0) in let x = c.shared in omega arith;
    whole = λ whole. let t = sole_total f vs j v at (λ i u has ne. no_end n vs j v c at whole i u has ne) in omega arith;
  }
