-- Blocks that get their places, one by one.
use Rattle.boot_picture.proofs.Common.{◌≡◌, ◌≢◌, ◌<◌, ◌≤◌, ◌+◌, ◌∙◌, ℕ, List, [], ◌∷◌, ◌++◌, ⊎_elim, arith, sym, ap, subst, length, length-set, take, set, get_or, cases_eq, get_or-map, get_or-set_other, get_or-set_same, get_or_default, length-map, map-set, map_push, set-get_or, take_more, All-push, All-weaker, All, AllPairs, Placed, Scale, Ordered, Track, IsAtTime, IsBefore, IsWide, blocks_of}
use Rattle.std.proofs.lemmas.List.Quantifiers.{all_pairs_push}

-- one more block
pub blocks_more : (order : List Ordered) (i : ℕ) (d : Ordered) (all new : List Placed) (one : Placed) → i < length order → blocks_of all ≡ take i order → one.ordered ≡ get_or order i d → new ≡ all ++ one ∷ [] → blocks_of new ≡ take (i + 1) order
blocks_more order i d all new one within before is pushed =
    ap blocks_of pushed ∙ (map_push (λ (p : Placed). p.ordered) all one
    ∙ (ap (λ (os : List Ordered). os ++ one.ordered ∷ []) before
    ∙ (ap (λ (o : Ordered). take i order ++ o ∷ []) is ∙ sym (take_more order i d within))))

pub wide_more : (all new : List Placed) (one : Placed) → All IsWide all → IsWide one → new ≡ all ++ one ∷ [] → All IsWide new
wide_more all new one before is pushed = subst (λ (ps : List Placed). All IsWide ps) (sym pushed) (All-push IsWide all one before is)

-- the blocks of these places are of some of so many processors
pub processors_of : (n : ℕ) (all : List Placed) (order : List Ordered) → blocks_of all ≡ order → All (λ (o : Ordered). o.processor < n) order → All (λ (p : Placed). p.ordered.processor < n) all
processors_of n all order same known = λ k d within.
    let read = get_or-map (λ (p : Placed). p.ordered) all k d d.ordered within in
    let many : k < length order = subst (λ (os : List Ordered). k < length os) same (rw (length-map all (λ (p : Placed). p.ordered)) within) in
    subst (λ (o : Ordered). o.processor < n) read (subst (λ (os : List Ordered). (get_or os k d.ordered).processor < n) (sym same) (known k d.ordered many))

-- a block with its right side moved
abbrev pub moved : Placed → ℕ → Placed
moved was right = record { ordered = was.ordered; bounds = record { left = was.bounds.left; right = right }; wording = was.wording }

pub blocks_moved : (all : List Placed) (i : ℕ) (d : Placed) (right : ℕ) → i < length all → blocks_of (set all i (moved (get_or all i d) right)) ≡ blocks_of all
blocks_moved all i d right within =
    map-set (λ (p : Placed). p.ordered) all i (moved (get_or all i d) right)
    ∙ (ap (λ (o : Ordered). set (blocks_of all) i o) (sym (get_or-map (λ (p : Placed). p.ordered) all i d d.ordered within)) ∙ set-get_or (blocks_of all) i d.ordered)

-- a block begins to the left of this side, and ends there or before it
pub record IsLeftOf (side : ℕ) (placed : Placed) : Type 0 where
  pub begins : placed.bounds.left + 40 ≤ side
  pub ends : placed.bounds.right ≤ side

pub left_more : (side next : ℕ) (all new : List Placed) (one : Placed) → side ≤ next → All (IsLeftOf side) all → IsLeftOf next one → new ≡ all ++ one ∷ [] → All (IsLeftOf next) new
left_more side next all new one farther before is pushed =
    subst (λ (ps : List Placed). All (IsLeftOf next) ps) (sym pushed) (All-push (IsLeftOf next) all one (All-weaker (IsLeftOf side) (IsLeftOf next) (λ p h. let begins = h.begins in let ends = h.ends in record { begins = omega arith; ends = omega arith }) all before) is)

pub pairs_more : (all new : List Placed) (one : Placed) → AllPairs IsBefore all → All (IsLeftOf one.bounds.left) all → new ≡ all ++ one ∷ [] → AllPairs IsBefore new
pairs_more all new one before left pushed =
    subst (λ (ps : List Placed). AllPairs IsBefore ps) (sym pushed) (all_pairs_push IsBefore all one before (λ k d within. let h : IsLeftOf one.bounds.left (get_or all k d) = left k d within in record { begins = h.begins; ends = λ same. h.ends }))

-- no block from this number on begins before its processor's number in `nexts`
abbrev pub AreNexts : List ℕ → ℕ → List Placed → Type 0
AreNexts nexts from all = (j : ℕ) (d : Placed) → from ≤ j → j < length all → get_or nexts (get_or all j d).ordered.processor 0 ≤ (get_or all j d).bounds.left

-- a block is moved at its right side, and ends before the later blocks of its processor
module _ (all : List Placed) (i : ℕ) (e : Placed) (right : ℕ) (within : i < length all) (pairs : AllPairs IsBefore all) where
  there : (d : Placed) → get_or (set all i (moved (get_or all i e) right)) i d ≡ moved (get_or all i e) right
  there d = get_or-set_same all i (moved (get_or all i e) right) d within

  elsewhere : (k : ℕ) (d : Placed) → k ≢ i → get_or (set all i (moved (get_or all i e) right)) k d ≡ get_or all k d
  elsewhere k d isnt = get_or-set_other all i k (moved (get_or all i e) right) d isnt

  -- the pairs of the block as it was
  pub before_later : (j : ℕ) (d : Placed) → i < j → j < length all → IsBefore (get_or all i e) (get_or all j d)
  before_later j d less below = subst (λ (x : Placed). IsBefore x (get_or all j d)) (get_or_default all i d e within) (pairs i j d less below)

  after_earlier : (j : ℕ) (d : Placed) → j < i → IsBefore (get_or all j d) (get_or all i e)
  after_earlier j d less = subst (λ (x : Placed). IsBefore (get_or all j d) x) (get_or_default all i d e within) (pairs j i d less within)

  pub pairs_moved : ((j : ℕ) (d : Placed) → i < j → j < length all → (get_or all i e).ordered.processor ≡ (get_or all j d).ordered.processor → right ≤ (get_or all j d).bounds.left) → AllPairs IsBefore (set all i (moved (get_or all i e) right))
  pairs_moved clear = λ a b d less below.
      let one : Placed = moved (get_or all i e) right in
      let many = length-set all i one in
      ⊎_elim (λ (first : a ≡ i).
      let other : b ≢ i = λ is. omega (arith, first, is, less) in
      let later : i < b = omega arith in
      let inside : b < length all = omega arith in
      let at : get_or (set all i one) a d ≡ one = ap (λ k. get_or (set all i one) k d) first ∙ there d in
      let is : IsBefore one (get_or all b d) = record { begins = (before_later b d later inside).begins; ends = λ p. clear b d later inside p } in
      subst (λ (x : Placed). IsBefore x (get_or (set all i one) b d)) (sym at) (subst (λ (x : Placed). IsBefore one x) (sym (elsewhere b d other)) is))
      (λ (other : a ≢ i).
      subst (λ (x : Placed). IsBefore x (get_or (set all i one) b d)) (sym (elsewhere a d other)) (⊎_elim (λ (second : b ≡ i).
      let at : get_or (set all i one) b d ≡ one = ap (λ k. get_or (set all i one) k d) second ∙ there d in
      let earlier : a < i = omega arith in
      let old = after_earlier a d earlier in
      let is : IsBefore (get_or all a d) one = record { begins = old.begins; ends = old.ends } in
      subst (λ (x : Placed). IsBefore (get_or all a d) x) (sym at) is)
      (λ (isnt : b ≢ i). subst (λ (x : Placed). IsBefore (get_or all a d) x) (sym (elsewhere b d isnt)) (pairs a b d less (omega arith))) (cases_eq b i)))
      (cases_eq a i)

  -- and its own left side is in `nexts`
  pub nexts_moved : (nexts : List ℕ) → (get_or all i e).ordered.processor < length nexts → AreNexts nexts (i + 1) all → AreNexts (set nexts (get_or all i e).ordered.processor (get_or all i e).bounds.left) i (set all i (moved (get_or all i e) right))
  nexts_moved nexts known before = λ j d from below.
      let one : Placed = moved (get_or all i e) right in
      let many = length-set all i one in
      let p : ℕ = (get_or all i e).ordered.processor in
      let left : ℕ = (get_or all i e).bounds.left in
      let own : get_or (set nexts p left) p 0 ≡ left = get_or-set_same nexts p left 0 known in
      ⊎_elim (λ (same : j ≡ i).
      let at : get_or (set all i one) j d ≡ one = ap (λ k. get_or (set all i one) k d) same ∙ there d in
      subst (λ (x : Placed). get_or (set nexts p left) x.ordered.processor 0 ≤ x.bounds.left) (sym at) (omega arith))
      (λ (isnt : j ≢ i).
      let x : Placed = get_or all j d in
      let later : i < j = omega (arith, isnt) in
      let inside : j < length all = omega arith in
      let old : get_or nexts x.ordered.processor 0 ≤ x.bounds.left = before j d (omega arith) inside in
      let begins : left + 40 ≤ x.bounds.left = (before_later j d later inside).begins in
      subst (λ (y : Placed). get_or (set nexts p left) y.ordered.processor 0 ≤ y.bounds.left) (sym (elsewhere j d isnt))
      (⊎_elim (λ (mine : x.ordered.processor ≡ p). let read : get_or (set nexts p left) x.ordered.processor 0 ≡ left = ap (λ q. get_or (set nexts p left) q 0) mine ∙ own in omega arith)
      (λ (another : x.ordered.processor ≢ p). let read : get_or (set nexts p left) x.ordered.processor 0 ≡ get_or nexts x.ordered.processor 0 = get_or-set_other nexts p x.ordered.processor left 0 another in omega arith)
      (cases_eq x.ordered.processor p)))
      (cases_eq j i)

-- one more block at its time
pub times_more : (tracks : List Track) (scale : Scale) (all new : List Placed) (one : Placed) → All (IsAtTime tracks scale) all → IsAtTime tracks scale one → new ≡ all ++ one ∷ [] → All (IsAtTime tracks scale) new
times_more tracks scale all new one before is pushed = subst (λ (ps : List Placed). All (IsAtTime tracks scale) ps) (sym pushed) (All-push (IsAtTime tracks scale) all one before is)
