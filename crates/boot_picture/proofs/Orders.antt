-- The order of blocks, block by block.
use Rattle.boot_picture.proofs.Common.{◌≡◌, ◌<◌, ◌≤◌, ◌+◌, ◌∙◌, ℕ, Bool, List, [], ◌∷◌, ◌++◌, ⊎_elim, ◌⊎◌, inl, inr, Option, IfSome, refl, sym, ap, subst, length, take, map, set, cond, get_or, replicate, true≢false, add-one, append-nil, arith, Some, ◌==◌, Bor, take-suc, cases_Bool, cases_lt, eqb-true, eq-eqb, ne_eqb, map-append, get_or-set_other, get_or-replicate, take_all, filter-append, get_or-set_at, slice_get_within, slice_get_read, get_or_from_slice_get, all_zipped_more, slice_get, filter, AllZip, Kept, kept_in, Block, Ordered, Track, blocks_in, IsTrackOf, IsNextIn, IsUsed, AreUsed, HasAll, HasFirst}

-- the blocks of each processor before its next one are in the order
abbrev pub HasTaken : List Track → List ℕ → List Ordered → Type 0
HasTaken tracks nexts order = (processor : ℕ) (track : Track) → slice_get tracks processor ≡ Some track → blocks_in processor order ≡ take (get_or nexts processor 0) track.blocks.items

blocks_more : (p : ℕ) (order : List Ordered) (o : Ordered) → blocks_in p (order ++ o ∷ []) ≡ blocks_in p order ++ map (λ (x : Ordered). x.block) (cond (o.processor == p) (o ∷ []) [])
blocks_more p order o = ap (map (λ (x : Ordered). x.block)) (filter-append (λ (x : Ordered). x.processor == p) order (o ∷ [])) ∙ map-append (λ (x : Ordered). x.block) (filter (λ (x : Ordered). x.processor == p) order) (filter (λ (x : Ordered). x.processor == p) (o ∷ []))

blocks_own : (p : ℕ) (order : List Ordered) (o : Ordered) → o.processor ≡ p → blocks_in p (order ++ o ∷ []) ≡ blocks_in p order ++ o.block ∷ []
blocks_own p order o is = blocks_more p order o ∙ ap (λ (t : Bool). blocks_in p order ++ map (λ (x : Ordered). x.block) (cond t (o ∷ []) [])) (eq-eqb o.processor p is)

blocks_other : (p : ℕ) (order : List Ordered) (o : Ordered) → (o.processor ≡ p → ⊥) → blocks_in p (order ++ o ∷ []) ≡ blocks_in p order
blocks_other p order o isnt = blocks_more p order o ∙ (ap (λ (t : Bool). blocks_in p order ++ map (λ (x : Ordered). x.block) (cond t (o ∷ []) [])) (ne_eqb o.processor p isnt) ∙ append-nil (blocks_in p order))

-- the block after the first n of a list
next_taken : (items : List Block) (n : ℕ) (block : Block) → slice_get items n ≡ Some block → take n items ++ block ∷ [] ≡ take (n + 1) items
next_taken items n block at =
    let within : n < length items = slice_get_within items n block at in
    let found : get_or items n block ≡ block = get_or_from_slice_get items n block block at in
    sym (ap (λ k. take k items) (add-one n) ∙ (take-suc items n block within ∙ ap (λ (b : Block). take n items ++ b ∷ []) found))

-- the next block of a processor is put in the order, and the one after it is next
module _ (tracks : List Track) (nexts : List ℕ) (order : List Ordered) (o : Ordered) (as_many : length nexts ≡ length tracks) (next : IsNextIn tracks nexts o) (taken : HasTaken tracks nexts order) where
  within : o.processor < length nexts
  within = subst (λ k. o.processor < k) (sym as_many) (slice_get_within tracks o.processor next.track next.processor_of)

  own : (p : ℕ) (track : Track) → slice_get tracks p ≡ Some track → o.processor ≡ p → blocks_in p (order ++ o ∷ []) ≡ take (get_or (set nexts o.processor (get_or nexts o.processor 0 + 1)) p 0) track.blocks.items
  own p track at is =
      let n : ℕ = get_or nexts o.processor 0 in
      let same : track ≡ next.track = cc (at, is, next.processor_of) in
      let found : slice_get track.blocks.items n ≡ Some o.block = subst (λ (t : Track). slice_get t.blocks.items n ≡ Some o.block) (sym same) next.next in
      let before : blocks_in p order ≡ take n track.blocks.items = taken p track at ∙ ap (λ q. take (get_or nexts q 0) track.blocks.items) (sym is) in
      let after : get_or (set nexts o.processor (n + 1)) p 0 ≡ n + 1 = get_or-set_at nexts o.processor p (n + 1) 0 (sym is) within in
      blocks_own p order o is ∙ (ap (λ bs. bs ++ o.block ∷ []) before ∙ (next_taken track.blocks.items n o.block found ∙ ap (λ k. take k track.blocks.items) (sym after)))

  other : (p : ℕ) (track : Track) → slice_get tracks p ≡ Some track → (o.processor ≡ p → ⊥) → blocks_in p (order ++ o ∷ []) ≡ take (get_or (set nexts o.processor (get_or nexts o.processor 0 + 1)) p 0) track.blocks.items
  other p track at isnt = blocks_other p order o isnt ∙ (taken p track at ∙ ap (λ k. take k track.blocks.items) (sym (get_or-set_other nexts o.processor p (get_or nexts o.processor 0 + 1) 0 (λ is. isnt (sym is)))))

  pub taken_more : HasTaken tracks (set nexts o.processor (get_or nexts o.processor 0 + 1)) (order ++ o ∷ [])
  taken_more = λ p track at. ⊎_elim (λ is. own p track at (eqb-true o.processor p is)) (λ isnt. other p track at (λ is. true≢false (sym (eq-eqb o.processor p is) ∙ isnt))) (cases_Bool (o.processor == p))

-- at first nothing is in the order
pub none_taken : (tracks : List Track) (n : ℕ) → n ≡ length tracks → HasTaken tracks (replicate n 0) []
none_taken tracks n as_many = λ p track at. sym (ap (λ k. take k track.blocks.items) (get_or-replicate n p 0 0 (subst (λ k. p < k) (sym as_many) (slice_get_within tracks p track at))))

-- what is in the order is the first blocks of each processor, and if no processor has a next one, it is all blocks
pub first_taken : (tracks : List Track) (nexts : List ℕ) (order : List Ordered) → HasTaken tracks nexts order → HasFirst tracks order
first_taken tracks nexts order taken = λ p track at. (get_or nexts p 0, taken p track at)

pub all_taken : (tracks : List Track) (nexts : List ℕ) (order : List Ordered) → HasTaken tracks nexts order → AreUsed tracks nexts (length tracks) → HasAll tracks order
all_taken tracks nexts order taken used = λ p track at. taken p track at ∙ take_all (get_or nexts p 0) track.blocks.items (used p (slice_get_within tracks p track at) track at)

pub lt_or_same : (p end : ℕ) → p < end + 1 → (p < end) ⊎ (p ≡ end)
lt_or_same p end below = ⊎_elim (λ (h : p < end). inl h) (λ (h : end ≤ p). inr (omega arith)) (cases_lt p end)

-- a block that is one of two is a next block if both are
pub next_either : (tracks : List Track) (nexts : List ℕ) (result one other : Option Ordered) → (result ≡ one) ⊎ (result ≡ other) → IfSome one (IsNextIn tracks nexts) → IfSome other (IsNextIn tracks nexts) → IfSome result (IsNextIn tracks nexts)
next_either tracks nexts result one other either first second = ⊎_elim (λ is. subst (λ (o : Option Ordered). IfSome o (IsNextIn tracks nexts)) (sym is) first) (λ is. subst (λ (o : Option Ordered). IfSome o (IsNextIn tracks nexts)) (sym is) second) either

pub used_more : (tracks : List Track) (nexts : List ℕ) (end : ℕ) → AreUsed tracks nexts end → IsUsed tracks nexts end → AreUsed tracks nexts (end + 1)
used_more tracks nexts end used next = λ p below. ⊎_elim (λ (h : p < end). used p h) (λ (h : p ≡ end). subst (IsUsed tracks nexts) (sym h) next) (lt_or_same p end below)

-- a processor whose track has no block of this number is used
pub used_none : (tracks : List Track) (processor n : ℕ) (own track : Track) → slice_get tracks processor ≡ Some own → slice_get tracks processor ≡ Some track → length own.blocks.items ≤ n → length track.blocks.items ≤ n
used_none tracks processor n own track first second past =
    let same : own ≡ track = cc in
    subst (λ (t : Track). length t.blocks.items ≤ n) same past

-- the number after that of a next block fits
pub next_within : (tracks : List Track) (nexts : List ℕ) (o : Ordered) → length nexts ≡ length tracks → IsNextIn tracks nexts o → o.processor < length nexts
next_within tracks nexts o as_many next = subst (λ k. o.processor < k) (sym as_many) (slice_get_within tracks o.processor next.track next.processor_of)

pub next_fits : (tracks : List Track) (nexts : List ℕ) (o : Ordered) → IsNextIn tracks nexts o → get_or nexts o.processor 0 < 9223372036854775808
next_fits tracks nexts o next =
    let within : get_or nexts o.processor 0 < length next.track.blocks.items = slice_get_within next.track.blocks.items (get_or nexts o.processor 0) o.block next.next in
    let small = next.track.blocks.small in
    let ok = next.track.blocks.ok in
    omega (arith, ok.0, ok.1)

-- the track of one more processor
pub tracks_more : (logs : List (Bor Kept)) (i : ℕ) (log : Bor Kept) (tracks new : List Track) (track : Track) → i < length logs → log ≡ get_or logs i log → AllZip IsTrackOf (kept_in (take i logs)) tracks → IsTrackOf log.now track → new ≡ tracks ++ track ∷ [] → AllZip IsTrackOf (kept_in (take (i + 1) logs)) new
tracks_more logs i log tracks new track within is before next pushed =
    let longer : take (i + 1) logs ≡ take i logs ++ log ∷ [] = ap (λ k. take k logs) (add-one i) ∙ (take-suc logs i log within ∙ ap (λ (x : Bor Kept). take i logs ++ x ∷ []) (sym is)) in
    let kept : kept_in (take (i + 1) logs) ≡ kept_in (take i logs) ++ log.now ∷ [] = ap kept_in longer ∙ map-append (λ (l : Bor Kept). l.now) (take i logs) (log ∷ []) in
    subst (λ (ts : List Track). AllZip IsTrackOf (kept_in (take (i + 1) logs)) ts) (sym pushed) (subst (λ (ls : List Kept). AllZip IsTrackOf ls (tracks ++ track ∷ [])) (sym kept) (all_zipped_more IsTrackOf (kept_in (take i logs)) tracks log.now track before next))

-- an item that was read is the item at its place
pub read_at : (ns : List ℕ) (p v : ℕ) → p < length ns → v ≡ get_or ns p v → get_or ns p 0 ≡ v
read_at ns p v within is = get_or_from_slice_get ns p v 0 (slice_get_read ns (length ns) p v refl within is)
