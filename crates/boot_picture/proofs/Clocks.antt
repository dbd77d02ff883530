-- Blocks in the order of the clock.
use Rattle.boot_picture.proofs.Common.{◌≡◌, ◌<◌, ◌≤◌, ◌+◌, ◌-◌, ◌∙◌, ℕ, suc, List, [], ◌∷◌, ◌++◌, ⊎_elim, Option, Some, None, IfSome, refl, sym, ap, subst, length, take, set, get_or, true≢false, add-one, arith, length-drop, ◌==◌, cases_Bool, cases_lt, eqb-true, eq-eqb, get_or-set_at, get_or-append_seam, get_or-set_other, length-take-le, length_push, take_all, slice_get_cases, slice_get_within, slice_get-get_or, get_or_from_slice_get, All, slice_get, IsNonDecreasingBy, Entry, Block, Ordered, Track, IsBlock, AreInTime, AreUsed, IsLeast, IsNextIn, IsNotAfter, blocks_in, IsBeforeLeftOut, IsLeftOut, IsTimed, end_of, ended, time_of}
use Rattle.boot_picture.proofs.BlockTurns.{starts_forward}
use Rattle.boot_picture.proofs.Orders.{HasTaken, lt_or_same, next_within}

abbrev pub placed : ℕ → Block → Ordered
placed processor block = record { processor = processor; block = block }

-- a later turn doesn't end before an earlier one
times_forward : (entries : List Entry) (i j : ℕ) → AreInTime entries → i ≤ j → j < length entries → end_of (slice_get entries i) ≤ end_of (slice_get entries j)
times_forward entries i j times order within =
    ⊎_elim (λ (found : (x : Entry) × (i < length entries) × (slice_get entries i ≡ Some x) × (get_or entries i x ≡ x)).
    let x : Entry = found.0 in
    let first : slice_get entries i ≡ Some (get_or entries i x) = slice_get-get_or entries i x found.1 in
    let second : slice_get entries j ≡ Some (get_or entries j x) = slice_get-get_or entries j x within in
    rw (first, second) (times i j x order within))
    (λ (past : (length entries ≤ i) × (slice_get entries i ≡ None)). absurd (omega (arith, past.0)))
    (slice_get_cases entries i).1

-- the time of a block of a known track
time_known : (tracks : List Track) (o : Ordered) (track : Track) → slice_get tracks o.processor ≡ Some track → time_of tracks o ≡ end_of (slice_get track.log.now.entries o.block.first)
time_known tracks o track at = ap (λ (t : Option Track). ended t o.block.first) at

-- a block begins with a turn
begins_within : (entries : List Entry) (block : Block) → IsBlock entries block → block.first < length entries
begins_within entries block is =
    let some = is.block_of.some in
    let within = is.block_of.within in
    let long = length-drop block.first entries in
    omega (arith, some, within, long)

all_at : {A : Type 0} (P : A → Type 0) (xs : List A) (n : ℕ) (x : A) → All P xs → slice_get xs n ≡ Some x → P x
all_at P xs n x all at = subst P (get_or_from_slice_get xs n x x at) (all n x (slice_get_within xs n x at))

-- of two blocks of one track, the later one doesn't end before the earlier one
track_forward : (track : Track) (n m : ℕ) (one next : Block) → IsTimed track → n ≤ m → slice_get track.blocks.items n ≡ Some one → slice_get track.blocks.items m ≡ Some next → end_of (slice_get track.log.now.entries one.first) ≤ end_of (slice_get track.log.now.entries next.first)
track_forward track n m one next timed order p q =
    let entries : List Entry = track.log.now.entries in
    let begins = starts_forward 0 (length entries) track.blocks.items n m one next timed.blocks.in_a_row order p q in
    let within = begins_within entries next (all_at (IsBlock entries) track.blocks.items m next timed.blocks.each q) in
    times_forward entries one.first next.first timed.times begins within

-- the next block of a processor is put in the order: it doesn't come after the blocks that are next then
module _ (tracks : List Track) (nexts : List ℕ) (o : Ordered) (as_many : length nexts ≡ length tracks) (next : IsNextIn tracks nexts o) (least : IsLeast tracks nexts (length tracks) o) (timed : All IsTimed tracks) (a : Ordered) (later : IsNextIn tracks (set nexts o.processor (get_or nexts o.processor 0 + 1)) a) where
  own : o.processor ≡ a.processor → time_of tracks o ≤ time_of tracks a
  own is =
      let n : ℕ = get_or nexts o.processor 0 in
      let within = next_within tracks nexts o as_many next in
      let same : later.track ≡ next.track = cc (later.processor_of, is, next.processor_of) in
      let after : get_or (set nexts o.processor (n + 1)) a.processor 0 ≡ suc n = get_or-set_at nexts o.processor a.processor (n + 1) 0 (sym is) within ∙ add-one n in
      let found : slice_get next.track.blocks.items (suc n) ≡ Some a.block = subst (λ (t : Track). slice_get t.blocks.items (suc n) ≡ Some a.block) same (subst (λ k. slice_get later.track.blocks.items k ≡ Some a.block) after later.next) in
      let forward = track_forward next.track n (suc n) o.block a.block (all_at IsTimed tracks o.processor next.track timed next.processor_of) (omega arith) next.next found in
      let second : slice_get tracks a.processor ≡ Some next.track = subst (λ p. slice_get tracks p ≡ Some next.track) is next.processor_of in
      rw (time_known tracks o next.track next.processor_of, time_known tracks a next.track second) forward

  other : (o.processor ≡ a.processor → ⊥) → time_of tracks o ≤ time_of tracks a
  other isnt =
      let n : ℕ = get_or nexts o.processor 0 in
      let stays : get_or (set nexts o.processor (n + 1)) a.processor 0 ≡ get_or nexts a.processor 0 = get_or-set_other nexts o.processor a.processor (n + 1) 0 (λ is. isnt (sym is)) in
      least a (record { track = later.track; processor_of = later.processor_of; next = subst (λ k. slice_get later.track.blocks.items k ≡ Some a.block) stays later.next }) (slice_get_within tracks a.processor later.track later.processor_of)

  pub least_first : time_of tracks o ≤ time_of tracks a
  least_first = ⊎_elim (λ is. own (eqb-true o.processor a.processor is)) (λ isnt. other (λ is. true≢false (sym (eq-eqb o.processor a.processor is) ∙ isnt))) (cases_Bool (o.processor == a.processor))

-- the last block of the order doesn't come after the blocks that are next
abbrev pub IsLastBelow : List Track → List ℕ → List Ordered → Type 0
IsLastBelow tracks nexts order = (d : Ordered) → 0 < length order → (next : Ordered) → IsNextIn tracks nexts next → time_of tracks (get_or order (length order - 1) d) ≤ time_of tracks next

get_or_last : (order : List Ordered) (o d : Ordered) → get_or (order ++ o ∷ []) (length (order ++ o ∷ []) - 1) d ≡ o
get_or_last order o d =
    let many : length (order ++ o ∷ []) - 1 ≡ length order = omega (arith, length_push order o) in
    ap (λ n. get_or (order ++ o ∷ []) n d) many ∙ get_or-append_seam order o [] d

pub last_more : (tracks : List Track) (nexts : List ℕ) (order : List Ordered) (o : Ordered) → ((next : Ordered) → IsNextIn tracks nexts next → time_of tracks o ≤ time_of tracks next) → IsLastBelow tracks nexts (order ++ o ∷ [])
last_more tracks nexts order o h = λ d some next is. subst (λ (x : Ordered). time_of tracks x ≤ time_of tracks next) (sym (get_or_last order o d)) (h next is)

-- a block that is left out doesn't come before the next block of its processor
module _ (tracks : List Track) (nexts : List ℕ) (order : List Ordered) (taken : HasTaken tracks nexts order) (timed : All IsTimed tracks) (left : Ordered) (out : IsLeftOut tracks order left) where
  not_before : get_or nexts left.processor 0 ≤ out.number
  not_before =
      let n : ℕ = get_or nexts left.processor 0 in
      let blocks : List Block = out.track.blocks.items in
      let within = slice_get_within blocks out.number left.block out.block_is in
      let many : length (blocks_in left.processor order) ≡ length (take n blocks) = ap length (taken left.processor out.track out.processor_of) in
      ⊎_elim (λ (h : out.number < n).
      ⊎_elim (λ (few : n < length blocks). let whole = length-take-le n blocks (omega arith) in let after = out.after in absurd (omega arith))
      (λ (all : length blocks ≤ n). let whole = ap length (take_all n blocks all) in let after = out.after in absurd (omega arith))
      (cases_lt n (length blocks)))
      (λ (h : n ≤ out.number). h) (cases_lt out.number n)

  pub next_before : (time : ℕ) → ((next : Ordered) → IsNextIn tracks nexts next → time ≤ time_of tracks next) → time ≤ time_of tracks left
  next_before time before =
      let n : ℕ = get_or nexts left.processor 0 in
      let blocks : List Block = out.track.blocks.items in
      let within = slice_get_within blocks out.number left.block out.block_is in
      let first = not_before in
      let at : slice_get blocks n ≡ Some (get_or blocks n left.block) = slice_get-get_or blocks n left.block (omega arith) in
      let next : Ordered = placed left.processor (get_or blocks n left.block) in
      let early = before next (record { track = out.track; processor_of = out.processor_of; next = at }) in
      let forward = track_forward out.track n out.number next.block left.block (all_at IsTimed tracks left.processor out.track timed out.processor_of) first at out.block_is in
      let known = time_known tracks next out.track out.processor_of in
      let own = time_known tracks left out.track out.processor_of in
      omega arith

-- no block that is left out comes before one that is in the order
pub none_before : (tracks : List Track) (nexts : List ℕ) (order : List Ordered) → HasTaken tracks nexts order → All IsTimed tracks → IsNonDecreasingBy (time_of tracks) order → IsLastBelow tracks nexts order → All (IsBeforeLeftOut tracks order) order
none_before tracks nexts order taken timed sorted last = λ k d within left out.
    next_before tracks nexts order taken timed left out (time_of tracks (get_or order k d)) (λ next is.
    let long = sorted k (length order - 1) d (omega arith) (omega arith) in
    let end = last d (omega arith) next is in
    omega arith)

-- the earlier of what was found and of the next block of one more processor is the least so far
pub least_more : (tracks : List Track) (nexts : List ℕ) (end : ℕ) (result found next : Option Ordered) → IfSome result (λ o. IsNotAfter tracks o found × IsNotAfter tracks o next) → IfSome found (IsLeast tracks nexts end) → (found ≡ None → AreUsed tracks nexts end)
    → ((o : Ordered) → IsNextIn tracks nexts o → o.processor ≡ end → next ≡ Some o) → IfSome result (IsLeast tracks nexts (end + 1))
least_more tracks nexts end None found next least below none is = tt
least_more tracks nexts end (Some o) None next least below none is = λ a a_next within.
    ⊎_elim (λ (h : a.processor < end). let used = none refl a.processor h a_next.track a_next.processor_of in let found = slice_get_within a_next.track.blocks.items (get_or nexts a.processor 0) a.block a_next.next in absurd (omega (arith, used, found)))
    (λ (h : a.processor ≡ end). subst (λ (x : Option Ordered). IsNotAfter tracks o x) (is a a_next h) least.1) (lt_or_same a.processor end within)
least_more tracks nexts end (Some o) (Some f) next least below none is = λ a a_next within.
    ⊎_elim (λ (h : a.processor < end). let first = least.0 in let second = below a a_next h in omega (arith, first, second))
    (λ (h : a.processor ≡ end). subst (λ (x : Option Ordered). IsNotAfter tracks o x) (is a a_next h) least.1) (lt_or_same a.processor end within)

-- the next block of a processor is the one that a processor's track has there
pub next_known : (tracks : List Track) (nexts : List ℕ) (processor : ℕ) (track : Track) (found : Option Block) (o : Ordered) → slice_get tracks processor ≡ Some track → slice_get track.blocks.items (get_or nexts processor 0) ≡ found → IsNextIn tracks nexts o → o.processor ≡ processor → found ≡ Some o.block
next_known tracks nexts processor track found o at is next same =
    let known : next.track ≡ track = cc (next.processor_of, same, at) in
    let there : slice_get track.blocks.items (get_or nexts o.processor 0) ≡ Some o.block = subst (λ (t : Track). slice_get t.blocks.items (get_or nexts o.processor 0) ≡ Some o.block) known next.next in
    sym is ∙ subst (λ p. slice_get track.blocks.items (get_or nexts p 0) ≡ Some o.block) same there

pub next_is : (processor : ℕ) (block : Block) (o : Ordered) → Some block ≡ Some o.block → o.processor ≡ processor → Some (placed processor block) ≡ Some o
next_is processor block o found same =
    let b : block ≡ o.block = cc in
    ap (λ q. Some (placed q block)) (sym same) ∙ ap (λ (x : Block). Some (placed o.processor x)) b
