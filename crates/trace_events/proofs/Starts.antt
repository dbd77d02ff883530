-- The last end of a thread's turns: in any order of the turns, and where they are sorted.
use Rattle.trace_events.proofs.Common.{◌≡◌, ◌<◌, ◌≤◌, ◌-◌, ◌+◌, ◌==◌, ◌&&◌, ◌∙◌, ℕ, zero, suc, Bool, true, false, cond, List, [], ◌∷◌, ⊎_elim, refl, sym, ap, subst, arith, nat_lt, length, get_or, ◌||◌, if◌then◌else◌, max, All, IsPermutation, and_cases, and_parts, both_ways, cases_lt, eqb-false, eqb-true, lt-ltb, ltb-false, ltb-true, or_cases, or_left, or_parts, or_right, true_from_ne_false, get_or_default, get_or_read, All-permutation, IsPermutation-sym, ranks_by, sorted_far, ThreadTurn, comes_before, is_first_of, last_end, precedes, slice_start, sorts_before}
use Rattle.std.specs.Cmp.{IsStrictWeakOrder, IsTotalOrder}
use Rattle.std.specs.declared.cmp.Ordering.{Ordering}
use Rattle.std.specs.declared.cmp.Ordering.TheVariants.{Less, Equal, Greater}
use Rattle.std.specs.List.Sorted.{IsPartitionPoint, IsPartitionedBy, IsSortedBy, IsSortedByKey}
use Rattle.std.specs.Ordering.{is_lt, nat_cmp, ordering_then}
use Rattle.std.proofs.lemmas.Cmp.{nat_cmp_total, on_total, then_total}
use Rattle.std.proofs.lemmas.List.Elements.{All-head, All-tail}

-- ---- turns in any order

if_le : (b : Bool) (n most : ℕ) → (b ≡ true → n ≤ most) → (if b then n else 0) ≤ most
if_le true n most h = h refl
if_le false n most h = omega arith

if_ge : (b : Bool) (n : ℕ) → b ≡ true → n ≤ (if b then n else 0)
if_ge true n h = omega arith
if_ge false n h = absurd cc

-- a turn that comes before this one ends by this time
abbrev EndsBy : ThreadTurn → ℕ → ThreadTurn → Type 0
EndsBy turn most other = precedes other turn ≡ true → other.ended ≤ most

pub last_end_le : (turns : List ThreadTurn) (turn : ThreadTurn) (most : ℕ) → All (EndsBy turn most) turns → last_end turns turn ≤ most
last_end_le [] turn most h = omega arith
last_end_le (other ∷ turns) turn most h =
    let first : (if precedes other turn then other.ended else 0) ≤ most = if_le (precedes other turn) other.ended most (All-head (EndsBy turn most) other turns h) in
    let rest : last_end turns turn ≤ most = last_end_le turns turn most (All-tail (EndsBy turn most) other turns h) in
    omega arith

pub last_end_ge : (turns : List ThreadTurn) (turn : ThreadTurn) (i : ℕ) (d : ThreadTurn) → i < length turns → precedes (get_or turns i d) turn ≡ true → (get_or turns i d).ended ≤ last_end turns turn
last_end_ge [] turn i d within is = absurd (omega arith)
last_end_ge (other ∷ turns) turn zero d within is =
    let first : other.ended ≤ (if precedes other turn then other.ended else 0) = if_ge (precedes other turn) other.ended is in
    omega arith
last_end_ge (other ∷ turns) turn (suc i) d within is =
    let rest : (get_or turns i d).ended ≤ last_end turns turn = last_end_ge turns turn i d (omega arith) is in
    omega arith

no_later : (xs ys : List ThreadTurn) (turn : ThreadTurn) → IsPermutation xs ys → last_end ys turn ≤ last_end xs turn
no_later xs ys turn same =
    last_end_le ys turn (last_end xs turn) (All-permutation (EndsBy turn (last_end xs turn)) xs ys same (λ i d within is. last_end_ge xs turn i d within is))

-- turns in another order have the same last ends
pub last_end-IsPermutation : (xs ys : List ThreadTurn) (turn : ThreadTurn) → IsPermutation xs ys → last_end ys turn ≡ last_end xs turn
last_end-IsPermutation xs ys turn same =
    omega (arith, no_later xs ys turn same, no_later ys xs turn (IsPermutation-sym xs ys same))

-- so each turn begins at the same time on the track of its thread
pub starts-IsPermutation : (xs ys : List ThreadTurn) → IsPermutation xs ys → slice_start ys ≡ slice_start xs
starts-IsPermutation xs ys same = λ i turn. max turn.began (last_end-IsPermutation xs ys turn same i)

-- ---- the order of sorted turns

-- the parts of a turn by which turns are sorted
abbrev pub Key : Type 0
Key = ℕ × ℕ × ℕ × ℕ

abbrev pub key_of : ThreadTurn → Key
key_of turn = (turn.thread, turn.ended, turn.processor, turn.number)

abbrev pub key_cmp : Key → Key → Ordering
key_cmp a b = ordering_then (ordering_then (ordering_then (nat_cmp a.0 b.0) (nat_cmp a.1 b.1)) (nat_cmp a.2 b.2)) (nat_cmp a.3 b.3)

key_total : IsTotalOrder key_cmp
key_total =
    then_total (then_total (then_total (on_total (λ (k : Key). k.0) nat_cmp_total) (on_total (λ (k : Key). k.1) nat_cmp_total)) (on_total (λ (k : Key). k.2) nat_cmp_total)) (on_total (λ (k : Key). k.3) nat_cmp_total)

then_assoc : (a b c : Ordering) → ordering_then (ordering_then a b) c ≡ ordering_then a (ordering_then b c)
then_assoc Less b c = refl
then_assoc Equal b c = refl
then_assoc Greater b c = refl

lt_then : (a b : Bool) (o : Ordering) (r : Bool) → is_lt o ≡ r → is_lt (ordering_then (cond a Less (cond b Equal Greater)) o) ≡ (a || (b && r))
lt_then true b o r h = refl
lt_then false true o r h = h
lt_then false false o r h = refl

lt_last : (a b : Bool) → is_lt (cond a Less (cond b Equal Greater)) ≡ a
lt_last true b = refl
lt_last false true = refl
lt_last false false = refl

-- turns are sorted by their keys
key_lt : (one other : ThreadTurn) → is_lt (key_cmp (key_of one) (key_of other)) ≡ sorts_before one other
key_lt one other =
    let a : Ordering = nat_cmp one.thread other.thread in
    let b : Ordering = nat_cmp one.ended other.ended in
    let c : Ordering = nat_cmp one.processor other.processor in
    let d : Ordering = nat_cmp one.number other.number in
    let last : is_lt d ≡ nat_lt one.number other.number = lt_last (nat_lt one.number other.number) (one.number == other.number) in
    let third : is_lt (ordering_then c d) ≡ is_first_of one other = lt_then (nat_lt one.processor other.processor) (one.processor == other.processor) d (nat_lt one.number other.number) last in
    let second : is_lt (ordering_then b (ordering_then c d)) ≡ comes_before one other = lt_then (nat_lt one.ended other.ended) (one.ended == other.ended) (ordering_then c d) (is_first_of one other) third in
    ap is_lt (then_assoc (ordering_then a b) c d ∙ then_assoc a b (ordering_then c d))
    ∙ lt_then (nat_lt one.thread other.thread) (one.thread == other.thread) (ordering_then b (ordering_then c d)) (comes_before one other) second

pub sorted_by_key : (turns : List ThreadTurn) → IsSortedByKey key_of key_cmp turns → IsSortedBy sorts_before turns
sorted_by_key turns up k d low high = sym (key_lt (get_or turns (k + 1) d) (get_or turns k d)) ∙ up k d low high

sorts_weakly : IsStrictWeakOrder sorts_before
sorts_weakly = subst (λ (lt : ThreadTurn → ThreadTurn → Bool). IsStrictWeakOrder lt) (λ i one other. key_lt one other i) (ranks_by key_total key_of)

-- no turn is sorted before one that is no later in the list
not_before : (turns : List ThreadTurn) → IsSortedBy sorts_before turns → (i j : ℕ) (d : ThreadTurn) → i ≤ j → j < length turns → sorts_before (get_or turns j d) (get_or turns i d) ≡ false
not_before turns up i j d = sorted_far sorts_before sorts_weakly turns up i j d

-- the turns that are sorted before this one are in front
pub parted_before : (turns : List ThreadTurn) (turn : ThreadTurn) → IsSortedBy sorts_before turns → IsPartitionedBy (λ other. sorts_before other turn) turns
parted_before turns turn up i j d order within is =
    true_from_ne_false (sorts_before (get_or turns i d) turn) (λ late.
    both_ways (sorts_before (get_or turns j d) turn) (sorts_weakly.chain (get_or turns j d) (get_or turns i d) turn (not_before turns up i j d order within) late) is)

-- ---- three turns: the last that is sorted before this one, any other one, and this one

same_thread : (one turn : ThreadTurn) → precedes one turn ≡ true → one.thread ≡ turn.thread
same_thread one turn is = eqb-true one.thread turn.thread (and_parts (one.thread == turn.thread) (comes_before one turn) is).0

sorted_if : (one turn : ThreadTurn) → precedes one turn ≡ true → sorts_before one turn ≡ true
sorted_if one turn is = or_right (nat_lt one.thread turn.thread) (precedes one turn) is

precedes_if : (last turn : ThreadTurn) → last.thread ≡ turn.thread → sorts_before last turn ≡ true → precedes last turn ≡ true
precedes_if last turn same found =
    ⊎_elim (λ lower. absurd (omega (arith, same, ltb-true last.thread turn.thread lower))) (λ is. is) (or_cases (nat_lt last.thread turn.thread) (precedes last turn) found)

-- if the last is of another thread, it is sorted before each turn of this one's thread
lower_thread : (last one turn : ThreadTurn) → sorts_before last turn ≡ true → (last.thread ≡ turn.thread → ⊥) → precedes one turn ≡ true → sorts_before last one ≡ true
lower_thread last one turn found other is =
    let same = same_thread one turn is in
    ⊎_elim (λ lower.
    let below : last.thread < one.thread = omega (arith, same, ltb-true last.thread turn.thread lower) in
    or_left (nat_lt last.thread one.thread) (precedes last one) (lt-ltb last.thread one.thread below))
    (λ own. absurd (other (same_thread last turn own))) (or_cases (nat_lt last.thread turn.thread) (precedes last turn) found)

-- if the last is of this one's thread, no turn of the thread that is sorted no later than the last ends later
ends_no_later : (last one turn : ThreadTurn) → last.thread ≡ turn.thread → sorts_before last one ≡ false → precedes one turn ≡ true → one.ended ≤ last.ended
ends_no_later last one turn same after is =
    let alike : last.thread ≡ one.thread = same ∙ sym (same_thread one turn is) in
    let not_first : precedes last one ≡ false = (or_parts (nat_lt last.thread one.thread) (precedes last one) after).1 in
    ⊎_elim (λ apart. absurd (eqb-false last.thread one.thread apart alike))
    (λ late. ltb-false last.ended one.ended (or_parts (nat_lt last.ended one.ended) (last.ended == one.ended && is_first_of last one) late).0)
    (and_cases (last.thread == one.thread) (comes_before last one) not_first)

-- ---- the last end in sorted turns

-- these turns are sorted before this one, and the others aren't
abbrev pub IsCount : List ThreadTurn → ThreadTurn → ℕ → Type 0
IsCount turns turn count = IsPartitionPoint (λ other. sorts_before other turn ≡ true) (λ other. sorts_before other turn ≡ false) turns count

-- a turn that precedes this one is in front
in_front : (turns : List ThreadTurn) (turn : ThreadTurn) (count k : ℕ) (d : ThreadTurn) → IsCount turns turn count → k < length turns → precedes (get_or turns k d) turn ≡ true → k < count
in_front turns turn count k d parted within is =
    ⊎_elim (λ below. below) (λ past. absurd (both_ways (sorts_before (get_or turns k d) turn) (parted.1 k d past within) (sorted_if (get_or turns k d) turn is))) (cases_lt k count)

pub none_before : (turns : List ThreadTurn) (turn : ThreadTurn) (count : ℕ) → IsCount turns turn count → count ≡ 0 → last_end turns turn ≡ 0
none_before turns turn count parted none =
    let least : last_end turns turn ≤ 0 = last_end_le turns turn 0 (λ k d within is. absurd (omega (arith, none, in_front turns turn count k d parted within is))) in
    omega arith

-- the last turn that is sorted before this one
record IsLast (turns : List ThreadTurn) (turn last : ThreadTurn) (count : ℕ) : Type 0 where
  some : 0 < count
  known : count ≤ length turns
  up : IsSortedBy sorts_before turns
  parted : IsCount turns turn count
  is : last ≡ get_or turns (count - 1) last

-- the last is sorted before this one
last_sorted : (turns : List ThreadTurn) (turn last : ThreadTurn) (count : ℕ) → IsLast turns turn last count → sorts_before last turn ≡ true
last_sorted turns turn last count h =
    let some = h.some in
    subst (λ (it : ThreadTurn). sorts_before it turn ≡ true) (sym h.is) (h.parted.0 (count - 1) last (omega arith) (omega arith))

-- the last is not sorted before a turn that precedes this one
last_after : (turns : List ThreadTurn) (turn last : ThreadTurn) (count k : ℕ) (d : ThreadTurn) → IsLast turns turn last count → k < length turns → precedes (get_or turns k d) turn ≡ true → sorts_before last (get_or turns k d) ≡ false
last_after turns turn last count k d h within is =
    let some = h.some in
    let known = h.known in
    let front = in_front turns turn count k d h.parted within is in
    subst (λ (it : ThreadTurn). sorts_before it (get_or turns k d) ≡ false) (sym (get_or_read turns (count - 1) last (omega arith) h.is d)) (not_before turns h.up k (count - 1) d (omega arith) (omega arith))

other_last : (turns : List ThreadTurn) (turn last : ThreadTurn) (count : ℕ) → IsLast turns turn last count → (last.thread ≡ turn.thread → ⊥) → last_end turns turn ≡ 0
other_last turns turn last count h other =
    let least : last_end turns turn ≤ 0 = last_end_le turns turn 0 (λ k d within is.
    absurd (both_ways (sorts_before last (get_or turns k d)) (last_after turns turn last count k d h within is) (lower_thread last (get_or turns k d) turn (last_sorted turns turn last count h) other is))) in
    omega arith

own_last : (turns : List ThreadTurn) (turn last : ThreadTurn) (count : ℕ) → IsLast turns turn last count → last.thread ≡ turn.thread → last_end turns turn ≡ last.ended
own_last turns turn last count h same =
    let some = h.some in
    let known = h.known in
    let most : last_end turns turn ≤ last.ended = last_end_le turns turn last.ended (λ k d within is. ends_no_later last (get_or turns k d) turn same (last_after turns turn last count k d h within is) is) in
    let first : precedes (get_or turns (count - 1) last) turn ≡ true = subst (λ (it : ThreadTurn). precedes it turn ≡ true) h.is (precedes_if last turn same (last_sorted turns turn last count h)) in
    let least : (get_or turns (count - 1) last).ended ≤ last_end turns turn = last_end_ge turns turn (count - 1) last (omega arith) first in
    let ends : last.ended ≡ (get_or turns (count - 1) last).ended = ap (λ (it : ThreadTurn). it.ended) h.is in
    omega arith

-- the last end is that of the last turn that is sorted before this one, if that is of the same thread
pub end_of_last : (turns : List ThreadTurn) (turn d : ThreadTurn) (count : ℕ) → IsSortedBy sorts_before turns → (count ≡ 0 → ⊥) → count ≤ length turns → IsCount turns turn count
    → ((get_or turns (count - 1) d).thread ≡ turn.thread → last_end turns turn ≡ (get_or turns (count - 1) d).ended) × (((get_or turns (count - 1) d).thread ≡ turn.thread → ⊥) → last_end turns turn ≡ 0)
end_of_last turns turn d count up some known parted =
    let last : ThreadTurn = get_or turns (count - 1) d in
    let h : IsLast turns turn last count = record { some = omega arith; known = known; up = up; parted = parted; is = get_or_default turns (count - 1) d last (omega arith) } in
    (own_last turns turn last count h, other_last turns turn last count h)
