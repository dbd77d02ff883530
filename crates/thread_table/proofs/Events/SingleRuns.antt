-- A queue each run of which is one item: its items and pairs by their numbers, and the places of its window.
use Rattle.thread_table.proofs.Common.{◌≡◌, ◌≢◌, ℕ, zero, suc, ◌+◌, ◌-◌, ◌%◌, ◌<◌, ◌≤◌, Bool, true, false, List, [], ◌∷◌, ◌++◌, length, map, take, drop, get_or, Some, slice_get, refl, sym, ap, ap₂, subst, ◌∙◌, arith, length-drop, true≢false, length-map, length-range_with_len, range_with_len, dite, dec_lt, dec_le, Run, flat, run_length, Queue, left, IsLawfulQueue, element_of, element_at, no_run}
use Rattle.std.proofs.lemmas.List.FromFn.{get_or-range_with_len}
use Rattle.std.proofs.lemmas.Bool.{le-leb}
use Rattle.std.specs.Cmp.Derive.{both_true}
use Rattle.std.specs.List.{list_all}
use Rattle.event_theory.specs.Runs.{pairs_of, pairs_from}
use Rattle.event_theory.specs.Queues.{left_pairs, is_raised, first_are_raised}
use Rattle.event_theory.proofs.Lists.Histories.{both}
use Rattle.atomic_table.proofs.Lists.{one_turn}

abbrev pub Singles : List Run → Type 0
Singles history = (number : ℕ) (run : Run) → slice_get history number ≡ Some run → length run.items ≡ 1

one_item : (items : List ℕ) → length items ≡ 1 → items ≡ get_or items 0 0 ∷ []
one_item [] one = absurd (omega arith)
one_item (x ∷ []) one = refl
one_item (x ∷ y ∷ items) one = absurd (omega arith)

-- the items are those of the runs
pub flat_single : (history : List Run) → Singles history → flat history ≡ map element_of history
flat_single [] single = refl
flat_single (run ∷ runs) single = ap₂ (λ (items rest : List ℕ). items ++ rest) (one_item run.items (single 0 run refl)) (flat_single runs (λ n r at. single (suc n) r at))

abbrev first_pair : ℕ → ℕ × ℕ
first_pair run = (run, 0)

pairs_single : (number : ℕ) (history : List Run) → Singles history → pairs_from number history ≡ map first_pair (range_with_len number (length history))
pairs_single number [] single = refl
pairs_single number (run ∷ runs) single = ap₂ (λ (items : List ℕ) (rest : List (ℕ × ℕ)). pairs_of number 0 items ++ rest) (one_item run.items (single 0 run refl)) (pairs_single (number + 1) runs (λ n r at. single (suc n) r at))

pub flat_long : (history : List Run) → Singles history → length (flat history) ≡ length history
flat_long history single = ap length (flat_single history single) ∙ length-map history element_of

first_dropped : {X Y : Type 0} (f : X → Y) (xs : List X) (t : ℕ) (d : X) → t < length xs → take 1 (drop t (map f xs)) ≡ f (get_or xs t d) ∷ []
first_dropped f [] t d below = absurd (omega arith)
first_dropped f (x ∷ xs) zero d below = refl
first_dropped f (x ∷ xs) (suc t) d below = first_dropped f xs t d (omega arith)

-- the first item that is left, where there is one, is that of the run with the number of the items taken
pub first_left : (q : Queue) → Singles q.history → q.taken < length q.history → take 1 (left q) ≡ element_at q q.taken ∷ []
first_left q single below = ap (λ items. take 1 (drop q.taken items)) (flat_single q.history single) ∙ first_dropped element_of q.history q.taken no_run below

known_run : (history : List Run) (run : ℕ) → 0 < run_length history run → run < length history
known_run [] run some = absurd (omega arith)
known_run (x ∷ xs) zero some = omega arith
known_run (x ∷ xs) (suc run) some = let n = known_run xs run some in omega arith

-- a raised run is in the history
pub raised_known : (q : Queue) (run : ℕ) → IsLawfulQueue q → q.raised run 0 ≡ true → run < length q.history
raised_known q run lawful up = known_run q.history run (lawful.within run 0 up)

pub first_of_left : (q : Queue) → IsLawfulQueue q → Singles q.history → q.raised q.taken 0 ≡ true → take 1 (left q) ≡ element_at q q.taken ∷ []
first_of_left q lawful single up = first_left q single (raised_known q q.taken lawful up)

-- and its pair
pub first_pair_left : (q : Queue) → Singles q.history → q.taken < length q.history → take 1 (left_pairs q) ≡ (q.taken, 0) ∷ []
first_pair_left q single below =
    let all : List ℕ = range_with_len 0 (length q.history) in
    let long : length all ≡ length q.history = length-range_with_len 0 (length q.history) in
    let e : 0 + q.taken ≡ q.taken = omega arith in
    ap (λ ps. take 1 (drop q.taken ps)) (pairs_single 0 q.history single)
    ∙ (first_dropped first_pair all q.taken 0 (omega arith)
    ∙ ap (λ n. first_pair n ∷ []) (get_or-range_with_len 0 (length q.history) q.taken 0 below ∙ e))

pub first_is_raised : (q : Queue) → IsLawfulQueue q → Singles q.history → q.raised q.taken 0 ≡ true → first_are_raised 1 q ≡ true
first_is_raised q lawful single up =
    let below : q.taken < length q.history = raised_known q q.taken lawful up in
    let long : length (left q) ≡ length (flat q.history) - q.taken = length-drop q.taken (flat q.history) in
    let many = flat_long q.history single in
    both_true (le-leb 1 (length (left q)) (omega arith)) (ap (list_all (is_raised q)) (first_pair_left q single below) ∙ rw up refl)

-- no more runs are claimed than were taken and there is room for
pub within_room : (q : Queue) (room : ℕ) → IsLawfulQueue q → Singles q.history → q.capacity ≡ room → (q.taken ≤ length q.history) × (length q.history ≤ q.taken + room)
within_room q room lawful single is =
    let following = lawful.taken_within in
    let fits = lawful.fits in
    let long : length (left q) ≡ length (flat q.history) - q.taken = length-drop q.taken (flat q.history) in
    let many = flat_long q.history single in
    (omega arith, omega arith)

all_passed : (p : ℕ × ℕ → Bool) (n m t i : ℕ) → list_all p (take t (map first_pair (range_with_len n m))) ≡ true → i < t → i < m → p (n + i, 0) ≡ true
all_passed p n zero t i all near below = absurd (omega arith)
all_passed p n (suc m) zero i all near below = absurd (omega arith)
all_passed p n (suc m) (suc t) zero all near below =
    let e : n ≡ n + 0 = omega arith in
    ap (λ k. p (k, 0)) (sym e) ∙ (both (p (n, 0)) (list_all p (take t (map first_pair (range_with_len (n + 1) m)))) all).0
all_passed p n (suc m) (suc t) (suc i) all near below =
    let e : n + 1 + i ≡ n + suc i = omega arith in
    ap (λ k. p (k, 0)) (sym e) ∙ all_passed p (n + 1) m t i (both (p (n, 0)) (list_all p (take t (map first_pair (range_with_len (n + 1) m)))) all).1 (omega arith) (omega arith)

-- what was taken was raised
pub taken_raised : (q : Queue) (run : ℕ) → IsLawfulQueue q → Singles q.history → run < q.taken → q.raised run 0 ≡ true
taken_raised q run lawful single below =
    let following = lawful.taken_within in
    let many = flat_long q.history single in
    let all : list_all (is_raised q) (take q.taken (map first_pair (range_with_len 0 (length q.history)))) ≡ true =
    subst (λ ps. list_all (is_raised q) (take q.taken ps) ≡ true) (pairs_single 0 q.history single) lawful.ready in
    let e : 0 + run ≡ run = omega arith in
    ap (λ k. q.raised k 0) (sym e) ∙ all_passed (is_raised q) 0 (length q.history) q.taken run all below (omega arith)

-- so a run that isn't raised wasn't taken
pub low_ahead : (q : Queue) (run : ℕ) → IsLawfulQueue q → Singles q.history → q.raised run 0 ≡ false → q.taken ≤ run
low_ahead q run lawful single low = dite (dec_lt run q.taken) (λ y. absurd (true≢false (sym (taken_raised q run lawful single y) ∙ low))) (λ no. omega arith)

-- two runs of one window of 64 have two places
pub places_apart : (first taken i j : ℕ) → taken ≤ i → i < taken + 64 → taken ≤ j → j < taken + 64 → i ≢ j → (first + i) % 64 ≢ (first + j) % 64
places_apart first taken i j a b c d ne e = dite (dec_le i j)
    (λ le. let s = one_turn (first + i) (first + j) 64 (omega arith) (omega arith) e in ne (omega arith))
    (λ no. let s = one_turn (first + j) (first + i) 64 (omega arith) (omega arith) (sym e) in ne (omega arith))
