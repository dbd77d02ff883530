-- No two turns of a thread overlap on its track.
use Rattle.trace_events.proofs.Common.{◌≡◌, ◌<◌, ◌≤◌, ◌+◌, ◌==◌, ◌&&◌, ◌∙◌, ℕ, zero, suc, true, List, [], ◌∷◌, ◌++◌, ◌⊎◌, inl, inr, ⊎_elim, Option, Some, None, IfSome, refl, sym, ap, subst, arith, nat_lt, length, get_or, AllPairs, Contains, option_map, AllByRecursion, cons_option, and_from, and_parts, cases_order, eq-eqb, eqb-true, lt-ltb, ltb-true, or_cases, or_left, or_right, Entry, Kept, ThreadTurn, AreApart, all_thread_turns, comes_before, element_of, is_first_of, last_end, precedes, slice_start, thread_turn_of, thread_turns}
use Rattle.trace_events.proofs.Starts.{last_end_ge, last_end_le}

-- ---- any turns

pub begins_after : (turns : List ThreadTurn) (one other : ThreadTurn) → Contains turns one → precedes one other ≡ true → one.ended ≤ slice_start turns other
begins_after turns one other here is =
    let place = here.2 in
    let low : (get_or turns here.0 one).ended ≤ last_end turns other = last_end_ge turns other here.0 one here.1 (subst (λ (it : ThreadTurn). precedes it other ≡ true) (sym place) is) in
    let ends : (get_or turns here.0 one).ended ≡ one.ended = ap (λ (it : ThreadTurn). it.ended) place in
    omega arith

ends_before : (one other : ThreadTurn) → precedes one other ≡ true → one.ended ≤ other.ended
ends_before one other is =
    ⊎_elim (λ lower. omega (arith, ltb-true one.ended other.ended lower))
    (λ tied. omega (arith, eqb-true one.ended other.ended (and_parts (one.ended == other.ended) (is_first_of one other) tied).0))
    (or_cases (nat_lt one.ended other.ended) (one.ended == other.ended && is_first_of one other) (and_parts (one.thread == other.thread) (comes_before one other) is).1)

pub begins_within : (turns : List ThreadTurn) (turn : ThreadTurn) → turn.began ≤ turn.ended → (turn.began ≤ slice_start turns turn) × (slice_start turns turn ≤ turn.ended)
begins_within turns turn order =
    let most : last_end turns turn ≤ turn.ended = last_end_le turns turn turn.ended (λ k d within is. ends_before (get_or turns k d) turn is) in
    (omega arith, omega arith)

-- ---- turns in the order of their processors and numbers

-- one turn comes before another in the list: on a lower processor, or earlier on the same
abbrev Before : ThreadTurn → ThreadTurn → Type 0
Before one other = (one.processor < other.processor) ⊎ ((one.processor ≡ other.processor) × (one.number < other.number))

first_of : (one other : ThreadTurn) → Before one other → is_first_of one other ≡ true
first_of one other (inl lower) = or_left (nat_lt one.processor other.processor) (one.processor == other.processor && nat_lt one.number other.number) (lt-ltb one.processor other.processor lower)
first_of one other (inr same) =
    or_right (nat_lt one.processor other.processor) (one.processor == other.processor && nat_lt one.number other.number)
    (and_from (one.processor == other.processor) (nat_lt one.number other.number) (eq-eqb one.processor other.processor same.0) (lt-ltb one.number other.number same.1))

precedes_by : (one other : ThreadTurn) → one.thread ≡ other.thread → comes_before one other ≡ true → precedes one other ≡ true
precedes_by one other same is = and_from (one.thread == other.thread) (comes_before one other) (eq-eqb one.thread other.thread same) is

ends_earlier : (one other : ThreadTurn) → one.ended < other.ended → comes_before one other ≡ true
ends_earlier one other lower = or_left (nat_lt one.ended other.ended) (one.ended == other.ended && is_first_of one other) (lt-ltb one.ended other.ended lower)

ends_together : (one other : ThreadTurn) → one.ended ≡ other.ended → Before one other → comes_before one other ≡ true
ends_together one other tied before =
    or_right (nat_lt one.ended other.ended) (one.ended == other.ended && is_first_of one other)
    (and_from (one.ended == other.ended) (is_first_of one other) (eq-eqb one.ended other.ended tied) (first_of one other before))

-- of two turns of a thread in such a list one comes before the other, so they are apart
apart_at : (turns : List ThreadTurn) (i j : ℕ) (d : ThreadTurn) → i < length turns → j < length turns → Before (get_or turns i d) (get_or turns j d) → AreApart (slice_start turns) (get_or turns i d) (get_or turns j d)
apart_at turns i j d in_i in_j before same =
    let one : ThreadTurn = get_or turns i d in
    let other : ThreadTurn = get_or turns j d in
    let after : comes_before one other ≡ true → one.ended ≤ slice_start turns other = λ first.
    let low : one.ended ≤ last_end turns other = last_end_ge turns other i d in_i (precedes_by one other same first) in omega arith in
    let ahead : comes_before other one ≡ true → other.ended ≤ slice_start turns one = λ first.
    let low : other.ended ≤ last_end turns one = last_end_ge turns one j d in_j (precedes_by other one (sym same) first) in omega arith in
    ⊎_elim (λ tied. inl (after (ends_together one other tied before)))
    (⊎_elim (λ lower. inl (after (ends_earlier one other lower))) (λ higher. inr (ahead (ends_earlier other one higher)))) (cases_order one.ended other.ended)

-- each turn of the list comes before all after it
abbrev Ascends : List ThreadTurn → Type 0
Ascends [] = Unit {0}
Ascends (turn ∷ turns) = AllByRecursion (Before turn) turns × Ascends turns

at_place : {A : Type 0} (P : A → Type 0) (xs : List A) (i : ℕ) (d : A) → i < length xs → AllByRecursion P xs → P (get_or xs i d)
at_place P [] i d within h = absurd (omega arith)
at_place P (x ∷ xs) zero d within h = h.0
at_place P (x ∷ xs) (suc i) d within h = at_place P xs i d (omega arith) h.1

pairs_ascend : (turns : List ThreadTurn) → Ascends turns → AllPairs Before turns
pairs_ascend [] up i j d order within = absurd (omega arith)
pairs_ascend (turn ∷ turns) up zero zero d order within = absurd (omega arith)
pairs_ascend (turn ∷ turns) up zero (suc j) d order within = at_place (Before turn) turns j d (omega arith) up.0
pairs_ascend (turn ∷ turns) up (suc i) zero d order within = absurd (omega arith)
pairs_ascend (turn ∷ turns) up (suc i) (suc j) d order within = pairs_ascend turns up.1 i j d (omega arith) (omega arith)

-- ---- the turns of logs have this order

all_weaker : {A : Type 0} (P Q : A → Type 0) (xs : List A) → ((x : A) → P x → Q x) → AllByRecursion P xs → AllByRecursion Q xs
all_weaker P Q [] f h = tt
all_weaker P Q (x ∷ xs) f h = (f x h.0, all_weaker P Q xs f h.1)

all_cons : {A : Type 0} (P : A → Type 0) (it : Option A) (xs : List A) → IfSome it P → AllByRecursion P xs → AllByRecursion P (cons_option it xs)
all_cons P None xs h k = k
all_cons P (Some x) xs h k = (h, k)

all_append : {A : Type 0} (P : A → Type 0) (xs ys : List A) → AllByRecursion P xs → AllByRecursion P ys → AllByRecursion P (xs ++ ys)
all_append P [] ys h k = k
all_append P (x ∷ xs) ys h k = (h.0, all_append P xs ys h.1 k)

-- the turn is of this processor and has this number, or a later one
abbrev IsAt : ℕ → ℕ → ThreadTurn → Type 0
IsAt processor number it = (it.processor ≡ processor) × (it.number ≡ number)

abbrev IsFrom : ℕ → ℕ → ThreadTurn → Type 0
IsFrom processor number it = (it.processor ≡ processor) × (number ≤ it.number)

made_at : (processor number : ℕ) (thread : Option ℕ) (make : ℕ → ThreadTurn) → ((it : ℕ) → IsAt processor number (make it)) → IfSome (option_map make thread) (IsAt processor number)
made_at processor number None make h = tt
made_at processor number (Some thread) make h = h thread

turn_at : (processor number began : ℕ) (entry : Entry) → IfSome (thread_turn_of processor number began entry) (IsAt processor number)
turn_at processor number began entry = made_at processor number (element_of entry.did) _ (λ thread. (refl, refl))

some_from : (processor number : ℕ) (it : Option ThreadTurn) → IfSome it (IsAt processor number) → IfSome it (IsFrom processor number)
some_from processor number None h = tt
some_from processor number (Some it) h = let e = h.1 in (h.0, omega (arith, e))

turns_from : (processor number began : ℕ) (entries : List Entry) → AllByRecursion (IsFrom processor number) (thread_turns processor number began entries)
turns_from processor number began [] = tt
turns_from processor number began (entry ∷ entries) =
    all_cons (IsFrom processor number) (thread_turn_of processor number began entry) _ (some_from processor number (thread_turn_of processor number began entry) (turn_at processor number began entry))
    (all_weaker (IsFrom processor (number + 1)) (IsFrom processor number) _ (λ it h. let n = h.1 in (h.0, omega (arith, n))) (turns_from processor (number + 1) entry.at entries))

cons_ascends : (processor number : ℕ) (it : Option ThreadTurn) (turns : List ThreadTurn) → IfSome it (IsAt processor number) → AllByRecursion (IsFrom processor (number + 1)) turns → Ascends turns → Ascends (cons_option it turns)
cons_ascends processor number None turns h k a = a
cons_ascends processor number (Some it) turns h k a =
    (all_weaker (IsFrom processor (number + 1)) (Before it) turns (λ later l. let n = l.1 in let m = h.1 in inr (h.0 ∙ sym l.0, omega (arith, n, m))) k, a)

turns_ascend : (processor number began : ℕ) (entries : List Entry) → Ascends (thread_turns processor number began entries)
turns_ascend processor number began [] = tt
turns_ascend processor number began (entry ∷ entries) =
    cons_ascends processor number (thread_turn_of processor number began entry) _ (turn_at processor number began entry) (turns_from processor (number + 1) entry.at entries) (turns_ascend processor (number + 1) entry.at entries)

append_ascends : (xs ys : List ThreadTurn) → Ascends xs → Ascends ys → AllByRecursion (λ x. AllByRecursion (Before x) ys) xs → Ascends (xs ++ ys)
append_ascends [] ys h k l = k
append_ascends (x ∷ xs) ys h k l = (all_append (Before x) xs ys h.0 l.0, append_ascends xs ys h.1 k l.1)

all_from : (from processor : ℕ) (logs : List Kept) → AllByRecursion (λ it. processor ≤ it.processor) (all_thread_turns from processor logs)
all_from from processor [] = tt
all_from from processor (log ∷ logs) =
    all_append (λ it. processor ≤ it.processor) (thread_turns processor 0 from log.entries) _
    (all_weaker (IsFrom processor 0) (λ it. processor ≤ it.processor) _ (λ it h. let e = h.0 in omega (arith, e)) (turns_from processor 0 from log.entries))
    (all_weaker (λ (it : ThreadTurn). processor + 1 ≤ it.processor) (λ it. processor ≤ it.processor) _ (λ it h. omega (arith, h)) (all_from from (processor + 1) logs))

all_ascend : (from processor : ℕ) (logs : List Kept) → Ascends (all_thread_turns from processor logs)
all_ascend from processor [] = tt
all_ascend from processor (log ∷ logs) =
    append_ascends (thread_turns processor 0 from log.entries) (all_thread_turns from (processor + 1) logs) (turns_ascend processor 0 from log.entries) (all_ascend from (processor + 1) logs)
    (all_weaker (IsFrom processor 0) (λ x. AllByRecursion (Before x) (all_thread_turns from (processor + 1) logs)) _
    (λ x h. all_weaker (λ (it : ThreadTurn). processor + 1 ≤ it.processor) (Before x) _ (λ it l. let e = h.0 in inl (omega (arith, e, l))) (all_from from (processor + 1) logs)) (turns_from processor 0 from log.entries))

pub turns_apart : (from : ℕ) (logs : List Kept) → AllPairs (AreApart (slice_start (all_thread_turns from 0 logs))) (all_thread_turns from 0 logs)
turns_apart from logs i j d order within =
    let turns : List ThreadTurn = all_thread_turns from 0 logs in
    apart_at turns i j d (omega arith) within (pairs_ascend turns (all_ascend from 0 logs) i j d order within)
