-- A line that passed is known: only threads use its queue, line by line, its put began in time, and the logs have all
-- turns up to both.
use Rattle.boot_log.proofs.Common.{◌≡◌, ◌<◌, ◌≤◌, ◌==◌, ◌&&◌, ◌||◌, ℕ, Bool, true, false, cond, List, [], ◌∷◌, ◌⊎◌, inl, inr, ⊎_elim, Option, Some, None, IfSome, max, nat_lt, refl, sym, subst, arith, and_parts, eqb-true, ltb-true, or_cases, AllByRecursion, filter, filter_map, find, list_all, option_map, BootPlan, LineTurn, Way, Put, Taken, Passing, has_all_until, is_counted, is_known, Kept, end_of, HaveAllUntil, IsKnownLine, all_line_turns, counted_turns, is_passed, passing_of, passings, has_single_lines, is_of_threads}
use Rattle.boot_log.proofs.Ascending.{all_cons}
use Rattle.boot_log.proofs.Passed.{IsPassed, passed}

-- a log that has all turns until two times has those until the later of them
until_both : (missed one other end : ℕ) → (missed == 0 || nat_lt one end) ≡ true → (missed == 0 || nat_lt other end) ≡ true → (missed ≡ 0) ⊎ (max one other < end)
until_both missed one other end p q =
    ⊎_elim (λ whole. inl (eqb-true missed 0 whole))
    (λ h. ⊎_elim (λ whole. inl (eqb-true missed 0 whole))
    (λ k. let l : one < end = ltb-true one end h in let m : other < end = ltb-true other end k in inr (omega (arith, l, m)))
    (or_cases (missed == 0) (nat_lt other end) q))
    (or_cases (missed == 0) (nat_lt one end) p)

all_until : (from one other : ℕ) (logs : List Kept) → list_all (has_all_until from one) logs ≡ true → list_all (has_all_until from other) logs ≡ true → HaveAllUntil from (max one other) logs
all_until from one other [] h k = tt
all_until from one other (log ∷ logs) h k =
    let first = and_parts (has_all_until from one log) (list_all (has_all_until from one) logs) h in
    let second = and_parts (has_all_until from other log) (list_all (has_all_until from other) logs) k in
    (until_both log.missed one other (end_of from log.entries) first.0 second.0, all_until from one other logs first.1 second.1)

passes_if : {A : Type 0} (test : A → Bool) (b : Bool) (x : A) (xs : List A) → test x ≡ b → AllByRecursion (λ y. test y ≡ true) xs → AllByRecursion (λ y. test y ≡ true) (cond b (x ∷ xs) xs)
passes_if test true x xs is k = (is, k)
passes_if test false x xs is k = k

all_pass : {A : Type 0} (test : A → Bool) (xs : List A) → AllByRecursion (λ y. test y ≡ true) (filter test xs)
all_pass test [] = tt
all_pass test (x ∷ xs) = passes_if test (test x) x (filter test xs) refl (all_pass test xs)

found_if : {A : Type 0} (P : A → Type 0) (b : Bool) (x : A) (rest : Option A) → P x → IfSome rest P → IfSome (cond b (Some x) rest) P
found_if P true x rest h k = h
found_if P false x rest h k = k

-- what is found in a list is as all its items are
found_of : {A : Type 0} (P : A → Type 0) (test : A → Bool) (xs : List A) → AllByRecursion P xs → IfSome (find test xs) P
found_of P test [] h = tt
found_of P test (x ∷ xs) h = found_if P (test x) x (find test xs) h.0 (found_of P test xs h.1)

said_as : (P : LineTurn → Type 0) (taken : LineTurn) (put : Option LineTurn) → IfSome put P → IfSome (option_map (λ (it : LineTurn). record { said = it; heard = taken }) put) (λ (passing : Passing). P passing.said)
said_as P taken None h = tt
said_as P taken (Some put) h = h

all_mapped_of : {A B : Type 0} (P : A → Type 0) (Q : B → Type 0) (f : A → Option B) (xs : List A) → ((x : A) → P x → IfSome (f x) Q) → AllByRecursion P xs → AllByRecursion Q (filter_map f xs)
all_mapped_of P Q f [] h k = tt
all_mapped_of P Q f (x ∷ xs) h k = all_cons Q (f x) (filter_map f xs) (h x k.0) (all_mapped_of P Q f xs h k.1)

known_line : (plan : BootPlan) (from : ℕ) (logs : List Kept) (puts takings : List LineTurn) (taken : LineTurn) (one : Option Passing) → IfSome one (IsPassed logs puts takings taken)
    → IfSome one (λ (passing : Passing). is_counted plan from logs passing.said ≡ true) → is_counted plan from logs taken ≡ true → IfSome one (IsKnownLine plan from logs)
known_line plan from logs puts takings taken None p said heard = tt
known_line plan from logs puts takings taken (Some passing) p said heard =
    let same = sym p.0 in
    let said_all = and_parts (is_of_threads plan passing.said.queue && is_known from logs passing.said) (has_single_lines plan passing.said.queue) said in
    let one = and_parts (is_of_threads plan passing.said.queue) (is_known from logs passing.said) said_all.0 in
    let heard_all = and_parts (is_of_threads plan taken.queue && is_known from logs taken) (has_single_lines plan taken.queue) heard in
    let other = and_parts (is_of_threads plan taken.queue) (is_known from logs taken) heard_all.0 in
    record {
      queue = one.0;
      single = said_all.1;
      order = subst (λ (turn : LineTurn). passing.said.began ≤ turn.ended) same p.3;
      whole = subst (λ (turn : LineTurn). HaveAllUntil from (max passing.said.ended turn.ended) logs) same (all_until from passing.said.ended taken.ended logs one.1 other.1);
    }

pub known_lines : (plan : BootPlan) (from : ℕ) (logs : List Kept) → AllByRecursion (IsKnownLine plan from logs) (passings plan from logs)
known_lines plan from logs =
    let puts : List LineTurn = counted_turns Put plan from logs in
    let takings : List LineTurn = counted_turns Taken plan from logs in
    let counted : (way : Way) → AllByRecursion (λ (turn : LineTurn). is_counted plan from logs turn ≡ true) (counted_turns way plan from logs) =
    λ way. all_pass (is_counted plan from logs) (all_line_turns way from 0 logs) in
    all_mapped_of (λ (turn : LineTurn). is_counted plan from logs turn ≡ true) (IsKnownLine plan from logs) (passing_of logs puts takings) takings
    (λ taken heard. known_line plan from logs puts takings taken (passing_of logs puts takings taken) (passed logs puts takings taken)
    (said_as (λ (turn : LineTurn). is_counted plan from logs turn ≡ true) taken (find (λ put. is_passed logs puts takings put taken) puts)
    (found_of (λ (turn : LineTurn). is_counted plan from logs turn ≡ true) (λ put. is_passed logs puts takings put taken) puts (counted Put))) heard)
    (counted Taken)
