-- The turns of lines are in the order of their processors and their numbers.
use Rattle.boot_log.proofs.Common.{◌≡◌, ◌<◌, ◌≤◌, ◌+◌, ◌∙◌, ℕ, Bool, true, false, cond, List, [], ◌∷◌, ◌++◌, ◌⊎◌, inl, inr, Option, Some, None, IfSome, refl, sym, arith, AllByRecursion, cons_option, filter, option_map, QueueIndex, Entry, LineTurn, Way, BootPlan, is_counted, Kept, all_line_turns, counted_turns, line_turn_in, line_turn_of, line_turns, queue_of}
use Rattle.boot_log.specs.declared.entry.Did.{Did}
use Rattle.boot_log.specs.declared.entry.Did.TheVariants as did

-- one turn comes before another in the lists: on a lower processor, or earlier on the same
abbrev pub Before : LineTurn → LineTurn → Type 0
Before one other = (one.processor < other.processor) ⊎ ((one.processor ≡ other.processor) × (one.turn < other.turn))

-- each turn of the list comes before all after it
abbrev pub Ascends : List LineTurn → Type 0
Ascends [] = Unit {0}
Ascends (turn ∷ turns) = AllByRecursion (Before turn) turns × Ascends turns

pub all_weaker : {A : Type 0} (P Q : A → Type 0) (xs : List A) → ((x : A) → P x → Q x) → AllByRecursion P xs → AllByRecursion Q xs
all_weaker P Q [] f h = tt
all_weaker P Q (x ∷ xs) f h = (f x h.0, all_weaker P Q xs f h.1)

pub all_cons : {A : Type 0} (P : A → Type 0) (it : Option A) (xs : List A) → IfSome it P → AllByRecursion P xs → AllByRecursion P (cons_option it xs)
all_cons P None xs h k = k
all_cons P (Some x) xs h k = (h, k)

all_append : {A : Type 0} (P : A → Type 0) (xs ys : List A) → AllByRecursion P xs → AllByRecursion P ys → AllByRecursion P (xs ++ ys)
all_append P [] ys h k = k
all_append P (x ∷ xs) ys h k = (h.0, all_append P xs ys h.1 k)

-- the turn is of this processor and has this number
abbrev IsAt : ℕ → ℕ → LineTurn → Type 0
IsAt processor number it = (it.processor ≡ processor) × (it.turn ≡ number)

abbrev IsFrom : ℕ → ℕ → LineTurn → Type 0
IsFrom processor number it = (it.processor ≡ processor) × (number ≤ it.turn)

mapped_at : (processor number : ℕ) (q : Option QueueIndex) (make : QueueIndex → LineTurn) → ((queue : QueueIndex) → IsAt processor number (make queue)) → IfSome (option_map make q) (IsAt processor number)
mapped_at processor number None make h = tt
mapped_at processor number (Some queue) make h = h queue

turn_at : (way : Way) (processor number began ended : ℕ) (it : Did) → IfSome (line_turn_in way processor number began ended it) (IsAt processor number)
turn_at way processor number began ended (did.Stepped begun step counted moved line) = mapped_at processor number (queue_of way step) _ (λ queue. (refl, refl))
turn_at way processor number began ended (did.Idle idle) = tt
turn_at way processor number began ended (did.Retired begun freed) = tt

some_from : (processor number : ℕ) (it : Option LineTurn) → IfSome it (IsAt processor number) → IfSome it (IsFrom processor number)
some_from processor number None h = tt
some_from processor number (Some it) h = let e = h.1 in (h.0, omega (arith, e))

turns_from : (way : Way) (processor number began : ℕ) (entries : List Entry) → AllByRecursion (IsFrom processor number) (line_turns way processor number began entries)
turns_from way processor number began [] = tt
turns_from way processor number began (entry ∷ entries) =
    all_cons (IsFrom processor number) (line_turn_of way processor number began entry) _ (some_from processor number (line_turn_of way processor number began entry) (turn_at way processor number began entry.at entry.did))
    (all_weaker (IsFrom processor (number + 1)) (IsFrom processor number) _ (λ it h. let n = h.1 in (h.0, omega (arith, n))) (turns_from way processor (number + 1) entry.at entries))

cons_ascends : (processor number : ℕ) (it : Option LineTurn) (turns : List LineTurn) → IfSome it (IsAt processor number) → AllByRecursion (IsFrom processor (number + 1)) turns → Ascends turns → Ascends (cons_option it turns)
cons_ascends processor number None turns h k a = a
cons_ascends processor number (Some it) turns h k a = (all_weaker (IsFrom processor (number + 1)) (Before it) turns (λ later l. let n = l.1 in let m = h.1 in inr (h.0 ∙ sym l.0, omega (arith, n, m))) k, a)

turns_ascend : (way : Way) (processor number began : ℕ) (entries : List Entry) → Ascends (line_turns way processor number began entries)
turns_ascend way processor number began [] = tt
turns_ascend way processor number began (entry ∷ entries) =
    cons_ascends processor number (line_turn_of way processor number began entry) _ (turn_at way processor number began entry.at entry.did) (turns_from way processor (number + 1) entry.at entries) (turns_ascend way processor (number + 1) entry.at entries)

append_ascends : (xs ys : List LineTurn) → Ascends xs → Ascends ys → AllByRecursion (λ x. AllByRecursion (Before x) ys) xs → Ascends (xs ++ ys)
append_ascends [] ys h k l = k
append_ascends (x ∷ xs) ys h k l = (all_append (Before x) xs ys h.0 l.0, append_ascends xs ys h.1 k l.1)

all_from : (way : Way) (from processor : ℕ) (logs : List Kept) → AllByRecursion (λ it. processor ≤ it.processor) (all_line_turns way from processor logs)
all_from way from processor [] = tt
all_from way from processor (log ∷ logs) =
    all_append (λ it. processor ≤ it.processor) (line_turns way processor 0 from log.entries) _
    (all_weaker (IsFrom processor 0) (λ it. processor ≤ it.processor) _ (λ it h. let e = h.0 in omega (arith, e)) (turns_from way processor 0 from log.entries))
    (all_weaker (λ (it : LineTurn). processor + 1 ≤ it.processor) (λ it. processor ≤ it.processor) _ (λ it h. omega (arith, h)) (all_from way from (processor + 1) logs))

all_ascend : (way : Way) (from processor : ℕ) (logs : List Kept) → Ascends (all_line_turns way from processor logs)
all_ascend way from processor [] = tt
all_ascend way from processor (log ∷ logs) =
    append_ascends (line_turns way processor 0 from log.entries) (all_line_turns way from (processor + 1) logs) (turns_ascend way processor 0 from log.entries) (all_ascend way from (processor + 1) logs)
    (all_weaker (IsFrom processor 0) (λ x. AllByRecursion (Before x) (all_line_turns way from (processor + 1) logs)) _ (λ x h. all_weaker (λ (it : LineTurn). processor + 1 ≤ it.processor) (Before x) _ (λ it l. let e = h.0 in inl (omega (arith, e, l))) (all_from way from (processor + 1) logs)) (turns_from way processor 0 from log.entries))

all_if : {A : Type 0} (P : A → Type 0) (b : Bool) (x : A) (xs : List A) → P x → AllByRecursion P xs → AllByRecursion P (cond b (x ∷ xs) xs)
all_if P true x xs h k = (h, k)
all_if P false x xs h k = k

all_filter : {A : Type 0} (P : A → Type 0) (test : A → Bool) (xs : List A) → AllByRecursion P xs → AllByRecursion P (filter test xs)
all_filter P test [] h = tt
all_filter P test (x ∷ xs) h = all_if P (test x) x (filter test xs) h.0 (all_filter P test xs h.1)

ascends_if : (b : Bool) (turn : LineTurn) (turns : List LineTurn) → AllByRecursion (Before turn) turns → Ascends turns → Ascends (cond b (turn ∷ turns) turns)
ascends_if true turn turns h a = (h, a)
ascends_if false turn turns h a = a

filter_ascends : (test : LineTurn → Bool) (turns : List LineTurn) → Ascends turns → Ascends (filter test turns)
filter_ascends test [] a = tt
filter_ascends test (turn ∷ turns) a = ascends_if (test turn) turn (filter test turns) (all_filter (Before turn) test turns a.0) (filter_ascends test turns a.1)

pub counted_ascend : (way : Way) (plan : BootPlan) (from : ℕ) (logs : List Kept) → Ascends (counted_turns way plan from logs)
counted_ascend way plan from logs = filter_ascends (is_counted plan from logs) (all_line_turns way from 0 logs) (all_ascend way from 0 logs)
