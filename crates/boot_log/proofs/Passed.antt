-- A line passes between turns of its text and queue, and each line passes once.
use Rattle.boot_log.proofs.Common.{◌≡◌, ◌<◌, ◌≤◌, ◌+◌, ◌∙◌, ◌==◌, ◌&&◌, ℕ, Bool, true, false, cond, List, [], ◌∷◌, ◌⊎◌, inl, inr, ⊎_elim, Option, Some, None, IfSome, refl, sym, ap, subst, arith, nat_le, nat_lt, eqb-true, eq-eqb, leb-true, cases_Bool, AllByRecursion, cons_option, filter_map, find, BootPlan, QueueIndex, LineTurn, Put, Taken, Passing, Kept, AreApart, PassOnce, counted_turns, are_same, count_before, is_before, is_passed, passing_of, passings, text_of, is_same_queue}
use Rattle.std.proofs.lemmas.Bool.Decides.{nat_tests}
use Rattle.std.proofs.lemmas.List.Sums.{sum_by-cons}
use Rattle.std.proofs.lemmas.Slice.Eq.{bytes_eq-Decides}
use Rattle.std.specs.Prelude.{option_map, ◌||◌, count_by}
use Rattle.std.specs.Str.{bytes_eq}
use Rattle.boot_data.specs.declared.plan.QueueIndex.TheVariants.{Small, Large}
use Rattle.boot_log.proofs.Ascending.{Ascends, Before, all_cons, all_weaker, counted_ascend}

-- the order by the clock, on numbers
abbrev earlier : ℕ → ℕ → ℕ → ℕ → ℕ → ℕ → Bool
earlier a b c d e f = nat_lt a d || (a == d && (nat_lt b e || (b == e && nat_lt c f)))

earlier_trans : (a b c d e f g h i : ℕ) → earlier a b c d e f ≡ true → earlier d e f g h i ≡ true → earlier a b c g h i ≡ true
earlier_trans a b c d e f g h i p q = grind (arith, nat_tests)

earlier_self : (a b c : ℕ) → earlier a b c a b c ≡ false
earlier_self a b c = grind (arith, nat_tests)

earlier_after : (a b c d e f : ℕ) → (b < e) ⊎ ((b ≡ e) × (c < f)) → earlier a b c d e f ≡ false → earlier d e f a b c ≡ true
earlier_after a b c d e f (inl l) p = grind (arith, nat_tests)
earlier_after a b c d e f (inr l) p = let m = l.0 in let n = l.1 in grind (arith, nat_tests)

earlier_either : (a b c d e f : ℕ) → (b < e) ⊎ ((b ≡ e) × (c < f)) → (earlier a b c d e f ≡ true) ⊎ (earlier d e f a b c ≡ true)
earlier_either a b c d e f h = ⊎_elim (λ p. inl p) (λ p. inr (earlier_after a b c d e f h p)) (cases_Bool (earlier a b c d e f))

-- both tests hold
both_true : (a b : Bool) → (a && b) ≡ true → (a ≡ true) × (b ≡ true)
both_true true b h = (refl, h)
both_true false b h = absurd cc

true_both : (a b : Bool) → a ≡ true → b ≡ true → (a && b) ≡ true
true_both true b p q = q
true_both false b p q = p

second_false : (a b : Bool) → b ≡ false → (a && b) ≡ false
second_false true b h = h
second_false false b h = refl

queue_same : (p q : QueueIndex) → is_same_queue p q ≡ true → p ≡ q
queue_same (Small m) (Small n) h = ap Small (eqb-true m n h)
queue_same (Large m) (Large n) h = ap Large (eqb-true m n h)
queue_same (Small m) (Large n) h = absurd cc
queue_same (Large m) (Small n) h = absurd cc

queue_self : (q : QueueIndex) → is_same_queue q q ≡ true
queue_self (Small n) = eq-eqb n n refl
queue_self (Large n) = eq-eqb n n refl

-- two turns are of one queue and text
abbrev pub SameLine : List Kept → LineTurn → LineTurn → Type 0
SameLine logs one other = (one.queue ≡ other.queue) × (text_of logs one ≡ text_of logs other)

line_same : (logs : List Kept) (one other : LineTurn) → are_same logs one other ≡ true → SameLine logs one other
line_same logs one other h =
    let parts = both_true (is_same_queue one.queue other.queue) (bytes_eq (text_of logs one) (text_of logs other)) h in
    (queue_same one.queue other.queue parts.0, (bytes_eq-Decides (text_of logs one) (text_of logs other)).0 parts.1)

same_line : (logs : List Kept) (one other : LineTurn) → SameLine logs one other → are_same logs one other ≡ true
same_line logs one other h =
    true_both (is_same_queue one.queue other.queue) (bytes_eq (text_of logs one) (text_of logs other))
    (subst (λ (q : QueueIndex). is_same_queue one.queue q ≡ true) h.0 (queue_self one.queue)) ((bytes_eq-Decides (text_of logs one) (text_of logs other)).1 h.1)

-- the turn is in the list
abbrev In : LineTurn → List LineTurn → Type 0
In turn [] = ⊥
In turn (other ∷ turns) = (other ≡ turn) ⊎ In turn turns

all_in : (turns : List LineTurn) → AllByRecursion (λ turn. In turn turns) turns
all_in [] = tt
all_in (turn ∷ turns) = (inl refl, all_weaker (λ it. In it turns) (λ it. In it (turn ∷ turns)) turns (λ it h. inr h) (all_in turns))

abbrev one_if : Bool → ℕ
one_if b = cond b 1 0

counted : (b c : Bool) → (b ≡ true → c ≡ true) → one_if b ≤ one_if c
counted true c h = rw (h refl) (omega arith)
counted false c h = omega arith

count_cons : (p : LineTurn → Bool) (turn : LineTurn) (turns : List LineTurn) → count_by p (turn ∷ turns) ≡ one_if (p turn) + count_by p turns
count_cons p turn turns = sum_by-cons (λ x. cond (p x) 1 0) turn turns

count_le : (p q : LineTurn → Bool) (turns : List LineTurn) → ((x : LineTurn) → p x ≡ true → q x ≡ true) → count_by p turns ≤ count_by q turns
count_le p q [] h = omega arith
count_le p q (turn ∷ turns) h =
    let ps = count_cons p turn turns in
    let qs = count_cons q turn turns in
    omega (arith, ps, qs, counted (p turn) (q turn) (h turn), count_le p q turns h)

count_lt : (p q : LineTurn → Bool) (a : LineTurn) (turns : List LineTurn) → ((x : LineTurn) → p x ≡ true → q x ≡ true) → p a ≡ false → q a ≡ true → In a turns → count_by p turns < count_by q turns
count_lt p q a [] h lacks has here = absurd here
count_lt p q a (turn ∷ turns) h lacks has (inl is) =
    let first : one_if (p turn) ≡ 0 = ap one_if (ap p is ∙ lacks) in
    let second : one_if (q turn) ≡ 1 = ap one_if (ap q is ∙ has) in
    let ps = count_cons p turn turns in
    let qs = count_cons q turn turns in
    omega (arith, first, second, ps, qs, count_le p q turns h)
count_lt p q a (turn ∷ turns) h lacks has (inr here) =
    let ps = count_cons p turn turns in
    let qs = count_cons q turn turns in
    omega (arith, ps, qs, counted (p turn) (q turn) (h turn), count_lt p q a turns h lacks has here)

-- fewer lines come before the first of two turns of a queue and text
fewer : (logs : List Kept) (turns : List LineTurn) (a b : LineTurn) → In a turns → SameLine logs a b → is_before a b ≡ true → count_before logs turns a < count_before logs turns b
fewer logs turns a b has same first =
    count_lt (λ o. are_same logs o a && is_before o a) (λ o. are_same logs o b && is_before o b) a turns
    (λ o h.
    let parts = both_true (are_same logs o a) (is_before o a) h in
    let own = line_same logs o a parts.0 in
    true_both (are_same logs o b) (is_before o b) (same_line logs o b (own.0 ∙ same.0, own.1 ∙ same.1)) (earlier_trans o.ended o.processor o.turn a.ended a.processor a.turn b.ended b.processor b.turn parts.1 first))
    (second_false (are_same logs a a) (is_before a a) (earlier_self a.ended a.processor a.turn))
    (true_both (are_same logs a b) (is_before a b) (same_line logs a b same) first) has

-- two turns of a queue and text don't have as many lines before them
differ : (logs : List Kept) (turns : List LineTurn) (a b : LineTurn) → In a turns → In b turns → Before a b → SameLine logs a b → count_before logs turns a ≡ count_before logs turns b → ⊥
differ logs turns a b in_a in_b before same is =
    ⊎_elim (λ (h : is_before a b ≡ true). absurd (omega (arith, is, fewer logs turns a b in_a same h)))
    (λ (h : is_before b a ≡ true). absurd (omega (arith, is, fewer logs turns b a in_b (sym same.0, sym same.1) h)))
    (earlier_either a.ended a.processor a.turn b.ended b.processor b.turn before)

-- what is known of a line that passed to this turn
abbrev pub IsPassed : List Kept → List LineTurn → List LineTurn → LineTurn → Passing → Type 0
IsPassed logs puts takings taken passing =
    (passing.heard ≡ taken) × SameLine logs passing.said taken × (count_before logs puts passing.said ≡ count_before logs takings taken)
    × (passing.said.began ≤ taken.ended)

found_at : {A : Type 0} (test : A → Bool) (b : Bool) (x : A) (rest : Option A) → test x ≡ b → IfSome rest (λ y. test y ≡ true) → IfSome (cond b (Some x) rest) (λ y. test y ≡ true)
found_at test true x rest is later = is
found_at test false x rest is later = later

found : {A : Type 0} (test : A → Bool) (xs : List A) → IfSome (find test xs) (λ x. test x ≡ true)
found test [] = tt
found test (x ∷ xs) = found_at test (test x) x (find test xs) refl (found test xs)

passed_of : (logs : List Kept) (puts takings : List LineTurn) (taken : LineTurn) (put : Option LineTurn) → IfSome put (λ it. is_passed logs puts takings it taken ≡ true)
    → IfSome (option_map (λ (it : LineTurn). record { said = it; heard = taken }) put) (IsPassed logs puts takings taken)
passed_of logs puts takings taken None h = tt
passed_of logs puts takings taken (Some put) h =
    let all = both_true (are_same logs put taken && (count_before logs puts put == count_before logs takings taken)) (nat_le put.began taken.ended) h in
    let parts = both_true (are_same logs put taken) (count_before logs puts put == count_before logs takings taken) all.0 in
    (refl, line_same logs put taken parts.0, eqb-true _ _ parts.1, leb-true _ _ all.1)

pub passed : (logs : List Kept) (puts takings : List LineTurn) (taken : LineTurn) → IfSome (passing_of logs puts takings taken) (IsPassed logs puts takings taken)
passed logs puts takings taken = passed_of logs puts takings taken (find (λ put. is_passed logs puts takings put taken) puts) (found (λ put. is_passed logs puts takings put taken) puts)

not_before_self : (a b : LineTurn) → Before a b → a ≡ b → ⊥
not_before_self a b (inl l) is = let e = ap (λ (t : LineTurn). t.processor) is in omega (arith, l, e)
not_before_self a b (inr l) is = let e = ap (λ (t : LineTurn). t.turn) is in let n = l.1 in omega (arith, n, e)

apart : (logs : List Kept) (puts takings : List LineTurn) (a b : LineTurn) (one other : Passing) → In a takings → In b takings → Before a b → IsPassed logs puts takings a one → IsPassed logs puts takings b other → AreApart one other
apart logs puts takings a b one other in_a in_b before p q = (
  λ same.
      let queue = sym p.1.0 ∙ (ap (λ (t : LineTurn). t.queue) same ∙ q.1.0) in
      let text = sym p.1.1 ∙ (ap (text_of logs) same ∙ q.1.1) in
      differ logs takings a b in_a in_b before (queue, text) (sym p.2 ∙ (ap (count_before logs puts) same ∙ q.2)),
  λ same. not_before_self a b before (sym p.0 ∙ (same ∙ q.0)),
)

later_apart : (logs : List Kept) (puts takings : List LineTurn) (a b : LineTurn) (one : Passing) (other : Option Passing) → In a takings → In b takings → Before a b → IsPassed logs puts takings a one → IfSome other (IsPassed logs puts takings b) → IfSome other (AreApart one)
later_apart logs puts takings a b one None in_a in_b before p q = tt
later_apart logs puts takings a b one (Some other) in_a in_b before p q = apart logs puts takings a b one other in_a in_b before p q

all_later : (logs : List Kept) (puts takings : List LineTurn) (a : LineTurn) (one : Passing) (turns : List LineTurn) → In a takings → IsPassed logs puts takings a one → AllByRecursion (Before a) turns → AllByRecursion (λ b. In b takings) turns → AllByRecursion (AreApart one) (filter_map (passing_of logs puts takings) turns)
all_later logs puts takings a one [] in_a p before all = tt
all_later logs puts takings a one (b ∷ turns) in_a p before all =
    all_cons (AreApart one) (passing_of logs puts takings b) _ (later_apart logs puts takings a b one (passing_of logs puts takings b) in_a all.0 before.0 p (passed logs puts takings b))
    (all_later logs puts takings a one turns in_a p before.1 all.1)

cons_once : (one : Option Passing) (passings : List Passing) → IfSome one (λ it. AllByRecursion (AreApart it) passings) → PassOnce passings → PassOnce (cons_option one passings)
cons_once None passings h k = k
cons_once (Some one) passings h k = (h, k)

some_later : (logs : List Kept) (puts takings : List LineTurn) (a : LineTurn) (turns : List LineTurn) (one : Option Passing) → IfSome one (IsPassed logs puts takings a) → In a takings → AllByRecursion (Before a) turns → AllByRecursion (λ b. In b takings) turns → IfSome one (λ it. AllByRecursion (AreApart it) (filter_map (passing_of logs puts takings) turns))
some_later logs puts takings a turns None p in_a before all = tt
some_later logs puts takings a turns (Some one) p in_a before all = all_later logs puts takings a one turns in_a p before all

once_each : (logs : List Kept) (puts takings turns : List LineTurn) → Ascends turns → AllByRecursion (λ b. In b takings) turns → PassOnce (filter_map (passing_of logs puts takings) turns)
once_each logs puts takings [] ascends all = tt
once_each logs puts takings (a ∷ turns) ascends all =
    cons_once (passing_of logs puts takings a) _ (some_later logs puts takings a turns (passing_of logs puts takings a) (passed logs puts takings a) all.0 ascends.0 all.1)
    (once_each logs puts takings turns ascends.1 all.1)

pub passed_once : (plan : BootPlan) (from : ℕ) (logs : List Kept) → PassOnce (passings plan from logs)
passed_once plan from logs =
    let puts : List LineTurn = counted_turns Put plan from logs in
    let takings : List LineTurn = counted_turns Taken plan from logs in
    once_each logs puts takings takings (counted_ascend Taken plan from logs) (all_in takings)

kept_text : (logs : List Kept) (puts takings : List LineTurn) (taken : LineTurn) (one : Option Passing) → IfSome one (IsPassed logs puts takings taken) → IfSome one (λ passing. are_same logs passing.said passing.heard ≡ true)
kept_text logs puts takings taken None h = tt
kept_text logs puts takings taken (Some passing) h = subst (λ (t : LineTurn). are_same logs passing.said t ≡ true) (sym h.0) (same_line logs passing.said taken h.1)

all_mapped : {A B : Type 0} (P : B → Type 0) (f : A → Option B) (xs : List A) → ((x : A) → IfSome (f x) P) → AllByRecursion P (filter_map f xs)
all_mapped P f [] h = tt
all_mapped P f (x ∷ xs) h = all_cons P (f x) (filter_map f xs) (h x) (all_mapped P f xs h)

pub same_lines : (plan : BootPlan) (from : ℕ) (logs : List Kept) → AllByRecursion (λ (passing : Passing). are_same logs passing.said passing.heard ≡ true) (passings plan from logs)
same_lines plan from logs =
    let puts : List LineTurn = counted_turns Put plan from logs in
    let takings : List LineTurn = counted_turns Taken plan from logs in
    all_mapped (λ (passing : Passing). are_same logs passing.said passing.heard ≡ true) (passing_of logs puts takings) takings
    (λ taken. kept_text logs puts takings taken (passing_of logs puts takings taken) (passed logs puts takings taken))
