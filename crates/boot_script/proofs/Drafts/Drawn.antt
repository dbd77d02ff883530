-- What is kept of a boot script, line by line.
use Rattle.boot_script.proofs.Common.{◌≡◌, ℕ, zero, suc, ◌<◌, ◌≤◌, ◌+◌, List, [], ◌∷◌, ◌++◌, ◌∙◌, refl, sym, ap, arith, length, length-append, get_or, slice_set, true, false, Bool, cond, Option, Some, None, Result, Ok, Err, eqb, nat_tests, get_or-set_same, get_or-set_other, nat_le, nat_lt, IsSome, IfSome, OnOk, ScriptRefusal, TooMany, TextTooLong, Kind, Named, Version, same_kind, count_of, most_of, room_of, with_name, Alarm, PlannedQueue, PlannedMover, PlannedTty, PlannedThread, Step, ◌>>=◌, Plan, steps_at, no_plan, typed_at, change_at, with_text, with_step, text_room, alarm_room, step_room}
use Rattle.std.specs.Result.{is_ok}
use Rattle.boot_data.specs.declared.kind.Kind.TheVariants.{Thread}
use Rattle.boot_script.proofs.Drafts.NamesSoFar.{count_push, most_three}

abbrev pub plan_with : List PlannedQueue → List PlannedTty → List PlannedMover → List (List ℕ) → List Alarm → List PlannedThread → Plan
plan_with queues ttys movers gauges alarms threads = record { queues = queues; ttys = ttys; movers = movers; gauges = gauges; alarms = alarms; threads = threads }

-- a function is applied to the value of an answer; a refusal stays
pub goes_ok : {A B E : Type 0} (r : Result A E) (x : A) (f : A → Result B E) → r ≡ Ok x → (r >>= f) ≡ f x
goes_ok r x f e = ap (λ s. s >>= f) e

pub goes_wrong : {A B E : Type 0} (r : Result A E) (refusal : E) (f : A → Result B E) → r ≡ Err refusal → (r >>= f) ≡ Err refusal
goes_wrong r refusal f e = ap (λ s. s >>= f) e

-- a tty more types nothing yet, and a thread more has no step yet
pub typed_more : (ttys : List PlannedTty) (name : List ℕ) (tty : ℕ) → typed_at (ttys ++ record { name = name; typed = [] } ∷ []) tty ≡ typed_at ttys tty
typed_more [] name zero = refl
typed_more [] name (suc tty) = refl
typed_more (t ∷ ttys) name zero = refl
typed_more (t ∷ ttys) name (suc tty) = typed_more ttys name tty

pub steps_more : (threads : List PlannedThread) (name : List ℕ) (thread : ℕ) → steps_at (threads ++ record { name = name; steps = [] } ∷ []) thread ≡ steps_at threads thread
steps_more [] name zero = refl
steps_more [] name (suc thread) = refl
steps_more (t ∷ threads) name zero = refl
steps_more (t ∷ threads) name (suc thread) = steps_more threads name thread

pub empty_plan : (queues : List PlannedQueue) (ttys : List PlannedTty) (movers : List PlannedMover) (gauges : List (List ℕ)) (alarms : List Alarm) (threads : List PlannedThread)
    → queues ≡ [] → ttys ≡ [] → movers ≡ [] → gauges ≡ [] → alarms ≡ [] → threads ≡ [] → plan_with queues ttys movers gauges alarms threads ≡ no_plan
empty_plan queues ttys movers gauges alarms threads a b c d e f = rw (a, b, c, d, e, f) refl

-- a plan with other lists
abbrev pub with_queues : Plan → List PlannedQueue → Plan
with_queues p xs = record p { queues = xs }

abbrev pub with_ttys : Plan → List PlannedTty → Plan
with_ttys p xs = record p { ttys = xs }

abbrev pub with_movers : Plan → List PlannedMover → Plan
with_movers p xs = record p { movers = xs }

abbrev pub with_gauges : Plan → List (List ℕ) → Plan
with_gauges p xs = record p { gauges = xs }

abbrev pub with_alarms : Plan → List Alarm → Plan
with_alarms p xs = record p { alarms = xs }

abbrev pub with_threads : Plan → List PlannedThread → Plan
with_threads p xs = record p { threads = xs }

-- a name of another kind leaves the count, and one of the kind adds to it
pub count_other : (kind other : Kind) (name : List ℕ) (names : List Named) → same_kind other kind ≡ false → count_of kind (with_name other name names) ≡ count_of kind names
count_other kind other name names h =
    let none : ◌≡◌ {A = ℕ} (cond (same_kind other kind) 1 0) 0 = rw h refl in
    omega (arith, count_push kind names (record { name = name; kind = other; number = count_of other names }), none)

pub count_same : (kind : Kind) (name : List ℕ) (names : List Named) → same_kind kind kind ≡ true → count_of kind (with_name kind name names) ≡ count_of kind names + 1
count_same kind name names h =
    let one : ◌≡◌ {A = ℕ} (cond (same_kind kind kind) 1 0) 1 = rw h refl in
    omega (arith, count_push kind names (record { name = name; kind = kind; number = count_of kind names }), one)

-- a change at a place is a store, and past the end it is none
pub change_set : {A : Type 0} (change : A → A) (xs : List A) (place : ℕ) (x d : A) → place < length xs → x ≡ change (get_or xs place d) → slice_set xs place x ≡ change_at change xs place
change_set change [] place x d within e = absurd (omega (arith, within))
change_set change (y ∷ ys) zero x d within e = ap (λ z. z ∷ ys) e
change_set change (y ∷ ys) (suc place) x d within e = ap (λ zs. y ∷ zs) (change_set change ys place x d (omega (arith, within)) e)

pub change_past : {A : Type 0} (change : A → A) (xs : List A) (place : ℕ) → length xs ≤ place → change_at change xs place ≡ xs
change_past change [] place past = refl
change_past change (y ∷ ys) zero past = absurd (omega (arith, past))
change_past change (y ∷ ys) (suc place) past = ap (λ zs. y ∷ zs) (change_past change ys place (omega (arith, past)))

pub change_length : {A : Type 0} (change : A → A) (xs : List A) (place : ℕ) → length (change_at change xs place) ≡ length xs
change_length change [] place = refl
change_length change (y ∷ ys) zero = refl
change_length change (y ∷ ys) (suc place) = ap suc (change_length change ys place)

-- what is typed at the tty, and at the others
pub typed_here : (text : List ℕ) (ttys : List PlannedTty) (tty : ℕ) → tty < length ttys → typed_at (change_at (with_text text) ttys tty) tty ≡ typed_at ttys tty ++ text
typed_here text [] tty within = absurd (omega (arith, within))
typed_here text (t ∷ ttys) zero within = refl
typed_here text (t ∷ ttys) (suc tty) within = typed_here text ttys tty (omega (arith, within))

pub typed_there : (text : List ℕ) (ttys : List PlannedTty) (tty other : ℕ) → (other ≡ tty → ⊥) → typed_at (change_at (with_text text) ttys tty) other ≡ typed_at ttys other
typed_there text [] tty other h = refl
typed_there text (t ∷ ttys) zero zero h = absurd (h refl)
typed_there text (t ∷ ttys) zero (suc other) h = refl
typed_there text (t ∷ ttys) (suc tty) zero h = refl
typed_there text (t ∷ ttys) (suc tty) (suc other) h = typed_there text ttys tty other (λ e. h (ap suc e))

pub steps_here : (step : Step) (threads : List PlannedThread) (thread : ℕ) → thread < length threads → steps_at (change_at (with_step step) threads thread) thread ≡ steps_at threads thread ++ step ∷ []
steps_here step [] thread within = absurd (omega (arith, within))
steps_here step (t ∷ threads) zero within = refl
steps_here step (t ∷ threads) (suc thread) within = steps_here step threads thread (omega (arith, within))

pub steps_there : (step : Step) (threads : List PlannedThread) (thread other : ℕ) → (other ≡ thread → ⊥) → steps_at (change_at (with_step step) threads thread) other ≡ steps_at threads other
steps_there step [] thread other h = refl
steps_there step (t ∷ threads) zero zero h = absurd (h refl)
steps_there step (t ∷ threads) zero (suc other) h = refl
steps_there step (t ∷ threads) (suc thread) zero h = refl
steps_there step (t ∷ threads) (suc thread) (suc other) h = steps_there step threads thread other (λ e. h (ap suc e))

-- counts of what is typed, and of steps, with one place changed
count_at : {A : Type 0} (size : A → ℕ) (old new : ℕ → A) (counts : List ℕ) (place count other : ℕ) (b : Bool) → eqb other place ≡ b → place < length counts → get_or counts other 0 ≡ size (old other)
    → count ≡ size (new place) → ((other ≡ place → ⊥) → size (new other) ≡ size (old other)) → get_or (slice_set counts place count) other 0 ≡ size (new other)
count_at size old new counts place count other true same within before here there =
    let e : other ≡ place = grind (arith, nat_tests) in
    ap (λ i. get_or (slice_set counts place count) i 0) e ∙ (get_or-set_same counts place count 0 within ∙ (here ∙ ap (λ i. size (new i)) (sym e)))
count_at size old new counts place count other false same within before here there =
    let e : other ≡ place → ⊥ = grind (arith, nat_tests) in
    get_or-set_other counts place other count 0 e ∙ (before ∙ sym (there e))

same_count : (counts : List ℕ) (place other : ℕ) (b : Bool) → eqb other place ≡ b → place < length counts → get_or (slice_set counts place (get_or counts place 0)) other 0 ≡ get_or counts other 0
same_count counts place other true same within =
    let e : other ≡ place = grind (arith, nat_tests) in
    ap (λ i. get_or (slice_set counts place (get_or counts place 0)) i 0) e ∙ (get_or-set_same counts place (get_or counts place 0) 0 within ∙ ap (λ i. get_or counts i 0) (sym e))
same_count counts place other false same within =
    let e : other ≡ place → ⊥ = grind (arith, nat_tests) in
    get_or-set_other counts place other (get_or counts place 0) 0 e

pub typed_counts : (there : Bool) (text : List ℕ) (ttys : List PlannedTty) (counts : List ℕ) (tty count other : ℕ) → nat_lt tty (length ttys) ≡ there → tty < length counts → get_or counts other 0 ≡ length (typed_at ttys other)
    → count ≡ length (typed_at ttys tty) + length text → get_or (slice_set counts tty (cond there count (get_or counts tty 0))) other 0 ≡ length (typed_at (change_at (with_text text) ttys tty) other)
typed_counts true text ttys counts tty count other test few before e =
    let within : tty < length ttys = grind (arith, nat_tests) in
    count_at (λ (bytes : List ℕ). length bytes) (typed_at ttys) (typed_at (change_at (with_text text) ttys tty)) counts tty count other (eqb other tty) refl few before
    (e ∙ (sym (length-append (typed_at ttys tty) text) ∙ ap length (sym (typed_here text ttys tty within)))) (λ h. ap length (typed_there text ttys tty other h))
typed_counts false text ttys counts tty count other test few before e =
    let past : length ttys ≤ tty = grind (arith, nat_tests) in
    same_count counts tty other (eqb other tty) refl few ∙ (before ∙ ap (λ ts. length (typed_at ts other)) (sym (change_past (with_text text) ttys tty past)))

pub counts_of_steps : (there : Bool) (step : Step) (threads : List PlannedThread) (counts : List ℕ) (thread other : ℕ) → nat_lt thread (length threads) ≡ there → thread < length counts → get_or counts other 0 ≡ length (steps_at threads other)
    → get_or counts thread 0 ≡ length (steps_at threads thread) → get_or (slice_set counts thread (cond there (get_or counts thread 0 + 1) (get_or counts thread 0))) other 0 ≡ length (steps_at (change_at (with_step step) threads thread) other)
counts_of_steps true step threads counts thread other test few before e =
    let within : thread < length threads = grind (arith, nat_tests) in
    count_at (λ (steps : List Step). length steps) (steps_at threads) (steps_at (change_at (with_step step) threads thread)) counts thread (get_or counts thread 0 + 1) other (eqb other thread) refl few before
    (ap (λ n. n + 1) e ∙ (sym (length-append (steps_at threads thread) (step ∷ [])) ∙ ap length (sym (steps_here step threads thread within)))) (λ h. ap length (steps_there step threads thread other h))
counts_of_steps false step threads counts thread other test few before e =
    let past : length threads ≤ thread = grind (arith, nat_tests) in
    same_count counts thread other (eqb other thread) refl few ∙ (before ∙ ap (λ ts. length (steps_at ts other)) (sym (change_past (with_step step) threads thread past)))

-- a thread that has steps is there
pub has_steps : (threads : List PlannedThread) (thread : ℕ) → 0 < length (steps_at threads thread) → thread < length threads
has_steps [] thread some = absurd (omega (arith, some))
has_steps (t ∷ threads) zero some = omega arith
has_steps (t ∷ threads) (suc thread) some = omega (arith, has_steps threads thread some)

pub thread_is : (count : ℕ) (threads : List PlannedThread) (thread : ℕ) → count ≡ length (steps_at threads thread) → 0 < count → nat_lt thread (length threads) ≡ true
thread_is count threads thread e some =
    let within : thread < length threads = has_steps threads thread (omega (arith, e, some)) in
    grind (arith, nat_tests)

-- tests of room
pub text_fits : (count : ℕ) → count ≤ 1024 → text_room count ≡ Ok tt
text_fits count few = let test : nat_le count 1024 ≡ true = grind (arith, nat_tests) in rw test refl

pub text_long : (count : ℕ) → 1024 < count → text_room count ≡ Err TextTooLong
text_long count many = let test : nat_le count 1024 ≡ false = grind (arith, nat_tests) in rw test refl

pub alarm_fits : (alarms : List Alarm) → length alarms < 16 → alarm_room alarms ≡ Ok tt
alarm_fits alarms few = let test : nat_lt (length alarms) 16 ≡ true = grind (arith, nat_tests) in rw test refl

pub alarm_many : (alarms : List Alarm) → 16 ≤ length alarms → alarm_room alarms ≡ Err TooMany
alarm_many alarms many = let test : nat_lt (length alarms) 16 ≡ false = grind (arith, nat_tests) in rw test refl

pub step_fits : (steps : List Step) → length steps < 64 → step_room steps ≡ Ok tt
step_fits steps few = let test : nat_lt (length steps) 64 ≡ true = grind (arith, nat_tests) in rw test refl

pub step_many : (steps : List Step) → 64 ≤ length steps → step_room steps ≡ Err TooMany
step_many steps many = let test : nat_lt (length steps) 64 ≡ false = grind (arith, nat_tests) in rw test refl

-- the element of a thread's number
pub element_of : (element : Option ℕ) (number : ℕ) → (number < 64 → IsSome element) → IfSome element (λ e. e ≡ number) → number < 64 → element ≡ Some number
element_of None number known value few = absurd (cc (known few))
element_of (Some e) number known value few = ap (λ n. Some n) value

abbrev room_if : Bool → Result (Unit {0}) ScriptRefusal
room_if b = cond b (Ok tt) (Err TooMany)

chosen_room : (b : Bool) → room_if b ≡ Ok tt → b ≡ true
chosen_room true h = refl
chosen_room false h = absurd (cc h)

pub few_threads : (version : Version) (names : List Named) (count : ℕ) → count ≡ count_of Thread names → room_of version Thread names ≡ Ok tt → count < 64
few_threads version names count e room =
    let test : nat_lt (count_of Thread names) (most_of version Thread) ≡ true = chosen_room (nat_lt (count_of Thread names) (most_of version Thread)) room in
    let below : count_of Thread names < most_of version Thread = grind (arith, nat_tests) in
    omega (arith, below, e, most_three version Thread)

pub typed_is : (ttys : List PlannedTty) (tty : ℕ) (d : PlannedTty) → tty < length ttys → typed_at ttys tty ≡ (get_or ttys tty d).typed
typed_is [] tty d within = absurd (omega (arith, within))
typed_is (t ∷ ttys) zero d within = refl
typed_is (t ∷ ttys) (suc tty) d within = typed_is ttys tty d (omega (arith, within))

pub on_ok : {A E P : Type 0} (r : Result A E) → is_ok r ≡ true → OnOk r P → P
on_ok (Ok x) h p = p
on_ok (Err e) h p = absurd (cc h)

-- a plan with equal lists
pub same_plan : (queues qs : List PlannedQueue) (ttys ts : List PlannedTty) (movers ms : List PlannedMover) (gauges gs : List (List ℕ)) (alarms ls : List Alarm) (threads hs : List PlannedThread)
    → queues ≡ qs → ttys ≡ ts → movers ≡ ms → gauges ≡ gs → alarms ≡ ls → threads ≡ hs → plan_with queues ttys movers gauges alarms threads ≡ plan_with qs ts ms gs ls hs
same_plan queues qs ttys ts movers ms gauges gs alarms ls threads hs a b c d e f = rw (a, b, c, d, e, f) refl
