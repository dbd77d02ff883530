-- A join counts one end less; no search and no tour of the slots changes the number of ends; and how many steps a call makes.
use Rattle.meters.proofs.Common.{◌≡◌, ℕ, ◌+◌, ◌≤◌, Bool, true, false, length, length-append, List, [], ◌∷◌, ◌++◌, refl, ap, subst, append-nil, arith, Alarm, AbsState, Step, load, change, slot_word, with_alarm, ExtendsTrace, Some, both, clock_word, ends_word, Reading, scan, SeatView, did_both, of_meters, NotSet}
use Rattle.std.specs.List.{AllByRecursion}
use Rattle.table_theory.proofs.Reaching.{passes_some}
use Rattle.table_theory.specs.Ledgers.{count_down}
use Rattle.meters.specs.Answers.{SetNow, Visit, stays, goes, went, tour, FiredNow, Scanned}
use Rattle.meters.specs.Client.{KeepsEnds, CountsOneLess, with_all_of}
use Rattle.table_theory.specs.Moments.{StepsAtMost}
use Rattle.meters.specs.Endings.{JoinedBy}
use Rattle.meters.specs.Rules.{IsSound}
use Rattle.meters.specs.Steps.{WasCancelled, FoundOther}
use Rattle.meters.specs.declared.alarms.SetRefusal.TheVariants as not_set

-- the number that the step left is what the end sees, and is not 0
pub join_counts : (v u w : SeatView) → IsSound w → JoinedBy v u w → CountsOneLess (with_all_of v u) w
join_counts v u w y t = let j = t.0 in let e : Step Reading = count_down ends_word j.found in let p = passes_some of_meters (both did_both v u) w (e ∷ []) y.0 j.adds in
    let last : e.next.ends ≡ w.seen.ends = ap (λ (z : AbsState Reading). z.ends) p.1.2 in let some = y.2 in record { before = []; step = e; after = []; adds = j.adds; counts = omega arith; others = tt }

-- the step kept the number of ends
abbrev IsKept : Step Reading → Type 0
IsKept e = e.next.ends ≡ e.then.ends

scan_keeps : (slot : ℕ) (taken : Scanned) (rest : List (Step Reading)) → AllByRecursion IsKept rest → AllByRecursion IsKept (scan slot taken ++ rest)
scan_keeps slot [] rest h = h
scan_keeps slot (x ∷ xs) rest h = (refl, scan_keeps (slot + 1) xs rest h)

pub set_keeps : (v w : SeatView) (slot : ℕ) (alarm : Alarm) → SetNow v slot alarm w → KeepsEnds v w
set_keeps v w slot alarm (taken, m, n, as_many, below, full, a) = record { steps = _; adds = a; kept = scan_keeps 0 taken _ (refl, (refl, tt)) }

pub lost_keeps : (v w : SeatView) (slot : ℕ) → NotSet v (not_set.Lost slot) w → KeepsEnds v w
lost_keeps v w slot (taken, other, m, n, as_many, below, full, some, a) = record { steps = _; adds = a; kept = scan_keeps 0 taken _ (refl, (refl, tt)) }

pub full_keeps : (v w : SeatView) → NotSet v not_set.NoRoom w → KeepsEnds v w
full_keeps v w (taken, as_many, full, a) = record { steps = scan 0 taken; adds = a; kept = subst (AllByRecursion IsKept) (append-nil (scan 0 taken)) (scan_keeps 0 taken [] tt) }

tour_keeps : (slot : ℕ) (visits : List Visit) → AllByRecursion IsKept (tour slot visits)
tour_keeps slot [] = tt
tour_keeps slot (stays found m ∷ visits) = (refl, tour_keeps (slot + 1) visits)
tour_keeps slot (goes alarm m n ∷ visits) = (refl, (refl, tour_keeps (slot + 1) visits))
tour_keeps slot (went found m other n ∷ visits) = (refl, (refl, tour_keeps (slot + 1) visits))

pub fire_keeps : (v w : SeatView) (alarms : List Alarm) → FiredNow v alarms w → KeepsEnds v w
fire_keeps v w alarms (clock, m, visits, many, fit, is, a) = record { steps = load clock_word clock m ∷ tour 0 visits; adds = a; kept = (refl, tour_keeps 0 visits) }

-- so many entries were added
pub steps_by : (n : ℕ) (v w : SeatView) (es : List (Step Reading)) → ExtendsTrace v es w → length es ≤ n → StepsAtMost n v w
steps_by n v w es a few = let all = ap length a.entries_are in let long = length-append v.steps es in omega arith

pub cancel_steps : (v w : SeatView) (slot : ℕ) (alarm : Alarm) (done : Bool) → (done ≡ true → WasCancelled v slot alarm w) → (done ≡ false → FoundOther v slot (Some alarm) w) → StepsAtMost 1 v w
cancel_steps v w slot alarm true hit miss = steps_by 1 v w _ (hit refl).1.adds (omega arith)
cancel_steps v w slot alarm false hit miss = steps_by 1 v w _ (miss refl).1.made.adds (omega arith)

scan_long : (slot : ℕ) (taken : Scanned) (rest : List (Step Reading)) → length (scan slot taken ++ rest) ≡ length taken + length rest
scan_long slot [] rest = omega arith
scan_long slot (x ∷ xs) rest = let h = scan_long (slot + 1) xs rest in omega arith

pub set_steps : (v w : SeatView) (slot : ℕ) (alarm : Alarm) → SetNow v slot alarm w → StepsAtMost 17 v w
set_steps v w slot alarm (taken, m, n, as_many, below, full, a) = let last : List (Step Reading) = load (slot_word slot) 0 m ∷ change (slot_word slot) 0 n (with_alarm n.object slot alarm) ∷ [] in
    let long = scan_long 0 taken last in steps_by 17 v w (scan 0 taken ++ last) a (omega arith)

pub lost_steps : (v w : SeatView) (slot : ℕ) → NotSet v (not_set.Lost slot) w → StepsAtMost 17 v w
lost_steps v w slot (taken, other, m, n, as_many, below, full, some, a) = let last : List (Step Reading) = load (slot_word slot) 0 m ∷ load (slot_word slot) other n ∷ [] in
    let long = scan_long 0 taken last in steps_by 17 v w (scan 0 taken ++ last) a (omega arith)

pub full_steps : (v w : SeatView) → NotSet v not_set.NoRoom w → StepsAtMost 17 v w
full_steps v w (taken, as_many, full, a) = steps_by 17 v w (scan 0 taken) a (let long = scan_long 0 taken [] in let same : length (scan 0 taken ++ []) ≡ length (scan 0 taken) = ap length (append-nil (scan 0 taken)) in omega arith)

tour_long : (slot : ℕ) (visits : List Visit) → length (tour slot visits) ≤ length visits + length visits
tour_long slot [] = omega arith
tour_long slot (stays found m ∷ visits) = let h = tour_long (slot + 1) visits in omega arith
tour_long slot (goes alarm m n ∷ visits) = let h = tour_long (slot + 1) visits in omega arith
tour_long slot (went found m other n ∷ visits) = let h = tour_long (slot + 1) visits in omega arith

pub fire_steps : (v w : SeatView) (alarms : List Alarm) → FiredNow v alarms w → StepsAtMost 33 v w
fire_steps v w alarms (clock, m, visits, many, fit, is, a) = steps_by 33 v w (load clock_word clock m ∷ tour 0 visits) a (let long = tour_long 0 visits in omega arith)
