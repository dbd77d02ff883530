-- Plans of which there is more of a kind, and what was there still is.
use Rattle.boot_script.proofs.Common.{◌≡◌, ℕ, ◌<◌, ◌≤◌, ◌+◌, List, [], ◌∷◌, ◌++◌, refl, arith, length, length-append, true, cond, Ok, nat_tests, nat_lt, AllByRecursion, Alarm, Kind, Named, Mover, Pump, Switch, PlannedMover, PlannedThread, QueueIndex, Small, Large, Step, Version, Three, same_kind, count_of, most_of, room_of, with_name, Plan, many_of, IsQueueOf, IsSaidTo, IsStepOf, IsWayOf, IsMoverOf, IsAlarmOf, IsProgramOf}
use Rattle.boot_data.specs.declared.kind.Kind.TheVariants as kind
use Rattle.boot_data.specs.declared.plan.Step.TheVariants as step
use Rattle.boot_script.proofs.Basics.Bools.{room_ok}
use Rattle.boot_script.proofs.Drafts.NamesSoFar.{count_push, most_three}

-- there are no fewer of any kind
abbrev pub Grows : (Kind → ℕ) → (Kind → ℕ) → Type 0
Grows many more = (kind : Kind) → many kind ≤ more kind

all_more : {A : Type 0} (P Q : A → Type 0) → ((x : A) → P x → Q x) → (xs : List A) → AllByRecursion P xs → AllByRecursion Q xs
all_more P Q more [] h = tt
all_more P Q more (x ∷ xs) h = (more x h.0, all_more P Q more xs h.1)

pub below_more : (many more : Kind → ℕ) (kind : Kind) (n : ℕ) → Grows many more → n < many kind → n < more kind
below_more many more kind n grows h = omega (arith, grows kind, h)

queue_more : (many more : Kind → ℕ) (queue : QueueIndex) → Grows many more → IsQueueOf many queue → IsQueueOf more queue
queue_more many more (Small queue) grows h = omega (arith, grows kind.Queue, h)
queue_more many more (Large queue) grows h = omega (arith, grows kind.Tty, h)

said_more : (many more : Kind → ℕ) (queue : QueueIndex) → Grows many more → IsSaidTo many queue → IsSaidTo more queue
said_more many more (Small queue) grows h = omega (arith, grows kind.Queue, h)
said_more many more (Large queue) grows h = (omega (arith, grows kind.Tty, h.0), h.1)

pub step_more : (many more : Kind → ℕ) → Grows many more → (one : Step) → IsStepOf many one → IsStepOf more one
step_more many more grows (step.Say queue text) h = said_more many more queue grows h
step_more many more grows (step.Hear queue) h = queue_more many more queue grows h
step_more many more grows (step.Wait wait) h = tt
step_more many more grows (step.Wake wait) h = tt
step_more many more grows (step.Signal thread signal) h = below_more many more kind.Thread thread grows h
step_more many more grows (step.Stop thread) h = below_more many more kind.Thread thread grows h
step_more many more grows (step.Start thread) h = below_more many more kind.Thread thread grows h
step_more many more grows (step.Tick gauge amount) h = below_more many more kind.Gauge gauge grows h
step_more many more grows (step.Poke mover) h = below_more many more kind.Mover mover grows h
step_more many more grows step.Pass h = tt
step_more many more grows (step.Close queue) h = below_more many more kind.Queue queue grows h

pub mover_more : (many more : Kind → ℕ) → Grows many more → (mover : Mover) → IsMoverOf many mover → IsMoverOf more mover
mover_more many more grows (Pump from to) h = (below_more many more kind.Queue from grows h.0, below_more many more kind.Queue to grows h.1)
mover_more many more grows (Switch from other ways) h = (
  below_more many more kind.Queue from grows h.0,
  below_more many more kind.Queue other grows h.1,
  all_more (IsWayOf many) (IsWayOf more) (λ way k. below_more many more kind.Queue way.to grows k) ways h.2,
  h.3,
  h.4,
)

pub moved_more : (many more : Kind → ℕ) → Grows many more → (movers : List PlannedMover) → AllByRecursion (λ planned. IsMoverOf many planned.mover) movers → AllByRecursion (λ planned. IsMoverOf more planned.mover) movers
moved_more many more grows movers h = all_more (λ planned. IsMoverOf many planned.mover) (λ planned. IsMoverOf more planned.mover) (λ planned k. mover_more many more grows planned.mover k) movers h

pub signalled_more : (many more : Kind → ℕ) → Grows many more → (alarms : List Alarm) → AllByRecursion (IsAlarmOf many) alarms → AllByRecursion (IsAlarmOf more) alarms
signalled_more many more grows alarms h = all_more (IsAlarmOf many) (IsAlarmOf more) (λ alarm k. below_more many more kind.Thread alarm.element grows k) alarms h

pub programs_more : (many more : Kind → ℕ) → Grows many more → (threads : List PlannedThread) → AllByRecursion (IsProgramOf many) threads → AllByRecursion (IsProgramOf more) threads
programs_more many more grows threads h =
    all_more (IsProgramOf many) (IsProgramOf more) (λ thread k. (k.0, all_more (IsStepOf many) (IsStepOf more) (step_more many more grows) thread.steps k.1)) threads h

-- one more of a kind
abbrev pub GrowsBy : Kind → Plan → Plan → Type 0
GrowsBy one plan next = (k : Kind) → many_of next k ≡ many_of plan k + cond (same_kind one k) 1 0

pub by_one : (one : Kind) (plan next : Plan) → GrowsBy one plan next → Grows (many_of plan) (many_of next)
by_one one plan next grows k = omega (arith, grows k)

own_kind : (k : Kind) → ◌≡◌ {A = ℕ} (cond (same_kind k k) 1 0) 1
own_kind kind.Queue = refl
own_kind kind.Tty = refl
own_kind kind.Mover = refl
own_kind kind.Gauge = refl
own_kind kind.Thread = refl

pub counted_one : (one : Kind) (name : List ℕ) (names : List Named) (plan next : Plan) → GrowsBy one plan next → ((k : Kind) → count_of k names ≡ many_of plan k) → (k : Kind) → count_of k (with_name one name names) ≡ many_of next k
counted_one one name names plan next grows counted k =
    let n : Named = record { name = name; kind = one; number = count_of one names } in
    omega (arith, count_push k names n, grows k, counted k)

-- where there is room, there are less than there may be
pub has_room : (version : Version) (one : Kind) (names : List Named) (plan : Plan) (u : Unit {0}) → count_of one names ≡ many_of plan one → room_of version one names ≡ Ok u → many_of plan one + 1 ≤ most_of Three one
has_room version one names plan u counted h =
    let test : nat_lt (count_of one names) (most_of version one) ≡ true = room_ok (nat_lt (count_of one names) (most_of version one)) _ u h in
    let less : count_of one names < most_of version one = grind (arith, nat_tests) in
    omega (arith, less, most_three version one, counted)

pub length_push : {A : Type 0} (xs : List A) (x : A) → length (xs ++ x ∷ []) ≡ length xs + 1
length_push xs x = length-append xs (x ∷ [])
