-- No argument of a turn is an array or an object.
use Rattle.trace_events.proofs.Common.{◌≡◌, ℕ, ◌==◌, List, [], ◌∷◌, ◌++◌, Bool, true, false, Option, Some, None, Result, Ok, Err, refl, codes, if◌then◌else◌, BootPlan, Entry, depth, members_depth, turn_json, Named, members_of, woken_args, claim_args, say_args, take_args, hear_args, poke_args, step_args, delivered_args, counted_args, idle_args, did_args, tick_args, fired_args, turn_args, went_args, retired_name, way_name}
use Rattle.boot_log.specs.declared.entry.Did.{Did}
use Rattle.boot_log.specs.declared.entry.Did.TheVariants as did
use Rattle.boot_log.specs.declared.entry.HeardAnswer.{HeardAnswer}
use Rattle.boot_log.specs.declared.entry.HeardAnswer.TheVariants as hears
use Rattle.boot_log.specs.declared.entry.SaidAnswer.{SaidAnswer}
use Rattle.boot_log.specs.declared.entry.SaidAnswer.TheVariants as says
use Rattle.boot_log.specs.declared.entry.Tried.{Tried}
use Rattle.boot_log.specs.declared.entry.Tried.TheVariants.{Say, Hear, Wait, Wake, Signal, Stop, Start, Tick, Poke, Pass, Close}
use Rattle.claim_queue.specs.declared.claim.ClaimRefusal.{ClaimRefusal}
use Rattle.claim_queue.specs.declared.claim.ClaimRefusal.TheVariants as claims
use Rattle.claim_queue.specs.declared.take.TakeRefusal.{TakeRefusal}
use Rattle.claim_queue.specs.declared.take.TakeRefusal.TheVariants as takes
use Rattle.meters.specs.declared.gauges.AdvanceRefusal.{AdvanceRefusal}
use Rattle.proc_chain.specs.declared.chaining.ChainRefusal.{ChainRefusal}
use Rattle.proc_chain.specs.declared.chaining.ChainRefusal.TheVariants as chains
use Rattle.thread_table.specs.declared.states.Lost.{Lost}
use Rattle.turn_dispatch.specs.declared.counting.Counted.{Counted}
use Rattle.turn_dispatch.specs.declared.counting.Counted.TheVariants.{Undone, Done, Spent}
use Rattle.turn_dispatch.specs.declared.dispatch.Idle.{Idle}
use Rattle.turn_dispatch.specs.declared.dispatch.Idle.TheVariants.{NothingReady, Parked, ParkLost}
use Rattle.turn_dispatch.specs.declared.waking.Woken.{Woken}
use Rattle.turn_io.specs.declared.poking.Poked.{Poked}
use Rattle.turn_io.specs.declared.poking.Poked.TheVariants.{Ran, Left}

abbrev pub IsFlat : List Named → Type 0
IsFlat [] = Unit {0}
IsFlat (m ∷ ms) = (depth m.value ≡ 0) × IsFlat ms

flat_append : (ms ns : List Named) → IsFlat ms → IsFlat ns → IsFlat (ms ++ ns)
flat_append [] ns h k = k
flat_append (m ∷ ms) ns h k = (h.0, flat_append ms ns h.1 k)

woken_flat : (plan : BootPlan) (name : List ℕ) (woken : Option Woken) → IsFlat (woken_args plan name woken)
woken_flat plan name None = tt
woken_flat plan name (Some woken) = (refl, tt)

claim_flat : (refusal : ClaimRefusal) → IsFlat (claim_args refusal)
claim_flat claims.NoItems = tt
claim_flat claims.TooLong = tt
claim_flat claims.Closed = tt
claim_flat claims.Spent = tt
claim_flat (claims.Full head tail) = (refl, (refl, tt))
claim_flat (claims.Lost head) = (refl, tt)

say_flat : (plan : BootPlan) (answer : SaidAnswer) → IsFlat (say_args plan answer)
say_flat plan (says.Put woken) = woken_flat plan (codes "woken") woken
say_flat plan says.Over = tt
say_flat plan (says.Refused refusal) = claim_flat refusal

take_flat : (refusal : TakeRefusal) → IsFlat (take_args refusal)
take_flat (takes.Empty place) = (refl, tt)
take_flat (takes.Lost tail) = (refl, tt)
take_flat takes.Closed = tt

hear_flat : (plan : BootPlan) (line : List ℕ) (answer : HeardAnswer) → IsFlat (hear_args plan line answer)
hear_flat plan line (hears.Taken woken) = (refl, woken_flat plan (codes "woken") woken)
hear_flat plan line (hears.Over woken) = woken_flat plan (codes "woken") woken
hear_flat plan line (hears.Refused refusal) = take_flat refusal

poke_flat : (answer : Result Poked ChainRefusal) → IsFlat (poke_args answer)
poke_flat (Ok (Ran notes)) = (refl, tt)
poke_flat (Ok Left) = tt
poke_flat (Err chains.Spent) = tt
poke_flat (Err (chains.Full head tail)) = (refl, (refl, tt))
poke_flat (Err (chains.Lost head)) = (refl, tt)

step_flat : (plan : BootPlan) (line : List ℕ) (tried : Tried) → IsFlat (step_args plan line tried)
step_flat plan line (Say queue answer) = (refl, (refl, say_flat plan answer))
step_flat plan line (Hear queue answer) = (refl, hear_flat plan line answer)
step_flat plan line (Wait wait) = (refl, tt)
step_flat plan line (Wake wait woken) = (refl, (refl, tt))
step_flat plan line (Signal thread signal answer) = (refl, (refl, tt))
step_flat plan line (Stop thread was_clear) = (refl, tt)
step_flat plan line (Start thread answer) = (refl, tt)
step_flat plan line (Tick gauge amount before) = (refl, (refl, (refl, tt)))
step_flat plan line (Poke mover answer) = (refl, poke_flat answer)
step_flat plan line Pass = tt
step_flat plan line (Close queue was_open readers writers) =
    (refl, flat_append (woken_args plan (codes "readers") readers) (woken_args plan (codes "writers") writers) (woken_flat plan (codes "readers") readers) (woken_flat plan (codes "writers") writers))

delivered_flat : (delivered : Result ℕ Lost) → IsFlat (delivered_args delivered)
delivered_flat (Ok signals) = (refl, tt)
delivered_flat (Err lost) = tt

counted_flat : (counted : Counted) → IsFlat (counted_args counted)
counted_flat Undone = tt
counted_flat (Done number) = (refl, tt)
counted_flat Spent = tt

idle_flat : (plan : BootPlan) (idle : Idle) → IsFlat (idle_args plan idle)
idle_flat plan (NothingReady refusal) = tt
idle_flat plan (Parked element) = (refl, tt)
idle_flat plan (ParkLost element lost ready) = (refl, tt)

did_flat : (plan : BootPlan) (line : List ℕ) (it : Did) → IsFlat (did_args plan line it)
did_flat plan line (did.Idle idle) = idle_flat plan idle
did_flat plan line (did.Retired begun freed) = (refl, (refl, flat_append (delivered_args begun.delivered) (went_args (retired_name freed)) (delivered_flat begun.delivered) (refl, tt)))
did_flat plan line (did.Stepped begun tried counted moved part) =
    let step : List Named = delivered_args begun.delivered ++ step_args plan line tried in
    let count : List Named = step ++ counted_args counted in
    let step_is : IsFlat step = flat_append (delivered_args begun.delivered) (step_args plan line tried) (delivered_flat begun.delivered) (step_flat plan line tried) in
    let count_is : IsFlat count = flat_append step (counted_args counted) step_is (counted_flat counted) in
    (refl, (refl, flat_append count (went_args (way_name moved)) count_is (refl, tt)))

tick_flat : (tended : Option (Result ℕ AdvanceRefusal)) → IsFlat (tick_args tended)
tick_flat None = tt
tick_flat (Some (Err refusal)) = tt
tick_flat (Some (Ok tick)) = (refl, tt)

fired_where : (b : Bool) (m : Named) → depth m.value ≡ 0 → IsFlat (if b then [] else m ∷ [])
fired_where true m h = tt
fired_where false m h = (h, tt)

fired_flat : (fired : ℕ) → IsFlat (fired_args fired)
fired_flat fired = fired_where (fired == 0) _ refl

pub turn_flat : (plan : BootPlan) (processor : ℕ) (line : List ℕ) (entry : Entry) → IsFlat (turn_args plan processor line entry)
turn_flat plan processor line entry =
    let ticked : List Named = did_args plan line entry.did ++ tick_args entry.tended in
    let ticked_is : IsFlat ticked = flat_append (did_args plan line entry.did) (tick_args entry.tended) (did_flat plan line entry.did) (tick_flat entry.tended) in
    (refl, flat_append ticked (fired_args entry.fired.len) ticked_is (fired_flat entry.fired.len))

flat_depth : (ms : List Named) → IsFlat ms → members_depth (members_of ms) ≡ 0
flat_depth [] h = refl
flat_depth (m ∷ ms) h = rw (h.0, flat_depth ms h.1) refl

-- a turn with flat arguments is an object with one in it
pub turn_depth : (name : List ℕ) (track from until : ℕ) (args : List Named) → IsFlat args → depth (turn_json name track from until args) ≡ 2
turn_depth name track from until args h = rw (flat_depth args h) refl
