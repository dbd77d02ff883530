-- The outcome of each event of the thread elements, if it is allowed and if it is refused.
use Rattle.std.proofs.Common.{◌≡◌, ℕ, ◌+◌, ◌<◌, Bool, true, false, ◌||◌, not, cond, List, [], ◌∷◌, ◌++◌, remove, position, set, refl, arith, Option, Some, None, slice_get, eqb, Result, Ok, Err}
use Rattle.std.proofs.lemmas.Bool.Decides.{nat_tests}
use Rattle.std.specs.List.{list_any}
use Rattle.event_theory.specs.Elements.{Thread, Elements, hold, is_hold, is_put, is_busy, holds, put_on, park, start, deliver, done, change_thread}
use Rattle.event_theory.specs.Results.{refused_if}
use Rattle.event_theory.specs.declared.hold.Hold.{Hold}
use Rattle.event_theory.specs.declared.refusal.Refusal.{Refusal}
use Rattle.event_theory.specs.declared.refusal.Refusal.TheVariants.{Full, NotHeld, ProcessorBusy, NotStopped}

-- an element that is there is changed
pub changed : (e : ℕ) (change : Thread → Result Thread Refusal) (s : Elements) (old new : Thread) → slice_get s.threads e ≡ Some old → change old ≡ Ok new
    → change_thread e change s ≡ Ok (record s { threads = set s.threads e new })
changed e change s old new found is = rw (found, is) refl

pub not_changed : (e : ℕ) (change : Thread → Result Thread Refusal) (s : Elements) (old : Thread) (refusal : Refusal) → slice_get s.threads e ≡ Some old → change old ≡ Err refusal
    → change_thread e change s ≡ Err refusal
not_changed e change s old refusal found is = rw (found, is) refl

pub parked_ok : (call e index : ℕ) (s : Elements) (old : Thread) → slice_get s.threads e ≡ Some old → position (is_hold call e) s.held ≡ Some index → old.stop ≡ true
    → park call e s ≡ Ok (record s { threads = set s.threads e (record old { parked = true }); held = remove s.held index })
parked_ok call e index s old found held stopped = rw (found, held, stopped) refl

-- an element is not parked by a call that does not hold it, and not parked or started while its stop bit is clear
pub park_not_held : (call e : ℕ) (s : Elements) (old : Thread) → slice_get s.threads e ≡ Some old → position (is_hold call e) s.held ≡ None → park call e s ≡ Err NotHeld
park_not_held call e s old found none = rw (found, none) refl

pub park_not_stopped : (call e index : ℕ) (s : Elements) (old : Thread) → slice_get s.threads e ≡ Some old → position (is_hold call e) s.held ≡ Some index → old.stop ≡ false → park call e s ≡ Err NotStopped
park_not_stopped call e index s old found held running = rw (found, held, running) refl

pub start_not_stopped : (call e : ℕ) (s : Elements) (old : Thread) → slice_get s.threads e ≡ Some old → old.stop ≡ false → start call e s ≡ Err NotStopped
start_not_stopped call e s old found running = rw (found, running) refl

-- an element is put on a processor by a call that holds it, if no element is on the processor
pub put_not_held : (call processor e : ℕ) (s : Elements) (old : Thread) (seat : Option Hold) → slice_get s.threads e ≡ Some old → slice_get s.processors processor ≡ Some seat
    → position (is_hold call e) s.held ≡ None → put_on call processor e s ≡ Err NotHeld
put_not_held call processor e s old seat found there none = rw (found, there, none) refl

pub put_held : (call processor e index : ℕ) (s : Elements) (old : Thread) (seat : Option Hold) (busy : Bool) → slice_get s.threads e ≡ Some old → slice_get s.processors processor ≡ Some seat
    → position (is_hold call e) s.held ≡ Some index → is_busy seat ≡ busy
    → put_on call processor e s ≡ refused_if busy ProcessorBusy (Ok (record s { processors = set s.processors processor (Some (hold call e)); held = remove s.held index }))
put_held call processor e index s old seat busy found there held is = rw (found, there, held, is) refl

pub started_ok : (call e : ℕ) (s : Elements) (old : Thread) → slice_get s.threads e ≡ Some old → old.stop ≡ true
    → start call e s ≡ Ok (record s { threads = set s.threads e (record old { stop = false; parked = false }); held = s.held ++ cond old.parked (hold call e ∷ []) [] })
started_ok call e s old found stopped = rw (found, stopped) refl

pub delivered_ok : (call e : ℕ) (s : Elements) (old : Thread) → slice_get s.threads e ≡ Some old → holds call e s ≡ true
    → deliver call e s ≡ Ok (record s { threads = set s.threads e (record old { pending = λ signal. false }) })
delivered_ok call e s old found held = changed e _ s old _ found (rw held refl)

pub deliver_not_held : (call e : ℕ) (s : Elements) (old : Thread) → slice_get s.threads e ≡ Some old → holds call e s ≡ false → deliver call e s ≡ Err NotHeld
deliver_not_held call e s old found none = not_changed e _ s old NotHeld found (rw none refl)

pub may_not_step : (call e : ℕ) (s : Elements) (old : Thread) (full can : Bool) → eqb old.done 4294967295 ≡ full → (holds call e s || list_any (is_put call e) s.processors) ≡ can
    → refused_if (eqb old.done 4294967295) Full (refused_if (not (holds call e s || list_any (is_put call e) s.processors)) NotHeld (Ok (record old { done = old.done + 1 })))
    ≡ refused_if full Full (refused_if (not can) NotHeld (Ok (record old { done = old.done + 1 })))
may_not_step call e s old full can is_full is_can = rw (is_full, is_can) refl

pub done_ok : (call e : ℕ) (s : Elements) (old : Thread) → slice_get s.threads e ≡ Some old → old.done < 4294967295 → (holds call e s || list_any (is_put call e) s.processors) ≡ true
    → done call e s ≡ Ok (record s { threads = set s.threads e (record old { done = old.done + 1 }) })
done_ok call e s old found room can =
    let few : eqb old.done 4294967295 ≡ false = grind (arith, nat_tests) in
    changed e _ s old _ found (may_not_step call e s old false true few can)

pub done_not_held : (call e : ℕ) (s : Elements) (old : Thread) → slice_get s.threads e ≡ Some old → old.done < 4294967295 → (holds call e s || list_any (is_put call e) s.processors) ≡ false
    → done call e s ≡ Err NotHeld
done_not_held call e s old found room can =
    let few : eqb old.done 4294967295 ≡ false = grind (arith, nat_tests) in
    not_changed e _ s old NotHeld found (may_not_step call e s old false false few can)
