-- The events that change a thread's bits and steps, or count a notify, keep the elements lawful.
use Rattle.std.proofs.Common.{◌≡◌, ℕ, ◌+◌, Bool, true, false, ◌||◌, not, cond, List, [], ◌∷◌, ◌++◌, ◌∙◌, set, refl, sym, ap, subst, arith, append-nil, ◌%◌, Some, slice_get, ◌==◌, eqb, Result, Ok}
use Rattle.std.proofs.lemmas.List.{length-set}
use Rattle.std.proofs.lemmas.Option.{slice_get_within}
use Rattle.std.proofs.lemmas.Bool.{or_right, not-false}
use Rattle.std.proofs.lemmas.Bool.Decides.{nat_tests}
use Rattle.std.specs.List.{list_any}
use Rattle.event_theory.specs.Chains.{with_number}
use Rattle.event_theory.specs.Elements.{Elements, Thread, hold, let_go, change_thread, stop, park, start, signal, holds, deliver, is_put, done}
use Rattle.event_theory.specs.Lawful.{IsLawfulElements}
use Rattle.event_theory.specs.Results.{refused_if, at, change_at}
use Rattle.event_theory.specs.Appearances.{appearances, in_cell}
use Rattle.event_theory.specs.Marks.{notify_wait}
use Rattle.event_theory.specs.declared.hold.Hold.{Hold}
use Rattle.event_theory.specs.declared.refusal.Refusal.{Refusal}
use Rattle.event_theory.specs.declared.refusal.Refusal.TheVariants.{UnknownName, Full, NotHeld, NotStopped}
use Rattle.event_theory.proofs.Lists.Inversions.{then_ok, test_ok, given_ok, some_ok, change_ok}
use Rattle.event_theory.proofs.Keeping.Places.{one, in_hands, let_go_count, in_hands_joined, cell_changed, passes_at, passes_set}
use Rattle.event_theory.proofs.Keeping.Elements.{moved_lawful}

-- a thread in its stop cell has its stop bit set
abbrev stops : Thread → Bool
stops thread = not thread.parked || thread.stop

-- one thread changed, and what is held with it
pub thread_lawful : (element : ℕ) (s : Elements) (old new : Thread) (held : List Hold) → IsLawfulElements s → slice_get s.threads element ≡ Some old
    → stops new ≡ true
    → ((e : ℕ) → cond (eqb element e) (in_cell (Some new)) 0 + in_hands e held ≡ cond (eqb element e) (in_cell (Some old)) 0 + in_hands e s.held)
    → IsLawfulElements (record s { threads = set s.threads element new; held = held })
thread_lawful element s old new held lawful at stopped same =
    moved_lawful s (record s { threads = set s.threads element new; held = held }) lawful lawful.rings (length-set s.threads element new)
    (passes_set stops s.threads element new stopped lawful.stopped)
    (λ e. omega (arith, same e, cell_changed s.threads element old new e at))

-- the stop bit of the thread of a lawful element
stopped_at : (element : ℕ) (s : Elements) (thread : Thread) → IsLawfulElements s → slice_get s.threads element ≡ Some thread → stops thread ≡ true
stopped_at element s thread lawful at = passes_at stops s.threads element thread at lawful.stopped

-- a change of a thread that leaves it in its stop cell or out of it
bits_lawful : (element : ℕ) (change : Thread → Result Thread Refusal) (s t : Elements) → IsLawfulElements s
    → ((old new : Thread) → stops old ≡ true → change old ≡ Ok new → (new.parked ≡ old.parked) × (stops new ≡ true))
    → change_thread element change s ≡ Ok t → IsLawfulElements t
bits_lawful element change s t lawful stays ok =
    let a = then_ok (change_at element change s.threads) _ t ok in
    let d = change_ok element change s.threads a.0 a.1 in
    let h = stays d.0 d.1 (stopped_at element s d.0 lawful d.2) d.3 in
    let is : record s { threads = set s.threads element d.1 } ≡ t = ap (λ threads. record s { threads = threads }) (sym d.4) ∙ given_ok _ t a.2 in
    subst IsLawfulElements is (thread_lawful element s d.0 d.1 s.held lawful d.2 h.1
    (λ e. ap (λ parked. cond (eqb element e) (cond parked 1 0) 0 + in_hands e s.held) h.0))

pub stop_law : (element : ℕ) (s t : Elements) → IsLawfulElements s → stop element s ≡ Ok t → IsLawfulElements t
stop_law element s t lawful ok =
    bits_lawful element (λ thread. Ok (record thread { stop = true })) s t lawful
    (λ old new before is. let e : record old { stop = true } ≡ new = given_ok _ new is in
    (ap (λ (x : Thread). x.parked) (sym e), ap stops (sym e) ∙ or_right (not old.parked) true refl)) ok

pub signal_law : (element number : ℕ) (s t : Elements) → IsLawfulElements s → signal element number s ≡ Ok t → IsLawfulElements t
signal_law element number s t lawful ok =
    bits_lawful element (λ thread. Ok (record thread { pending = with_number true number thread.pending })) s t lawful
    (λ old new before is. let e : record old { pending = with_number true number old.pending } ≡ new = given_ok _ new is in
    (ap (λ (x : Thread). x.parked) (sym e), ap stops (sym e) ∙ before)) ok

pub deliver_law : (call element : ℕ) (s t : Elements) → IsLawfulElements s → deliver call element s ≡ Ok t → IsLawfulElements t
deliver_law call element s t lawful ok =
    bits_lawful element (λ thread. refused_if (not (holds call element s)) NotHeld (Ok (record thread { pending = λ signal. false }))) s t lawful
    (λ old new before is.
    let a = test_ok (not (holds call element s)) NotHeld _ new is in
    let e : record old { pending = λ signal. false } ≡ new = given_ok _ new a.1 in
    (ap (λ (x : Thread). x.parked) (sym e), ap stops (sym e) ∙ before)) ok

pub done_law : (call element : ℕ) (s t : Elements) → IsLawfulElements s → done call element s ≡ Ok t → IsLawfulElements t
done_law call element s t lawful ok =
    bits_lawful element (λ thread.
    refused_if (thread.done == 4294967295) Full
    (refused_if (not (holds call element s || list_any (is_put call element) s.processors)) NotHeld
    (Ok (record thread { done = thread.done + 1 })))) s t lawful
    (λ old new before is.
    let a = test_ok (eqb old.done 4294967295) Full _ new is in
    let b = test_ok (not (holds call element s || list_any (is_put call element) s.processors)) NotHeld _ new a.1 in
    let e : record old { done = old.done + 1 } ≡ new = given_ok _ new b.1 in
    (ap (λ (x : Thread). x.parked) (sym e), ap stops (sym e) ∙ before)) ok

-- an element that its call held isn't in its stop cell
out_of_cell : (call element : ℕ) (s : Elements) (thread : Thread) (rest : List Hold) → IsLawfulElements s → slice_get s.threads element ≡ Some thread
    → let_go call element s.held ≡ Ok rest → in_cell (Some thread) ≡ 0
out_of_cell call element s thread rest lawful there ok =
    let once : appearances element s ≡ 1 = lawful.once element (slice_get_within s.threads element thread there) in
    let itself : one element element ≡ 1 = grind (arith, nat_tests) in
    omega (arith, once, itself, let_go_count call element s.held rest ok element, ap in_cell there)

cond_same : (b : Bool) (n : ℕ) → cond b n n ≡ n
cond_same true n = refl
cond_same false n = refl

pub park_law : (call element : ℕ) (s t : Elements) → IsLawfulElements s → park call element s ≡ Ok t → IsLawfulElements t
park_law call element s t lawful ok =
    let a = then_ok (at element s.threads) _ t ok in
    let b = then_ok (let_go call element s.held) _ t a.2 in
    let c = test_ok (not a.0.stop) NotStopped _ t b.2 in
    let there : slice_get s.threads element ≡ Some a.0 = some_ok (slice_get s.threads element) UnknownName a.0 a.1 in
    let out : in_cell (Some a.0) ≡ 0 = out_of_cell call element s a.0 b.0 lawful there b.1 in
    subst IsLawfulElements (given_ok _ t c.1)
    (thread_lawful element s a.0 (record a.0 { parked = true }) b.0 lawful there (not-false a.0.stop c.0)
    (λ e. rw (out, cond_same (eqb element e) 0) (omega (arith, let_go_count call element s.held b.0 b.1 e))))

started : (call element e : ℕ) (s : Elements) (parked : Bool)
    → cond (eqb element e) 0 0 + in_hands e (s.held ++ cond parked (hold call element ∷ []) []) ≡ cond (eqb element e) (cond parked 1 0) 0 + in_hands e s.held
started call element e s true = rw (cond_same (eqb element e) 0) (omega (arith, in_hands_joined e s.held (hold call element ∷ [])))
started call element e s false = rw (append-nil s.held) refl

pub start_law : (call element : ℕ) (s t : Elements) → IsLawfulElements s → start call element s ≡ Ok t → IsLawfulElements t
start_law call element s t lawful ok =
    let a = then_ok (at element s.threads) _ t ok in
    let c = test_ok (not a.0.stop) NotStopped _ t a.2 in
    let there : slice_get s.threads element ≡ Some a.0 = some_ok (slice_get s.threads element) UnknownName a.0 a.1 in
    subst IsLawfulElements (given_ok _ t c.1)
    (thread_lawful element s a.0 (record a.0 { stop = false; parked = false }) (s.held ++ cond a.0.parked (hold call element ∷ []) []) lawful there refl
    (λ e. started call element e s a.0.parked))

pub notify_wait_law : (wait : ℕ) (s t : Elements) → IsLawfulElements s → notify_wait wait s ≡ Ok t → IsLawfulElements t
notify_wait_law wait s t lawful ok =
    let a = then_ok (change_at wait (λ count. Ok ((count + 1) % 4294967296)) s.notified) _ t ok in
    subst IsLawfulElements (given_ok (record s { notified = a.0 }) t a.2)
    (moved_lawful s (record s { notified = a.0 }) lawful lawful.rings refl lawful.stopped (λ element. refl))
