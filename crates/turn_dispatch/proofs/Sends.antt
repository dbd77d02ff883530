-- Moves, retried when lost.
use Rattle.turn_dispatch.proofs.Common.{inl, ∥∥₁_elim, ℕ_set, ◌==◌, View, MoveAnswer, WaitAnswer, steps_in, made_in, done_at, has, thread_at, IsValidHandView, counted_done, elements_of, LostTries, Sent, HoldsUnless, LostWaits, retired, Tally, tally, no_events, ◌≡◌, ◌≢◌, ℕ, zero, suc, ◌+◌, ◌<◌, Bool, true, false, List, [], ◌∷◌, get_or, Ok, Err, refl, sym, ap, ◌∙◌, subst, arith, if◌then◌else◌, Event, MovedBy, with_move, raise_event, head_in, claim_event, state_after, IsAllowed, LastTry, LastWait, WaitedAt, has_gone, one_retired}
use Rattle.event_theory.specs.Elements.{Elements}
use Rattle.event_theory.specs.States.{State}
use Rattle.event_theory.specs.declared.event.Event.TheVariants as events
use Rattle.thread_table.specs.declared.moves.MoveRefusal.TheVariants as moves
use Rattle.thread_table.proofs.Schedule.Orders.{adds_real}
use Rattle.turn_dispatch.specs.declared.moving.Waited.{Waited}
use Rattle.turn_dispatch.specs.declared.moving.Waited.TheVariants as waited
use Rattle.turn_dispatch.proofs.Calm.{Goes, OnlyLoads, goes_after, left, looks_none, looks_on, acts_goes, steps_more, done_is}
use Rattle.turn_dispatch.proofs.OnlyLoads.{move_looks, wait_looks}
use Rattle.turn_dispatch.proofs.Tallies.{reported_steps}

-- a move
moved_goes : (call ring element : ℕ) (event : Event) (word : ℕ) (more : Tally) (v w : View) → (m : MovedBy call v ring element event word w)
    → tally (made_in event (state_after m.2.object) ∷ record { event = raise_event call v ring (head_in word); number = 0; signals = [] } ∷ []) ≡ more → Goes more v w
moved_goes call ring element event word more v w m is =
    acts_goes more v w (with_move v element event m.2 (raise_event call v ring (head_in word))) _ _ record { first = refl; serves = refl; on = refl; share = refl } refl is m.7

-- a move to another queue than that of the free elements retires nobody
none_freed : (call ring element position : ℕ) (v : View) (s : State) → ring ≢ 1 → tally (made_in (claim_event call ring element) s ∷ record { event = raise_event call v ring position; number = 0; signals = [] } ∷ []) ≡ no_events
none_freed call zero element position v s other = refl
none_freed call (suc zero) element position v s other = absurd (other refl)
none_freed call (suc (suc wait)) element position v s other = refl

last_goes : (call ring element : ℕ) (moved : Bool) (v w : View) → ring ≢ 1 → LastTry call v ring element moved w → Goes no_events v w
last_goes call ring element true v w other m = moved_goes call ring element (claim_event call ring element) m.0 no_events v w m.1 (none_freed call ring element (head_in m.0) v (state_after m.1.2.object) other)
last_goes call ring element false v w other m = (move_looks call ring element v w moves.Spent m).0

tries_look : (call ring element n : ℕ) (v w : View) → v.own.fresh ≡ true → LostTries call ring element v w n → OnlyLoads v w
tries_look call ring element zero v w up same = subst (OnlyLoads v) (sym same) (looks_none v up)
tries_look call ring element (suc n) v w up tries = looks_on v tries.0 w (tries_look call ring element n v tries.0 up tries.1) (move_looks call ring element tries.0 w (moves.Lost tries.2) tries.3)

pub sent_goes : (call ring element : ℕ) (moved : Bool) (v w : View) → ring ≢ 1 → v.own.fresh ≡ true → Sent call ring element moved v w → Goes no_events v w
sent_goes call ring element moved v w other up s = let t = tries_look call ring element s.lost v s.before up s.tries in
    goes_after no_events v s.before w t.0 (last_goes call ring element moved s.before w other s.last) (left v s.before w t.1)

-- the events after which an element was moved were allowed
claim_allowed : (call ring element : ℕ) (event : Event) (word : ℕ) (v w : View) → IsValidHandView w → (m : MovedBy call v ring element event word w) → IsAllowed m.2.object
claim_allowed call ring element event word v w h m = let all = adds_real v w _ h m.7.adds in all.1.0.lawful

-- a retired element had done as many steps as the hand had seen
retired_number : (call element : ℕ) (v w : View) → ∥ IsValidHandView w ∥₁ → (m : MoveAnswer call v 1 element (Ok tt) w) → (thread_at (state_after m.1.2.object).elements element).done ≡ steps_in element v.seen.object
retired_number call element v w reported m = ∥∥₁_elim reported (ℕ_set _ _) (λ (h : IsValidHandView w).
    ap (λ (z : Elements). (thread_at z element).done) (sym (elements_of m.1.2.object))
    ∙ (counted_done m.1.2.object (claim_allowed call 1 element (claim_event call 1 element) m.0 v w h m.1) element ∙ m.1.5))

retired_last : (call element : ℕ) (moved : Bool) (v w : View) → ∥ IsValidHandView w ∥₁ → LastTry call v 1 element moved w → Goes (retired moved element (steps_in element v.seen.object)) v w
retired_last call element true v w reported m = moved_goes call 1 element (claim_event call 1 element) m.0 (one_retired element (steps_in element v.seen.object)) v w m.1 (ap (one_retired element) (retired_number call element v w reported m))
retired_last call element false v w reported m = (move_looks call 1 element v w moves.Spent m).0

-- a retirement counts no step
pub retires_none : (moved : Bool) (element number e : ℕ) → reported_steps e (retired moved element number) ≡ 0
retires_none true element number e = refl
retires_none false element number e = refl

pub retired_goes : (call element : ℕ) (moved : Bool) (v w : View) → element < 64 → v.own.fresh ≡ true → has v element ≡ true → ∥ IsValidHandView v ∥₁ → ∥ IsValidHandView w ∥₁ → Sent call 1 element moved v w
    → Goes (retired moved element (done_at v.seen.object element)) v w
retired_goes call element moved v w low up held before following s =
    let u : View = s.before in
    let t = tries_look call 1 element s.lost v u up s.tries in
    let mine : has u element ≡ true = ap (λ xs. get_or xs element false) t.1 ∙ held in
    let m = steps_more no_events v u element up t.0.adds t.0.calm.calm low (inl held) (inl mine) in
    let d = done_is v element before in
    let same : steps_in element u.seen.object ≡ done_at v.seen.object element = omega arith in
    goes_after (retired moved element (done_at v.seen.object element)) v u w t.0
    (subst (λ (z : Tally). Goes z u w) (ap (retired moved element) same) (retired_last call element moved u w following s.last))
    (left v u w t.1)

last_holds : (call ring element : ℕ) (moved : Bool) (v w : View) → LastTry call v ring element moved w → HoldsUnless moved element v w
last_holds call ring element true v w m = m.1.6
last_holds call ring element false v w m = λ e. ap (λ xs. get_or xs e false) (move_looks call ring element v w moves.Spent m).1

holds_from : (element : ℕ) (moved : Bool) (u v w : View) → v.own.held ≡ u.own.held → HoldsUnless moved element v w → HoldsUnless moved element u w
holds_from element true u v w same h = λ e. h e ∙ ap (λ (xs : List Bool). if e == element then false else get_or xs e false) same
holds_from element false u v w same h = λ e. h e ∙ ap (λ (xs : List Bool). get_or xs e false) same

pub sent_holds : (call ring element : ℕ) (moved : Bool) (v w : View) → v.own.fresh ≡ true → Sent call ring element moved v w → HoldsUnless moved element v w
sent_holds call ring element moved v w up s = holds_from element moved v s.before w (tries_look call ring element s.lost v s.before up s.tries).1 (last_holds call ring element moved s.before w s.last)

-- one more try was lost
pub lost_again : (call call' ring element : ℕ) (v u w : View) (seen : ℕ) → call' ≡ call → has u element ≡ true → (n : ℕ) × LostTries call ring element v u n
    → MoveAnswer call' u ring element (Err (moves.Lost seen)) w → (has w element ≡ true) × ((n : ℕ) × LostTries call ring element v w n)
lost_again call call' ring element v u w seen same h tries m = (
  ap (λ xs. get_or xs element false) (move_looks call' ring element u w (moves.Lost seen) m).1 ∙ h,
  (suc tries.0, (u, tries.1, seen, subst (λ (c : ℕ). MoveAnswer c u ring element (Err (moves.Lost seen)) w) same m)),
)

-- waits with a ticket
waits_look : (call wait element ticket n : ℕ) (v w : View) → v.own.fresh ≡ true → LostWaits call wait element ticket v w n → OnlyLoads v w
waits_look call wait element ticket zero v w up same = subst (OnlyLoads v) (sym same) (looks_none v up)
waits_look call wait element ticket (suc n) v w up tries =
    looks_on v tries.0 w (waits_look call wait element ticket n v tries.0 up tries.1) (wait_looks call wait element ticket tries.0 w (moves.Lost tries.2) tries.3)

last_wait_goes : (call wait element ticket : ℕ) (answer : Waited) (v w : View) → LastWait call v wait element ticket answer w → Goes no_events v w × HoldsUnless (has_gone answer) element v w
last_wait_goes call wait element ticket waited.Waiting v w a = (moved_goes call (wait + 2) element (events.WaitAt call wait element ticket) a.0 no_events v w a.2 refl, a.2.6)
last_wait_goes call wait element ticket waited.Spent v w a = let l = wait_looks call wait element ticket v w moves.Spent a in (l.0, λ e. ap (λ xs. get_or xs e false) l.1)
last_wait_goes call wait element ticket (waited.Moved mark ready) v w a =
    let u : View = a.0 in
    let l = wait_looks call wait element ticket v u (moves.Moved mark) a.1 in (
      goes_after no_events v u w l.0 (sent_goes call 0 element ready u w (λ z. omega arith) l.0.calm.fresh a.2) (left v u w l.1),
      holds_from element ready v u w l.1 (sent_holds call 0 element ready u w l.0.calm.fresh a.2),
    )

pub waited_goes : (call wait element ticket : ℕ) (answer : Waited) (v w : View) → v.own.fresh ≡ true → WaitedAt call wait element ticket answer v w → Goes no_events v w × HoldsUnless (has_gone answer) element v w
waited_goes call wait element ticket answer v w up s =
    let t = waits_look call wait element ticket s.lost v s.before up s.tries in
    let last = last_wait_goes call wait element ticket answer s.before w s.last in
    (goes_after no_events v s.before w t.0 last.0 (left v s.before w t.1), holds_from element (has_gone answer) v s.before w t.1 last.1)

pub lost_wait_again : (call call' wait element ticket : ℕ) (v u w : View) (seen : ℕ) → call' ≡ call → has u element ≡ true → (n : ℕ) × LostWaits call wait element ticket v u n
    → WaitAnswer call' u wait element ticket (Err (moves.Lost seen)) w → (has w element ≡ true) × ((n : ℕ) × LostWaits call wait element ticket v w n)
lost_wait_again call call' wait element ticket v u w seen same h tries m = (
  ap (λ xs. get_or xs element false) (wait_looks call' wait element ticket u w (moves.Lost seen) m).1 ∙ h,
  (suc tries.0, (u, tries.1, seen, subst (λ (c : ℕ). WaitAnswer c u wait element ticket (Err (moves.Lost seen)) w) same m)),
)
