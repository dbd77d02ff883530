-- The parts that each answer of the table leaves to the hand, and what the answer adds.
use Rattle.turn_dispatch.proofs.Common.{append-nil, View, Lost, Signalled, TakeAnswer, MoveAnswer, WaitAnswer, SignalAnswer, ReadPc, HoldsMore, IsValidHandView, quiet, mask_of, OnlyAdds, tally, no_events, one_signal, one_delivery, ◌≡◌, ◌≢◌, ⊎_elim, ℕ, zero, suc, Bool, true, false, [], ◌∷◌, Result, Ok, Err, refl, sym, StartAnswer, StartedNow, ParkAnswer, DeliverAnswer, SignalledNow, StoppedNow, IsTicket, with_delivery, with_event, take_event, having_found, with_held, with_start, count_of}
use Rattle.event_theory.specs.declared.event.Event.TheVariants as events
use Rattle.thread_table.specs.declared.takings.NextRefusal.{NextRefusal}
use Rattle.thread_table.specs.declared.takings.NextRefusal.TheVariants as nexts
use Rattle.thread_table.specs.declared.moves.MoveRefusal.{MoveRefusal}
use Rattle.thread_table.specs.declared.moves.MoveRefusal.TheVariants as moves
use Rattle.thread_table.specs.declared.states.Signalled.TheVariants as signalled
use Rattle.thread_table.specs.declared.states.Started.TheVariants as started
use Rattle.turn_dispatch.proofs.Calm.{Goes, OnlyLoads, acts_goes, acts_held, acts_look, only}

-- a refused taking
pub take_looks : (call ring : ℕ) (v w : View) (r : NextRefusal) → TakeAnswer call v ring (Err r) w → OnlyLoads v w
take_looks call ring v w nexts.NoneReady a = acts_look v w _ a.6
take_looks call ring v w (nexts.Lost seen) a = acts_look v w _ a.6

-- a refused move
pub move_looks : (call ring element : ℕ) (v w : View) (r : MoveRefusal) → MoveAnswer call v ring element (Err r) w → OnlyLoads v w
move_looks call ring element v w moves.Spent a = acts_look v w _ a.3
move_looks call ring element v w (moves.Lost seen) a = acts_look v w _ a.1.4
move_looks call ring element v w (moves.Moved mark) a = absurd a

pub wait_looks : (call wait element ticket : ℕ) (v w : View) (r : MoveRefusal) → WaitAnswer call v wait element ticket (Err r) w → OnlyLoads v w
wait_looks call wait element ticket v w moves.Spent a = acts_look v w _ a.3
wait_looks call wait element ticket v w (moves.Lost seen) a = acts_look v w _ a.3.4
wait_looks call wait element ticket v w (moves.Moved mark) a = ⊎_elim (λ b. acts_look v w _ b.1) (λ b. acts_look v w _ b.4) a.4

pub park_looks : (call element : ℕ) (v w : View) (r : Lost) → ParkAnswer call v element (Err r) w → OnlyLoads v w
park_looks call element v w r a = acts_look v w _ a.5

pub runs_looks : (call element : ℕ) (v w : View) → ParkAnswer call v element (Ok false) w → OnlyLoads v w
runs_looks call element v w a = acts_look v w _ a.3

pub start_looks : (call element : ℕ) (v w : View) (r : Lost) → StartAnswer call v element (Err r) w → OnlyLoads v w
start_looks call element v w r a = acts_look v w _ a.5

pub goes_looks : (call element : ℕ) (v w : View) → StartAnswer call v element (Ok started.NotStopped) w → OnlyLoads v w
goes_looks call element v w a = acts_look v w _ a.3

-- a taking of elements that are not free
pub none_free : (call ring : ℕ) → ring ≢ 1 → tally (record { event = take_event call ring; number = 0; signals = [] } ∷ []) ≡ no_events
none_free call zero other = refl
none_free call (suc zero) other = absurd (other refl)
none_free call (suc (suc wait)) other = refl

pub took_goes : (call ring element : ℕ) (v w : View) → ring ≢ 1 → TakeAnswer call v ring (Ok element) w → Goes no_events v w
took_goes call ring element v w other t =
    acts_goes no_events v w (with_event (with_held v element true) (take_event call ring)) _ _ record { first = refl; serves = refl; on = refl; share = refl } refl (none_free call ring other) t.8

pub took_holds : (call ring element : ℕ) (v w : View) → TakeAnswer call v ring (Ok element) w → HoldsMore element v w
took_holds call ring element v w t = t.7

-- a park
pub parked_goes : (call element : ℕ) (v w : View) → ParkAnswer call v element (Ok true) w → Goes no_events v w
parked_goes call element v w a =
    acts_goes no_events v w (with_event (with_held v element false) (events.Park call element)) _ _ record { first = refl; serves = refl; on = refl; share = refl } refl refl a.1.4

-- a start
pub started_goes : (call element : ℕ) (parked : Bool) (v w : View) → StartedNow call v element parked w → Goes no_events v w
started_goes call element parked v w a =
    acts_goes no_events v w (with_event (with_start v element parked) (events.Start call element)) _ _ record { first = refl; serves = refl; on = refl; share = refl } refl refl a.4

pub cleared_held : (call element : ℕ) (v w : View) → StartAnswer call v element (Ok started.Cleared) w → w.own.held ≡ v.own.held
cleared_held call element v w a = acts_held v w (with_event (with_start v element false) (events.Start call element)) _ a.4

-- a delivery
pub deliver_goes : (call element : ℕ) (v w : View) (r : Result ℕ Lost) → DeliverAnswer call v element r w → Goes (one_delivery element (mask_of r)) v w × (w.own.held ≡ v.own.held)
deliver_goes call element v w (Ok zero) a = acts_look v w _ a.3
deliver_goes call element v w (Ok (suc mask)) a = let now : View = with_delivery v (events.Deliver call element) (suc mask) in (
  acts_goes (one_delivery element (suc mask)) v w now _ _ record { first = refl; serves = refl; on = refl; share = refl } refl refl a.4,
  acts_held v w now _ a.4,
)
deliver_goes call element v w (Err r) a = acts_look v w _ a.5

-- the number of steps done was found
pub counts_looks : (element found : ℕ) (v w : View) → ReadPc element v found w → OnlyLoads v w
counts_looks element found v w c = let now : View = having_found v (count_of element found) in (
  acts_goes no_events v w now _ [] record { first = refl; serves = refl; on = refl; share = refl } (sym (append-nil v.own.made)) refl c.2,
  acts_held v w now _ c.2,
)

-- a signal, a stop and a ticket
signalled_goes : (call element number : ℕ) (was : Bool) (v w : View) → SignalledNow call v element number was w → Goes (one_signal element number) v w × (w.own.held ≡ v.own.held)
signalled_goes call element number was v w a = let now : View = with_event (quiet v) (events.Signal call element number) in (
  acts_goes (one_signal element number) v w now _ _ record { first = refl; serves = refl; on = refl; share = refl } refl refl a.3,
  acts_held v w now _ a.3,
)

pub signal_goes : (call element number : ℕ) (r : Signalled) (v w : View) → SignalAnswer call v element number r w → Goes (one_signal element number) v w × (w.own.held ≡ v.own.held)
signal_goes call element number signalled.Raised v w a = signalled_goes call element number false v w a
signal_goes call element number signalled.Merged v w a = signalled_goes call element number true v w a

pub signal_only : (call element number : ℕ) (r : Signalled) (v w : View) → v.own.fresh ≡ true → ∥ IsValidHandView v ∥₁ → ∥ IsValidHandView w ∥₁ → SignalAnswer call v element number r w → OnlyAdds (one_signal element number) v w
signal_only call element number r v w up before following a = let g = signal_goes call element number r v w a in only (one_signal element number) v w (λ e. refl) up before following g.0 g.1

pub stop_only : (call element : ℕ) (was : Bool) (v w : View) → v.own.fresh ≡ true → ∥ IsValidHandView v ∥₁ → ∥ IsValidHandView w ∥₁ → StoppedNow call v element was w → OnlyAdds no_events v w
stop_only call element was v w up before following a = let now : View = with_event (quiet v) (events.Stop call element) in
    only no_events v w (λ e. refl) up before following
    (acts_goes no_events v w now _ _ record { first = refl; serves = refl; on = refl; share = refl } refl refl a.3) (acts_held v w now _ a.3)

pub ticket_only : (wait ticket : ℕ) (v w : View) → v.own.fresh ≡ true → ∥ IsValidHandView v ∥₁ → ∥ IsValidHandView w ∥₁ → IsTicket v wait ticket w → OnlyAdds no_events v w
ticket_only wait ticket v w up before following a = let l = acts_look v w _ a.3 in only no_events v w (λ e. refl) up before following l.0 l.1
