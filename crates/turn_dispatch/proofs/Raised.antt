-- Tending the alarms.
use Rattle.turn_dispatch.proofs.Common.{take, append-nil, View, Signalled, SignalAnswer, IsValidHandView, OnlyAdds, one_signal, RaisedAll, ◌≡◌, ℕ, suc, ◌+◌, ◌<◌, true, List, [], ◌∷◌, ◌++◌, length, get_or, Result, Ok, Err, refl, sym, ap, ◌∙◌, subst, arith, MatchResult, signals_for, DidTend}
use Rattle.std.proofs.Math.Seq.{take-suc}
use Rattle.event_theory.specs.declared.alarm.Alarm.{Alarm}
use Rattle.meters.specs.declared.gauges.AdvanceRefusal.{AdvanceRefusal}
use Rattle.meters.specs.Own.{SeatView, own_of, Own, DidNothing, DidAdvance, DidFire}
use Rattle.turn_dispatch.proofs.Calm.{Goes, OnlyLoads, goes_on, left, looks_none, only}
use Rattle.turn_dispatch.proofs.OnlyLoads.{signal_goes}

-- one more signal was raised
raised_more : (call : ℕ) (alarms : List Alarm) (a : Alarm) (r : Signalled) (v u w : View) → RaisedAll call alarms v u → SignalAnswer call u a.element a.signal r w → RaisedAll call (alarms ++ a ∷ []) v w
raised_more call [] a r v u w same s = (w, r, subst (λ (z : View). SignalAnswer call z a.element a.signal r w) same s, refl)
raised_more call (x ∷ xs) a r v u w all s = (all.0, all.1, all.2, raised_more call xs a r all.0 u w all.3 s)

pub raised_again : (call call' : ℕ) (alarms more : List Alarm) (a : Alarm) (r : Signalled) (v u w : View) → call' ≡ call → more ≡ alarms ++ a ∷ [] → RaisedAll call alarms v u → SignalAnswer call' u a.element a.signal r w → RaisedAll call more v w
raised_again call call' alarms more a r v u w same is all s = subst (λ (xs : List Alarm). RaisedAll call xs v w) (sym is) (raised_more call alarms a r v u w all (subst (λ (c : ℕ). SignalAnswer c u a.element a.signal r w) same s))

pub raised_goes : (call : ℕ) (alarms : List Alarm) (v w : View) → v.own.fresh ≡ true → RaisedAll call alarms v w → Goes (signals_for alarms) v w × (w.own.held ≡ v.own.held)
raised_goes call [] v w up same = subst (OnlyLoads v) (sym same) (looks_none v up)
raised_goes call (a ∷ rest) v w up all =
    let u : View = all.0 in
    let first = signal_goes call a.element a.signal all.1 v u all.2 in
    let more = raised_goes call rest u w first.0.calm.fresh all.3 in
    (goes_on (one_signal a.element a.signal) (signals_for rest) v u w first.0 more.0 (left v u w first.1), more.1 ∙ first.1)

pub raised_only : (call : ℕ) (alarms : List Alarm) (v w : View) → v.own.fresh ≡ true → ∥ IsValidHandView v ∥₁ → ∥ IsValidHandView w ∥₁ → RaisedAll call alarms v w → OnlyAdds (signals_for alarms) v w
raised_only call alarms v w up before following all = let g = raised_goes call alarms v w up all in only (signals_for alarms) v w (λ e. refl) up before following g.0 g.1

-- the seat's own lists
pub tended_own : (advanced : Result ℕ AdvanceRefusal) (fired : List Alarm) (v u w : SeatView) → MatchResult advanced (λ clock. DidAdvance clock v u) (λ refusal. DidNothing v u) → DidFire fired u w → DidTend advanced fired v w
tended_own (Ok clock) fired v u w a b = b ∙ ap (λ (o : Own). let x : Own = record o { fired = o.fired ++ fired } in x) a
tended_own (Err refusal) fired v u w a b = b ∙ (ap (λ (o : Own). let x : Own = record o { fired = o.fired ++ fired } in x) a ∙ nothing)
  where
    nothing : (record (own_of v) { fired = v.own.fired ++ fired }) ≡ (record (own_of v) { advances = v.own.advances ++ []; fired = v.own.fired ++ fired })
    nothing = sym (ap (λ (xs : List ℕ). let x : Own = record (own_of v) { advances = xs; fired = v.own.fired ++ fired } in x) (append-nil v.own.advances))

pub taken_one : (alarms : List Alarm) (i : ℕ) (a : Alarm) → i < length alarms → a ≡ get_or alarms i a → take (i + 1) alarms ≡ take i alarms ++ a ∷ []
taken_one alarms i a low is = rw (add_one i) (take-suc alarms i a low ∙ ap (λ (x : Alarm). take i alarms ++ x ∷ []) (sym is))
  where
    add_one : (n : ℕ) → n + 1 ≡ suc n
    add_one n = omega arith
