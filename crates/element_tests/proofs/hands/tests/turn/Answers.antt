use Rattle.std.proofs.Common.{◌≡◌, ◌∙◌, ◌<◌, ℕ, inl, inr, rules, subst, sym}
use Rattle.thread_table.specs.Handles.{view_of, call_of}
use Rattle.thread_table.specs.Rules.{MayStep, done_at}
use Rattle.turn_dispatch.specs.Countings.{counted_step}
use Rattle.turn_dispatch.specs.Dispatches.{mask_of}
use Rattle.turn_dispatch.specs.Holdings.{IsOn, OnlyAdds}
use Rattle.turn_dispatch.specs.Tallies.{Tally, AddsToTally, followed_by, one_delivery, one_signal}
use Rattle.turn_dispatch.proofs.Beginnings.{more_has}
use Rattle.turn_dispatch.proofs.Calm.{still_on}
use Rattle.turn_dispatch.proofs.OnlyLoads.{signal_only}
use Rattle.turn_dispatch.proofs.Tallies.{adds_on, adds_before}
use Rattle.element_tests.proofs.hands.tests.turn.Goals as goal

pub make_ready-requires-clause-held : goal.make_ready-requires-clause-held
make_ready-requires-clause-held g c = more_has c.take_off-element.result (view_of c.count-counted.new.hand) (view_of c.take_off-element.new.hand) c.take_off-element.ensures.holds

pub returns-clause-adds : goal.returns-clause-adds
returns-clause-adds g c =
    let e : ℕ = c.in-Ok.begun.element in
    let low : e < 64 = search rules in
    let v = view_of c.args.hand.now in
    let a = view_of c.begin.new.hand in
    let b = view_of c.put_on.new.hand in
    let s = view_of c.signal.new.hand in
    let k = view_of c.wake.new.hand in
    let n = view_of c.count-counted.new.hand in
    let o = view_of c.take_off-element.new.hand in
    let w = view_of c.make_ready.new.hand in
    let sent : OnlyAdds (one_signal e c.args.signal) b s = signal_only (call_of c.put_on.new.hand) e c.args.signal c.signal.result b s c.put_on.new.hand.fresh c.put_on.new.hand.valid c.signal.new.hand.valid c.signal.ensures.trace in
    let on : IsOn c.args.p e b = c.put_on.ensures.there in
    let on' : IsOn c.args.p e s = still_on c.args.p e b s sent.keeps on in
    let on'' : IsOn c.args.p e k = still_on c.args.p e s k c.wake.ensures.frame on' in
    let may : MayStep b e = inr (c.args.p, on.0, on.1) in
    let may' : MayStep s e = inr (c.args.p, on'.0, on'.1) in
    let may'' : MayStep k e = inr (c.args.p, on''.0, on''.1) in
    let number : done_at k.seen.object e ≡ c.in-Ok.begun.number =
    c.wake.ensures.steady e low may' may'' ∙ (sent.steady e low may may' ∙ (c.put_on.ensures.steady e low (inl c.in-Ok.ensures.held) may ∙ sym c.in-Ok.ensures.number)) in
    let one : Tally = one_delivery e (mask_of c.in-Ok.begun.delivered) in
    let two : Tally = one_signal e c.args.signal in
    let last : Tally = counted_step c.count-counted.result e c.in-Ok.begun.number in
    let counted : AddsToTally last k n = subst (λ (m : ℕ). AddsToTally (counted_step c.count-counted.result e m) k n) number c.count-counted.ensures.adds in
    let ends : AddsToTally last k w = adds_before last k o w (adds_before last k n o counted c.take_off-element.ensures.adds) c.make_ready.ensures.adds in
    let middle : AddsToTally (followed_by two last) b w = adds_on two last b k w (adds_before two b s k sent.adds c.wake.ensures.adds) ends in
    adds_on one (followed_by two last) v b w (adds_before one v a b c.in-Ok.ensures.adds c.put_on.ensures.adds) middle
