use Rattle.trace_events.proofs.Common.{subst, sym, ◌∙◌, List, [], ◌∷◌, ℕ, IsNumber, key, number, Grown}
use Rattle.trace_events.proofs.Growing.{two_written}
use Rattle.trace_events.proofs.Numbers.{IsNumber-micros}
use Rattle.trace_events.proofs.members.put_time.Goals as goal

pub number-requires : goal.number-requires
number-requires c = subst IsNumber (sym (c.as_str.ensures.value ∙ c.in_ok-text.ensures)) (IsNumber-micros c.args.nanos c.ranges.nanos.fits)

pub returns : goal.returns
returns c =
    let e = c.as_str.ensures.value ∙ c.in_ok-text.ensures in
    let fits = subst IsNumber (sym e) (IsNumber-micros c.args.nanos c.ranges.nanos.fits) in
    subst (λ (text : List ℕ). Grown c.args.out.now c.number.new.self (key c.args.key.now ∷ number text ∷ [])) e
    (two_written c.args.out.now c.key.new.self c.number.new.self _ _ c.in_ok-key.ensures.room.0 c.in_ok-key.ensures.ok c.in_ok-number.ensures.room.0 c.in_ok-number.ensures.ok tt fits)
