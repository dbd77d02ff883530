use Rattle.std.proofs.Common.{◌≡◌, ◌+◌, ℕ, [], ◌∷◌, sym, refl, ap, ◌∙◌, subst, arith}
use Rattle.std.proofs.Math.Logic.{∥∥₁_elim}
use Rattle.std.proofs.Math.Nat.{ℕ_set}
use mathlib.Core.HLevel.{⊥_prop}
use Rattle.table_theory.specs.declared.views.AbsState.{AbsState}
use Rattle.table_theory.specs.Ledgers.{load, change}
use Rattle.meters.specs.declared.gauges.AdvanceRefusal.{AdvanceRefusal}
use Rattle.meters.specs.declared.rule.Reading.{Reading}
use Rattle.meters.specs.Answers.{NotAdvanced}
use Rattle.meters.specs.Changes.{with_advance}
use Rattle.meters.specs.Handles.{view_of}
use Rattle.meters.specs.Layout.{clock_word}
use Rattle.meters.specs.Own.{SeatView}
use Rattle.element_tests.proofs.timing.tests.moves_on.Goals as goal

-- a moment that is what the end of new meters has seen
at_first : (v : SeatView) (m : AbsState Reading) → v.seen.object.clock ≡ 0 → v.seen ≡ m → m.object.clock ≡ 0
at_first v m first is = ap (λ (z : AbsState Reading). z.object.clock) (sym is) ∙ first

pub unreachable-requires : goal.unreachable-requires
unreachable-requires c = let old = c.in_ok-meters.seat in let new = c.advance.new.seat in let clock : (view_of old).seen.object.clock ≡ 0 = ap (λ (v : SeatView). v.seen.object.clock) c.in_ok-meters.ensures.2 in let whole = ap (λ (v : SeatView). v.member.share) c.in_ok-meters.ensures.2 in
    let steps = subst (λ (r : AdvanceRefusal). NotAdvanced (view_of old) r (view_of new)) c.in-Err-Spent.field-0-is c.in-Err-Spent.ensures.trace in
    ∥∥₁_elim (c.lists_are_true.ensures.alone old new (load clock_word 4294967295 steps.0 ∷ []) whole steps.1) ⊥_prop (λ leads.
    ∥∥₁_elim (c.lists_are_true.ensures.entries (view_of old) new (load clock_word 4294967295 steps.0 ∷ []) steps.1) ⊥_prop (λ real.
    let says = c.numbers_say.ensures.clock (load clock_word 4294967295 steps.0) refl real.0 in let is = says.0 in let zero = at_first (view_of old) steps.0 clock leads.0 in omega arith))

pub unreachable-requires-in-Err-Lost : goal.unreachable-requires-in-Err-Lost
unreachable-requires-in-Err-Lost c = let old = c.in_ok-meters.seat in let new = c.advance.new.seat in
    c.only_ends_are_never_lost.ensures.advance old new c.in-Err-Lost.field-0-0 (ap (λ (v : SeatView). v.member.share) c.in_ok-meters.ensures.2)
    (subst (λ (r : AdvanceRefusal). NotAdvanced (view_of old) r (view_of new)) c.in-Err-Lost.field-0-is c.in-Err-Lost.ensures.trace)

pub returns : goal.returns
returns c = let old = c.in_ok-meters.seat in let new = c.advance.new.seat in let clock : (view_of old).seen.object.clock ≡ 0 = ap (λ (v : SeatView). v.seen.object.clock) c.in_ok-meters.ensures.2 in let whole = ap (λ (v : SeatView). v.member.share) c.in_ok-meters.ensures.2 in
    let s = c.in-Ok.ensures.trace in let was : ℕ = s.0 in let m : AbsState Reading = s.1 in let n : AbsState Reading = s.2 in let next : c.in-Ok.clock ≡ was + 1 = s.3 in
    let first = load clock_word was m in let second = change clock_word was n (with_advance n.object) in
    ∥∥₁_elim (c.lists_are_true.ensures.alone old new (first ∷ second ∷ []) whole s.4) (ℕ_set c.in-Ok.clock 1) (λ leads.
    ∥∥₁_elim (c.lists_are_true.ensures.entries (view_of old) new (first ∷ second ∷ []) s.4) (ℕ_set c.in-Ok.clock 1) (λ real.
    let says = c.numbers_say.ensures.clock first refl real.0 in let is = says.0 in let zero = at_first (view_of old) m clock leads.0 in omega arith))
