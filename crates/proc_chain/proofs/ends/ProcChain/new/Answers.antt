use Rattle.proc_chain.proofs.Common.{ap, subst, sym, ◌∙◌, List, [], ◌∷◌, ◌++◌, Me, View, suits, makes}
use Rattle.proc_chain.proofs.Opening.{of_newcomer}
use Rattle.proc_chain.proofs.Tallying.{opens_new}
use Rattle.proc_chain.proofs.ends.ProcChain.new.Goals as goal

pub new-requires : goal.new-requires
new-requires g c = opens_new (makes g.Q.Quaject.made_by) (suits g.Q.Quaject.fits) (record { first = c.args.first; pact = record { world = c.of.result; opening = c.of-2.result } }) c.args.quaject c.push.new.self.items c.ranges.first.fits (c.in_default.ensures.items ∙ ap (λ (z : List _). z ++ c.args.quaject ∷ []) c.new-slots.ensures.items)
    (subst (λ first. g.Q.Quaject.made_by first c.args.quaject []) (sym c.of-2.ensures) c.requires.made) (subst (λ world. g.Q.Quaject.fits world c.args.quaject) (sym c.of.ensures) c.requires.fits)

pub invariant_of-result-in-Ok : goal.invariant_of-result-in-Ok
invariant_of-result-in-Ok g c = let is = ap (λ (z : Me _ View). z.0) c.in-Ok.ensures.ok.4 in let n = of_newcomer _ _ is c.ranges.first.fits in record { turned = ap (λ (z : View). z.own.runner) is; rests = n.0; valid = ∣ n.1 ∣₁ }
