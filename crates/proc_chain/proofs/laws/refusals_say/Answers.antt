use Rattle.proc_chain.proofs.Common.{◌≡◌, [], ◌∷◌, ◌∙◌, ap, refl, arith, props, ∥∥₁_elim, AbsState, load, head_of, passes_since, alone_since, GatedQueue, view_of, of_chains, IsValidChainView, head_word, tail_word}
use mathlib.Core.HLevel.{⊥_prop}
use Rattle.proc_chain.proofs.Becoming.{reaches_grow}
use Rattle.proc_chain.proofs.Finding.{head_says, tail_says}
use Rattle.proc_chain.proofs.laws.refusals_say.Goals as goal

pub returns-clause-full : goal.returns-clause-full
returns-clause-full g c = λ old new head tail r. ∥∥₁_elim old.valid (search props) (λ (x : IsValidChainView (view_of old)). ∥∥₁_elim new.valid (search props) (λ (y : IsValidChainView (view_of new)). let m : AbsState GatedQueue = r.0 in let n : AbsState GatedQueue = r.1 in let p = passes_since of_chains (view_of old) (view_of new) (load head_word head m ∷ load tail_word tail n ∷ []) x.honest y.honest r.4.adds in let g = reaches_grow m n p.2.0 in
    let a = head_says (load head_word head m) refl p.1 in let b = tail_says (load tail_word tail n) refl p.2.1 in let first = g.first in let further = g.further in let full = r.3 in omega arith))

pub returns-clause-lost : goal.returns-clause-lost
returns-clause-lost g c = λ old new head whole r. ∥∥₁_elim old.valid ⊥_prop (λ (x : IsValidChainView (view_of old)). ∥∥₁_elim new.valid ⊥_prop (λ (y : IsValidChainView (view_of new)). let m : AbsState GatedQueue = r.2 in let n : AbsState GatedQueue = r.3 in let o : AbsState GatedQueue = r.4 in let p = alone_since of_chains (view_of old) (view_of new) (load head_word r.0 m ∷ load tail_word r.1 n ∷ load head_word head o ∷ []) whole x.honest y.honest r.8.adds in
    let a = head_says (load head_word r.0 m) refl p.1.0 in let b = head_says (load head_word head o) refl p.1.1.1.0 in let same : head_of m.object.queue ≡ head_of o.object.queue = ap (λ (z : AbsState GatedQueue). head_of z.object.queue) (p.0.1.0 ∙ p.0.1.1.0) in let past = r.7 in omega arith))
