use Rattle.proc_chain.proofs.Common.{◌∷◌, ◌++◌, arith, props, ∥∥₁_elim, passes_since, reaches_one, did_both, ends_word, of_chains, view_of, IsValidChainView}
use Rattle.table_theory.proofs.Reaching.{reaches_other}
use Rattle.proc_chain.proofs.Becoming.{reaches_grow}
use Rattle.proc_chain.proofs.Falling.{from_first, real_then, to_last, to_later}
use Rattle.proc_chain.proofs.Finding.{head_says, tail_says}
use Rattle.proc_chain.proofs.laws.never_below.Goals as goal

pub returns-clause-head : goal.returns-clause-head
returns-clause-head g c = λ old new before e after a at. ∥∥₁_elim old.valid (hlevel props) (λ (x : IsValidChainView (view_of old)). ∥∥₁_elim new.valid (hlevel props) (λ (y : IsValidChainView (view_of new)). let p = passes_since of_chains (view_of old) (view_of new) (before ++ e ∷ after) x.honest y.honest a in
    let f = from_first (view_of old).seen (view_of new).seen before e after p in let t = to_last (view_of old).seen (view_of new).seen before e after p in let is = head_says e at (real_then (view_of old).seen (view_of new).seen before e after p) in
    let first = f.first in let longer = f.longer in let further = f.further in let first' = t.first in let longer' = t.longer in let further' = t.further in (omega arith, omega arith)))

pub returns-clause-tail : goal.returns-clause-tail
returns-clause-tail g c = λ old new before e after a at. ∥∥₁_elim old.valid (hlevel props) (λ (x : IsValidChainView (view_of old)). ∥∥₁_elim new.valid (hlevel props) (λ (y : IsValidChainView (view_of new)). let p = passes_since of_chains (view_of old) (view_of new) (before ++ e ∷ after) x.honest y.honest a in
    let f = from_first (view_of old).seen (view_of new).seen before e after p in let t = to_last (view_of old).seen (view_of new).seen before e after p in let is = tail_says e at (real_then (view_of old).seen (view_of new).seen before e after p) in
    let first = f.first in let longer = f.longer in let further = f.further in let first' = t.first in let longer' = t.longer in let further' = t.further in (omega arith, omega arith)))

pub returns-clause-later_head : goal.returns-clause-later_head
returns-clause-later_head g c = λ old new before e between f after a at at'. ∥∥₁_elim old.valid (hlevel props) (λ (x : IsValidChainView (view_of old)). ∥∥₁_elim new.valid (hlevel props) (λ (y : IsValidChainView (view_of new)). let p = passes_since of_chains (view_of old) (view_of new) (before ++ e ∷ (between ++ f ∷ after)) x.honest y.honest a in
    let t = to_later (view_of old).seen (view_of new).seen before e between f after p in let is = head_says e at t.1 in let is' = head_says f at' t.2 in let grown = t.0 in let first = grown.first in let longer = grown.longer in let further = grown.further in omega arith))

pub returns-clause-later_tail : goal.returns-clause-later_tail
returns-clause-later_tail g c = λ old new before e between f after a at at'. ∥∥₁_elim old.valid (hlevel props) (λ (x : IsValidChainView (view_of old)). ∥∥₁_elim new.valid (hlevel props) (λ (y : IsValidChainView (view_of new)). let p = passes_since of_chains (view_of old) (view_of new) (before ++ e ∷ (between ++ f ∷ after)) x.honest y.honest a in
    let t = to_later (view_of old).seen (view_of new).seen before e between f after p in let is = tail_says e at t.1 in let is' = tail_says f at' t.2 in let grown = t.0 in let first = grown.first in let longer = grown.longer in let further = grown.further in omega arith))

pub returns-clause-joined : goal.returns-clause-joined
returns-clause-joined g c = λ old other new t. ∥∥₁_elim old.valid (hlevel props) (λ (x : IsValidChainView (view_of old)). ∥∥₁_elim other.valid (hlevel props) (λ (z : IsValidChainView (view_of other)). ∥∥₁_elim new.valid (hlevel props) (λ (y : IsValidChainView (view_of new)).
    let f = reaches_grow (view_of old).seen (view_of new).seen (reaches_one of_chains did_both ends_word (view_of old) (view_of other) (view_of new) x.honest y.honest t.0) in
    let h = reaches_grow (view_of other).seen (view_of new).seen (reaches_other of_chains did_both ends_word (view_of old) (view_of other) (view_of new) z.honest y.honest t.0) in
    let first = f.first in let longer = f.longer in let further = f.further in let first' = h.first in let longer' = h.longer in let further' = h.further in (omega arith, omega arith, omega arith, omega arith))))
