use Rattle.proc_chain.proofs.Common.{inl, inr, ⊎_elim, ∥∥₁_elim, ∥∥₁_map, entries_real, passes_since, alone_since, of_chains, view_of, IsValidChainView}
use Rattle.table_theory.proofs.Reaching.{reaches_since}
use Rattle.proc_chain.proofs.Becoming.{reaches_grow}
use Rattle.table_theory.proofs.Saying.{real_change}
use Rattle.proc_chain.proofs.laws.lists_are_true.Goals as goal

pub returns-clause-end : goal.returns-clause-end
returns-clause-end g c = λ end. ∥∥₁_map end.valid (λ t. t.honest)

pub returns-clause-entries : goal.returns-clause-entries
returns-clause-entries g c = λ old new entries a. ∥∥₁_map new.valid (λ t. entries_real of_chains old (view_of new) entries t.honest a)

pub returns-clause-order : goal.returns-clause-order
returns-clause-order g c = λ old new entries a. ∥∥₁_elim old.valid squash₁ (λ (x : IsValidChainView (view_of old)). ∥∥₁_map new.valid (λ t. passes_since of_chains (view_of old) (view_of new) entries x.honest t.honest a))

pub returns-clause-alone : goal.returns-clause-alone
returns-clause-alone g c = λ old new entries whole a. ∥∥₁_elim old.valid squash₁ (λ (x : IsValidChainView (view_of old)). ∥∥₁_map new.valid (λ t. (alone_since of_chains (view_of old) (view_of new) entries whole x.honest t.honest a).0))

pub returns-clause-since : goal.returns-clause-since
returns-clause-since g c = λ old new entries a. ∥∥₁_elim old.valid squash₁ (λ (x : IsValidChainView (view_of old)). ∥∥₁_map new.valid (λ t. reaches_since of_chains (view_of old) (view_of new) entries x.honest t.honest a))

pub returns-clause-grows : goal.returns-clause-grows
returns-clause-grows g c = reaches_grow

pub returns-clause-change : goal.returns-clause-change
returns-clause-change g c = λ e r. ⊎_elim (λ same. inl same) (λ h. inr h.becomes) (real_change of_chains e r)
