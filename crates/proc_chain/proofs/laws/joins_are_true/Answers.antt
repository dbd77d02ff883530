use Rattle.proc_chain.proofs.Common.{∥∥₁_elim, ∥∥₁_map, both, entries_real, reaches_one, ends_word, of_chains, did_both, view_of, IsValidChainView}
use Rattle.std.specs.Prelude.{[], ◌∷◌}
use Rattle.table_theory.specs.Ledgers.{count_down}
use Rattle.table_theory.proofs.Reaching.{reaches_other}
use Rattle.proc_chain.proofs.laws.joins_are_true.Goals as goal

pub returns-clause-since : goal.returns-clause-since
returns-clause-since g c = λ old other new t. (
  ∥∥₁_elim old.valid squash₁ (λ (x : IsValidChainView (view_of old)). ∥∥₁_map new.valid (λ z. reaches_one of_chains did_both ends_word (view_of old) (view_of other) (view_of new) x.honest z.honest t.0)),
  ∥∥₁_elim other.valid squash₁ (λ (y : IsValidChainView (view_of other)). ∥∥₁_map new.valid (λ z. reaches_other of_chains did_both ends_word (view_of old) (view_of other) (view_of new) y.honest z.honest t.0)),
)

pub returns-clause-entry : goal.returns-clause-entry
returns-clause-entry g c = λ old other new t. ∥∥₁_map new.valid (λ h. (entries_real of_chains (both did_both (view_of old) (view_of other)) (view_of new) (count_down ends_word t.0.found ∷ []) h.honest t.0.adds).0)
