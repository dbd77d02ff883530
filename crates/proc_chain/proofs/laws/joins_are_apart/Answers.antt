use Rattle.proc_chain.proofs.Common.{∥∥₁_elim, view_of, IsValidChainView}
use mathlib.Core.HLevel.{⊥_prop}
use Rattle.proc_chain.proofs.Apart.{one_run, one_take, joined_runs, joined_takes}
use Rattle.proc_chain.proofs.laws.joins_are_apart.Goals as goal

pub returns-clause-runs : goal.returns-clause-runs
returns-clause-runs g c = λ o views shown i j m n x u v a b ne at at' has has' in_a in_b. ne (one_run o views shown x i j m n u v a b at at' has has' in_a in_b).0

pub returns-clause-takings : goal.returns-clause-takings
returns-clause-takings g c = λ o views shown i j m n x u v a b ne at at' has has' in_a in_b. ne (one_take o views shown x i j m n u v a b at at' has has' in_a in_b).0

pub returns-clause-joined_runs : goal.returns-clause-joined_runs
returns-clause-joined_runs g c = λ old other new t m n x a b has has' in_a in_b. ∥∥₁_elim new.valid ⊥_prop (λ (y : IsValidChainView (view_of new)). joined_runs (view_of old) (view_of other) (view_of new) t y x m n a b has has' in_a in_b)

pub returns-clause-joined_takings : goal.returns-clause-joined_takings
returns-clause-joined_takings g c = λ old other new t m n x a b has has' in_a in_b. ∥∥₁_elim new.valid ⊥_prop (λ (y : IsValidChainView (view_of new)). joined_takes (view_of old) (view_of other) (view_of new) t y x m n a b has has' in_a in_b)
