use Rattle.std.proofs.Math.Logic.{∥∥₁_elim}
use mathlib.Core.HLevel.{⊥_prop}
use Rattle.batch_queue.specs.Handles.{view_of}
use Rattle.batch_queue.proofs.Rising.{runs_apart, takes_apart}
use Rattle.batch_queue.proofs.laws.joins_are_apart.Goals as goal

pub returns : goal.returns
returns c = record {
  runs = λ old other new t m k position e f at to mine yours. ∥∥₁_elim new.ruled ⊥_prop (λ r. runs_apart (view_of new) r (view_of old).own.runs (view_of other).own.runs (λ i. (t.own i).runs) m k position e f at to mine yours);
  takes = λ old other new t m k position e f at to mine yours. ∥∥₁_elim new.ruled ⊥_prop (λ r. takes_apart (view_of new) r (view_of old).own.takes (view_of other).own.takes (λ i. (t.own i).takes) m k position e f at to mine yours);
}
