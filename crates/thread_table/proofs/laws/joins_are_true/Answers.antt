use Rattle.thread_table.proofs.Common.{∥∥₁_map, view_of}
use Rattle.thread_table.proofs.Schedule.Orders.{both_told, joins_reach, joins_reach_other, join_real}
use Rattle.thread_table.proofs.laws.joins_are_true.Goals as goal

pub returns : goal.returns
returns c = record {
  since = λ old other new t. (
    both_told old new _ (λ x h. joins_reach (view_of old) (view_of other) (view_of new) x h t),
    both_told other new _ (λ x h. joins_reach_other (view_of old) (view_of other) (view_of new) x h t),
  );
  entry = λ old other new t. ∥∥₁_map new.valid (λ h. join_real (view_of old) (view_of other) (view_of new) h t);
}
