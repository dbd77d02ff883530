use Rattle.batch_queue.proofs.Common.{did_both, ends_word, of_batches}
use Rattle.table_theory.proofs.Certainty.{surely_counted, surely_joined}
use Rattle.batch_queue.specs.Handles.{view_of}
use Rattle.batch_queue.proofs.Certain.{valid_end}
use Rattle.batch_queue.proofs.laws.joins_are_true.Goals as goal

pub returns : goal.returns
returns c = record {
  since = λ old other new t. surely_joined of_batches did_both ends_word (view_of old) (view_of other) (view_of new) (valid_end new) t (valid_end old) (valid_end other);
  entry = λ old other new t. surely_counted of_batches did_both ends_word (view_of old) (view_of other) (view_of new) (valid_end new) t;
}
