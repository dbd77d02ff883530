use Rattle.batch_queue.proofs.Common.{of_batches}
use Rattle.table_theory.proofs.Certainty.{surely_pass, surely_reach, surely_real}
use Rattle.table_theory.proofs.Saying.{real_change}
use Rattle.batch_queue.specs.Handles.{view_of}
use Rattle.batch_queue.proofs.Certain.{valid_end}
use Rattle.batch_queue.proofs.Growing.{reaches_grow, real_lawful}
use Rattle.batch_queue.proofs.laws.lists_are_true.Goals as goal

pub returns : goal.returns
returns c = record {
  end = λ end. valid_end end;
  entries = λ old new entries a. surely_real of_batches old (view_of new) entries (valid_end new) a;
  order = λ old new entries a. surely_pass of_batches (view_of old) (view_of new) entries (valid_end old) (valid_end new) a;
  since = λ old new entries a. surely_reach of_batches (view_of old) (view_of new) entries (valid_end old) (valid_end new) a;
  grows = reaches_grow;
  change = real_change of_batches;
  lawful = real_lawful;
}
