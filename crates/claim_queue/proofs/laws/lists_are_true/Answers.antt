use Rattle.claim_queue.proofs.Common.{of_queues, view_of}
use Rattle.table_theory.proofs.Certainty.{surely_pass, surely_reach, surely_real}
use Rattle.table_theory.proofs.Saying.{real_change}
use Rattle.claim_queue.proofs.Certain.{valid_end}
use Rattle.claim_queue.proofs.Growing.{reaches_grow, real_lawful}
use Rattle.claim_queue.proofs.laws.lists_are_true.Goals as goal

pub returns : goal.returns
returns c = record {
  end = λ n end. valid_end end;
  entries = λ n old new entries a. surely_real of_queues old (view_of new) entries (valid_end new) a;
  order = λ n old new entries a. surely_pass of_queues (view_of old) (view_of new) entries (valid_end old) (valid_end new) a;
  since = λ n old new entries a. surely_reach of_queues (view_of old) (view_of new) entries (valid_end old) (valid_end new) a;
  grows = reaches_grow;
  change = real_change of_queues;
  lawful = real_lawful;
}
