use Rattle.claim_queue.proofs.Common.{le_prop, view_of}
use Rattle.claim_queue.proofs.Certain.{by_both}
use Rattle.claim_queue.proofs.Heading.{head_around, heads_in_order, tail_around, tails_in_order}
use Rattle.claim_queue.proofs.laws.never_below.Goals as goal

pub returns : goal.returns
returns c = record {
  head = λ n old new before after e a is. (by_both old new le_prop (λ x y. (head_around (view_of old) (view_of new) x y before after e a is).0), by_both old new le_prop (λ x y. (head_around (view_of old) (view_of new) x y before after e a is).1));
  heads = λ n old new before between after e f a is is'. by_both old new le_prop (λ x y. heads_in_order (view_of old) (view_of new) x y before between after e f a is is');
  tail = λ n old new before after e a is. (by_both old new le_prop (λ x y. (tail_around (view_of old) (view_of new) x y before after e a is).0), by_both old new le_prop (λ x y. (tail_around (view_of old) (view_of new) x y before after e a is).1));
  tails = λ n old new before between after e f a is is'. by_both old new le_prop (λ x y. tails_in_order (view_of old) (view_of new) x y before between after e f a is is');
}
