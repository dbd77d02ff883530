use Rattle.std.proofs.Math.Bridge.{le_prop}
use Rattle.batch_queue.specs.Handles.{view_of}
use Rattle.batch_queue.proofs.Certain.{by_both}
use Rattle.batch_queue.proofs.Rising.{free_around, frees_in_order, head_around, heads_in_order, tail_around, tails_in_order}
use Rattle.batch_queue.proofs.laws.never_below.Goals as goal

pub returns : goal.returns
returns c = record {
  head = λ old new before after e a is. (by_both old new le_prop (λ x y. (head_around (view_of old) (view_of new) x y before after e a is).0), by_both old new le_prop (λ x y. (head_around (view_of old) (view_of new) x y before after e a is).1));
  heads = λ old new before between after e f a is is'. by_both old new le_prop (λ x y. heads_in_order (view_of old) (view_of new) x y before between after e f a is is');
  tail = λ old new before after e a is. (by_both old new le_prop (λ x y. (tail_around (view_of old) (view_of new) x y before after e a is).0), by_both old new le_prop (λ x y. (tail_around (view_of old) (view_of new) x y before after e a is).1));
  tails = λ old new before between after e f a is is'. by_both old new le_prop (λ x y. tails_in_order (view_of old) (view_of new) x y before between after e f a is is');
  free = λ old new before after e a is. (by_both old new le_prop (λ x y. (free_around (view_of old) (view_of new) x y before after e a is).0), by_both old new le_prop (λ x y. (free_around (view_of old) (view_of new) x y before after e a is).1));
  frees = λ old new before between after e f a is is'. by_both old new le_prop (λ x y. frees_in_order (view_of old) (view_of new) x y before between after e f a is is');
}
