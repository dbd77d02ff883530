use mathlib.Core.HLevel.{⊥_prop}
use Rattle.batch_queue.specs.Handles.{view_of, room_of}
use Rattle.batch_queue.proofs.Certain.{by_both, seen_room}
use Rattle.batch_queue.proofs.SoleTaking.{some_not_lost}
use Rattle.batch_queue.proofs.Unrivalled.{put_not_lost, put_some_not_lost, take_not_lost}
use Rattle.batch_queue.proofs.laws.only_ends_are_never_lost.Goals as goal

pub returns : goal.returns
returns g c = record {
  put = λ old new room count head whole r. by_both old new ⊥_prop (λ x y. put_not_lost (view_of old) (view_of new) x y whole room count head r);
  put_some = λ old new room count head whole r. by_both old new ⊥_prop (λ x y. put_some_not_lost (view_of old) (view_of new) x y whole room count head r);
  take_some = λ queue old new most tail is whole r. by_both old new ⊥_prop (λ x y. some_not_lost (view_of old) (view_of new) x y whole (room_of queue) (seen_room queue old is) most tail r);
  take = λ old new room most tail whole r. by_both old new ⊥_prop (λ x y. take_not_lost (view_of old) (view_of new) x y whole room most tail r);
}
