use Rattle.std.proofs.Math.Logic.{∥∥₁_map}
use Rattle.batch_queue.specs.Handles.{view_of}
use Rattle.batch_queue.proofs.Certain.{seen_room, still_shut, tail_goes_on}
use Rattle.batch_queue.proofs.Settling.{ruled_lists, whole_lists}
use Rattle.batch_queue.proofs.laws.ends_list_queues.Goals as goal

pub returns : goal.returns
returns g c = record {
  room = λ queue end is. (seen_room queue end is, queue.bounded.0);
  shut = λ old new entries a. still_shut old new entries a;
  tail = λ old new entries a. tail_goes_on old new entries a;
  listed = λ end. ∥∥₁_map end.ruled (λ r. ruled_lists (view_of end) r);
  only = λ end whole. ∥∥₁_map end.ruled (λ r. whole_lists (view_of end) r whole);
}
