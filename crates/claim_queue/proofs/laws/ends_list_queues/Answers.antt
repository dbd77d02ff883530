use Rattle.claim_queue.proofs.Common.{∥∥₁_map, view_of}
use Rattle.claim_queue.proofs.Certain.{seen_room, some_room, still_shut, tail_goes_on}
use Rattle.claim_queue.proofs.Settling.{whole_lists, ruled_lists}
use Rattle.claim_queue.proofs.laws.ends_list_queues.Goals as goal

pub returns : goal.returns
returns c = record {
  room = λ n end. (seen_room end, some_room end);
  shut = λ n old new entries a. still_shut old new entries a;
  tail = λ n old new entries a. tail_goes_on old new entries a;
  listed = λ n end. ∥∥₁_map end.ruled (λ r. ruled_lists (view_of end) r);
  only = λ n end whole. ∥∥₁_map end.ruled (λ r. whole_lists (view_of end) r whole);
}
