use Rattle.claim_queue.proofs.Common.{view_of}
use Rattle.claim_queue.proofs.Certain.{seen_room, some_room, valid_end}
use Rattle.claim_queue.proofs.Clients.{begun_there, none_there}
use Rattle.claim_queue.proofs.laws.empty_means_none_before.Goals as goal

pub returns : goal.returns
returns c n old new at = (none_there n (view_of old) (view_of new) (valid_end old) (valid_end new) (seen_room old) (some_room old) at, begun_there n (view_of old) (view_of new) (valid_end old) (valid_end new) (seen_room old) (some_room old) at)
