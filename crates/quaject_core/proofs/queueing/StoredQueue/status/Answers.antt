use Rattle.quaject_core.proofs.Common.{◌≡◌, ap, ◌∙◌, length, map, count_by, arith, length-map, flag_of, item_of, run_at, flat, left, left_pairs, is_raised, queue}
use Rattle.quaject_core.proofs.Stored.Layout.{length_queue, raised_stored}
use Rattle.quaject_core.proofs.queueing.StoredQueue.status.Goals as goal

pub returns : goal.returns
returns c =
    let runs : c.len.result ≡ length (queue c.args.self.now).history = omega (arith, length-map c.args.self.now.runs.items (run_at (map item_of c.args.self.now.places.items)), c.args.self.now.runs.ok) in
    let put : c.len-2.result ≡ length (flat (queue c.args.self.now).history) = omega (arith, length_queue c.args.self.now, c.args.self.now.places.ok) in
    let left_is : c.left-left.result ≡ length (left (queue c.args.self.now)) = c.left-left.ensures.left in
    let raised : c.count_raised.result ≡ count_by (is_raised (queue c.args.self.now)) (left_pairs (queue c.args.self.now)) =
    c.count_raised.ensures ∙ (ap (count_by flag_of) c.rest.ensures ∙ raised_stored c.args.self.now) in
    cc
