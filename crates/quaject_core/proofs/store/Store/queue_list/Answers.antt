use Rattle.quaject_core.proofs.Common.{◌≡◌, ◌<◌, ◌∙◌, ◌++◌, ◌∷◌, [], ◌+◌, ap, sym, map, take, get_or, length, arith, map_more, take_all, queue_status, queue, StoredQueue, QueueStatus}
use Rattle.quaject_core.proofs.Stored.Parts.{map-map}
use Rattle.quaject_core.proofs.store.Store.queue_list.Goals as goal

abbrev numbers : StoredQueue → QueueStatus
numbers stored = queue_status (queue stored)

pub loop-queue-preserved : goal.loop-queue-preserved
loop-queue-preserved c =
    let stored = c.queue-item.result in
    let all = c.args.self.now.queues.items in
    let same : c.deref-queue-items.result.now ≡ all = c.deref-queue-items.ensures.value in
    let within : c.loop-queue.queue-index < length all = omega (arith, c.loop-queue-test.true, ap length same) in
    let is : stored ≡ get_or all c.loop-queue.queue-index stored = c.queue-item.is ∙ ap (λ xs. get_or xs c.loop-queue.queue-index stored) same in
    let more : map numbers (take (c.loop-queue.queue-index + 1) all) ≡ map numbers (take c.loop-queue.queue-index all) ++ numbers (get_or all c.loop-queue.queue-index stored) ∷ [] =
    map_more numbers all c.loop-queue.queue-index stored within in
    c.in_ok-push.ensures.items ∙ (ap (λ xs. xs ++ c.status.result ∷ []) c.loop-queue.invariant
    ∙ (ap (λ x. map numbers (take c.loop-queue.queue-index all) ++ x ∷ []) (c.status.ensures ∙ ap numbers is) ∙ sym more))

pub returns : goal.returns
returns c =
    let stored = c.args.self.now.queues.items in
    let all : take c.loop-queue.queue-index stored ≡ stored = take_all c.loop-queue.queue-index stored (omega (arith, c.loop-queue-test.false, ap length c.deref-queue-items.ensures.value)) in
    let numbered : c.new.result ≡ map queue_status (map queue stored) =
    c.new.ensures ∙ (c.loop-queue.invariant ∙ (ap (map numbers) all ∙ sym (map-map queue_status queue stored))) in
    cc
