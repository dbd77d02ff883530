use Rattle.quaject_core.proofs.Common.{◌≡◌, ◌<◌, ◌≤◌, ◌+◌, length, arith, nat_tests, left, queue}
use Rattle.quaject_core.proofs.Stored.Queues.{Claimed, claimed_by, claimed_laid, claimed_lawful, claimed_ok}
use Rattle.quaject_core.proofs.queueing.StoredQueue.claim.Goals as goal

pub invariant_of-self-2 : goal.invariant_of-self-2
invariant_of-self-2 c =
    let some : 0 < length c.args.items.now = grind (arith, nat_tests) in
    let room : length (left (queue c.args.self.now)) + length c.args.items.now ≤ c.args.self.now.capacity = omega (arith, c.left.ensures.left) in
    let at : c.len-start.result ≡ length c.reserve-2.new.self.items = omega (arith, c.reserve-2.new.self.ok) in
    let h : Claimed c.args.self.now c.args.call c.args.items.now c.push_reserved.new.self.items c.append.new.places.items =
    claimed_by c.args.self.now c.args.call c.len-start.result c.args.items.now c.reserve.new.self.items c.push_reserved.new.self.items c.reserve-2.new.self.items c.append.new.places.items
    c.in_ok-reserve.ensures.items c.in_ok-reserve-2.ensures.items at c.append.ensures c.push_reserved.ensures.items some c.if-self.false room in
    record { laid_out = claimed_laid _ _ _ _ _ h; lawful = claimed_lawful _ _ _ _ _ h }

pub returns : goal.returns
returns c =
    let some : 0 < length c.args.items.now = grind (arith, nat_tests) in
    let room : length (left (queue c.args.self.now)) + length c.args.items.now ≤ c.args.self.now.capacity = omega (arith, c.left.ensures.left) in
    let at : c.len-start.result ≡ length c.reserve-2.new.self.items = omega (arith, c.reserve-2.new.self.ok) in
    let h : Claimed c.args.self.now c.args.call c.args.items.now c.push_reserved.new.self.items c.append.new.places.items =
    claimed_by c.args.self.now c.args.call c.len-start.result c.args.items.now c.reserve.new.self.items c.push_reserved.new.self.items c.reserve-2.new.self.items c.append.new.places.items
    c.in_ok-reserve.ensures.items c.in_ok-reserve-2.ensures.items at c.append.ensures c.push_reserved.ensures.items some c.if-self.false room in
    claimed_ok c.args.self.now c.args.longest c.args.call c.args.items.now c.push_reserved.new.self.items c.append.new.places.items (omega arith) h
