use Rattle.batch_queue.proofs.Common.{arith, inl, inr, length, subst, ℕ, rules, ◌+◌, ◌-◌, ◌≡◌}
use Rattle.std.specs.Prelude.{min}
use Rattle.batch_queue.specs.Walks.{LookedFree}
use Rattle.batch_queue.proofs.Claims.{was_shut, was_spent, still_shut, lacked, was_moved, near, was_full, other, other_shut, other_past, claimed_front, used_room}
use Rattle.batch_queue.proofs.Permits.{may_claim}
use Rattle.batch_queue.proofs.put.claim.Goals as goal

pub returns-then-head-ge-SHUT-clause-error : goal.returns-then-head-ge-SHUT-clause-error
returns-then-head-ge-SHUT-clause-error g c = was_shut _ _ _ c.load_head-head.ensures.found c.if-head-ge-SHUT.true

pub returns-then-new-ge-POSITIONS-clause-error : goal.returns-then-new-ge-POSITIONS-clause-error
returns-then-new-ge-POSITIONS-clause-error g c = let is : c.min-most.result ≡ min (length c.args.items.now) c.args.room = search rules in let h = c.if-head-ge-SHUT.false in let past = c.if-new-ge-POSITIONS.true in was_spent _ _ _ _ c.load_head-head.ensures.found (omega arith) (omega arith)

pub returns-then-new-ge-POSITIONS-clause-shut : goal.returns-then-new-ge-POSITIONS-clause-shut
returns-then-new-ge-POSITIONS-clause-shut g c = let h = c.if-head-ge-SHUT.false in λ shut. still_shut _ _ _ c.load_head-head.ensures.found (omega arith) shut

pub returns-then-look-clause-error : goal.returns-then-look-clause-error
returns-then-look-clause-error g c = let is : c.min-most.result ≡ min (length c.args.items.now) c.args.room = search rules in let h = c.if-head-ge-SHUT.false in let p = c.if-new-ge-POSITIONS.false in let f = c.load_head-head.ensures.found in let l = c.look_free-look.ensures in let y = subst (λ (z : ℕ). LookedFree c.args.room (c.load_head-head.result + z) c.look_free-look.result.free c.look_free-look.result.moved c.load_head-head.new.seat.me.0 c.look_free-look.new.seat.me.0) is l.trace in let least = c.requires.least in let some = least.0 in let few = least.1 in
    let e : c.min-end.result ≡ min (c.load_head-head.result + c.min-most.result) (c.look_free-look.result.free + c.args.room) = search rules in let over = c.if-end-head.true in
    inr (was_moved c.args.room _ c.args.least _ _ _ _ _ _ f y (omega arith) (omega arith) (omega arith) (l.passed c.if-look.true))

pub returns-then-look-clause-shut : goal.returns-then-look-clause-shut
returns-then-look-clause-shut g c = let h = c.if-head-ge-SHUT.false in λ shut. still_shut _ _ _ c.load_head-head.ensures.found (omega arith) shut

pub returns-then-look-clause-refused : goal.returns-then-look-clause-refused
returns-then-look-clause-refused g c = let is : c.min-most.result ≡ min (length c.args.items.now) c.args.room = search rules in let h = c.if-head-ge-SHUT.false in let p = c.if-new-ge-POSITIONS.false in let f = c.load_head-head.ensures.found in let l = c.look_free-look.ensures in let y = subst (λ (z : ℕ). LookedFree c.args.room (c.load_head-head.result + z) c.look_free-look.result.free c.look_free-look.result.moved c.load_head-head.new.seat.me.0 c.look_free-look.new.seat.me.0) is l.trace in let least = c.requires.least in let some = least.0 in let few = least.1 in let e : c.min-end.result ≡ min (c.load_head-head.result + c.min-most.result) (c.look_free-look.result.free + c.args.room) = search rules in let over = c.if-end-head.true in
    inl (_, lacked c.args.room _ c.args.least _ _ _ _ _ _ f y (omega arith) (omega arith) _ c.if-look.true (omega arith))

pub returns-then-end-head-clause-error : goal.returns-then-end-head-clause-error
returns-then-end-head-clause-error g c = let is : c.min-most.result ≡ min (length c.args.items.now) c.args.room = search rules in let h = c.if-head-ge-SHUT.false in let p = c.if-new-ge-POSITIONS.false in let f = c.load_head-head.ensures.found in let l = c.look_free-look.ensures in let y = subst (λ (z : ℕ). LookedFree c.args.room (c.load_head-head.result + z) c.look_free-look.result.free c.look_free-look.result.moved c.load_head-head.new.seat.me.0 c.look_free-look.new.seat.me.0) is l.trace in let least = c.requires.least in let some = least.0 in let few = least.1 in let e : c.min-end.result ≡ min (c.load_head-head.result + c.min-most.result) (c.look_free-look.result.free + c.args.room) = search rules in let over = c.if-end-head.true in
    (omega arith, omega arith, was_full c.args.room _ c.args.least _ _ _ _ _ _ f y (omega arith) (omega arith) (l.result c.if-look.false (omega arith) (let n = near c.args.room _ c.args.least _ _ _ _ _ _ f y (omega arith) (omega arith) (omega arith) c.requires.queue.rooms in omega arith)))

pub returns-then-end-head-clause-shut : goal.returns-then-end-head-clause-shut
returns-then-end-head-clause-shut g c = let h = c.if-head-ge-SHUT.false in λ shut. still_shut _ _ _ c.load_head-head.ensures.found (omega arith) shut

pub returns-then-end-head-clause-refused : goal.returns-then-end-head-clause-refused
returns-then-end-head-clause-refused g c = let is : c.min-most.result ≡ min (length c.args.items.now) c.args.room = search rules in let h = c.if-head-ge-SHUT.false in let p = c.if-new-ge-POSITIONS.false in let f = c.load_head-head.ensures.found in let l = c.look_free-look.ensures in let y = subst (λ (z : ℕ). LookedFree c.args.room (c.load_head-head.result + z) c.look_free-look.result.free c.look_free-look.result.moved c.load_head-head.new.seat.me.0 c.look_free-look.new.seat.me.0) is l.trace in let least = c.requires.least in let some = least.0 in let few = least.1 in let e : c.min-end.result ≡ min (c.load_head-head.result + c.min-most.result) (c.look_free-look.result.free + c.args.room) = search rules in let over = c.if-end-head.true in
    lacked c.args.room _ c.args.least _ _ _ _ _ _ f y (omega arith) (omega arith) _ c.if-look.false (omega arith)

pub returns-then-found-head-clause-claim : goal.returns-then-found-head-clause-claim
returns-then-found-head-clause-claim g c = let is : c.min-most.result ≡ min (length c.args.items.now) c.args.room = search rules in let h = c.if-head-ge-SHUT.false in let p = c.if-new-ge-POSITIONS.false in let f = c.load_head-head.ensures.found in let l = c.look_free-look.ensures in let y = subst (λ (z : ℕ). LookedFree c.args.room (c.load_head-head.result + z) c.look_free-look.result.free c.look_free-look.result.moved c.load_head-head.new.seat.me.0 c.look_free-look.new.seat.me.0) is l.trace in let least = c.requires.least in let some = least.0 in let few = least.1 in let e : c.min-end.result ≡ min (c.load_head-head.result + c.min-most.result) (c.look_free-look.result.free + c.args.room) = search rules in let there = c.if-end-head.false in (
  omega arith,
  omega arith,
  claimed_front c.args.room _ c.args.least _ _ _ _ _ _ f y (omega arith) (omega arith) (c.min-end.result - c.load_head-head.result) c.args.items.now _ _ (search rules) (omega arith) (omega arith) (omega arith) (omega arith) c.requires.queue.rooms (c.exchange_head-found.ensures.hit c.if-found-head.true),
)

pub returns-then-found-head-clause-room : goal.returns-then-found-head-clause-room
returns-then-found-head-clause-room g c = let is : c.min-most.result ≡ min (length c.args.items.now) c.args.room = search rules in let h = c.if-head-ge-SHUT.false in let p = c.if-new-ge-POSITIONS.false in let f = c.load_head-head.ensures.found in let l = c.look_free-look.ensures in let y = subst (λ (z : ℕ). LookedFree c.args.room (c.load_head-head.result + z) c.look_free-look.result.free c.look_free-look.result.moved c.load_head-head.new.seat.me.0 c.look_free-look.new.seat.me.0) is l.trace in let least = c.requires.least in let some = least.0 in let few = least.1 in let e : c.min-end.result ≡ min (c.load_head-head.result + c.min-most.result) (c.look_free-look.result.free + c.args.room) = search rules in let there = c.if-end-head.false in
    used_room c.args.room _ c.args.least _ _ _ _ _ _ f y (omega arith) (omega arith) (c.min-end.result - c.load_head-head.result) _ _ (omega arith)
    (λ still over. l.result still (omega arith) (let n = near c.args.room _ c.args.least _ _ _ _ _ _ f y (omega arith) (omega arith) (omega arith) c.requires.queue.rooms in omega arith))
    l.passed
    (c.exchange_head-found.ensures.hit c.if-found-head.true)

pub returns-then-found-head-clause-shut : goal.returns-then-found-head-clause-shut
returns-then-found-head-clause-shut g c = let h = c.if-head-ge-SHUT.false in λ shut. still_shut _ _ _ c.load_head-head.ensures.found (omega arith) shut

pub returns-then-found-ge-SHUT-clause-error : goal.returns-then-found-ge-SHUT-clause-error
returns-then-found-ge-SHUT-clause-error g c = let is : c.min-most.result ≡ min (length c.args.items.now) c.args.room = search rules in let h = c.if-head-ge-SHUT.false in let p = c.if-new-ge-POSITIONS.false in let f = c.load_head-head.ensures.found in let l = c.look_free-look.ensures in let y = subst (λ (z : ℕ). LookedFree c.args.room (c.load_head-head.result + z) c.look_free-look.result.free c.look_free-look.result.moved c.load_head-head.new.seat.me.0 c.look_free-look.new.seat.me.0) is l.trace in let least = c.requires.least in let some = least.0 in let few = least.1 in
    other_shut c.args.room _ c.args.least _ _ _ _ _ _ f y (omega arith) (omega arith) _ _ (c.exchange_head-found.ensures.miss c.if-found-head.false).1 c.if-found-ge-SHUT.true

pub returns-then-found-ge-SHUT-clause-refused : goal.returns-then-found-ge-SHUT-clause-refused
returns-then-found-ge-SHUT-clause-refused g c = let is : c.min-most.result ≡ min (length c.args.items.now) c.args.room = search rules in let h = c.if-head-ge-SHUT.false in let p = c.if-new-ge-POSITIONS.false in let f = c.load_head-head.ensures.found in let l = c.look_free-look.ensures in let y = subst (λ (z : ℕ). LookedFree c.args.room (c.load_head-head.result + z) c.look_free-look.result.free c.look_free-look.result.moved c.load_head-head.new.seat.me.0 c.look_free-look.new.seat.me.0) is l.trace in let least = c.requires.least in let some = least.0 in let few = least.1 in let e : c.min-end.result ≡ min (c.load_head-head.result + c.min-most.result) (c.look_free-look.result.free + c.args.room) = search rules in let there = c.if-end-head.false in
    inr (_, _, c.if-found-ge-SHUT.true, other c.args.room _ c.args.least _ _ _ _ _ _ f y (omega arith) (omega arith) _ _ (omega arith) (c.exchange_head-found.ensures.miss c.if-found-head.false).1)

pub returns-clause-error : goal.returns-clause-error
returns-clause-error g c = let is : c.min-most.result ≡ min (length c.args.items.now) c.args.room = search rules in let h = c.if-head-ge-SHUT.false in let p = c.if-new-ge-POSITIONS.false in let f = c.load_head-head.ensures.found in let l = c.look_free-look.ensures in let y = subst (λ (z : ℕ). LookedFree c.args.room (c.load_head-head.result + z) c.look_free-look.result.free c.look_free-look.result.moved c.load_head-head.new.seat.me.0 c.look_free-look.new.seat.me.0) is l.trace in let least = c.requires.least in let some = least.0 in let few = least.1 in let is_open = c.if-found-ge-SHUT.false in
    inl (other_past c.args.room _ c.args.least _ _ _ _ _ _ f y (omega arith) (omega arith) l.grows _ _ (c.exchange_head-found.ensures.miss c.if-found-head.false).1 (omega arith) c.if-found-head.false).1

pub returns-clause-shut : goal.returns-clause-shut
returns-clause-shut g c = let h = c.if-head-ge-SHUT.false in λ shut. still_shut _ _ _ c.load_head-head.ensures.found (omega arith) shut

pub returns-clause-refused : goal.returns-clause-refused
returns-clause-refused g c = let is : c.min-most.result ≡ min (length c.args.items.now) c.args.room = search rules in let h = c.if-head-ge-SHUT.false in let p = c.if-new-ge-POSITIONS.false in let f = c.load_head-head.ensures.found in let l = c.look_free-look.ensures in let y = subst (λ (z : ℕ). LookedFree c.args.room (c.load_head-head.result + z) c.look_free-look.result.free c.look_free-look.result.moved c.load_head-head.new.seat.me.0 c.look_free-look.new.seat.me.0) is l.trace in let least = c.requires.least in let some = least.0 in let few = least.1 in let e : c.min-end.result ≡ min (c.load_head-head.result + c.min-most.result) (c.look_free-look.result.free + c.args.room) = search rules in let there = c.if-end-head.false in let is_open = c.if-found-ge-SHUT.false in let z = (c.exchange_head-found.ensures.miss c.if-found-head.false).1 in
    inr (_, (other_past c.args.room _ c.args.least _ _ _ _ _ _ f y (omega arith) (omega arith) l.grows _ _ z (omega arith) c.if-found-head.false).0, (omega arith), other c.args.room _ c.args.least _ _ _ _ _ _ f y (omega arith) (omega arith) _ _ (omega arith) z)

pub exchange_head-found-requires-clause-protocol : goal.exchange_head-found-requires-clause-protocol
exchange_head-found-requires-clause-protocol g c = let is : c.min-most.result ≡ min (length c.args.items.now) c.args.room = search rules in let h = c.if-head-ge-SHUT.false in let least = c.requires.least in let some = least.0 in let few = least.1 in let e : c.min-end.result ≡ min (c.load_head-head.result + c.min-most.result) (c.look_free-look.result.free + c.args.room) = search rules in let there = c.if-end-head.false in
    may_claim g.C.Protocol.allows c.args.items.now _ c.args.least _ (c.min-end.result - c.load_head-head.result) _ c.args.seat.now.me.0 c.load_head-head.new.seat.me.0 c.look_free-look.new.seat.me.0 c.requires.ruled c.requires.protocol (omega arith) (omega arith) (search rules) c.load_head-head.ensures.found c.look_free-look.ensures.trace.made.did (omega arith)
