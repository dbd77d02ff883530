use Rattle.batch_queue.proofs.Common.{EndRecord, HeldSlots, ap, line_of, map, map-append, arith, rules, ◌∙◌, did_both, ends_word, nothing_did}
use Rattle.table_theory.proofs.Parting.{took_in, two_ends}
use Rattle.table_theory.specs.declared.views.Part.{Part}
use Rattle.batch_queue.proofs.Going.{later_joined}
use Rattle.batch_queue.proofs.Seated.{room_on}
use Rattle.batch_queue.proofs.Under.{downs_as, joins_as}
use Rattle.batch_queue.proofs.ends.BatchQueue.join.Goals as goal

pub take_in-requires-clause-allowed : goal.take_in-requires-clause-allowed
take_in-requires-clause-allowed g c = let one = c.args.end.now.one in joins_as g.C.Protocol.allows g.C.Protocol.begins g.C.Protocol.joins _ _ _ _ _ (omega arith) (ap (λ (h : HeldSlots). h.count) c.args.end.now.idle) (ap (λ (h : HeldSlots). h.count) c.args.other.idle)

pub count_down-requires-clause-allowed : goal.count_down-requires-clause-allowed
count_down-requires-clause-allowed g c = downs_as g.C.Protocol.allows _ _ _ _ (two_ends nothing_did did_both ends_word c.args.end.now.seat.me.0 c.args.other.seat.me.0 c.take_in.new.seat.me.0 c.args.end.now.one c.args.other.one (ap (λ z. z.0) c.take_in.ensures.joined))

pub returns-clause-owns : goal.returns-clause-owns
returns-clause-owns g c = ap (λ (z : Part). z.share) c.count_down.ensures.counted.member ∙ ap (λ z. z.0.member.share) c.take_in.ensures.joined

pub returns-clause-frame : goal.returns-clause-frame
returns-clause-frame g c = later_joined _ _ _ c.args.end.now.ruled c.args.other.ruled ∣ c.count_down.ensures.suits ∣₁ (search rules)

pub returns-clause-trace : goal.returns-clause-trace
returns-clause-trace g c = took_in nothing_did did_both ends_word c.args.end.now.seat.me.0 c.args.other.seat.me.0 c.take_in.new.seat.me.0 c.count_down.new.seat.me.0 c.args.end.now.one c.args.other.one (ap (λ z. z.0) c.take_in.ensures.joined) c.count_down.ensures.counted

pub returns-clause-effect : goal.returns-clause-effect
returns-clause-effect g c = let own = (returns-clause-trace g c).own in (ap (λ (z : EndRecord). map line_of z.runs) own ∙ map-append line_of _ _, ap (λ (z : EndRecord). map line_of z.takes) own ∙ map-append line_of _ _, ap (λ (z : EndRecord). z.parts) own, ap (λ (z : EndRecord). z.shuts) own)

pub invariant_of-end : goal.invariant_of-end
invariant_of-end g c = let end = c.args.end.now in let d = c.count_down.ensures in let t = took_in nothing_did did_both ends_word c.args.end.now.seat.me.0 c.args.other.seat.me.0 c.take_in.new.seat.me.0 c.count_down.new.seat.me.0 c.args.end.now.one c.args.other.one (ap (λ z. z.0) c.take_in.ensures.joined) c.count_down.ensures.counted in record { room = room_on end.seat c.count_down.new.seat end.room (d.seat.0.0 ∙ c.take_in.ensures.seat.0) t.adds.first; bare = d.seat.1 ∙ (ap (λ z. z.1) c.take_in.ensures.joined ∙ end.bare); idle = ap (λ (z : EndRecord). z.held) t.own; one = ap (λ (z : Part). z.ends) t.member; ruled = ∣ d.suits ∣₁ }
