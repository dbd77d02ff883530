use Rattle.quaject_core.proofs.Common.{arith, length-map, elements, thread, taken_room}
use Rattle.quaject_core.proofs.elements.StoredElements.take.Goals as goal

pub push-requires : goal.push-requires
push-requires c =
    omega (arith, taken_room c.args.ring c.args.call c.args.count c.in_ok-element.element (elements c.args.self.now) _ c.requires c.in_ok-element.ensures c.in_ok-take.ensures.what, length-map c.args.self.now.threads.items thread, c.args.self.now.threads.ok, c.args.self.now.all)
