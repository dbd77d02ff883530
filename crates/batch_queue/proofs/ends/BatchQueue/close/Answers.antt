use Rattle.batch_queue.proofs.Common.{EndRecord, SHUT, [], ap, ends_word, load, ◌∷◌, left_from, refl, sym, ◌%◌, ◌-◌, ◌∙◌}
use Rattle.std.specs.Mem.Slots.{slots_items}
use Rattle.table_theory.specs.declared.views.Part.{Part}
use Rattle.batch_queue.proofs.Going.{goes_made}
use Rattle.batch_queue.proofs.Trying.{looks_lines}
use Rattle.batch_queue.proofs.Seated.{room_on}
use Rattle.batch_queue.proofs.Under.{final_under, tallies_as}
use Rattle.batch_queue.proofs.Settling.{closes, published_left, spans}
use Rattle.batch_queue.proofs.ends.BatchQueue.close.Goals as goal

pub count-requires-clause-allowed : goal.count-requires-clause-allowed
count-requires-clause-allowed g c = tallies_as g.C.Protocol.allows _ _ _ _ c.args.end.one

pub new-left-requires-clause-bounded : goal.new-left-requires-clause-bounded
new-left-requires-clause-bounded g c = spans c.args.self.table.shared.key _ _ _ _ _ _ (final_under g.C.Protocol.allows _ _ _ _ _ c.close_by-closed.ensures.values.2) c.word-put.ensures c.word-taken.ensures

pub returns-clause-effect : goal.returns-clause-effect
returns-clause-effect g c = closes c.args.self.table.shared.key _ _ _ c.word-put.result c.word-taken.result _ _ (slots_items c.close_by-closed.result.slots) _ c.args.end.one c.args.end.idle c.in-Ok.ensures.alone.1.1 (final_under g.C.Protocol.allows _ _ _ _ _ c.close_by-closed.ensures.values.2) c.word-put.ensures c.word-taken.ensures refl
    (c.new-left.ensures.items ∙ (λ i. left_from (sym c.args.self.shaped i) (slots_items c.close_by-closed.result.slots) c.word-taken.result (c.word-put.result % SHUT - c.word-taken.result)))

pub returns-clause-published : goal.returns-clause-published
returns-clause-published g c = let m = c.new-left.ensures.made in published_left c.args.self.table.shared.key _ _ _ c.word-put.result c.word-taken.result _ (slots_items c.close_by-closed.result.slots) c.new-left.result c.args.end.one c.args.end.idle c.in-Ok.ensures.alone.1.1
    (final_under g.C.Protocol.allows _ _ _ _ _ c.close_by-closed.ensures.values.2) c.word-put.ensures c.word-taken.ensures (m.1 ∙ sym c.args.self.shaped) m.2 m.3 (λ i. slots_items (m.0 i).words)

pub returns-in-Err-clause-frame : goal.returns-in-Err-clause-frame
returns-in-Err-clause-frame g c = let t = c.in-Err.ensures.frame.3 in let m = t.1.made in (looks_lines _ _ (load ends_word c.in-Err.ends t.1.found ∷ []) m, goes_made _ _ _ _ c.args.end.ruled ∣ t.0 ∣₁ refl m)

pub invariant_of-result : goal.invariant_of-result
invariant_of-result g c = let end = c.args.end in let f = c.in-Err.ensures.frame in let m = f.3.1.made in record { room = room_on end.seat c.in-Err.seat end.room f.1.0 m.adds.first; bare = f.2 ∙ end.bare; idle = ap (λ (z : EndRecord). z.held) m.did ∙ end.idle; one = ap (λ (z : Part). z.ends) m.member ∙ end.one; ruled = ∣ f.3.0 ∣₁ }
