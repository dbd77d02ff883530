use Rattle.meters.proofs.Common.{ap, sym, ◌∙◌, arith, ◌≡◌, ◌++◌, ◌∷◌, [], ℕ, length, List, append-nil, slots_items, Alarm, standing}
use Rattle.meters.proofs.Settling.{slot_read, read_on}
use Rattle.meters.proofs.close.read_alarms.Goals.{in-Some, in_default}
use Rattle.meters.proofs.close.read_alarms.Goals as goal

pub loop-slot-preserved : goal.loop-slot-preserved
loop-slot-preserved c = let ws : List ℕ = slots_items c.args.closed.now.words in let old = c.loop-slot.invariant in let few = old.few in let items : List Alarm = c.loop-slot.alarms.items in
    let read = slot_read ws c.loop-slot.slot _ _ _ c.loop-slot-test.true c.word.ensures c.from_bits.ensures c.alarm.ensures.stands in
    elim c.match-alarm.branch [
      | in-Some w ↦ record {
        few = (let long = w.push.ensures.len in let e : length c.match-alarm.alarms.items ≡ length w.push.new.self.items = (λ i. length (w.alarms-is i).items) in omega arith);
        read = read_on ws c.loop-slot.slot items c.match-alarm.alarms.items c.alarm.result c.loop-slot-test.true old.read read ((λ i. (w.alarms-is i).items) ∙ (w.push.ensures.items ∙ ap (λ z. items ++ standing (z ∷ [])) (sym w.in-Some.is)));
      }
      | in_default w ↦ record {
        few = (let e : length c.match-alarm.alarms.items ≡ length items = (λ i. length (w.alarms-is i).items) in omega arith);
        read = read_on ws c.loop-slot.slot items c.match-alarm.alarms.items c.alarm.result c.loop-slot-test.true old.read read ((λ i. (w.alarms-is i).items) ∙ (sym (append-nil items) ∙ ap (λ z. items ++ standing (z ∷ [])) (sym w.in_default.is)));
      }
    ]
