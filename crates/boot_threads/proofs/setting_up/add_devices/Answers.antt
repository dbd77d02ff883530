use Rattle.boot_threads.proofs.Common.{rules, ◌+◌, ◌<◌, ◌++◌, ◌∷◌, [], List, take, map, length, refl, sym, ap, subst, ◌∙◌, arith, map-append, PlannedTty, LineIn, Work, AreServing, input_of}
use Rattle.std.proofs.Common.{length-append}
use Rattle.boot_threads.proofs.Allowing.{serving_more, serving_none}
use Rattle.boot_threads.proofs.Crews.{take_one}
use Rattle.boot_threads.proofs.setting_up.add_devices.Goals as goal

pub loop-device-init : goal.loop-device-init
loop-device-init g c = record {
  works_room = search rules;
  lines_room = search rules;
  number = refl;
  rest = search rules;
  served = serving_none c.args.works.items;
  inputs = c.requires.lines.0;
}

pub loop-device-preserved : goal.loop-device-preserved
loop-device-preserved g c =
    let v = c.loop-device.invariant in
    let t = c.loop-device.t in
    let ttys = c.args.ttys.now in
    let steps = c.in-Some.ensures.steps in
    let rest = v.rest in
    let room = v.works_room in
    let space = v.lines_room in
    let here : t < length ttys = grind rules in
    let more = serving_more (take t ttys) c.loop-device.yielded c.args.works.items c.loop-device.works.items c.index-ttys-t.result c.in-Some.device c.device_work-work.result.0
    v.served c.device_work-work.ensures.0 in
    record {
      works_room = grind rules;
      lines_room = grind rules;
      number = let n = v.number in omega (arith, length-append c.loop-device.yielded (c.in-Some.device ∷ []));
      rest = grind rules;
      served = subst (λ (z : List (Work g.row.G.Denot)). AreServing (take (t + 1) ttys) (c.loop-device.yielded ++ c.in-Some.device ∷ []) c.args.works.items z) (sym c.push_reserved.ensures.items)
          (subst (λ (z : List PlannedTty). AreServing z (c.loop-device.yielded ++ c.in-Some.device ∷ []) c.args.works.items (c.loop-device.works.items ++ c.device_work-work.result.0 ∷ []))
          (sym (take_one ttys t c.index-ttys-t.result here c.index-ttys-t.is)) more);
      inputs = c.push_reserved-in-loop-device.ensures.items
          ∙ ap (λ (z : List LineIn). z ++ c.device_work-work.result.1 ∷ []) v.inputs
          ∙ ap (λ (z : LineIn). map input_of c.loop-device.yielded ++ z ∷ []) c.device_work-work.ensures.1
          ∙ sym (map-append input_of c.loop-device.yielded (c.in-Some.device ∷ []));
    }
