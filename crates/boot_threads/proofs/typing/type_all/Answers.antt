use Rattle.boot_threads.proofs.Common.{rules, ◌+◌, ◌<◌, ◌++◌, ◌∷◌, [], take, length, sym, subst, arith, AreTyped}
use Rattle.std.proofs.Common.{length-append}
use Rattle.boot_threads.proofs.Crews.{take_one, one_more}
use Rattle.boot_threads.proofs.typing.type_all.Goals as goal

pub loop-line-preserved : goal.loop-line-preserved
loop-line-preserved g c =
    let t = c.loop-line.t in
    let ttys = c.args.ttys.now in
    let devices = c.args.devices.now in
    let steps = c.in-Some.ensures.steps in
    let rest = c.loop-line.invariant.rest in
    let room = c.loop-line.invariant.room in
    let here : t < length ttys = grind rules in
    let same = c.requires.devices in
    let there : t < length devices = omega arith in
    let all = one_more (take t ttys) (take t devices) c.loop-line.yielded c.loop-line.typed.items c.index-ttys-t.result c.index-devices-t.result c.in-Some.line c.type_line.result
    c.loop-line.invariant.typed c.type_line.ensures in
    record {
      room = grind rules;
      number = let n = c.loop-line.invariant.number in omega (arith, length-append c.loop-line.yielded (c.in-Some.line ∷ []));
      rest = grind rules;
      typed = subst (λ z. AreTyped (take (t + 1) ttys) (take (t + 1) devices) (c.loop-line.yielded ++ c.in-Some.line ∷ []) z) (sym c.push_reserved.ensures.items)
          (subst (λ z. AreTyped z (take (t + 1) devices) (c.loop-line.yielded ++ c.in-Some.line ∷ []) (c.loop-line.typed.items ++ c.type_line.result ∷ [])) (sym (take_one ttys t c.index-ttys-t.result here c.index-ttys-t.is))
          (subst (λ z. AreTyped (take t ttys ++ c.index-ttys-t.result ∷ []) z (c.loop-line.yielded ++ c.in-Some.line ∷ []) (c.loop-line.typed.items ++ c.type_line.result ∷ [])) (sym (take_one devices t c.index-devices-t.result there c.index-devices-t.is)) all));
    }
