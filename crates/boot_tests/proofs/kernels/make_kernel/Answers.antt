use Rattle.std.proofs.Common.{length, ap, subst, ◌∙◌, arith}
use Rattle.std.proofs.lemmas.List.{length-map}
use Rattle.boot_threads.specs.Readiness.{AreServing, input_of}
use Rattle.boot_tests.proofs.kernels.make_kernel.Goals as goal

pub post_all-requires-clause-split : goal.post_all-requires-clause-split
post_all-requires-clause-split g c =
    let o = c.in-Ok.made in let e = c.in-Ok.ensures in
    c.first_is_ready.ensures.splits o.shared.plan o.shared.threads o.shared.meters o.station.parts c.prepare_station-station.result.parts e.hand e.seat e.splits.0 e.splits.1 e.splits.2 c.prepare_station-station.ensures.prepared

pub returns-clause-prepared : goal.returns-clause-prepared
returns-clause-prepared g c =
    let o = c.in-Ok.made in let e = c.in-Ok.ensures in
    c.in-Ok-post_all.ensures.prepared o.shared.plan (c.first_is_prepared.ensures.prepared o.shared.plan o.shared.threads o.station.parts c.prepare_station-station.result.parts
    e.hand c.prepare_station-station.ensures.prepared e.effect e.unused)

pub returns-clause-number : goal.returns-clause-number
returns-clause-number g c =
    let o = c.in-Ok.made in
    let posts = c.works_may_run.ensures.posts o.shared c.args.turns c.args.gates.items c.prepare_station-station.result.parts c.post_all.new.station.parts c.in-Ok-post_all.works.items c.in-Ok-post_all.ensures.posted in
    let serving = subst (λ z. AreServing z o.devices.items c.in-Ok-post_all.works.items c.add_devices-works.result.0.items) c.as_slice.ensures c.add_devices-works.ensures.works in
    let all = c.works_may_run.ensures.number o.shared.plan.ttys o.devices.items c.in-Ok-post_all.works.items c.add_devices-works.result.0.items serving in
    let works = c.add_devices-works.result.0.ok.0 in
    let gates = c.args.gates.ok.0 in
    let devices = c.in-Ok.ensures.devices.number in
    (omega arith, c.add_devices-works.result.1.ok.0 ∙ ap length c.add_devices-works.ensures.lines ∙ length-map o.devices.items input_of ∙ devices)

pub returns-clause-may : goal.returns-clause-may
returns-clause-may g c =
    let o = c.in-Ok.made in
    let serving = subst (λ z. AreServing z o.devices.items c.in-Ok-post_all.works.items c.add_devices-works.result.0.items) c.as_slice.ensures c.add_devices-works.ensures.works in
    c.works_may_run.ensures.may o.shared c.args.turns c.args.gates.items c.prepare_station-station.result.parts c.post_all.new.station.parts o.devices.items c.in-Ok-post_all.works.items c.add_devices-works.result.0.items c.in-Ok-post_all.ensures.posted c.in-Ok.ensures.devices serving
