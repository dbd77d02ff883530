use Rattle.synth_kernel.proofs.Common.{◌+◌, length, refl, ap, subst, ◌∙◌, arith, as_many_posts, AreServing, can_split_eight, all_free, first_prepared, all_may, as_many_works}
use Rattle.synth_kernel.proofs.ready.give_works.Goals as goal

pub post_works-requires-clause-split : goal.post_works-requires-clause-split
post_works-requires-clause-split g c = let m = c.requires.objects in let o = c.args.objects in
    can_split_eight o.shared.plan o.shared.threads o.shared.meters o.station.parts c.prepare_station-station.result.parts
    m.hand m.seat m.splits.0 m.splits.1 m.splits.2 c.prepare_station-station.ensures.prepared

pub post_works-requires-clause-free : goal.post_works-requires-clause-free
post_works-requires-clause-free g c = let m = c.requires.objects in let o = c.args.objects in
    (all_free o.shared.plan o.shared.threads o.station.parts c.prepare_station-station.result.parts m.hand c.prepare_station-station.ensures.prepared).1

pub add_works-requires-clause-room : goal.add_works-requires-clause-room
add_works-requires-clause-room g c =
    let o = c.args.objects in
    let posts = as_many_posts o.shared 0 c.args.turns c.args.gates.items c.prepare_station-station.result.parts c.in-Ok.station.parts c.in-Ok.works.items c.in-Ok.ensures.posted in
    let room = c.in-Ok.ensures.room in
    let devices = c.requires.objects.devices.number in
    let gates = c.args.gates.ok.0 in
    let works = c.in-Ok.works.ok.0 in
    let long = o.devices.ok.0 in
    omega arith

pub returns : goal.returns
returns g c =
    let m = c.requires.objects in let o = c.args.objects in
    let p = c.prepare_station-station.ensures in
    let first = c.prepare_station-station.result.parts in
    let free = all_free o.shared.plan o.shared.threads o.station.parts first m.hand p.prepared in
    let w = c.in-Ok.ensures in
    let left = c.in-Ok.station.parts in
    let posts = c.in-Ok.works.items in
    let works = c.in-Ok-add_works.works.items in
    let serving = subst (λ z. AreServing z o.devices.items posts works) c.as_slice.ensures c.in-Ok-add_works.ensures.works in
    let many = as_many_posts o.shared 0 c.args.turns c.args.gates.items first left posts w.posted in
    let all = as_many_works o.shared.plan.ttys o.devices.items posts works serving in
    record {
      plan_is = refl;
      quajects = m.quajects;
      devices = o.devices.items;
      devices_are = m.devices;
      made = o.station.parts;
      hand = m.hand;
      seat = m.seat;
      whole = m.whole;
      first = first;
      first_is = p.prepared;
      posts = posts;
      posted = w.posted;
      works = serving;
      may = all_may o.shared c.args.turns c.args.gates.items first left o.devices.items posts works w.posted m.devices serving;
      number = all ∙ ap (λ z. z + length o.shared.plan.ttys) many;
      inputs = c.in-Ok-add_works.ensures.lines;
      parts = w.parts;
      prepared = w.prepared o.shared.plan (first_prepared o.shared.plan o.shared.threads o.station.parts first m.hand p.prepared m.effect m.unused);
      none_on = w.none_on free.0;
      free = λ k past below. w.free k (let long = c.args.gates.ok.0 in let p = past in omega arith) below;
      room = c.requires.room;
    }
