use Rattle.std.proofs.Common.{◌≡◌, arith}
use Rattle.quaject_core.proofs.Stored.Full.{first_call, one_more_run, one_more_place, full_named}
use Rattle.quaject_core.proofs.queueing.StoredQueue.full.Goals as goal

pub loop-number-preserved : goal.loop-number-preserved
loop-number-preserved c = record {
  runs = one_more_run c.loop-number.number c.unwrap-call.result c.from.result c.loop-number.runs.items c.push.new.self.items c.loop-number.invariant.runs
      (first_call c.new.result c.unwrap-call.result c.new.ensures.value c.unwrap-call.ensures) c.from.ensures c.in_ok-push.ensures.items;
  places = one_more_place c.loop-number.number c.from-in-loop-number.result c.loop-number.places.items c.push-in-loop-number.new.self.items c.loop-number.invariant.places
      c.from-in-loop-number.ensures c.in_ok-push-2.ensures.items;
}

pub invariant_of-result : goal.invariant_of-result
invariant_of-result c =
    let end : c.loop-number.number ≡ c.args.count = omega (arith, c.loop-number-test.false, c.loop-number.auto.number-end) in
    let h = full_named c.from-2.result c.args.count c.loop-number.number c.loop-number.runs.items c.loop-number.places.items c.from-2.ensures end
    c.loop-number.invariant.runs c.loop-number.invariant.places in
    record { laid_out = h.2; lawful = h.1 }

pub returns : goal.returns
returns c =
    let end : c.loop-number.number ≡ c.args.count = omega (arith, c.loop-number-test.false, c.loop-number.auto.number-end) in
    (full_named c.from-2.result c.args.count c.loop-number.number c.loop-number.runs.items c.loop-number.places.items c.from-2.ensures end
    c.loop-number.invariant.runs c.loop-number.invariant.places).0
