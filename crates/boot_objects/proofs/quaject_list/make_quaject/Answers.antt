use Rattle.boot_objects.proofs.Common.{◌≡◌, ◌+◌, ◌-◌, List, length, get_or, subst, sym, ap, arith, Option, Some, None, slice_get, slice_get-get_or, PlannedMover, PlannedQueue, slice_get_past, IsPlanned, IsTty}
use Rattle.boot_objects.specs.Stocks.{shares}
use Rattle.boot_objects.proofs.Dealing.{gave_more, gave_none}
use Rattle.boot_objects.proofs.LargeEnds.{no_large}
use Rattle.boot_objects.proofs.Plans.{there}
use Rattle.boot_objects.proofs.quaject_list.make_quaject.Goals as goal

pub make_mover-requires-clause-there : goal.make_mover-requires-clause-there
make_mover-requires-clause-there c = let sizes = c.requires.queues.small in let movers = c.as_slice-movers.result.now in
    there c.args.plan.now (length c.args.queues.now.small.items) (omega (arith, sizes)) c.args.number (get_or movers c.args.number c.index-movers-number.result)
    (subst (λ (z : List PlannedMover). slice_get z c.args.number ≡ Some (get_or movers c.args.number c.index-movers-number.result)) c.as_slice-movers.ensures
    (slice_get-get_or movers c.args.number c.index-movers-number.result (omega (arith, c.if-number-movers.true))))

pub returns-then-number-movers : goal.returns-then-number-movers
returns-then-number-movers c = let m = c.make_mover.ensures in let movers = c.as_slice-movers.result.now in let planned = get_or movers c.args.number c.index-movers-number.result in
    let at : slice_get c.args.plan.now.movers c.args.number ≡ Some planned = subst (λ (z : List PlannedMover). slice_get z c.args.number ≡ Some planned) c.as_slice-movers.ensures
    (slice_get-get_or movers c.args.number c.index-movers-number.result (omega (arith, c.if-number-movers.true))) in record {
      small_stock = m.stock;
      large_stock = c.requires.stock.1;
      kind = subst (λ (z : Option PlannedMover). IsPlanned (length c.args.plan.now.queues) (c.args.number - length c.args.plan.now.movers) z c.make_mover.result) (sym at) m.kind;
      ready = m.ready;
      small_gave = m.gave;
      large_gave = gave_none 6 _ (shares c.args.large.now.items) (no_large planned.mover c.make_mover.result m.kind);
    }

pub returns-else-number-movers : goal.returns-else-number-movers
returns-else-number-movers c = let t = c.make_tty.ensures in let movers = c.as_slice-movers.result.now in
    let long = ap length c.as_slice-movers.ensures in
    let past : slice_get c.args.plan.now.movers c.args.number ≡ None = slice_get_past c.args.plan.now.movers c.args.number (omega (arith, c.if-number-movers.false, long)) in
    let kind : IsTty (length c.args.plan.now.queues + (c.args.number - length c.args.plan.now.movers)) (c.args.number - length c.args.plan.now.movers) c.make_tty.result
    = subst (λ (z : List PlannedMover). IsTty (length c.args.plan.now.queues + (c.args.number - length z)) (c.args.number - length z) c.make_tty.result) c.as_slice-movers.ensures
    (subst (λ (z : List PlannedQueue). IsTty (length z + (c.args.number - length movers)) (c.args.number - length movers) c.make_tty.result) c.as_slice.ensures t.kind) in record {
      small_stock = t.small_stock;
      large_stock = t.large_stock;
      kind = subst (λ (z : Option PlannedMover). IsPlanned (length c.args.plan.now.queues) (c.args.number - length c.args.plan.now.movers) z c.make_tty.result) (sym past) kind;
      ready = t.ready;
      small_gave = gave_more 1 6 (omega arith) t.small_gave;
      large_gave = gave_more 2 6 (omega arith) t.large_gave;
    }
