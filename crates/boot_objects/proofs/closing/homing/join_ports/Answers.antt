use Rattle.boot_objects.proofs.Common.{arith, ◌∷◌, ◌++◌, sym, ap, ◌∙◌, append_assoc, [], array_into_iter_items, end_table, end_call, same_on}
use Rattle.boot_objects.proofs.PortGains.{fit_next, gained_both}
use Rattle.boot_objects.proofs.closing.homing.join_ports.Goals as goal

pub join_port-requires : goal.join_port-requires
join_port-requires g c = let v = c.loop-port.invariant in (
  omega arith,
  (
    omega arith,
    (
      omega arith,
      (
        v.same.tables ∙ c.requires.ends,
        fit_next c.args.queues.now c.loop-port.yielded c.in-Some.port (array_into_iter_items c.next.new.self) c.args.ports
            (ap (λ z. c.loop-port.yielded ++ z) (sym c.in-Some.ensures.steps) ∙ v.parts) c.requires.fits,
      ),
    ),
  ),
)

pub loop-port-preserved : goal.loop-port-preserved
loop-port-preserved g c = let v = c.loop-port.invariant in record {
  gained = gained_both c.loop-port.yielded (c.in-Some.port ∷ []) c.args.ends.now c.loop-port.ends c.join_port.new.ends v.gained c.join_port.ensures.gained;
  same = same_on end_table end_call c.args.ends.now c.loop-port.ends c.join_port.new.ends v.same c.join_port.ensures.handle;
  parts = append_assoc c.loop-port.yielded (c.in-Some.port ∷ []) (array_into_iter_items c.next.new.self) ∙ (ap (λ z. c.loop-port.yielded ++ z) (sym c.in-Some.ensures.steps) ∙ v.parts);
}
