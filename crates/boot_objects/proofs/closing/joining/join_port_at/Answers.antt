use Rattle.boot_objects.proofs.Common.{arith, ℕ, Some, ◌∷◌, [], sym, subst, OnEnd, IsJoined, IsEndAt, port, Gained}
use Rattle.boot_objects.proofs.closing.joining.join_port_at.Goals as goal

pub join_port_in-requires : goal.join_port_in-requires
join_port_in-requires g c = (omega arith, (omega arith, (omega arith, (c.requires.ends, subst (λ (i : ℕ). IsEndAt c.args.queues.now i c.args.port.end) (sym c.index-index.ensures) c.requires.other))))

pub returns-clause-joined : goal.returns-clause-joined
returns-clause-joined g c = subst (λ (i : ℕ). OnEnd i (λ old new. IsJoined old new c.args.port.end) c.args.ends.now c.join_port_in.new.ends) c.index-index.ensures c.join_port_in.ensures.joined

pub returns-clause-gained : goal.returns-clause-gained
returns-clause-gained g c = subst (λ (i : ℕ). Gained (Some (port i c.args.port.end) ∷ []) c.args.ends.now c.join_port_in.new.ends) c.index-index.ensures c.join_port_in.ensures.gained
