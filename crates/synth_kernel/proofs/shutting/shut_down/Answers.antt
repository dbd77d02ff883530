use Rattle.synth_kernel.proofs.Common.{length, subst, TookRaws, Parts}
use Rattle.synth_kernel.proofs.shutting.shut_down.Goals as goal

pub close_all-requires-clause-wholes : goal.close_all-requires-clause-wholes
close_all-requires-clause-wholes c = c.requires.wholes c.join_raws.new.parts
    (subst (λ (z : Parts). TookRaws (length c.args.shared.plan.queues) (length c.args.shared.plan.movers) c.args.ttys.items z c.join_raws.new.parts) c.into_parts-parts.ensures c.join_raws.ensures.took)

pub returns : goal.returns
returns c = (
  c.join_raws.new.parts,
  subst (λ (z : Parts). TookRaws (length c.args.shared.plan.queues) (length c.args.shared.plan.movers) c.args.ttys.items z c.join_raws.new.parts) c.into_parts-parts.ensures c.join_raws.ensures.took,
  c.close_all.ensures,
)
