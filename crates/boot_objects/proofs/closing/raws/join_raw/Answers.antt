use Rattle.boot_objects.proofs.Common.{refl, ap, ◌∙◌, slice_get, end_table, chain_end_table, note_stake}
use Rattle.boot_objects.proofs.Lent.{came_back}
use Rattle.boot_objects.proofs.RawGains.{one_queue, one_chain, others_stay}
use Rattle.boot_objects.proofs.closing.raws.join_raw.Goals as goal

pub returns-clause-took : goal.returns-clause-took
returns-clause-took c = let small = c.as_mut_slice in let chains = c.as_mut_slice-2 in let parts = c.args.parts.now in
    let back = came_back end_table parts.queues.small small.result.now c.join_at.new.ends c.join_at.ensures.handle.tables small.ensures.len in
    let chains_back = came_back chain_end_table parts.chains chains.result.now c.join_chain_at.new.ends c.join_chain_at.ensures.handle.tables chains.ensures.len in record {
      small = one_queue c.args.raw c.args.tty c.into_parts-end.result.0 parts.queues.small.items small.result.now c.join_at.new.ends _ c.into_parts-end.ensures.ends.0 small.ensures.value back c.join_at.ensures.gained;
      chains = one_chain c.args.chain c.args.tty (note_stake c.into_parts-end.result.1) parts.chains.items chains.result.now c.join_chain_at.new.ends _ (ap (λ z. note_stake z) c.into_parts-end.ensures.ends.1) chains.ensures.value chains_back c.join_chain_at.ensures.gained;
      before = λ k low. ap (λ z. slice_get z k) chains_back ∙ (others_stay c.args.chain chains.result.now c.join_chain_at.new.ends _ c.join_chain_at.ensures.joined k low ∙ ap (λ z. slice_get z k) chains.ensures.value);
      rest = refl;
    }
