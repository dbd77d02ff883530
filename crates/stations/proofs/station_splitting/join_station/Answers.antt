use Rattle.stations.proofs.Common.{rules, refl, subst, sym, ◌∙◌, with_items_is, AreChainEndsOf, AreChainsJoined, HaveBoth}
use Rattle.processor.proofs.Placing.{of_same}
use Rattle.stations.proofs.Summing.{joined_account, joined_shares}
use Rattle.stations.proofs.station_splitting.join_station.Goals as goal

pub returns-clause-parts : goal.returns-clause-parts
returns-clause-parts c = record {
  hand = search (rules, c.join.ensures.handle, c.requires.parts.hand);
  queues = let same = c.join_queue_ends.ensures.handle in record { small = same.small.tables ∙ c.requires.parts.queues.small; large = same.large.tables ∙ c.requires.parts.queues.large };
  chains = subst (λ z. AreChainEndsOf c.args.shared.now.chains.items z) (sym (with_items_is c.args.station.now.parts.chains c.join_chain_ends.new.ends (search rules))) (subst (λ q. AreChainEndsOf q c.join_chain_ends.new.ends) c.as_slice.ensures.value c.join_chain_ends.ensures.ends);
  meters = search (rules, c.join-2.ensures.handle, c.requires.parts.meters);
}

pub returns-clause-joined : goal.returns-clause-joined
returns-clause-joined c = record {
  hand = search rules;
  queues = search rules;
  chains = of_same AreChainsJoined (search rules) (search rules) (sym (with_items_is c.args.station.now.parts.chains c.join_chain_ends.new.ends (search rules))) c.join_chain_ends.ensures.joined;
  meters = search rules;
  own = search rules;
  heard = search rules;
  signals = of_same HaveBoth refl (λ i. (c.into_parts-hand.ensures i).signals) refl c.joined-parts.ensures;
}

pub returns-clause-effect : goal.returns-clause-effect
returns-clause-effect c = joined_account c.args.station.now.parts c.args.other.parts _ (returns-clause-joined c)

pub returns-clause-shares : goal.returns-clause-shares
returns-clause-shares c = joined_shares c.args.station.now.parts c.args.other.parts _ (returns-clause-joined c)
