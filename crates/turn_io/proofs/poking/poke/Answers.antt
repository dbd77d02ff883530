use Rattle.turn_io.proofs.Chains.{its_world, is_idle, its_end, ends_same, ends_fit, end_did, poked_at}
use Rattle.turn_io.specs.Points.{PokePoint}
use Rattle.turn_io.proofs.poking.poke.Goals as goal

pub poke_end-requires-clause-end : goal.poke_end-requires-clause-end
poke_end-requires-clause-end g c = its_end c.args.chains.now c.args.ends.now c.args.index _ _ c.requires.ends c.requires.known c.item_at.ensures.value c.index-chains-index.is

pub poke_end-requires-clause-idle : goal.poke_end-requires-clause-idle
poke_end-requires-clause-idle g c = is_idle c.args.chains.now c.args.ends.now c.args.index _ c.requires.ends c.requires.known c.item_at.ensures.value

pub poke_end-requires-clause-world : goal.poke_end-requires-clause-world
poke_end-requires-clause-world g c = its_world c.args.world.now c.args.chains.now c.args.index _ c.requires.world c.requires.known c.index-chains-index.is

pub returns-clause-handle : goal.returns-clause-handle
returns-clause-handle g c = ends_same c.args.chains.now c.args.ends.now c.args.index _ _ c.requires.ends c.requires.known c.item_at.ensures.value c.poke_end.ensures.handle

pub returns-clause-ends : goal.returns-clause-ends
returns-clause-ends g c = ends_fit c.args.chains.now c.args.ends.now c.args.index _ _ c.requires.ends c.requires.known c.item_at.ensures.value c.poke_end.ensures.handle c.poke_end.ensures.idle

pub returns-clause-poked : goal.returns-clause-poked
returns-clause-poked g c = poked_at c.args.chains.now c.args.ends.now c.args.index _ _ c.requires.ends c.requires.known c.item_at.ensures.value _ _ _ c.index-chains-index.is c.poke_end.ensures.poked

pub returns-clause-points : goal.returns-clause-points
returns-clause-points g c = end_did c.args.chains.now c.args.ends.now c.args.index _ _ c.requires.ends c.requires.known c.item_at.ensures.value (PokePoint g.G.ChainGate.at_chain_end c.args.p 0 c.poke_end.result c.args.gate.now c.poke_end.new.gate) c.poke_end.ensures.points
