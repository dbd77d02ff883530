use Rattle.boot_objects.proofs.Common.{arith, HasRetired}
use Rattle.boot_objects.proofs.Drawing.{three_long}
use Rattle.boot_objects.proofs.Whole.{homes_fit}
use Rattle.boot_objects.proofs.closing.homing.close_chains.Goals as goal

pub bring_all_home-requires-clause-fits : goal.bring_all_home-requires-clause-fits
bring_all_home-requires-clause-fits c = homes_fit c.args.queues.now c.args.chains.items c.args.chain_ends.items c.retire_all-homes.result.items c.requires.world c.retire_all-homes.ensures.homes

pub bring_all_home-requires-clause-room : goal.bring_all_home-requires-clause-room
bring_all_home-requires-clause-room c = let long = three_long HasRetired c.args.chains.items c.args.chain_ends.items c.retire_all-homes.result.items c.retire_all-homes.ensures.homes in let same = long.1 in
    let room = c.requires.counts_room.1 in (c.requires.counts_room.0, omega arith)
