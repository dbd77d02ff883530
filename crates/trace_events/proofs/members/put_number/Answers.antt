use Rattle.json.proofs.Printed.Decimals.{IsNumber-decimal}
use Rattle.trace_events.proofs.Growing.{two_written}
use Rattle.trace_events.proofs.members.put_number.Goals as goal

pub returns : goal.returns
returns c = two_written c.args.out.now c.key.new.self c.u64.new.self _ _ c.in_ok-key.ensures.room.0 c.in_ok-key.ensures.ok c.in_ok-u64.ensures.room.0 c.in_ok-u64.ensures.ok tt (IsNumber-decimal c.args.n c.ranges.n.fits)
