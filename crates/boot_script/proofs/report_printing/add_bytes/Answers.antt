use Rattle.boot_script.proofs.LineWords.HeardLines.{bytes_more, bytes_done}
use Rattle.boot_script.proofs.report_printing.add_bytes.Goals as goal

pub loop-byte-preserved : goal.loop-byte-preserved
loop-byte-preserved c = bytes_more _ _ _ c.args.bytes.now c.loop-byte.byte-index c.loop-byte-test.true c.in_ok-add_byte.ensures c.loop-byte.invariant

pub returns : goal.returns
returns c = bytes_done _ _ c.args.bytes.now c.loop-byte.byte-index c.loop-byte-test.false c.loop-byte.invariant
