use Rattle.boot_threads.proofs.Common.{rules, refl}
use Rattle.boot_threads.proofs.Serving.{served_none, served_more}
use Rattle.boot_threads.proofs.device.serve_device.Goals as goal

pub loop-served-init : goal.loop-served-init
loop-served-init g c = record {
  same = search rules;
  index = refl;
  fits = c.requires.fits;
  chained = c.requires.chain;
  done = served_none c.args.chain.now c.args.line c.args.tty (search rules);
}

pub loop-served-preserved : goal.loop-served-preserved
loop-served-preserved g c = record {
  same = search rules;
  index = search rules;
  fits = search rules;
  chained = search rules;
  done = served_more c.args.chain.now c.args.line c.args.tty c.loop-served._served c.next_byte-byte.result c.interrupt-put.result c.loop-served.line c.next_byte-byte.new.line c.loop-served.tty c.interrupt-put.new.self
      c.loop-served.invariant.done c.next_byte-byte.ensures.received.0 c.interrupt-put.ensures.handle.1 c.interrupt-put.ensures.put c.interrupt-put.ensures.effect c.interrupt-put.ensures.overruns c.interrupt-put.ensures.handle.2 c.interrupt-put.ensures.noted;
}
