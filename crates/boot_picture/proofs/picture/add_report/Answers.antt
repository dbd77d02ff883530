use Rattle.boot_picture.proofs.Clears.{text_more}
use Rattle.boot_picture.proofs.picture.add_report.Goals as goal

pub loop-line-preserved : goal.loop-line-preserved
loop-line-preserved c = text_more c.args.canvas.now c.loop-line.canvas c.words.new.self _ c.loop-line.invariant c.in_ok-words.ensures (λ top bottom. tt)
