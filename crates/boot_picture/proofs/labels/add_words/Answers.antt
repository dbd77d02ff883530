use Rattle.boot_picture.proofs.Clears.{then_texts}
use Rattle.boot_picture.proofs.labels.add_words.Goals as goal

pub returns : goal.returns
returns c = then_texts c.add_line-3.result c.args.canvas.now c.add_line-2.new.canvas c.add_line-3.new.canvas (λ top bottom all. c.in_ok-add_line-2.ensures top bottom (c.in_ok-add_line.ensures top bottom all)) c.add_line-3.ensures
