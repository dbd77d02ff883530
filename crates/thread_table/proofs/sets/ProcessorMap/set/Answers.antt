use Rattle.thread_table.proofs.Common.{◌∙◌, set, map-set}
use Rattle.thread_table.specs.Sets.{element_in}
use Rattle.thread_table.proofs.sets.ProcessorMap.set.Goals as goal

pub returns : goal.returns
returns c = map-set element_in c.self.inside.bytes c.from.result c.byte_of.result ∙ (λ i. set (c.self.view_is i) (c.from.ensures i) (c.byte_of.ensures i))
